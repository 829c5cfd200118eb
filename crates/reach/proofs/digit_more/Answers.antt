-- `reach::digit_more` meets its contract. Assumes nothing.
use mathlib.Core.Path.{sym, ◌∙◌}
use Rattle.reach.proofs.StepLaws.{digit_none, digit_over, digit_is}
use borrow.Author.Rules.{rules}
use Rattle.reach.proofs.digit_more.Goals as goal

pub returns-then-not-is_digit : goal.returns-then-not-is_digit
returns-then-not-is_digit c = search (digit_none, rules)

pub more-w-requires : goal.more-w-requires
more-w-requires c = sym c.is_digit.ensures ∙ c.if-not-is_digit.false

pub returns-then-limit-w : goal.returns-then-limit-w
returns-then-limit-w c = search (digit_over, rules)

pub returns : goal.returns
returns c = search (digit_is, rules)
