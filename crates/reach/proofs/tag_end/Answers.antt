-- `reach::tag_end` meets its contract. Assumes nothing.
use mathlib.Core.Path.{sym, ◌∙◌}
use Rattle.reach.proofs.StepLaws.{digit_small, tag_star, tag_zero, tag_number, tag_off}
use native.Mathlib.Omega.{arith}
use borrow.Author.Rules.{rules}
use Rattle.reach.proofs.tag_end.Goals as goal

pub returns-then-b-eq42 : goal.returns-then-b-eq42
returns-then-b-eq42 c = search (tag_star, rules)

pub returns-then-b-eq48 : goal.returns-then-b-eq48
returns-then-b-eq48 c = search (tag_zero, rules)

pub overflow_cast-result : goal.overflow_cast-result
overflow_cast-result c = omega (arith, digit_small _ _ _ _ (sym c.in-Some.is ∙ c.digit_more.ensures))

pub returns-in-Some : goal.returns-in-Some
returns-in-Some c = search (tag_number, rules)

pub returns-in-None : goal.returns-in-None
returns-in-None c = search (tag_off, rules)
