-- `reach::tally_step` meets its contract. Assumes nothing.
use mathlib.Core.Path.{sym, ◌∙◌}
use Rattle.reach.proofs.StepLaws.{digit_small, tally_first, tally_number, tally_over, tally_all}
use native.Mathlib.Omega.{arith}
use borrow.Author.Rules.{rules}
use Rattle.reach.proofs.tally_step.Goals as goal

pub overflow_cast-result : goal.overflow_cast-result
overflow_cast-result c = omega (arith, digit_small _ _ _ _ (sym c.in-Some.is ∙ c.digit_more.ensures))

pub returns-in-First : goal.returns-in-First
returns-in-First c = search (tally_first, rules)

pub returns-in-Some : goal.returns-in-Some
returns-in-Some c = search (tally_number, rules)

pub returns-in-None : goal.returns-in-None
returns-in-None c = search (tally_over, rules)

pub returns-in-All : goal.returns-in-All
returns-in-All c = search (tally_all, rules)
