-- `reach::number_step` meets its contract. Assumes nothing.
use mathlib.Core.Path.{sym, ◌∙◌}
use Rattle.reach.proofs.StepLaws.{digit_small, number_more, number_ends}
use native.Mathlib.Omega.{arith}
use borrow.Author.Rules.{rules}
use Rattle.reach.proofs.number_step.Goals as goal

pub overflow_cast-result : goal.overflow_cast-result
overflow_cast-result c = omega (arith, digit_small _ _ _ _ (sym c.in-Some.is ∙ c.digit_more.ensures))

pub returns-in-Some : goal.returns-in-Some
returns-in-Some c = search (number_more, rules)

pub returns-in-None : goal.returns-in-None
returns-in-None c = search (number_ends, rules)
