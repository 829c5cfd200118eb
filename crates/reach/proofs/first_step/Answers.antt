-- `reach::first_step` meets its contract. Assumes nothing.
use mathlib.Core.Path.{sym, ◌∙◌}
use Rattle.reach.proofs.StepLaws.{digit_small, first_zero, first_all, first_number, first_off}
use native.Mathlib.Omega.{arith}
use borrow.Author.Rules.{rules}
use Rattle.reach.proofs.first_step.Goals as goal

pub returns-then-b-eq48 : goal.returns-then-b-eq48
returns-then-b-eq48 c = search (first_zero, rules)

pub overflow_cast-result : goal.overflow_cast-result
overflow_cast-result c = omega (arith, digit_small _ _ _ _ (sym c.in-Some.is ∙ c.digit_more.ensures))

pub returns-then-level : goal.returns-then-level
returns-then-level c = search (first_all, rules)

pub returns-in-Some : goal.returns-in-Some
returns-in-Some c = search (first_number, rules)

pub returns-else-level : goal.returns-else-level
returns-else-level c = search (first_off, rules)
