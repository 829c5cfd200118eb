-- `carried::past_at` meets its contract.
use native.Mathlib.Omega.{arith}
use mathlib.Core.Path.{sym, ap, ◌∙◌}
use Rattle.std.proofs.Common.{Ok, None}
use Rattle.carried.specs.Carried.{past_by, past_at}
use Rattle.carried.proofs.CarriedLaws.{yield_within}
use Rattle.carried.proofs.past_at.Goals as goal

pub overflow_add-result : goal.overflow_add-result
overflow_add-result c =
    let w = yield_within c.args.line.now c.args.at c.in-Ok-Some.term (sym (c.in-Ok-Some.is ∙ ap Ok c.in-Ok-Some.field-0-is) ∙ c.yield_at.ensures) in
    omega arith

pub returns : goal.returns
unfolding past_at
returns c = ap (past_by c.args.at) (sym (c.in-Ok-Some.is ∙ ap Ok c.in-Ok-Some.field-0-is) ∙ c.yield_at.ensures)

pub returns-in_default : goal.returns-in_default
unfolding past_at
returns-in_default c = ap (past_by c.args.at) (sym (c.in_default.is ∙ ap Ok {y = None} cc) ∙ c.yield_at.ensures)

pub returns-in_default-2 : goal.returns-in_default-2
unfolding past_at
returns-in_default-2 c = ap (past_by c.args.at) (sym c.in_default.is ∙ c.yield_at.ensures)
