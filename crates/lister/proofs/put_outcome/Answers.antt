-- `lister::put_outcome` meets its contract.
use mathlib.Core.Path.{sym, ap, ◌∙◌}
use Rattle.std.proofs.Common.{Ok}
use Rattle.text.proofs.Refusals.{same_number}
use native.Mathlib.Omega.{arith}
use lib.Seq.{length-take-le}
use Rattle.lister.proofs.ListLaws.{ready_line, ready_place, told_line, told_19, told_refused}
use Rattle.lister.proofs.put_outcome.Goals as goal

pub slice_bounds-put_line-end : goal.slice_bounds-put_line-end
slice_bounds-put_line-end c = let a = c.args in sym (length-take-le c.in-Ok-Some.n a.buffer.now (ready_line a.outcome a.buffer.now a.room.now c.in-Ok-Some.n (c.in-Ok-Some.is ∙ ap Ok (rw c.in-Ok-Some.is at c.in-Ok-Some.field-0-is)) c.requires))

pub returns-in-Err : goal.returns-in-Err
returns-in-Err c = let a = c.args in told_19 a.outcome a.buffer.now a.room.now _ _ c.in-Err.is c.if-refusal-eq19.true

pub put_refused-requires : goal.put_refused-requires
put_refused-requires c = let a = c.args in record { in_bounds = omega (arith, c.requires.0); place_bound = ready_place a.outcome a.buffer.now a.room.now _ _ c.in-Err-2.is c.requires }

pub returns-in-Ok-Some : goal.returns-in-Ok-Some
returns-in-Ok-Some c = let a = c.args in let p = c.put_line in told_line a.outcome a.buffer.now a.room.now c.in-Ok-Some.n p.result p.new.room (c.in-Ok-Some.is ∙ ap Ok (rw c.in-Ok-Some.is at c.in-Ok-Some.field-0-is)) p.ensures.0 p.ensures.1

pub returns-in-Err-2 : goal.returns-in-Err-2
returns-in-Err-2 c = let a = c.args in let p = c.put_refused in told_refused a.outcome a.buffer.now a.room.now _ _ p.result p.new.room c.in-Err-2.is (λ e. c.if-refusal-eq19.false (same_number (sym c.in-Err.is ∙ c.in-Err-2.is) ∙ e)) p.ensures.0 p.ensures.1
