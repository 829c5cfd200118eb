-- `reading::put_refusal` meets its contract. Assumes nothing.
use mathlib.Core.Path.{sym, ap, ◌∙◌}
use native.Mathlib.Omega.{arith}
use lib.ListN.{length}
use Rattle.text.proofs.Writes.{fitted_none, fitted_room, filled_none, filled_sets}
use Rattle.reading.specs.Records.{refusal_record}
use Rattle.reading.proofs.Sizes.{refusal_sized}
use Rattle.reading.proofs.put_refusal.Goals as goal
use Rattle.std.proofs.Common.{Ok}

pub returns-then-out-size : goal.returns-then-out-size
returns-then-out-size c =
    let a = c.args in
    let e = c.record_len-size.ensures ∙ sym (refusal_sized a.number a.place) in (
      sym (fitted_none (length a.out.now) (refusal_record a.number a.place) (omega (arith, e))),
      sym (filled_none a.out.now (refusal_record a.number a.place) (omega (arith, e))),
    )

pub returns : goal.returns
returns c =
    let a = c.args in
    let e = c.record_len-size.ensures ∙ sym (refusal_sized a.number a.place) in (
      ap Ok e ∙ sym (fitted_room (length a.out.now) (refusal_record a.number a.place) (omega (arith, e))),
      (rw c.high_low.ensures at c.copy.ensures) ∙ filled_sets a.out.now (refusal_record a.number a.place) (omega (arith, e)),
    )
