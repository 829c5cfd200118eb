-- `reading::put_cut` meets its contract. Assumes nothing.
use mathlib.Core.Path.{sym, ap, ◌∙◌}
use native.Mathlib.Omega.{arith}
use lib.ListN.{length}
use Rattle.text.proofs.Writes.{fitted_none, fitted_room, filled_none, filled_sets}
use Rattle.reading.specs.Records.{cut_record}
use Rattle.reading.proofs.Sizes.{cut_sized}
use Rattle.reading.proofs.put_cut.Goals as goal
use Rattle.std.proofs.Common.{Ok}

pub returns-then-out-size : goal.returns-then-out-size
returns-then-out-size c =
    let o = c.args.out.now in
    let e = c.record_len-size.ensures ∙ sym cut_sized in
    (sym (fitted_none (length o) cut_record (omega (arith, e))), sym (filled_none o cut_record (omega (arith, e))))

pub returns : goal.returns
returns c =
    let o = c.args.out.now in
    let e = c.record_len-size.ensures ∙ sym cut_sized in
    (ap Ok e ∙ sym (fitted_room (length o) cut_record (omega (arith, e))), c.put.ensures ∙ filled_sets o cut_record (omega (arith, e)))
