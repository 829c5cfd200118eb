-- `reading::put_records` meets its contract. The loop's invariant: what is left, from w, is answered as the whole; and to write its records, from w, gives what writing all would. Assumes nothing.
use Prim.Native.Nat.{◌-◌, ◌*◌, ◌≤◌}
use mathlib.Core.Path.{◌≡◌}
use lib.ListN.{length}
use lib.Seq.{sets}
use Rattle.reading.specs.Cursor.{left, first_cursor}
use Rattle.reading.specs.Shown.{verdict_in, records_in, total_from}
use Rattle.reading.proofs.put_records.Given as goal
use Rattle.std.proofs.Common.{Ok}

abbrev pub invariant-loop-part : goal.invariant-loop-part
invariant-loop-part l =
    (total_from l.w (left l.line l.c) ≡ total_from 0 (left l.line first_cursor))
    × (verdict_in (left l.line l.c) ≡ verdict_in (left l.line first_cursor))
    × (verdict_in (left l.line first_cursor) ≡ Ok tt → sets l.out l.w (records_in (left l.line l.c)) ≡ sets l.initial.out 0 (records_in (left l.line first_cursor)))
    × (length l.out ≡ length l.initial.out)
    × (l.c.at ≤ length l.line)
    × (l.w ≤ 10 * l.c.at)

abbrev pub decreases-loop-part : goal.decreases-loop-part
decreases-loop-part l = length l.line - l.c.at
