-- What is left, from the pen's place on, is answered as the whole, and written after it as all would be from the start.
use Rattle.std.proofs.Common.{◌≡◌, ◌-◌, ◌*◌, ◌^◌, ◌<◌, ◌≤◌, true, length}
use Rattle.reading.specs.Cursor.{left, first_cursor}
use Rattle.reading.specs.Shown.{verdict_in}
use Rattle.words.specs.declared.Pen.{Pen}
use Rattle.words.specs.Pens.{Puts}
use Rattle.canonical.specs.Written.{written_in, written_from}
use Rattle.canonical.proofs.put_line.Given as goal
use Rattle.std.proofs.Common.{Ok}

abbrev pub invariant-loop-part : goal.invariant-loop-part
invariant-loop-part l =
    (written_from l.pen.at l.first (left l.line l.c) ≡ written_from 0 true (left l.line first_cursor))
    × (verdict_in (left l.line l.c) ≡ verdict_in (left l.line first_cursor))
    × (verdict_in (left l.line first_cursor) ≡ Ok tt → (end : Pen) → Puts l.pen (written_in l.first (left l.line l.c)) end → Puts l.initial.pen (written_in true (left l.line first_cursor)) end)
    × (l.pen.out.ghost_name ≡ l.initial.pen.out.ghost_name)
    × (length l.pen.out.now < 2 ^ 63)
    × (l.c.at ≤ length l.line)
    × (l.pen.at ≤ 17 * l.c.at)

abbrev pub decreases-loop-part : goal.decreases-loop-part
decreases-loop-part l = length l.line - l.c.at
