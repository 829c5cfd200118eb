-- The parts that are left are written after it as all would be from the start.
use Rattle.std.proofs.Common.{◌≡◌, ◌-◌, ◌^◌, ◌<◌, ◌≤◌, length}
use Rattle.reading.specs.Cursor.{left, first_cursor}
use Rattle.reading.specs.Shown.{verdict_in}
use Rattle.words.specs.declared.Pen.{Pen}
use Rattle.words.specs.Pens.{Puts}
use Rattle.explaining.specs.Steps.{parts_in}
use Rattle.explaining.proofs.put_parts.Given as goal
use Rattle.std.proofs.Common.{Ok}

abbrev pub invariant-loop-part : goal.invariant-loop-part
invariant-loop-part l =
    ((end : Pen) → Puts l.pen (parts_in l.line (left l.line l.c)) end → Puts l.initial.pen (parts_in l.line (left l.line first_cursor)) end)
    × (verdict_in (left l.line l.c) ≡ Ok tt)
    × (l.c.at ≤ length l.line)
    × (length l.pen.out.now < 2 ^ 63)

abbrev pub decreases-loop-part : goal.decreases-loop-part
decreases-loop-part l = length l.line - l.c.at
