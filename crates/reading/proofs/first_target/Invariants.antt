-- `reading::first_target` meets its contract. The loop's invariant: what is left has the line's target. Assumes nothing.
use Prim.Native.Nat.{◌-◌, ◌≤◌}
use mathlib.Core.Path.{◌≡◌}
use lib.ListN.{length}
use Rattle.reading.specs.Cursor.{left, first_cursor}
use Rattle.reading.specs.Records.{target_in}
use Rattle.reading.specs.Shown.{verdict_in}
use Rattle.reading.proofs.first_target.Given as goal
use Rattle.std.proofs.Common.{Ok}

abbrev pub invariant-loop-part : goal.invariant-loop-part
invariant-loop-part l = (target_in (left l.line l.c) ≡ target_in (left l.line first_cursor)) × (verdict_in (left l.line l.c) ≡ Ok tt) × (l.c.at ≤ length l.line)

abbrev pub decreases-loop-part : goal.decreases-loop-part
decreases-loop-part l = length l.line - l.c.at
