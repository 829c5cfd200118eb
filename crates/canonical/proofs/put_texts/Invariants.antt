-- The texts that are left are written after it as all would be from the start.
use Rattle.std.proofs.Common.{◌≤◌, length}
use Rattle.words.specs.declared.Pen.{Pen}
use Rattle.words.specs.Pens.{Puts}
use Rattle.canonical.specs.Written.{texts_in}
use Rattle.canonical.proofs.put_texts.Given as goal

abbrev pub invariant-loop-parting : goal.invariant-loop-parting
invariant-loop-parting l =
    ((end : Pen) → Puts l.pen (texts_in l.left) end → Puts l.initial.pen (texts_in l.s) end) × (length l.left ≤ 1024)

abbrev pub decreases-loop-parting : goal.decreases-loop-parting
decreases-loop-parting l = length l.left
