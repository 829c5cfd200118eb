-- What is left is written after it as all would be from the start.
use Rattle.std.proofs.Common.{◌<◌, ◌^◌, length, drop, replicate}
use Rattle.words.specs.declared.Pen.{Pen}
use Rattle.explaining.specs.Explained.{visible}
use Rattle.words.specs.Pens.{Puts}
use Rattle.explaining.proofs.put_mark.Given as goal

abbrev pub invariant-loop-b : goal.invariant-loop-b
invariant-loop-b l =
    ((end : Pen) → Puts l.pen (replicate (length (visible (drop l.b-index l.before))) 32) end → Puts l.initial.pen (replicate (length (visible l.before)) 32) end)
    × (length l.pen.out.now < 2 ^ 63)
