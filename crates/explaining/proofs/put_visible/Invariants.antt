-- What is left is written after it as all would be from the start.
use Rattle.std.proofs.Common.{◌<◌, ◌^◌, length, drop}
use Rattle.words.specs.declared.Pen.{Pen}
use Rattle.explaining.specs.Explained.{visible}
use Rattle.words.specs.Pens.{Puts}
use Rattle.explaining.proofs.put_visible.Given as goal

abbrev pub invariant-loop-b : goal.invariant-loop-b
invariant-loop-b l =
    ((end : Pen) → Puts l.pen (visible (drop l.b-index l.s)) end → Puts l.initial.pen (visible l.s) end) × (length l.pen.out.now < 2 ^ 63)
