-- What is left is written after it as all would be from the start.
use Rattle.std.proofs.Common.{◌<◌, ◌^◌, length, drop}
use Rattle.words.specs.declared.Pen.{Pen}
use Rattle.words.specs.Pens.{Puts}
use Rattle.canonical.specs.Written.{slashed}
use Rattle.canonical.proofs.put_target.Given as goal

abbrev pub invariant-loop-b : goal.invariant-loop-b
invariant-loop-b l =
    ((end : Pen) → Puts l.pen (slashed (drop l.b-index l.s)) end → Puts l.initial.pen (slashed l.s) end) × (length l.pen.out.now < 2 ^ 63)
