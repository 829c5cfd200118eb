-- What was found so far and what holds of the rest are the answer.
use Rattle.std.proofs.Common.{◌≡◌, drop, ◌&&◌}
use Rattle.text.specs.Lists.{all_of}
use Rattle.text.specs.Bytes.{printable}
use Rattle.text.proofs.all_printable.Given as goal

abbrev pub invariant-loop-b : goal.invariant-loop-b
invariant-loop-b l = l.all && all_of printable (drop l.b-index l.block) ≡ all_of printable l.block
