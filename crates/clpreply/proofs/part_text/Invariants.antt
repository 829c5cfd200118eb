-- `clpreply::part_text` meets its contract.
use Rattle.std.proofs.Common.{◌≤◌, length}
use Rattle.clpreply.proofs.part_text.Given as goal

abbrev pub invariant-loop-rest : goal.invariant-loop-rest
invariant-loop-rest l = l.w ≤ length l.text

abbrev pub decreases-loop-rest : goal.decreases-loop-rest
decreases-loop-rest l = length l.rest
