-- What was passed and the run in the rest are the run.
use Rattle.std.proofs.Common.{◌≡◌, ◌+◌, ◌-◌, ◌≤◌, length}
use Rattle.text.specs.Lists.{run_len}
use Rattle.text.specs.Bytes.{printable}
use Rattle.text.proofs.printable_len.Given as goal

abbrev pub invariant-loop-block : goal.invariant-loop-block
invariant-loop-block l = (length l.rest ≤ length l.s) × (length l.s - length l.rest + run_len printable l.rest ≡ run_len printable l.s)

abbrev pub decreases-loop-block : goal.decreases-loop-block
decreases-loop-block l = length l.rest
