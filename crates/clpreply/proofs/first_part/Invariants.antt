-- `clpreply::first_part` meets its contract.
use Rattle.std.proofs.Common.{◌≤◌, ◌-◌, length}
use Rattle.clpreply.proofs.first_part.Given as goal

abbrev pub invariant-loop-len : goal.invariant-loop-len
invariant-loop-len l = (l.len ≤ length l.records) × (l.count ≤ l.len)

abbrev pub decreases-loop-len : goal.decreases-loop-len
decreases-loop-len l = length l.records - l.len
