-- The call from where it began is the call from where it is, with the bytes used so far counted and the rest of the part to come, and it is
-- in a state that some capture leads to.
use Rattle.std.proofs.Common.{◌≡◌, ◌-◌, ◌≤◌, true, length, drop}
use Rattle.joiner.specs.Step.{reachable}
use Rattle.joiner.specs.Join.{run}
use Rattle.joiner.proofs.Joiner.take.Given as goal

abbrev pub invariant-loop-i : goal.invariant-loop-i
invariant-loop-i l = record {
  within : l.i ≤ length l.part;
  goes_on : run 0 l.initial.self l.initial.buffer l.part ≡ run l.i l.self l.buffer (drop l.i l.part);
  reached : reachable l.self ≡ true;
}

abbrev pub decreases-loop-i : goal.decreases-loop-i
decreases-loop-i l = length l.part - l.i
