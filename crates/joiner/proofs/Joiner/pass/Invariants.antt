-- The call from where the run began is the call from where it is, and there is room for all up to `end`, or the line is too long and what is held
-- stays.
use Rattle.std.proofs.Common.{◌≡◌, ◌+◌, ◌-◌, ◌≤◌, true, false, length, drop}
use Rattle.joiner.specs.Step.{st}
use Rattle.joiner.specs.Join.{run}
use Rattle.joiner.proofs.Joiner.pass.Given as goal

abbrev pub invariant-loop-block : goal.invariant-loop-block
invariant-loop-block l = record {
  from : l.initial.at ≤ l.at;
  within : l.at ≤ l.end;
  room : l.self.over ≡ false → l.end + l.held ≤ l.at + 1024;
  same_held : l.self.over ≡ true → l.held ≡ l.self.held;
  long : length l.buffer ≡ 1024;
  goes_on : run l.initial.at (st l.self.held false false l.self.over) l.initial.buffer (drop l.initial.at l.part) ≡ run l.at (st l.held false false l.self.over) l.buffer (drop l.at l.part);
}

abbrev pub decreases-loop-block : goal.decreases-loop-block
decreases-loop-block l = l.end - l.at

abbrev pub invariant-loop-at : goal.invariant-loop-at
invariant-loop-at l = record {
  from : l.fn.at ≤ l.at;
  within : l.at ≤ l.end;
  room : l.end + l.held ≤ l.at + 1024;
  long : length l.buffer ≡ 1024;
  goes_on : run l.fn.at (st l.fn.self.held false false false) l.fn.buffer (drop l.fn.at l.part) ≡ run l.at (st l.held false false false) l.buffer (drop l.at l.part);
}

abbrev pub decreases-loop-at : goal.decreases-loop-at
decreases-loop-at l = l.end - l.at
