-- `termcases::all_terms` is safe and ends: each term lies inside the line and ends past the place. Assumes nothing.
use Rattle.std.proofs.Common.{◌≤◌, ◌-◌, length}
use Rattle.termcases.proofs.all_terms.Given as goal

abbrev pub invariant-loop-s : goal.invariant-loop-s
invariant-loop-s l = l.at ≤ length l.line

abbrev pub decreases-loop-s : goal.decreases-loop-s
decreases-loop-s l = length l.line - l.at
