-- `replycases::repeat` meets its contract: the next piece begins inside the room. Assumes nothing.
use Rattle.std.proofs.Common.{◌≤◌, length}
use Rattle.replycases.proofs.repeat.Given as goal

abbrev pub invariant-loop : goal.invariant-loop
invariant-loop l = l.w ≤ length l.out
