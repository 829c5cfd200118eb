-- No more bytes are read than the room holds.
use Rattle.std.proofs.Common.{◌≤◌, length}
use Rattle.clpreply.proofs.read_input.Given as goal

abbrev pub invariant-loop : goal.invariant-loop
invariant-loop g l = l.len ≤ length l.bytes
