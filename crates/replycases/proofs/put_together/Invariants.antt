-- `replycases::put_together` meets its contract: the next piece stands inside the input, and the text inside the room. Assumes nothing.
use Rattle.std.proofs.Common.{◌≤◌, ◌<◌, length}
use Rattle.replycases.proofs.put_together.Given as goal

abbrev pub invariant-loop : goal.invariant-loop
invariant-loop l = (l.len ≤ length l.out) × (l.end ≤ length l.input) × (l.at < l.end)
