-- No more bytes are taken than the text has.
use Rattle.std.proofs.Common.{◌≤◌, length}
use Rattle.console.proofs.write_text.Given as goal

abbrev pub invariant-loop : goal.invariant-loop
invariant-loop g l = l.taken ≤ length l.text
