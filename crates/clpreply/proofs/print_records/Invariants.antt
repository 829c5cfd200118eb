-- `clpreply::print_records` is safe and ends.
use Rattle.std.proofs.Common.{length}
use Rattle.clpreply.proofs.print_records.Given as goal

abbrev pub decreases-loop-rest : goal.decreases-loop-rest
decreases-loop-rest g l = length l.rest
