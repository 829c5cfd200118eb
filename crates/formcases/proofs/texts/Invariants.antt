-- `formcases::texts` ends: what follows a line is less than what was left. Assumes nothing.
use Rattle.std.proofs.Common.{length}
use Rattle.formcases.proofs.texts.Given as goal

abbrev pub decreases-loop-line : goal.decreases-loop-line
decreases-loop-line l = length l.rest
