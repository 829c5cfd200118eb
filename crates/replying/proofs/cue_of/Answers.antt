-- `replying::cue_of` meets its contract.
use Rattle.std.proofs.Common.{arith}
use Rattle.std.proofs.lemmas.Grind.{common_steps}
use Rattle.replying.specs.Records.{record_told}
use Rattle.replying.proofs.cue_of.Goals as goal

pub returns-in_ok-part_at-in-64-2 : goal.returns-in_ok-part_at-in-64-2
unfolding record_told
returns-in_ok-part_at-in-64-2 c = (grind (arith, common_steps), (grind (arith, common_steps), grind (arith, common_steps)))
