-- The first state is one that a capture leads to.
use Rattle.std.proofs.Common.{ap}
use Rattle.joiner.specs.Step.{reachable}
use Rattle.clpexplain.proofs.Explaining.new.Goals as goal

pub invariant_of-result : goal.invariant_of-result
unfolding reachable
invariant_of-result c = record { reached = ap reachable c.new.ensures }
