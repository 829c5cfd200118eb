use mathlib.Core.Path.{refl}
use Rattle.clp.specs.State.{state_of}
use Rattle.clp.proofs.state_of.Goals as goal

pub returns : goal.returns
unfolding state_of
returns c = refl
