use mathlib.Core.Path.{ap, ◌∙◌}
use Rattle.clp.specs.Face.{answer_of}
use Rattle.clp.proofs.clp_canonical.Goals as goal

pub returns : goal.returns
returns c = record { value = c.from.ensures ∙ ap answer_of c.canonical.ensures.0; room_after = c.canonical.ensures.1 }
