use mathlib.Core.Path.{ap, ◌∙◌}
use Rattle.clp.specs.Face.{answer_of}
use Rattle.clp.proofs.clp_meant.Goals as goal

pub returns : goal.returns
returns c = record { value = c.from.ensures ∙ ap answer_of c.write_meant.ensures.0; room_after = c.write_meant.ensures.1 }
