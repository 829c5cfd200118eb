use mathlib.Core.Path.{ap, ◌∙◌}
use Rattle.clp.specs.Face.{answer_of}
use Rattle.clp.proofs.clp_full_path.Goals as goal

pub returns : goal.returns
returns c = record { value = c.from.ensures ∙ ap answer_of c.full_path.ensures.0; room_after = c.full_path.ensures.1 }
