use mathlib.Core.Path.{ap, ◌∙◌}
use Rattle.clp.specs.Face.{part_face}
use Rattle.clp.proofs.clp_target.Goals as goal

pub returns : goal.returns
returns c = c.part_of.ensures ∙ ap part_face c.target_span.ensures
