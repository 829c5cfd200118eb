use mathlib.Core.Path.{ap, ◌∙◌}
use Rattle.clp.specs.Face.{resolved_of}
use Rattle.clp.proofs.clp_resolve.Goals as goal

pub returns : goal.returns
returns c = record { value = c.from.ensures ∙ ap resolved_of c.resolve.ensures.0; list_after = c.resolve.ensures.1 }
