use mathlib.Core.Path.{ap, ◌∙◌}
use Rattle.clp.specs.Face.{checked_of}
use Rattle.clp.proofs.clp_check_tree.Goals as goal

pub returns : goal.returns
returns c = c.from.ensures ∙ ap checked_of c.check.ensures
