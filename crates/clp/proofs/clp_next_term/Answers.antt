use mathlib.Core.Path.{ap, ◌∙◌}
use Rattle.clp.specs.Face.{term_of}
use Rattle.clp.proofs.clp_next_term.Goals as goal

pub returns : goal.returns
returns c = c.term_of.ensures ∙ ap term_of c.yield_at.ensures
