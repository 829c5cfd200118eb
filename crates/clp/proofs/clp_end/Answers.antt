use mathlib.Core.Path.{◌∙◌}
use Rattle.clp.proofs.FaceLaws.{none_end, end_told}
use Rattle.clp.proofs.clp_end.Goals as goal

pub returns-then-state-gt16383 : goal.returns-then-state-gt16383
returns-then-state-gt16383 c = c.no_answer.ensures ∙ none_end _ c.if-state-gt16383.true

pub returns : goal.returns
returns c = end_told _ c.if-state-gt16383.false c.state_of.result c.state_of.ensures c.end.result _ c.end.ensures c.from.ensures
