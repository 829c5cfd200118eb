-- `forms::topic_of` meets its contract. Assumes nothing.
use mathlib.Core.Path.{◌∙◌}
use Rattle.forms.proofs.PropertyLaws.{topic_by}
use Rattle.forms.proofs.topic_of.Goals as goal

pub returns : goal.returns
returns c = c.shape_if.ensures ∙ topic_by c.args.t.now c.is_name.result c.is_name.ensures
