-- `forms::is_keep` meets its contract. Assumes nothing.
use mathlib.Core.Path.{◌∙◌}
use Rattle.forms.proofs.ArgumentLaws.{keep_by}
use Rattle.forms.proofs.is_keep.Goals as goal

pub returns : goal.returns
returns c = c.is_some.ensures ∙ keep_by c.args.t.now c.decimal.result c.decimal.ensures
