use mathlib.Core.Path.{◌∙◌}
use Rattle.text.specs.Bytes.{bytes}
use Rattle.canonical.proofs.WriteLaws.{dash_starts}
use Rattle.canonical.proofs.leads_dash.Goals as goal

pub returns : goal.returns
unfolding bytes
returns c = c.starts_with.ensures.value ∙ dash_starts c.args.s.now
