-- `forms::number_of` meets its contract. Assumes nothing.
use mathlib.Core.Path.{sym, ◌∙◌}
use Rattle.forms.proofs.SegmentLaws.{number_zero, number_plain}
use Rattle.forms.proofs.number_of.Goals as goal

pub returns-then-leads_zero : goal.returns-then-leads_zero
returns-then-leads_zero c = number_zero c.args.d.now (sym c.leads_zero.ensures ∙ c.if-leads_zero.true)

pub returns : goal.returns
returns c = c.decimal.ensures ∙ number_plain c.args.d.now (sym c.leads_zero.ensures ∙ c.if-leads_zero.false)
