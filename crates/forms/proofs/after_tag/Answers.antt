-- `forms::after_tag` meets its contract. Assumes nothing.
use mathlib.Core.Path.{sym, ◌∙◌}
use native.Mathlib.Omega.{arith}
use Rattle.text.specs.Bytes.{bytes}
use Rattle.forms.proofs.SegmentLaws.{number_most, tag_number, tag_star, tag_none}
use Rattle.forms.proofs.after_tag.Goals as goal

pub overflow_cast-result : goal.overflow_cast-result
overflow_cast-result c = omega (arith, number_most c.args.d.now c.in-Some.v (sym c.in-Some.is ∙ c.number_of.ensures))

pub returns-then-same : goal.returns-then-same
unfolding bytes
returns-then-same c = tag_star c.args.d.now c.args.n c.args.k (sym c.in-None.is ∙ c.number_of.ensures) (sym c.same.ensures ∙ c.if-same.true)

pub returns-in-Some : goal.returns-in-Some
returns-in-Some c = tag_number c.args.d.now c.args.n c.args.k c.in-Some.v (sym c.in-Some.is ∙ c.number_of.ensures)

pub returns-else-same : goal.returns-else-same
unfolding bytes
returns-else-same c = tag_none c.args.d.now c.args.n c.args.k (sym c.in-None.is ∙ c.number_of.ensures) (sym c.same.ensures ∙ c.if-same.false)
