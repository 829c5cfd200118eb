-- `replies::group_form` meets its contract. Assumes nothing.
use mathlib.Core.Path.{sym, ◌∙◌}
use native.Mathlib.Omega.{arith}
use Rattle.replies.proofs.FindLaws.{group_named, group_wrong}
use lib.Seq.{length-take-le}
use Rattle.replies.specs.Lines.{is_end}
use Rattle.replies.proofs.LineLaws.{up_within}
use Rattle.replies.proofs.group_form.Goals as goal

pub slice_bounds-is_name-end : goal.slice_bounds-is_name-end
slice_bounds-is_name-end c = sym (length-take-le _ _ (omega (arith, up_within is_end c.args.v.now)))

pub returns-then-is_name : goal.returns-then-is_name
returns-then-is_name c = group_named c.args.v.now c.row_len-n.result c.row_len-n.ensures (sym c.is_name.ensures ∙ c.if-is_name.true)

pub returns-else-is_name : goal.returns-else-is_name
returns-else-is_name c = group_wrong c.args.v.now c.row_len-n.result c.row_len-n.ensures (sym c.is_name.ensures ∙ c.if-is_name.false)
