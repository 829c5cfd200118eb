-- `forms::segment_at` meets its contract. Assumes nothing.
use mathlib.Core.Path.{sym, ◌∙◌}
use native.Mathlib.Omega.{arith}
use borrow.Author.Rules.{rules}
use Rattle.forms.proofs.SegmentLaws.{piece_past, part_piece, segment_piece, segment_within}
use Rattle.forms.proofs.segment_at.Goals as goal

pub returns-then-t-at : goal.returns-then-t-at
returns-then-t-at c = sym (piece_past c.args.t.now c.args.at c.if-t-at.true)

pub overflow_add-at : goal.overflow_add-at
overflow_add-at c = omega (arith, segment_within c.args.t.now c.args.at c.segment_len-n.result c.segment_len-n.ensures (omega arith))

pub slice_bounds-piece_of-end : goal.slice_bounds-piece_of-end
slice_bounds-piece_of-end c = let h = segment_within c.args.t.now c.args.at c.segment_len-n.result c.segment_len-n.ensures (omega arith) in search rules

pub returns : goal.returns
returns c = let t = c.args.t.now in let at = c.args.at in let n = c.segment_len-n in part_piece t at n.result c.piece_of.result (segment_within t at n.result n.ensures (omega arith)) c.piece_of.ensures ∙ segment_piece t at n.result n.ensures
