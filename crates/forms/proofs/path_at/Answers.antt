use mathlib.Core.Path.{refl, sym, ◌∙◌}
use native.Mathlib.Omega.{arith}
use borrow.Author.Rules.{rules}
use lib.ListN.{drop}
use Rattle.forms.proofs.SegmentLaws.{last_some, path_none, segment_within, path_more, path_stops, path_ends, path_full, path_from_lem}
use Rattle.forms.proofs.path_at.Goals as goal

pub loop-k-init : goal.loop-k-init
loop-k-init c = (c.requires, refl)

pub overflow_add-end : goal.overflow_add-end
overflow_add-end c = omega (arith, segment_within c.args.t.now c.loop-k.at c.segment_len-n.result c.segment_len-n.ensures c.loop-k.invariant.0)

pub slice_bounds-piece_of-end : goal.slice_bounds-piece_of-end
slice_bounds-piece_of-end c = let h = segment_within c.args.t.now c.loop-k.at c.segment_len-n.result c.segment_len-n.ensures c.loop-k.invariant.0 in search rules

pub returns-then-end-t : goal.returns-then-end-t
returns-then-end-t c = let l = c.loop-k in let t = c.args.t.now in let n = c.segment_len-n in sym (path_ends c.args.rooted l.k t l.at n.result l.invariant.0 n.ensures c.piece_of.result c.piece_of.ensures c.if-end-t.true (omega arith) (rw c.in_ok-p.was (last_some _))) ∙ l.invariant.1 ∙ path_from_lem c.args.rooted (drop c.args.from t)

pub returns-in_err-p : goal.returns-in_err-p
returns-in_err-p c =
    let l = c.loop-k in
    let t = c.args.t.now in
    let n = c.segment_len-n in
    c.from_residual.ensures
    ∙ sym (path_none c.args.rooted l.k t l.at n.result l.invariant.0 n.ensures (sym c.in_err-p.was ∙ c.piece_of.ensures) (omega arith))
    ∙ l.invariant.1
    ∙ path_from_lem c.args.rooted (drop c.args.from t)

pub returns-then-not-is_inner : goal.returns-then-not-is_inner
returns-then-not-is_inner c = let l = c.loop-k in let t = c.args.t.now in let n = c.segment_len-n in let w = segment_within t l.at n.result n.ensures l.invariant.0 in sym (path_stops c.args.rooted l.k t l.at n.result l.invariant.0 n.ensures c.piece_of.result c.piece_of.ensures (omega (arith, c.if-end-t.false)) (rw c.in_ok-p.was (sym c.is_inner.ensures ∙ c.if-not-is_inner.true))) ∙ l.invariant.1 ∙ path_from_lem c.args.rooted (drop c.args.from t)

pub overflow_add-at : goal.overflow_add-at
overflow_add-at c = let w = segment_within c.args.t.now c.loop-k.at c.segment_len-n.result c.segment_len-n.ensures c.loop-k.invariant.0 in omega (arith, c.if-end-t.false)

pub loop-k-preserved : goal.loop-k-preserved
loop-k-preserved c = let l = c.loop-k in let t = c.args.t.now in let n = c.segment_len-n in let w = segment_within t l.at n.result n.ensures l.invariant.0 in (omega (arith, c.if-end-t.false), path_more c.args.rooted l.k t l.at n.result l.invariant.0 n.ensures c.piece_of.result c.piece_of.ensures (omega (arith, c.if-end-t.false)) (rw c.in_ok-p.was (sym c.is_inner.ensures ∙ c.if-not-is_inner.false)) ∙ l.invariant.1)

pub returns : goal.returns
returns c = let l = c.loop-k in let t = c.args.t.now in sym (path_full c.args.rooted l.k (drop l.at t) (omega arith)) ∙ l.invariant.1 ∙ path_from_lem c.args.rooted (drop c.args.from t)
