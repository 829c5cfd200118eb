-- `forms::piece_of` meets its contract. Assumes nothing.
use Prim.Native.Nat.{◌≤◌}
use mathlib.Core.Path.{sym, ◌∙◌}
use native.Mathlib.Omega.{arith}
use borrow.Author.Rules.{rules}
use lib.ListN.{length}
use Rattle.text.proofs.Scans.{run_within}
use Rattle.text.specs.Bytes.{bytes, is_letter}
use Rattle.forms.proofs.SegmentLaws.{piece_here, piece_above, piece_tag, piece_none}
use Rattle.forms.proofs.piece_of.Goals as goal

pub returns-then-same : goal.returns-then-same
unfolding bytes
returns-then-same c = piece_here (length c.args.s.now) c.args.s.now (sym c.same.ensures ∙ c.if-same.true)

pub returns-then-same-2 : goal.returns-then-same-2
unfolding bytes
returns-then-same-2 c = piece_above (length c.args.s.now) c.args.s.now (sym c.same.ensures ∙ c.if-same.false) (sym c.same-2.ensures ∙ c.if-same-2.true)

pub slice_bounds-after_tag-count : goal.slice_bounds-after_tag-count
slice_bounds-after_tag-count c = omega (arith, c.letters_len-k.ensures, run_within is_letter c.args.s.now)

pub slice_bounds-after_tag-start : goal.slice_bounds-after_tag-start
slice_bounds-after_tag-start c = let h : c.letters_len-k.result ≤ length c.args.s.now = omega (arith, c.letters_len-k.ensures, run_within is_letter c.args.s.now) in search rules

pub returns-then-is_tag_len : goal.returns-then-is_tag_len
unfolding bytes
returns-then-is_tag_len c = let s = c.args.s.now in piece_tag (length s) s c.letters_len-k.result c.after_tag.result (sym c.same.ensures ∙ c.if-same.false) (sym c.same-2.ensures ∙ c.if-same-2.false) c.letters_len-k.ensures (sym c.is_tag_len.ensures ∙ c.if-is_tag_len.true) c.after_tag.ensures

pub returns : goal.returns
unfolding bytes
returns c = let s = c.args.s.now in piece_none (length s) s c.letters_len-k.result (sym c.same.ensures ∙ c.if-same.false) (sym c.same-2.ensures ∙ c.if-same-2.false) c.letters_len-k.ensures (sym c.is_tag_len.ensures ∙ c.if-is_tag_len.false)
