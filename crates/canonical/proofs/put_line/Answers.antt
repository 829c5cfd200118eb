use Prim.Native.Nat.{ℕ, ◌+◌}
use mathlib.Core.Path.{◌≡◌, sym, ap, ◌∙◌}
use mathlib.Core.List.{◌++◌}
use mathlib.Core.Bool.{false}
use native.Mathlib.Omega.{arith}
use lib.ListN.{length, take, drop, length-append, length-take}
use Rattle.std.proofs.Common.{rules, Ok, Err}
use Rattle.text.specs.Room.{refusal_at}
use Rattle.reading.specs.Cursor.{left, step}
use Rattle.text.proofs.Slices.{part_between}
use Rattle.reading.proofs.Steps.{step_end, step_refused, step_part}
use Rattle.reading.proofs.Folds.{refused_fine, verdict_part}
use Rattle.canonical.specs.Written.{written, gap, written_from}
use Rattle.words.proofs.Pens.{more, nothing_put, still_within, as_text, landed}
use Rattle.canonical.proofs.WriteLaws.{written_short}
use Rattle.canonical.proofs.LineLaws.{gap_short, step_written, step_total, end_total, end_written}
use Rattle.canonical.proofs.put_line.Goals as goal

pub returns : goal.returns
returns c =
    let l = c.loop-part in
    let line = c.args.line.now in
    let e = step_end line l.c (step c.next.result c.next.new.self) c.next.ensures (c.in_ok-part.was ∙ ap Ok c.in_default.is) in
    let same = l.invariant.3 in (
      sym (end_total l.pen.at l.first (left line l.c) e) ∙ l.invariant.0,
      λ f. landed c.new-pen.ensures.starts.0 c.new-pen.ensures.starts.1 (l.invariant.2 f l.pen (as_text (sym (end_written l.first (left line l.c) e)) (nothing_put l.invariant.4))) (search rules),
    )

pub returns-in_err-part : goal.returns-in_err-part
returns-in_err-part c =
    let l = c.loop-part in
    let line = c.args.line.now in
    let flaw = c.in_err-part.field-0.0 in
    let r : c.from_residual.result ≡ Err (refusal_at flaw.number flaw.place) = search rules in
    let e = step_refused line l.c (step c.next.result c.next.new.self) c.next.ensures _ _ c.in_err-part.was in
    let whole = sym (ap (written_from l.pen.at l.first) e) ∙ l.invariant.0 in (
      r ∙ whole,
      λ f. refused_fine (left line l.c) _ _ e (l.invariant.1 ∙ f),
    )

pub overflow_add-at : goal.overflow_add-at
overflow_add-at c = let t = step_part c.args.line.now c.loop-part.c (step c.next.result c.next.new.self) c.next.ensures _ _ _ (c.in_ok-part.was ∙ ap Ok c.in-Some.is) in omega (arith, t.fits)

pub slice_bounds-put_term-end : goal.slice_bounds-put_term-end
slice_bounds-put_term-end c = let t = step_part c.args.line.now c.loop-part.c (step c.next.result c.next.new.self) c.next.ensures _ _ _ (c.in_ok-part.was ∙ ap Ok c.in-Some.is) in omega (arith, t.fits)

pub loop-part-smaller : goal.loop-part-smaller
loop-part-smaller c = let t = step_part c.args.line.now c.loop-part.c (step c.next.result c.next.new.self) c.next.ensures _ _ _ (c.in_ok-part.was ∙ ap Ok c.in-Some.is) in omega (arith, t.from, t.some, t.at, t.fits)

pub loop-part-preserved : goal.loop-part-preserved
loop-part-preserved c =
    let line = c.args.line.now in
    let l = c.loop-part in
    let x = c.in-Some.part.item in
    let from = c.in-Some.part.term.at in
    let len = c.in-Some.part.term.len in
    let after = c.next.new.self in
    let t = step_part line l.c (step c.next.result c.next.new.self) c.next.ensures x from len (c.in_ok-part.was ∙ ap Ok c.in-Some.is) in
    let b = written x (take len (drop from line)) in
    let p = more c.put_gap.ensures (as_text (ap (written x) (part_between line from len)) c.put_term.ensures) in
    let most = written_short x (take len (drop from line)) in
    let n = length-take len (drop from line) in
    let d : c.put_term.new.pen.at ≡ l.pen.at + length (gap l.first ++ b) = omega (arith, p.ends, most, n, gap_short l.first, length-append (gap l.first) b, t.from, t.fits, l.invariant.6, c.requires) in
    let v = verdict_part line l.c x from len after t in (
      ap (λ (k : ℕ). written_from k false (left line after)) d ∙ sym (step_total line l.c after x from len t l.first l.pen.at) ∙ l.invariant.0,
      sym v ∙ l.invariant.1,
      λ f end q. l.invariant.2 f end (as_text (sym (step_written line l.c after x from len t l.first (sym v ∙ l.invariant.1 ∙ f))) (more p q)),
      p.same ∙ l.invariant.3,
      still_within p,
      omega (arith, t.at, t.fits),
      omega (arith, d, most, n, gap_short l.first, length-append (gap l.first) b, t.from, t.at, t.some, l.invariant.6),
    )
