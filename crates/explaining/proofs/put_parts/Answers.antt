use mathlib.Core.Path.{sym, ap, ◌∙◌}
use Rattle.text.proofs.Slices.{part_between}
use Rattle.std.proofs.Common.{Ok}
use Rattle.reading.specs.Cursor.{step}
use Rattle.reading.proofs.Steps.{step_part}
use Rattle.reading.proofs.Folds.{verdict_part}
use Rattle.explaining.specs.Explained.{part_text}
use Rattle.words.proofs.Pens.{more, nothing_put, still_within, as_text}
use Rattle.explaining.proofs.LineLaws.{step_parts, done_parts, never_parts}
use native.Mathlib.Omega.{arith}
use Rattle.explaining.proofs.put_parts.Goals as goal

pub returns-in-Ok-None : goal.returns-in-Ok-None
returns-in-Ok-None c =
    let l = c.loop-part in
    l.invariant.0 _ (as_text (sym (done_parts c.args.line.now l.c (step c.next.result c.next.new.self) c.next.ensures (c.in-Ok-None.is ∙ ap Ok c.in-Ok-None.field-0-is))) (nothing_put l.invariant.3))

pub returns-in-Err : goal.returns-in-Err
returns-in-Err c = let l = c.loop-part in never_parts c.args.line.now l.c (step c.next.result c.next.new.self) c.next.ensures l.invariant.1 _ c.in-Err.is

pub overflow_add-term : goal.overflow_add-term
overflow_add-term c = let t = step_part c.args.line.now c.loop-part.c (step c.next.result c.next.new.self) c.next.ensures _ _ _ (c.in-Ok-Some.is ∙ ap Ok c.in-Ok-Some.field-0-is) in omega (arith, t.fits)

pub slice_bounds-put_part-end : goal.slice_bounds-put_part-end
slice_bounds-put_part-end c = let t = step_part c.args.line.now c.loop-part.c (step c.next.result c.next.new.self) c.next.ensures _ _ _ (c.in-Ok-Some.is ∙ ap Ok c.in-Ok-Some.field-0-is) in omega (arith, t.fits)

pub loop-part-smaller : goal.loop-part-smaller
loop-part-smaller c = let t = step_part c.args.line.now c.loop-part.c (step c.next.result c.next.new.self) c.next.ensures _ _ _ (c.in-Ok-Some.is ∙ ap Ok c.in-Ok-Some.field-0-is) in omega (arith, t.from, t.some, t.at, t.fits)

pub loop-part-preserved : goal.loop-part-preserved
loop-part-preserved c =
    let line = c.args.line.now in
    let l = c.loop-part in
    let x = c.in-Ok-Some.part.item in
    let a = c.in-Ok-Some.part.term.at in
    let n = c.in-Ok-Some.part.term.len in
    let after = c.next.new.self in
    let t = step_part line l.c (step c.next.result c.next.new.self) c.next.ensures x a n (c.in-Ok-Some.is ∙ ap Ok c.in-Ok-Some.field-0-is) in
    let fine = sym (verdict_part line l.c x a n after t) ∙ l.invariant.1 in (
      λ end p. l.invariant.0 end (as_text (sym (step_parts line l.c after x a n t fine)) (more (as_text (ap (part_text x) (part_between line a n)) c.put_part.ensures) p)),
      fine,
      omega (arith, t.at, t.fits),
      still_within c.put_part.ensures,
    )
