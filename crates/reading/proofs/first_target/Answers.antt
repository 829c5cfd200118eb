use mathlib.Core.Path.{sym, ap, ◌∙◌}
use native.Mathlib.Omega.{arith}
use Rattle.std.proofs.Common.{Ok}
use Rattle.reading.specs.Cursor.{step, left}
use Rattle.reading.proofs.Steps.{step_part, step_refused, step_end}
use Rattle.reading.specs.Records.{target_span, target_in}
use Rattle.reading.proofs.Folds.{target_part_lem, verdict_part, refused_fine}
use Rattle.reading.proofs.first_target.Goals as goal

pub returns-in_default : goal.returns-in_default
unfolding target_span
returns-in_default c =
    let line = c.args.line.now in
    sym (ap target_in (step_end line c.loop-part.c (step c.next.result c.next.new.self) c.next.ensures (c.in_default.is ∙ ap Ok cc))) ∙ c.loop-part.invariant.0

pub returns-in_default-2 : goal.returns-in_default-2
returns-in_default-2 c =
    let line = c.args.line.now in
    refused_fine (left line c.loop-part.c) _ _ (step_refused line c.loop-part.c (step c.next.result c.next.new.self) c.next.ensures _ _ c.in_default.is) c.loop-part.invariant.1

pub returns-then-is_target : goal.returns-then-is_target
returns-then-is_target c =
    let line = c.args.line.now in
    let w = step_part line c.loop-part.c (step c.next.result c.next.new.self) c.next.ensures _ _ _ (c.in-Ok-Some.is ∙ ap Ok c.in-Ok-Some.field-0-is) in
    sym (rw (sym c.is_target.ensures ∙ c.if-is_target.true) at (target_part_lem line c.loop-part.c _ _ _ _ w c.loop-part.invariant.1)) ∙ c.loop-part.invariant.0

pub loop-part-smaller : goal.loop-part-smaller
loop-part-smaller c =
    let w = step_part c.args.line.now c.loop-part.c (step c.next.result c.next.new.self) c.next.ensures _ _ _ (c.in-Ok-Some.is ∙ ap Ok c.in-Ok-Some.field-0-is) in
    (omega (arith, w.from, w.some, w.fits))

pub loop-part-preserved : goal.loop-part-preserved
loop-part-preserved c =
    let line = c.args.line.now in
    let l = c.loop-part in
    let w = step_part line l.c (step c.next.result c.next.new.self) c.next.ensures _ _ _ (c.in-Ok-Some.is ∙ ap Ok c.in-Ok-Some.field-0-is) in (
      sym (rw (sym c.is_target.ensures ∙ c.if-is_target.false) at (target_part_lem line l.c _ _ _ _ w l.invariant.1)) ∙ l.invariant.0,
      sym (verdict_part line l.c _ _ _ _ w) ∙ l.invariant.1,
      omega (arith, w.fits),
    )
