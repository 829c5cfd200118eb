use Prim.Native.Nat.{ℕ, ◌+◌}
use mathlib.Core.Path.{sym, ap, ◌∙◌}
use native.Mathlib.Omega.{arith}
use lib.Seq.{sets}
use Rattle.reading.specs.Cursor.{step, left}
use Rattle.reading.proofs.Steps.{step_part, step_refused, step_end}
use Rattle.reading.specs.Reading.{Reading}
use Rattle.reading.specs.Records.{record_of, records_of}
use Rattle.reading.specs.Shown.{records_in, total_from}
use Rattle.reading.proofs.Folds.{total_part, records_part, verdict_part, refused_fine}
use Rattle.reading.proofs.Sizes.{size_most}
use Rattle.text.proofs.Writes.{sets_rest}
use Rattle.reading.proofs.put_records.Goals as goal
use Rattle.std.proofs.Common.{Ok, rules}

pub returns : goal.returns
unfolding records_of
returns c =
    let l = c.loop-part in
    let line = c.args.line.now in
    let e = step_end line l.c (step c.next.result c.next.new.self) c.next.ensures (c.in_ok-part.was ∙ ap Ok c.in_default.is) in (
      ap Ok (omega arith) ∙ sym (ap (total_from l.w) e) ∙ l.invariant.0,
      λ f. sym (ap (λ (r : Reading). sets l.out l.w (records_in r)) e) ∙ l.invariant.2 f,
    )

pub returns-in_err-part : goal.returns-in_err-part
returns-in_err-part c =
    let l = c.loop-part in
    let line = c.args.line.now in
    let e = step_refused line l.c (step c.next.result c.next.new.self) c.next.ensures _ _ c.in_err-part.was in
    (search rules ∙ sym (ap (total_from l.w) e) ∙ l.invariant.0, λ f. refused_fine (left line l.c) _ _ e (l.invariant.1 ∙ f))

pub put_record-w-requires : goal.put_record-w-requires
put_record-w-requires c =
    let w = step_part c.args.line.now c.loop-part.c (step c.next.result c.next.new.self) c.next.ensures _ _ _ (c.in_ok-part.was ∙ ap Ok c.in-Some.is) in
    let h = c.requires in
    (omega (arith, w.fits), omega (arith, w.fits), w.name)

pub loop-part-smaller : goal.loop-part-smaller
loop-part-smaller c =
    let w = step_part c.args.line.now c.loop-part.c (step c.next.result c.next.new.self) c.next.ensures _ _ _ (c.in_ok-part.was ∙ ap Ok c.in-Some.is) in
    (omega (arith, w.from, w.some, w.fits))

pub loop-part-preserved : goal.loop-part-preserved
loop-part-preserved c =
    let l = c.loop-part in
    let line = c.args.line.now in
    let w = step_part line l.c (step c.next.result c.next.new.self) c.next.ensures _ _ _ (c.in_ok-part.was ∙ ap Ok c.in-Some.is) in
    let x = c.in-Some.part.item in
    let a = c.in-Some.part.term.at in
    let n = c.in-Some.part.term.len in
    let p = c.put_record-w in
    let v = verdict_part line l.c _ _ _ _ w in (
      rw p.ensures.0 (sym (total_part line l.c _ _ _ _ w l.w) ∙ l.invariant.0),
      sym v ∙ l.invariant.1,
      λ f. sets_rest l.out (record_of x a n) p.new.out l.w (l.w + p.result) p.ensures.1 (ap (λ (k : ℕ). l.w + k) p.ensures.0) (records_in (left line c.next.new.self))
          ∙ sym (ap (sets l.out l.w) (records_part line l.c _ _ _ _ w (l.invariant.1 ∙ f))) ∙ l.invariant.2 f,
      omega arith,
      omega (arith, w.fits),
      omega (arith, size_most x a n, p.ensures.0, w.from, w.some, l.invariant.5),
    )
