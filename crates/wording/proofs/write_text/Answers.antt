use mathlib.Core.Path.{◌≡◌, refl, sym, ap, ◌∙◌}
use native.Mathlib.Omega.{arith}
use lib.ListN.{length}
use lib.Seq.{sets}
use Rattle.wording.specs.Words.{Worded}
use Rattle.wording.specs.Steps.{flaw_in, worded_text}
use Rattle.wording.proofs.WordingLaws.{text_start, text_bad, text_within, first_from_lem, length_on, flaw_on, sets_on, text_end_lem}
use Rattle.wording.proofs.write_text.Goals as goal

pub loop-p-init : goal.loop-p-init
loop-p-init c =
    let a = c.args in let e = text_start a.records.now in
    (omega arith, refl, ap flaw_in e ∙ c.requires.records_value, omega (arith, ap (λ (u : Worded). length (worded_text u)) e), ap (λ (u : Worded). sets a.out.now 0 (worded_text u)) e)

pub returns-in_default : goal.returns-in_default
returns-in_default c =
    let a = c.args in let l = c.loop-p in let h = c.loop-p-test.true in
    let e = text_bad a.records.now l.p 0 h (sym c.in_default.ensures) refl in
    (omega (arith, l.invariant.3, ap (λ (u : Worded). length (worded_text u)) e), sym (ap (λ (u : Worded). sets l.out l.at (worded_text u)) e) ∙ l.invariant.4)

pub put_record-w-requires : goal.put_record-w-requires
put_record-w-requires c =
    let a = c.args in let l = c.loop-p in let r = c.in-Some.ensures in let h = c.loop-p-test.true in let w : c.in-Some.n ≡ 0 → ⊥ = λ z. omega (arith, z, r.0) in
    record { nonzero = first_from_lem a.records.now l.p _ h r.1 w; rec_bound = omega (arith, l.invariant.3, c.requires.records_in_bounds, length_on a.records.now l.p _ h r.1 w l.invariant.2 _ refl) }

pub overflow_add-at : goal.overflow_add-at
overflow_add-at c =
    let a = c.args in let l = c.loop-p in let r = c.in-Some.ensures in let h = c.loop-p-test.true in let w : c.in-Some.n ≡ 0 → ⊥ = λ z. omega (arith, z, r.0) in
    omega (arith, l.invariant.3, c.requires.records_in_bounds, length_on a.records.now l.p _ h r.1 w l.invariant.2 c.put_record-w.result c.put_record-w.ensures.0)

pub loop-p-preserved : goal.loop-p-preserved
loop-p-preserved c =
    let a = c.args in let l = c.loop-p in let r = c.in-Some.ensures in let h = c.loop-p-test.true in let w : c.in-Some.n ≡ 0 → ⊥ = λ z. omega (arith, z, r.0) in
    let v = c.put_record-w in (
      (text_within a.records.now l.p _ h r.1 w).1,
      v.auto.out ∙ l.invariant.1,
      flaw_on a.records.now l.p _ h r.1 w ∙ l.invariant.2,
      omega (arith, l.invariant.3, length_on a.records.now l.p _ h r.1 w l.invariant.2 v.result v.ensures.0),
      sets_on a.records.now l.p _ h r.1 w l.invariant.2 v.result v.ensures.0 l.at l.out v.new.out _ l.invariant.4 v.ensures.1,
    )

pub returns : goal.returns
returns c =
    let a = c.args in let l = c.loop-p in let e = text_end_lem a.records.now l.p (omega arith) in
    (omega (arith, l.invariant.3, ap (λ (u : Worded). length (worded_text u)) e), sym (ap (λ (u : Worded). sets l.out l.at (worded_text u)) e) ∙ l.invariant.4)
