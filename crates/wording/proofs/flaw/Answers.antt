use mathlib.Core.Path.{◌≡◌, refl, sym, ap, ◌∙◌}
use native.Mathlib.Omega.{arith}
use Rattle.wording.specs.Steps.{flaw_in}
use Rattle.wording.proofs.WordingLaws.{text_bad, text_within, flaw_on, text_end_lem}
use Rattle.wording.proofs.flaw.Goals as goal

pub returns-in_default : goal.returns-in_default
returns-in_default c =
    let a = c.args in let l = c.loop-p in let h = c.loop-p-test.true in
    sym (ap flaw_in (text_bad a.records.now l.p 0 h (sym c.in_default.ensures) refl)) ∙ l.invariant.1

pub loop-p-preserved : goal.loop-p-preserved
loop-p-preserved c =
    let a = c.args in let l = c.loop-p in let r = c.in-Some.ensures in let h = c.loop-p-test.true in let w : c.in-Some.n ≡ 0 → ⊥ = λ z. omega (arith, z, r.0) in
    ((text_within a.records.now l.p _ h r.1 w).1, flaw_on a.records.now l.p _ h r.1 w ∙ l.invariant.1)

pub returns : goal.returns
returns c = let l = c.loop-p in sym (ap flaw_in (text_end_lem c.args.records.now l.p (omega arith))) ∙ l.invariant.1
