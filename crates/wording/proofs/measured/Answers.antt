use mathlib.Core.Path.{refl, ◌≡◌, sym, ap, ◌∙◌}
use Prim.Native.Nat.{◌+◌}
use native.Mathlib.Omega.{arith}
use Rattle.wording.specs.Words.{wording_of}
use Rattle.wording.specs.Steps.{wording_at, answer_from}
use Rattle.wording.proofs.WordingLaws.{answer_start, text_start, text_bad, text_within, answer_on, answer_past_lem, text_end_lem, answer_end}
use Rattle.wording.proofs.measured.Goals as goal

pub loop-p-init : goal.loop-p-init
loop-p-init c = let a = c.args in (omega arith, omega arith, answer_start a.room (wording_of a.records.now) ∙ ap (answer_from 0 a.room) (sym (text_start a.records.now)))

pub returns-in_default : goal.returns-in_default
returns-in_default c =
    let a = c.args in let l = c.loop-p in let h = c.loop-p-test.true in
    sym (l.invariant.2 ∙ ap (answer_from l.at a.room) (text_bad a.records.now l.p 0 h (sym c.in_default.ensures) refl))

pub returns-then-room-at : goal.returns-then-room-at
returns-then-room-at c =
    let a = c.args in let l = c.loop-p in let r = c.in-Some.ensures in let h = c.loop-p-test.true in let w : c.in-Some.n ≡ 0 → ⊥ = λ z. omega (arith, z, r.0) in
    let v = c.text_len-w in
    c.no_room.ensures
    ∙ sym (answer_on a.records.now l.p _ h r.1 w l.at a.room v.result _ l.invariant.2 v.ensures ∙ answer_past_lem (l.at + v.result) a.room (wording_at (l.p + c.in-Some.n) a.records.now) (omega (arith, c.if-room-at.true)))

pub loop-p-preserved : goal.loop-p-preserved
loop-p-preserved c =
    let a = c.args in let l = c.loop-p in let r = c.in-Some.ensures in let h = c.loop-p-test.true in let w : c.in-Some.n ≡ 0 → ⊥ = λ z. omega (arith, z, r.0) in
    let v = c.text_len-w in
    ((text_within a.records.now l.p _ h r.1 w).1, omega arith, answer_on a.records.now l.p _ h r.1 w l.at a.room v.result _ l.invariant.2 v.ensures)

pub returns : goal.returns
returns c =
    let a = c.args in let l = c.loop-p in
    sym (l.invariant.2 ∙ ap (answer_from l.at a.room) (text_end_lem a.records.now l.p (omega arith)) ∙ answer_end l.at a.room l.invariant.1)
