-- `joiner::Joiner::step` meets its contract: at each `return` the tests that led there say which law of `byte_step` holds.
-- Assumes nothing.
use mathlib.Core.Path.{refl}
use Rattle.joiner.proofs.Laws.{step_cr, step_lf_dropped, step_lf, step_waits, plain_done, pair_done}
use Rattle.joiner.proofs.Joiner.step.Goals as goal

pub returns-then-x-eq13 : goal.returns-then-x-eq13
returns-then-x-eq13 c = rw (step_cr _ _ c.if-x-eq13.true) record { value = c.ended.ensures; buffer_after = refl }

pub returns-then-self : goal.returns-then-self
returns-then-self c =
    let a = c.args in
    rw (step_lf_dropped a.self a.x c.if-x-eq10.true c.if-self.true, c.marked.ensures) record { value = refl; buffer_after = refl }

pub returns-then-x-eq10 : goal.returns-then-x-eq10
returns-then-x-eq10 c =
    let a = c.args in
    rw (step_lf a.self a.x c.if-x-eq10.true c.if-self.false) record { value = c.ended-then-x-eq10.ensures; buffer_after = refl }

pub returns-then-self-2 : goal.returns-then-self-2
returns-then-self-2 c =
    let p₁ = c.push-one in
    let p₂ = c.push-two in
    let m = c.marked-then-self-2 in
    let w = c in
    let a = w.args in let all = pair_done a.self m.result _ _ _ a.x m.ensures _ _ w.if-x-eq13.false w.if-x-eq10.false w.if-self-2.true
    p₁.ensures.value p₁.ensures.buffer_after p₂.ensures.value p₂.ensures.buffer_after in record { value = all.0; buffer_after = all.1 }

pub returns-then-x-eq96 : goal.returns-then-x-eq96
returns-then-x-eq96 c =
    let a = c.args in
    rw (step_waits a.self a.x c.if-x-eq96.true c.if-self-2.false, c.marked-then-x-eq96.ensures) record { value = refl; buffer_after = refl }

pub returns : goal.returns
returns c =
    let p = c.push-one-2 in
    let m = c.marked-2 in
    let w = c in
    let a = w.args in let all = plain_done a.self m.result _ _ _ a.x m.ensures w.if-x-eq13.false w.if-x-eq10.false w.if-x-eq96.false w.if-self-2.false
    p.ensures.value p.ensures.buffer_after in record { value = all.0; buffer_after = all.1 }
