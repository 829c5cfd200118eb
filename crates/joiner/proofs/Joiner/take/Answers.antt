use Rattle.std.proofs.Common.{arith, refl, ap, ◌∙◌, Ok}
use Rattle.joiner.proofs.Laws.{is_more, turn_more, turn_stop, run_end_lem}
use Rattle.joiner.proofs.Reach.{step_reachable}
use Rattle.joiner.proofs.Joiner.take.Goals as goal

pub pass-q-requires : goal.pass-q-requires
pass-q-requires c =
    let l = c.loop-i in
    record { self_value = step_reachable l.self _ c.step-outcome.result l.invariant.reached c.step-outcome.ensures.value; at_in_bounds = omega arith }

pub loop-i-preserved : goal.loop-i-preserved
loop-i-preserved c =
    let q = c.pass-q.ensures in
    let t = c.step-outcome in
    let l = c.loop-i in
    let step = turn_more _ l.i l.self l.buffer _ (omega arith) l.invariant.goes_on t.result t.new.buffer (t.ensures.value, t.ensures.buffer_after) (ap is_more (c.in-Ok-None.is ∙ ap Ok (rw c.in-Ok-None.is at c.in-Ok-None.field-0-is))) in
    record { within = q.at_in_bounds_2; goes_on = step ∙ q.part_value; reached = q.over_value }

pub returns-in-Ok-Some : goal.returns-in-Ok-Some
returns-in-Ok-Some c =
    let t = c.step-outcome in
    let l = c.loop-i in
    let e = turn_stop _ l.i l.self l.buffer _ (omega arith) l.invariant.goes_on t.result t.new.buffer (t.ensures.value, t.ensures.buffer_after) (ap is_more (c.in-Ok-Some.is ∙ ap Ok (rw c.in-Ok-Some.is at c.in-Ok-Some.field-0-is))) in
    rw e record { value = c.joined.ensures; buffer_after = refl }

pub returns-in-Err : goal.returns-in-Err
returns-in-Err c =
    let t = c.step-outcome in
    let l = c.loop-i in
    let e = turn_stop _ l.i l.self l.buffer _ (omega arith) l.invariant.goes_on t.result t.new.buffer (t.ensures.value, t.ensures.buffer_after) (ap is_more c.in-Err.is) in
    rw e record { value = c.joined-in-Err.ensures; buffer_after = refl }

pub returns : goal.returns
returns c =
    let l = c.loop-i in
    rw (l.invariant.goes_on ∙ run_end_lem l.i l.self l.buffer c.args.part.now c.loop-i-test.false) record { value = c.joined-2.ensures; buffer_after = refl }
