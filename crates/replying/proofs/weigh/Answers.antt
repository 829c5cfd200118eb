-- `replying::weigh` meets its contract.
use Rattle.std.proofs.Common.{◌≡◌, ◌+◌, ◌≤◌, refl, sym, ap, ◌∙◌, length, Ok, Err, arith, rules}
use Rattle.std.proofs.Math.Option.{none}
use Rattle.replying.specs.Records.{asked_of}
use Rattle.replying.specs.Steps.{cue_told, weighed}
use Rattle.replying.proofs.RecordLaws.{asked_past}
use Rattle.replying.proofs.WeighLaws.{turn_refused, turn_placed, turn_done, turn_within, turn_on, weigh_none}
use Rattle.replying.proofs.weigh.Goals as goal
use Rattle.replying.proofs.weigh.Goals.{In_ok-next, After-len_of}

-- what a record leads to, which is no refusal
led : (c : In_ok-next) → c.judge.result ≡ Ok c.in_ok-next.next
led c = search rules

-- the next record's place
within : (c : After-len_of) → (1 ≤ c.len_of.result) × (c.loop-at.at + c.len_of.result ≤ length c.args.records.now)
within c =
    let l = c.loop-at in
    let j : c.judge.result ≡ Ok c.in_ok-next.next = search rules in
    turn_within c.args.records.now c.args.text.now l.at c.loop-at-test.true _ (sym (ap cue_told c.in-Some.is) ∙ c.cue_of.ensures.0) l.depth _ (sym (j ∙ ap Ok c.in-Some-next.is) ∙ c.judge.ensures) c.len_of.result c.len_of.ensures

pub loop-at-init : goal.loop-at-init
unfolding asked_of
loop-at-init c = (refl, omega arith)

pub returns-in_default : goal.returns-in_default
returns-in_default c =
    let l = c.loop-at in
    turn_refused c.args.records.now c.args.text.now l.at c.loop-at-test.true none (sym (ap cue_told c.in_default.is) ∙ c.cue_of.ensures.0) l.depth l.n _ l.invariant.0 21 refl

pub returns-in_err-next : goal.returns-in_err-next
returns-in_err-next c =
    let l = c.loop-at in
    let q = c.in_err-next.field-0.0 in
    let r : c.from_residual.result ≡ Err q = search rules in
    r ∙ turn_placed c.args.records.now c.args.text.now l.at c.loop-at-test.true _ (sym (ap cue_told c.in-Some.is) ∙ c.cue_of.ensures.0) l.depth l.n _ l.invariant.0 c.judge.result c.map_err.result c.map_err.ensures.cases (λ k q z. search rules) c.judge.ensures q c.in_err-next.was

pub returns-in_default-next : goal.returns-in_default-next
returns-in_default-next c =
    let l = c.loop-at in
    let j = led (goal.at.returns-in_default-next c).In_ok-next ∙ ap Ok c.in_default-next.is in
    c.sized.ensures ∙ turn_done c.args.records.now c.args.text.now l.at c.loop-at-test.true _ (sym (ap cue_told c.in-Some.is) ∙ c.cue_of.ensures.0) l.depth l.n _ l.invariant.0 (sym j ∙ c.judge.ensures) c.added-n.result c.added-n.ensures

pub loop-at-smaller : goal.loop-at-smaller
loop-at-smaller c = omega (arith, within c)

pub loop-at-preserved : goal.loop-at-preserved
loop-at-preserved c =
    let l = c.loop-at in
    let j = led (goal.at.loop-at-preserved c).In_ok-next ∙ ap Ok c.in-Some-next.is in (
      turn_on c.args.records.now c.args.text.now l.at c.loop-at-test.true _ (sym (ap cue_told c.in-Some.is) ∙ c.cue_of.ensures.0) l.depth l.n _ l.invariant.0 _ (sym j ∙ c.judge.ensures) c.len_of.result c.len_of.ensures c.added-n.result c.added-n.ensures,
      (within c).1,
    )

pub returns : goal.returns
returns c =
    let l = c.loop-at in
    let e = length c.args.records.now in
    weigh_none l.depth e l.n ∙ sym (ap (weighed l.depth e l.n) (asked_past c.args.records.now c.args.text.now l.at c.loop-at-test.false)) ∙ l.invariant.0
