use Rattle.std.proofs.Common.{◌≡◌, ◌+◌, ◌≤◌, refl, sym, ap, ◌∙◌, length, List, true, arith}
use Rattle.std.proofs.lemmas.List.Edits.{sets}
use Rattle.std.proofs.Common.{Option as StdOption, Some}
use Rattle.std.proofs.Math.Option.{Option, none, some}
use Rattle.replies.specs.Items.{Told}
use Rattle.replying.specs.declared.Cue.{Cue}
use Rattle.replying.specs.Records.{is_final, Asked, asked_of}
use Rattle.replying.specs.Writing.{told_asked, writing_of, written_by}
use Rattle.replying.specs.Steps.{cue_told, told_by_cue}
use Rattle.replying.proofs.RecordLaws.{asked_within, asked_past, goes_on_cue}
use Rattle.replying.proofs.WeighLaws.{put_last, put_next}
use Rattle.replying.proofs.put_all.Goals as goal
use Rattle.replying.proofs.put_all.Goals.{After-len_of-at}

-- what the record tells
told : {o : StdOption Cue} {c : Cue} {x : Option Told} → o ≡ Some c → cue_told o ≡ x → some (told_by_cue c) ≡ x
told i e = sym (ap cue_told i) ∙ e

-- the next one's place
within : (c : After-len_of-at) → (1 ≤ c.len_of-at.result) × (c.loop-at.at + c.len_of-at.result ≤ length c.args.records.now)
within c =
    asked_within c.args.records.now c.args.text.now c.loop-at.at c.loop-at-test.true _ (told c.in-Some.is c.cue_of.ensures.0) c.len_of-at.result c.len_of-at.ensures (goes_on_cue c.in-Some.cue c.in_default-cue.not-End)

pub loop-at-init : goal.loop-at-init
unfolding written_by asked_of
loop-at-init c = (refl, omega arith, refl, omega arith)

pub returns-in_default : goal.returns-in_default
returns-in_default c =
    let l = c.loop-at in
    let w : l.w ≡ l.w + 0 = omega arith in
    put_last c.args.records.now c.args.text.now l.at c.loop-at-test.true none (sym (ap cue_told c.in_default.is) ∙ c.cue_of.ensures.0) l.out l.out _ l.w l.w l.invariant.0 w refl refl

pub returns-in-End : goal.returns-in-End
returns-in-End c =
    let l = c.loop-at in
    let p = c.put_line-w in
    let f : is_final (some (told_by_cue c.in-Some.cue)) ≡ true = rw c.in-End.is refl in
    put_last c.args.records.now c.args.text.now l.at c.loop-at-test.true _ (told c.in-Some.is c.cue_of.ensures.0) l.out p.new.out _ l.w p.result l.invariant.0 p.ensures.0 p.ensures.1 f

pub loop-at-smaller : goal.loop-at-smaller
loop-at-smaller c = omega (arith, within c)

pub loop-at-preserved : goal.loop-at-preserved
loop-at-preserved c =
    let l = c.loop-at in
    let p = c.put_line-w in
    let x = put_next c.args.records.now c.args.text.now l.at c.loop-at-test.true _ (told c.in-Some.is c.cue_of.ensures.0) l.out p.new.out _ l.w p.result l.invariant.0 p.ensures.0 p.ensures.1 (goes_on_cue c.in-Some.cue c.in_default-cue.not-End) c.len_of-at.result c.len_of-at.ensures _ l.invariant.1 in
    (x.0, x.1, omega arith, (within c).1)

pub returns : goal.returns
unfolding writing_of told_asked
returns c =
    let l = c.loop-at in
    sym (ap (λ (z : List Asked). sets l.out l.w (writing_of (told_asked z))) (asked_past c.args.records.now c.args.text.now l.at c.loop-at-test.false)) ∙ l.invariant.0
