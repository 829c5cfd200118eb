-- `replytext::record_text` meets its contract.
use Rattle.std.proofs.Common.{ℕ, List, [], ◌≡◌, ◌≤◌, length, get_or, take, drop, refl, sym, ap, ◌∙◌, arith}
use Rattle.std.proofs.lemmas.List.Edits.{sets}
use Rattle.text.specs.Bytes.{bytes}
use Rattle.text.proofs.Slices.{length_part}
use Rattle.words.specs.Words.{reply_record_len}
use Rattle.wording.specs.Words.{fields_text}
use Rattle.replytext.specs.Text.{reply_forms, reply_form, numbers_text, line_by, reply_text}
use Rattle.replytext.proofs.TextLaws.{no_text, cut_text_lem, whole_text, none_text, item_is, group_is}
use Rattle.replytext.proofs.record_text.Goals as goal
use Rattle.replytext.proofs.record_text.Goals.{Else-rec-reply_record_len}

-- the record is whole
whole : (c : Else-rec-reply_record_len) → (k : ℕ) → get_or c.args.rec.now 0 0 ≡ k → reply_record_len k ≤ length c.args.rec.now
whole c k e = omega (arith, c.reply_record_len.ensures, ap reply_record_len e, c.if-rec-reply_record_len.false)

-- what was written is its text
written : (r t o o' : List ℕ) (n : ℕ) → n ≡ length t → o' ≡ sets o 0 t → n ≤ 29 → t ≡ reply_text r → (n ≡ length (reply_text r)) × (o' ≡ sets o 0 (reply_text r)) × (n ≤ 29)
written r t o o' n e q h w = (e ∙ ap length w, q ∙ ap (sets o 0) w, h)

pub returns-in_default : goal.returns-in_default
returns-in_default c = written c.args.rec.now [] c.args.out.now c.args.out.now 0 refl refl (omega arith) (no_text c.args.rec.now (omega arith))

pub returns-then-rec-reply_record_len : goal.returns-then-rec-reply_record_len
returns-then-rec-reply_record_len c =
    written c.args.rec.now [] c.args.out.now c.args.out.now 0 refl refl (omega arith) (cut_text_lem c.args.rec.now (get_or c.args.rec.now 0 0) refl (omega (arith, c.reply_record_len.ensures)))

pub returns-in-64 : goal.returns-in-64
unfolding bytes
returns-in-64 c =
    let p = c.put_line in
    let r = c.args.rec.now in
    let w = whole (goal.at.returns-in-64 c).Else-rec-reply_record_len 64 c.in-64.is in
    written r (line_by (bytes "item") (take 8 (drop 1 r))) c.args.out.now p.new.out p.result p.ensures.0 p.ensures.1 (omega (arith, p.ensures.2, length_part r 1 8 w)) (item_is r w ∙ whole_text r 64 c.in-64.is w)

pub returns-in-65 : goal.returns-in-65
unfolding bytes
returns-in-65 c =
    let p = c.put_line-in-65 in
    let r = c.args.rec.now in
    let w = whole (goal.at.returns-in-65 c).Else-rec-reply_record_len 65 c.in-65.is in
    written r (line_by (bytes "group") (take 4 (drop 1 r))) c.args.out.now p.new.out p.result p.ensures.0 p.ensures.1 (omega (arith, p.ensures.2, length_part r 1 4 w)) (group_is r w ∙ whole_text r 65 c.in-65.is w)

pub returns-in-66 : goal.returns-in-66
unfolding bytes reply_form reply_forms fields_text numbers_text
returns-in-66 c =
    let p = c.put_line-in-66 in
    let r = c.args.rec.now in
    written r (line_by (bytes "endgroup") []) c.args.out.now p.new.out p.result p.ensures.0 p.ensures.1 (omega (arith, p.ensures.2)) (whole_text r 66 c.in-66.is (whole (goal.at.returns-in-66 c).Else-rec-reply_record_len 66 c.in-66.is))

pub returns-in-67 : goal.returns-in-67
unfolding bytes reply_form reply_forms fields_text numbers_text
returns-in-67 c =
    let p = c.put_line-in-67 in
    let r = c.args.rec.now in
    written r (line_by (bytes "endoutput") []) c.args.out.now p.new.out p.result p.ensures.0 p.ensures.1 (omega (arith, p.ensures.2)) (whole_text r 67 c.in-67.is (whole (goal.at.returns-in-67 c).Else-rec-reply_record_len 67 c.in-67.is))

pub returns-in_default-kind : goal.returns-in_default-kind
returns-in_default-kind c =
    let r = c.args.rec.now in
    let k = get_or r 0 0 in
    written r [] c.args.out.now c.args.out.now 0 refl refl (omega arith) (sym (none_text (drop 1 r) k (omega arith) (omega arith) (omega arith) (omega arith)) ∙ whole_text r k refl (whole (goal.at.returns-in_default-kind c).Else-rec-reply_record_len k refl))
