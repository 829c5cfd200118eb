-- `replies::line_form` meets its contract.
use Rattle.std.proofs.Common.{ℕ, ap, ◌∙◌, take, drop, arith}
use Rattle.text.specs.Bytes.{is_word}
use Rattle.text.specs.Lists.{all_of}
use Rattle.text.proofs.Scans.{take_run, run_within}
use Rattle.replies.specs.declared.Form.TheVariants.{Nothing}
use Rattle.replies.proofs.FindLaws.{line_blank, line_comment, line_word}
use Rattle.replies.proofs.line_form.Goals as goal

pub split_at-requires : goal.split_at-requires
split_at-requires c = omega (arith, c.words_len.ensures, run_within is_word c.args.s.now)

pub word_form-requires : goal.word_form-requires
word_form-requires c =
    ap (all_of is_word) (c.split_at.ensures.front ∙ ap (λ (n : ℕ). take n c.args.s.now) c.words_len.ensures) ∙ take_run is_word c.args.s.now

pub returns-then-line_ends : goal.returns-then-line_ends
returns-then-line_ends c = line_blank c.args.s.now cc

pub returns-then-s-eq35 : goal.returns-then-s-eq35
returns-then-s-eq35 c = ap Nothing c.row_len.ensures ∙ line_comment c.args.s.now (cc) c.if-s-eq35.true

pub returns-else-s-eq35 : goal.returns-else-s-eq35
returns-else-s-eq35 c =
    let s = c.args.s.now in
    let n = c.words_len.ensures in
    line_word s _ _ _ (c.split_at.ensures.front ∙ ap (λ (n : ℕ). take n s) n) (c.split_at.ensures.back ∙ ap (λ (n : ℕ). drop n s) n) c.word_form.ensures (cc) c.if-s-eq35.false
