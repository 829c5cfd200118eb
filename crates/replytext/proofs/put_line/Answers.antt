use Rattle.std.proofs.Common.{◌≡◌, ◌+◌, ◌-◌, length, take, drop, get_or, sym, ap, ◌∙◌, arith}
use Rattle.std.proofs.lemmas.List.Edits.{sets}
use lib.ListN.{length-append}
use Rattle.text.proofs.Slices.{length_from}
use Rattle.replytext.specs.Text.{numbers_line}
use Rattle.replytext.proofs.TextLaws.{number, step, numbers_on, numbers_end}
use Rattle.replytext.proofs.put_line.Goals as goal

pub loop-rest-preserved : goal.loop-rest-preserved
loop-rest-preserved c =
    let l = c.loop-rest in
    let p = c.put_number-at in
    let s = l.rest.now in
    let n = number (get_or s 0 0) (get_or s 1 0) in
    let more = numbers_line (take (length s - 2) (drop 2 s)) in
    let e = numbers_on s c.in-len2-up.len_at_least in (
      sym (step l.out n more l.at p.result p.new.out p.ensures.1 p.ensures.0) ∙ sym (ap (sets l.out l.at) e) ∙ l.invariant.0,
      omega (arith, p.ensures.0, ap length e, length-append n more, l.invariant.1),
      omega (arith, p.ensures.2, length_from s 2, l.invariant.2),
    )

pub returns : goal.returns
returns c =
    let l = c.loop-rest in
    let word = c.args.word.now in
    let line = numbers_line c.args.numbers.now in
    let e = numbers_end l.rest.now c.in_default.len_below in
    let w : length word ≡ 0 + length word = omega arith in (
      omega (arith, l.invariant.1, ap length e, length-append word line),
      c.put.ensures ∙ sym (ap (sets l.out l.at) e) ∙ l.invariant.0 ∙ sym (step c.args.out.now word line 0 (length word) c.copy.new.out c.copy.ensures w),
      omega (arith, l.invariant.2),
    )
