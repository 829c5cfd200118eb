use mathlib.Core.Path.{sym}
use native.Mathlib.Omega.{arith}
use Rattle.terms.specs.declared.Mode.TheVariants.{Out}
use Rattle.words.proofs.Pens.{more, as_text}
use Rattle.canonical.proofs.WriteLaws.{text_within, texts_last, texts_more}
use Rattle.canonical.proofs.put_texts.Goals as goal

pub split_at-requires : goal.split_at-requires
split_at-requires c = let left = c.loop-parting.left.now in omega (arith, c.text_len.ensures, text_within Out left)

pub returns-in_default : goal.returns-in_default
returns-in_default c =
    let left = c.loop-parting.left.now in
    let s = c.split_at in
    c.loop-parting.invariant.0 _ (as_text (sym (texts_last left s.result.0.now s.result.1.now c.text_len.result c.text_len.ensures s.ensures.front s.ensures.back c.in_default.ensures.cases)) c.put_text.ensures)

pub loop-parting-preserved : goal.loop-parting-preserved
loop-parting-preserved c =
    let left = c.loop-parting.left.now in
    let s = c.split_at in
    let rest = c.in-Some.ensures.cases in (
      λ end p. c.loop-parting.invariant.0 end (as_text (sym (texts_more left s.result.0.now s.result.1.now c.text_len.result c.text_len.ensures s.ensures.front s.ensures.back c.in-Some.parting.now c.in-Some.rest.now rest.0)) (more c.put_text.ensures (more c.byte.ensures p))),
      omega (arith, rest.1, s.ensures.back_len, c.loop-parting.invariant.1),
    )
