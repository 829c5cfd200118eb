use Prim.Native.Nat.{◌+◌}
use mathlib.Core.Path.{sym, ap, ◌∙◌}
use lib.ListN.{length, get_or, drop, length-append}
use lib.Seq.{sets}
use Rattle.terms.specs.Signs.{raw, raws}
use Rattle.terms.specs.Quotes.{in_quotes, closing}
use Rattle.text.proofs.Writes.{sets_rest}
use Rattle.replying.proofs.LineLaws.{closing_on, closing_past}
use native.Mathlib.Omega.{arith}
use Rattle.replying.proofs.put_closing.Goals as goal

pub loop-b-preserved : goal.loop-b-preserved
loop-b-preserved c =
    let l = c.loop-b in
    let s = c.args.s.now in
    let p = c.put_in_quotes-w in
    let b = raw (in_quotes (get_or s l.b-index 0)) in
    let r = raws (closing (drop (l.b-index + 1) s)) in
    let e = closing_on s l.b-index c.loop-b-test.true in (
      sets_rest l.out b p.new.out l.w p.result p.ensures.1 p.ensures.0 r ∙ sym (ap (sets l.out l.w) e) ∙ l.invariant.0,
      omega (arith, p.ensures.0, ap length e, length-append b r, l.invariant.1),
      omega arith,
      omega (arith, p.ensures.2),
    )

pub returns : goal.returns
returns c =
    let l = c.loop-b in
    let p = c.put_byte in
    let e = closing_past c.args.s.now l.b-index c.loop-b-test.false in (
      omega (arith, p.ensures.0, ap length e, l.invariant.1),
      p.ensures.1 ∙ sym (ap (sets l.out l.w) e) ∙ l.invariant.0,
      omega (arith, p.ensures.0),
    )
