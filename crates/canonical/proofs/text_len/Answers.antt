use mathlib.Core.Path.{sym, ◌∙◌}
use native.Mathlib.Omega.{arith}
use Rattle.canonical.proofs.WriteLaws.{text_ends, text_on_lem, text_past}
use Rattle.canonical.proofs.text_len.Goals as goal

pub returns-then-is_parting : goal.returns-then-is_parting
returns-then-is_parting c = let l = c.loop-i in let e = text_ends l.m c.args.s.now l.i c.loop-i-test.true (sym c.is_parting.ensures ∙ c.if-is_parting.true) in omega (arith, e, l.invariant)

pub loop-i-preserved : goal.loop-i-preserved
loop-i-preserved c = let l = c.loop-i in let e = text_on_lem l.m c.step-m.result c.args.s.now l.i c.loop-i-test.true c.step-m.ensures (sym c.is_parting.ensures ∙ c.if-is_parting.false) in omega (arith, e, l.invariant)

pub returns : goal.returns
returns c = let l = c.loop-i in let e = text_past l.m c.args.s.now l.i c.loop-i-test.false in omega (arith, e, l.invariant)
