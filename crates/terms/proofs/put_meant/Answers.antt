use mathlib.Core.Path.{◌∙◌}
use native.Mathlib.Omega.{arith}
use lib.ListN.{get_or}
use Rattle.terms.proofs.SignBytes.{meant_length}
use Rattle.terms.proofs.ScanLaws.{width_on, left_on, left_fits, left_end, stored_on, stored_end}
use Rattle.terms.proofs.put_meant.Goals as goal

pub overflow_add-w : goal.overflow_add-w
overflow_add-w c = let z = left_fits c.args.s.now c.loop-b.b-index c.loop-b.w c.put_byte-w.result c.loop-b.m c.loop-b-test.true c.put_byte-w.ensures.0 c.loop-b.invariant.1 in omega arith

pub loop-b-preserved : goal.loop-b-preserved
loop-b-preserved c =
    let s = c.args.s.now in
    let l = c.loop-b in
    let p = c.put_byte-w in
    let t = c.step-m in
    let h = c.loop-b-test.true in (
      stored_on s l.out p.new.out c.args.at l.w p.result l.b-index l.m t.result h t.ensures p.ensures.0 p.ensures.1 ∙ l.invariant.0,
      left_on s l.b-index l.w p.result l.m t.result h t.ensures p.ensures.0 l.invariant.1,
      omega arith,
      width_on l.m t.result (get_or s l.b-index 0) l.w p.result l.b-index t.ensures p.ensures.0 l.invariant.3,
    )

pub overflow_add-result : goal.overflow_add-result
overflow_add-result c = let z = left_end c.args.s.now c.loop-b.b-index c.loop-b.w c.put_end.result c.loop-b.m c.loop-b-test.false c.put_end.ensures.0 c.loop-b.invariant.1 in let b = meant_length c.args.s.now in omega arith

pub returns : goal.returns
returns c =
    let s = c.args.s.now in
    let l = c.loop-b in
    let p = c.put_end in (
      left_end s l.b-index l.w p.result l.m c.loop-b-test.false p.ensures.0 l.invariant.1,
      stored_end s l.out p.new.out c.args.at l.w l.b-index l.m c.loop-b-test.false p.ensures.1 ∙ l.invariant.0,
    )
