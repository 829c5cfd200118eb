use native.Mathlib.Omega.{arith}
use Rattle.terms.proofs.SignBytes.{meant_length}
use Rattle.terms.proofs.ScanLaws.{left_on, left_fits, left_end}
use Rattle.terms.proofs.meant_len.Goals as goal

pub overflow_add-n : goal.overflow_add-n
overflow_add-n c = let z = left_fits c.args.s.now c.loop-b.b-index c.loop-b.n c.byte_meant-n.result c.loop-b.m c.loop-b-test.true c.byte_meant-n.ensures c.loop-b.invariant in omega arith

pub loop-b-preserved : goal.loop-b-preserved
loop-b-preserved c = left_on c.args.s.now c.loop-b.b-index c.loop-b.n c.byte_meant-n.result c.loop-b.m c.step-m.result c.loop-b-test.true c.step-m.ensures c.byte_meant-n.ensures c.loop-b.invariant

pub overflow_add-result : goal.overflow_add-result
overflow_add-result c = let z = left_end c.args.s.now c.loop-b.b-index c.loop-b.n c.end_meant.result c.loop-b.m c.loop-b-test.false c.end_meant.ensures c.loop-b.invariant in let b = meant_length c.args.s.now in omega arith

pub returns : goal.returns
returns c = left_end c.args.s.now c.loop-b.b-index c.loop-b.n c.end_meant.result c.loop-b.m c.loop-b-test.false c.end_meant.ensures c.loop-b.invariant
