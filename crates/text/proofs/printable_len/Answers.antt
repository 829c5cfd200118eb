use Rattle.std.proofs.Common.{arith, sym, ◌∙◌}
use Rattle.text.specs.Bytes.{printable}
use Rattle.text.proofs.Scans.{run_within, run_passed}
use Rattle.text.proofs.printable_len.Goals as goal

pub loop-block-preserved : goal.loop-block-preserved
loop-block-preserved c =
    let l = c.loop-block in
    run_passed printable c.args.s.now l.rest.now c.in-Some.block.now c.in-Some.more.now _ c.in-Some.ensures.cases (sym c.all_printable.ensures ∙ c.if-not-all_printable.false) l.invariant

pub overflow_add-result : goal.overflow_add-result
overflow_add-result c =
    let front = c.front_len.ensures printable (λ b r e. e) in
    omega (arith, run_within printable c.loop-block.rest.now, front)
