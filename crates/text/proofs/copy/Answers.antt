use Rattle.std.proofs.Common.{ℕ, ◌+◌, List, arith, sym, ap, ◌∙◌, get_or}
use lib.ListN.{set, length-set}
use Rattle.text.proofs.Writes.{sets_past, sets_cut, copy_more}
use Rattle.text.proofs.copy.Goals as goal

pub loop-i-preserved : goal.loop-i-preserved
loop-i-preserved c =
    let l = c.loop-i in
    let a = c.args in (
      length-set l.out (a.at + l.i) (get_or a.src.now l.i 0) ∙ l.invariant.0,
      ap (λ (d : List ℕ). set d (a.at + l.i) (get_or a.src.now l.i 0)) l.invariant.1 ∙ copy_more a.src.now a.out.now a.at l.i 0 (omega arith),
    )

pub returns-after-loop-i : goal.returns-after-loop-i
returns-after-loop-i c =
    let l = c.loop-i in
    let a = c.args in
    l.invariant.1 ∙ sets_cut a.src.now a.out.now a.at _ (omega arith)

pub returns-else-at-out : goal.returns-else-at-out
returns-else-at-out c = sym (sets_past c.args.src.now c.args.out.now c.args.at c.if-at-out.false)
