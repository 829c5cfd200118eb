-- `replying::copy_within` meets its contract.
use Rattle.std.proofs.Common.{ℕ, ◌+◌, List, get_or, sym, ap, ◌∙◌}
use lib.ListN.{set, length-set}
use lib.Seq.{sets, take_all}
use Rattle.text.proofs.Writes.{copy_more}
use Rattle.text.proofs.Scans.{any_kept, any_ended}
use Rattle.replies.specs.Lines.{is_end}
use Rattle.replying.proofs.copy_within.Goals as goal

pub loop-i-preserved : goal.loop-i-preserved
loop-i-preserved c =
    let l = c.loop-i in
    let v = c.args.v.now in
    let at = c.args.at in (
      length-set l.out (at + l.i) _ ∙ l.invariant.0,
      any_kept is_end v l.i l.any c.is_end-any.result c.loop-i-test.true c.is_end-any.ensures ∙ l.invariant.1,
      ap (λ (o : List ℕ). set o (at + l.i) (get_or v l.i 0)) l.invariant.2 ∙ copy_more v c.args.out.now at l.i 0 c.loop-i-test.true,
    )

pub returns : goal.returns
returns c =
    let l = c.loop-i in
    let v = c.args.v.now in
    (sym (any_ended is_end v l.i l.any c.loop-i-test.false) ∙ l.invariant.1, l.invariant.2 ∙ ap (sets c.args.out.now c.args.at) (take_all l.i v c.loop-i-test.false))
