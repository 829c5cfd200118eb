use Rattle.std.proofs.Common.{rules, ap, sym, ◌∙◌, ℕ, ◌+◌}
use native.Mathlib.Nat.{add-zero}
use lib.ListN.{drop_of_length-le}
use lib.Seq.{sets}
use Rattle.joiner.proofs.Blocks.{put_more}
use Rattle.joiner.proofs.put.Goals as goal

pub loop-k-init : goal.loop-k-init
loop-k-init c = let a = c.args in ap (λ (n : ℕ). sets a.buffer.now n a.block) (sym (add-zero a.at))

pub loop-k-preserved : goal.loop-k-preserved
loop-k-preserved c = let l = c.loop-k in l.invariant ∙ put_more l.buffer _ c.args.at l.k (search rules)

pub returns : goal.returns
returns c =
    let l = c.loop-k in
    let a = c.args in
    sym (l.invariant ∙ ap (sets l.buffer (a.at + l.k)) (drop_of_length-le _ {i = l.k} (search rules)))
