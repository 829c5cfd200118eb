-- `tree::Tree::count_tagged` meets its contract.
use mathlib.Core.Path.{refl, ◌∙◌}
use native.Mathlib.Omega.{arith}
use Rattle.tree.proofs.RecordLaws.{next_bytes}
use Rattle.tree.proofs.StepLaws.{record_short}
use Rattle.tree.proofs.GiveLaws.{count_start, count_again, count_end, count_few, counted}
use Rattle.tree.proofs.Tree.count_tagged.Goals as goal

pub loop-r-init : goal.loop-r-init
loop-r-init c = let a = c.args in let t = a.self in (omega arith, count_start t.bytes.now _ t.good refl a.node a.tag.now)

pub invariant_of-r : goal.invariant_of-r
invariant_of-r c =
    let t = c.args.self in
    let l = c.loop-r in
    record { short = record_short t.bytes.now l.r-index _ _ t.good refl (omega arith) (next_bytes t.bytes.now _ l.r-index c.records-r-items.ensures.0 (omega arith)) }

pub loop-r-preserved : goal.loop-r-preserved
loop-r-preserved c =
    let a = c.args in
    let t = a.self in
    let l = c.loop-r in
    let more = c.from-found in
    let one = more.ensures ∙ counted c.is_tagged.result in (
      count_few _ _ _ _ l.invariant.0 one,
      count_again t.bytes.now _ t.good refl a.node a.tag.now l.r-index _ _ (omega arith) (next_bytes t.bytes.now _ l.r-index c.records-r-items.ensures.0 (omega arith)) c.is_tagged.ensures l.found more.result one l.invariant.1,
    )

pub returns : goal.returns
returns c =
    let a = c.args in
    let t = a.self in
    let l = c.loop-r in
    count_end t.bytes.now _ t.good refl a.node a.tag.now l.r-index l.found (omega (arith, c.records-r-items.ensures.1)) l.invariant.1
