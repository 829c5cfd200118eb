-- `tree::Tree::put_tagged` meets its contract.
use mathlib.Core.Path.{◌≡◌, refl, ◌∙◌}
use Prim.Native.Nat.{◌+◌}
use lib.ListN.{length}
use lib.Seq.{sets}
use Rattle.tree.specs.Steps.{kept}
use native.Mathlib.Omega.{arith}
use Rattle.tree.proofs.RecordLaws.{next_bytes}
use Rattle.tree.proofs.StepLaws.{record_short}
use Rattle.tree.proofs.GiveLaws.{put_start, put_again, put_end, place_few, place_again, kept_place, kept_put, left_place, left_put}
use Rattle.tree.proofs.Tree.put_tagged.Goals.{then-is_tagged, else-is_tagged}
use Rattle.tree.proofs.Tree.put_tagged.Goals as goal

pub loop-k-init : goal.loop-k-init
loop-k-init c = let a = c.args in let t = a.self in (omega arith, put_start t.bytes.now _ t.good refl a.node a.tag.now a.list.now)

pub overflow_cast-k : goal.overflow_cast-k
overflow_cast-k c = let t = c.args.self in omega (arith, place_few t.bytes.now _ t.good refl, c.records-r-items.ensures.1)

pub invariant_of-r : goal.invariant_of-r
invariant_of-r c =
    let t = c.args.self in
    let l = c.loop-k in
    record { short = record_short t.bytes.now l.k _ _ t.good refl (omega arith) (next_bytes t.bytes.now _ l.k c.records-r-items.ensures.0 (omega arith)) }

pub loop-k-preserved : goal.loop-k-preserved
loop-k-preserved c =
    let a = c.args in
    let t = a.self in
    let l = c.loop-k in
    let j = c.if-is_tagged in
    let place : j.at ≡ l.at + length (kept c.is_tagged.result (l.k + 1)) = elim j.branch [
      | then-is_tagged w ↦ w.at-is ∙ kept_place _ (l.k + 1) l.at w.if-is_tagged.true
      | else-is_tagged w ↦ w.at-is ∙ left_place _ (l.k + 1) l.at w.if-is_tagged.false
    ] in
    let wrote : j.list ≡ sets l.list l.at (kept c.is_tagged.result (l.k + 1)) = elim j.branch [
      | then-is_tagged w ↦ w.list-is ∙ kept_put _ (l.k + 1) l.at l.list _ w.if-is_tagged.true w.put.ensures
      | else-is_tagged w ↦ w.list-is ∙ left_put _ (l.k + 1) l.at l.list w.if-is_tagged.false
    ] in (
      place_again _ _ _ _ _ l.invariant.0 place,
      put_again t.bytes.now _ t.good refl a.node a.tag.now l.k _ _ (omega arith) (next_bytes t.bytes.now _ l.k c.records-r-items.ensures.0 (omega arith)) c.is_tagged.ensures a.list.now _ l.list l.at _ l.invariant.1 place wrote,
    )

pub returns : goal.returns
returns c =
    let a = c.args in
    let t = a.self in
    let l = c.loop-k in
    put_end t.bytes.now _ t.good refl a.node a.tag.now a.list.now l.list l.k l.at (omega (arith, c.records-r-items.ensures.1)) l.invariant.1
