-- `tree::Tree::child` meets its contract.
use mathlib.Core.Path.{refl}
use native.Mathlib.Omega.{arith}
use Rattle.tree.proofs.RecordLaws.{next_bytes}
use Rattle.tree.proofs.StepLaws.{record_short, child_start, child_found, child_again, child_none, child_within}
use Rattle.tree.proofs.Tree.child.Goals as goal

pub loop-k-init : goal.loop-k-init
loop-k-init c = let a = c.args in let t = a.self in child_start t.bytes.now _ t.good refl a.node a.tag.now a.number

pub invariant_of-r : goal.invariant_of-r
invariant_of-r c =
    let t = c.args.self in
    let e = c.records-r-items.ensures in
    record { short = record_short t.bytes.now c.loop-k.k _ _ t.good refl (omega arith) (next_bytes t.bytes.now _ c.loop-k.k e.0 (omega arith)) }

pub returns-then-is_named : goal.returns-then-is_named
returns-then-is_named c =
    let a = c.args in
    let t = a.self in
    let l = c.loop-k in
    let e = c.records-r-items.ensures in (
      child_within t.bytes.now _ t.good refl l.k (omega arith),
      child_found t.bytes.now _ t.good refl a.node a.tag.now a.number l.k l.invariant _ _ (omega arith) (next_bytes t.bytes.now _ l.k e.0 (omega arith)) c.is_named.ensures c.if-is_named.true,
    )

pub loop-k-preserved : goal.loop-k-preserved
loop-k-preserved c =
    let a = c.args in
    let t = a.self in
    let l = c.loop-k in
    let e = c.records-r-items.ensures in
    child_again t.bytes.now _ t.good refl a.node a.tag.now a.number l.k l.invariant _ _ (omega arith) (next_bytes t.bytes.now _ l.k e.0 (omega arith)) c.is_named.ensures c.if-is_named.false

pub returns : goal.returns
returns c =
    let a = c.args in
    let t = a.self in
    let l = c.loop-k in
    child_none t.bytes.now _ t.good refl a.node a.tag.now a.number l.k l.invariant (omega (arith, c.records-r-items.ensures.1))
