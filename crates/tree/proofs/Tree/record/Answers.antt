-- `tree::Tree::record` meets its contract.
use native.Mathlib.Omega.{arith}
use Rattle.tree.proofs.GoodLaws.{good_whole}
use Rattle.tree.proofs.UpLaws.{node_short}
use Rattle.tree.proofs.RecordLaws.{node_bytes}
use Rattle.tree.proofs.Tree.record.Goals as goal

pub bounds-records-k : goal.bounds-records-k
bounds-records-k c = let t = c.args.self in omega (arith, good_whole t.bytes.now t.good, c.records.ensures.1)

pub invariant_of-result : goal.invariant_of-result
invariant_of-result c =
    let t = c.args.self in
    record { short = node_short t.bytes.now c.args.k t.good c.requires.0 c.requires.1 _ (node_bytes t.bytes.now _ c.args.k c.records.ensures.0 c.requires.0 (omega (arith, good_whole t.bytes.now t.good))) }

pub returns : goal.returns
returns c =
    let t = c.args.self in
    node_bytes t.bytes.now _ c.args.k c.records.ensures.0 c.requires.0 (omega (arith, good_whole t.bytes.now t.good))
