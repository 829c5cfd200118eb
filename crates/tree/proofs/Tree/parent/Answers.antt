-- `tree::Tree::parent` meets its contract.
use Rattle.tree.proofs.UpLaws.{node_parent, node_lower}
use Rattle.tree.proofs.Tree.parent.Goals as goal

pub returns : goal.returns
returns c =
    let t = c.args.self in (
      node_parent t.bytes.now c.args.k t.good c.requires.0 c.requires.1 _ c.record.ensures _ c.parent.ensures,
      node_lower t.bytes.now c.args.k t.good c.requires.0 c.requires.1 _ c.record.ensures _ c.parent.ensures,
    )
