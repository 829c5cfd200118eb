-- `tree::Record::same_node` meets its contract.
use mathlib.Core.Path.{◌∙◌}
use borrow.Author.Tests.{ne_eqb}
use Rattle.tree.proofs.CheckLaws.{other_parent, by_segment}
use Rattle.tree.proofs.Record.same_node.Goals as goal

pub returns-then-pair-parent : goal.returns-then-pair-parent
returns-then-pair-parent c = by_segment c.args.a.now c.args.self.bytes.now _ _ _ c.pair.ensures c.requires c.if-pair-parent.true c.same_segment.ensures

pub returns-else-pair-parent : goal.returns-else-pair-parent
returns-else-pair-parent c =
    let differ = c.if-pair-parent.false in
    ne_eqb _ _ differ ∙ other_parent c.args.a.now c.args.self.bytes.now _ _ c.pair.ensures c.requires differ
