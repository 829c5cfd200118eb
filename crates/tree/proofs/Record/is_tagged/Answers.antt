-- `tree::Record::is_tagged` meets its contract.
use mathlib.Core.Path.{◌∙◌}
use borrow.Author.Tests.{ne_eqb}
use Rattle.tree.proofs.StepLaws.{other_parent, by_tag}
use Rattle.tree.proofs.Record.is_tagged.Goals as goal

pub returns-then-parent-node : goal.returns-then-parent-node
returns-then-parent-node c = by_tag c.args.self.bytes.now c.args.node c.args.tag.now _ _ _ c.parent.ensures c.if-parent-node.true c.tag.ensures c.same.ensures

pub returns-else-parent-node : goal.returns-else-parent-node
returns-else-parent-node c = ne_eqb _ _ c.if-parent-node.false ∙ other_parent c.args.self.bytes.now c.args.node c.args.tag.now _ c.parent.ensures c.if-parent-node.false
