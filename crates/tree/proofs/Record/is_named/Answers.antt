-- `tree::Record::is_named` meets its contract.
use mathlib.Core.Path.{◌∙◌}
use borrow.Author.Tests.{ne_eqb}
use Rattle.tree.proofs.StepLaws.{other_number, by_number}
use Rattle.tree.proofs.Record.is_named.Goals as goal

pub returns-then-number : goal.returns-then-number
returns-then-number c = by_number c.args.self.bytes.now c.args.node c.args.tag.now c.args.number _ _ c.number.ensures c.if-number.true c.is_tagged.ensures

pub returns-else-number : goal.returns-else-number
returns-else-number c = ne_eqb _ _ c.if-number.false ∙ other_number c.args.self.bytes.now c.args.node c.args.tag.now c.args.number _ c.number.ensures c.if-number.false
