-- `tree::Record::tag` meets its contract.
use Rattle.tree.proofs.CheckLaws.{tag_part}
use Rattle.tree.proofs.Record.tag.Goals as goal

pub returns : goal.returns
returns c = tag_part c.args.self.bytes.now _ c.from.ensures
