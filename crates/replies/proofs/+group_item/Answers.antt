-- `replies::group` and `replies::item` meet their contracts. Assumes nothing.
use Rattle.replies.proofs.RunLaws.{run_past}
use Rattle.replies.proofs.+group_item.Goals as goal

pub item-returns-then-s-at : goal.item-returns-then-s-at
item-returns-then-s-at t c = (run_past c.args.s.now c.args.at c.args.depth c.args.w c.args.out.now c.if-s-at.true, tt)
