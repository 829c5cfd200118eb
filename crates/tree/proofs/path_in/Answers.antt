-- `tree::path_in` meets its contract.
use borrow.Author.Rules.{rules}
use Rattle.tree.proofs.UpLaws.{none_answer, none_room, small_root, small_root_room, root_answer, root_room, small_node, small_node_room, node_answer, node_room}
use Rattle.tree.proofs.path_in.Goals as goal

pub returns-then-count-k : goal.returns-then-count-k
returns-then-count-k c = let h = rw c.count.ensures at c.if-count-k.true in (search (none_answer, h, rules), search (none_room, h, rules))

pub returns-then-out-lt1 : goal.returns-then-out-lt1
returns-then-out-lt1 c = let h = rw c.count.ensures at c.if-count-k.false in (search (small_root, h, rules), search (small_root_room, h, rules))

pub returns-then-k-eq0 : goal.returns-then-k-eq0
returns-then-k-eq0 c = let h = rw c.count.ensures at c.if-count-k.false in (search (root_answer, h, rules), search (root_room, h, rules))

pub returns-then-out-n : goal.returns-then-out-n
returns-then-out-n c = let h = rw c.count.ensures at c.if-count-k.false in (search (small_node, h, rules), search (small_node_room, h, rules))

pub returns : goal.returns
returns c = let h = rw c.count.ensures at c.if-count-k.false in (search (node_answer, h, rules), search (node_room, h, rules))
