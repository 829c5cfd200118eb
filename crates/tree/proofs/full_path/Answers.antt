-- `tree::full_path` meets its contract.
use borrow.Author.Rules.{rules}
use Rattle.tree.proofs.UpLaws.{bad_answer, bad_room}
use Rattle.tree.proofs.full_path.Goals as goal

pub returns-in-Err : goal.returns-in-Err
returns-in-Err c = (search (bad_answer, rules), search (bad_room, rules))
