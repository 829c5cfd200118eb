-- `tree::give_one` meets its contract.
use borrow.Author.Rules.{rules}
use Rattle.tree.proofs.GiveLaws.{one_refused, one_unchanged, one_given, one_put}
use Rattle.tree.proofs.give_one.Goals as goal

pub returns-then-list-lt1 : goal.returns-then-list-lt1
returns-then-list-lt1 c = (search (one_refused, rules), search (one_unchanged, rules))

pub returns : goal.returns
returns c = (search (one_given, rules), search (one_put, rules))
