-- `tree::give_tagged` meets its contract.
use borrow.Author.Rules.{rules}
use Rattle.tree.proofs.GiveLaws.{none_given, none_put, star_refused, star_unchanged, star_given, star_put}
use Rattle.tree.proofs.give_tagged.Goals as goal

pub returns-then-n-eq0 : goal.returns-then-n-eq0
returns-then-n-eq0 c = (search (none_given, rules), search (none_put, rules))

pub returns-then-list-n : goal.returns-then-list-n
returns-then-list-n c = (search (star_refused, rules), search (star_unchanged, rules))

pub returns : goal.returns
returns c = (search (star_given, rules), search (star_put, rules))
