-- `tree::verdict` meets its contract.
use borrow.Author.Rules.{rules}
use Rattle.tree.proofs.GiveLaws.{flawed_tree, flawed_node, fine_tree}
use Rattle.tree.proofs.verdict.Goals as goal

pub returns-then-nodes-default : goal.returns-then-nodes-default
returns-then-nodes-default c = search (flawed_node, rules)

pub returns-in-Err : goal.returns-in-Err
returns-in-Err c = search (flawed_tree, rules)

pub returns : goal.returns
returns c = search (fine_tree, rules)
