-- `tree::Tree::write_path` meets its contract.
use Rattle.tree.proofs.Tree.+write_path.Given as goal

abbrev pub decreases-write_path : goal.decreases-write_path
decreases-write_path l = l.k
