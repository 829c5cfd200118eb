-- `tree::Tree::path_len` meets its contract.
use Rattle.tree.proofs.Tree.+path_len.Given as goal

abbrev pub decreases-path_len : goal.decreases-path_len
decreases-path_len l = l.k
