-- What the laws of resolving speak of: the segments on the way to a node, and lists in record order.
use Rattle.std.specs.Prelude.{ℕ, zero, suc, List, [], ◌∷◌, ◌++◌, Bool, true, cond, ◌&&◌, eqb, ltb}
use Rattle.tree.specs.Tree.{parent}
use Rattle.tree.specs.Path.{segment}

-- the segments on the way up from a node, from the root down; at most f steps up
unfoldable pub ways_up : ℕ → List ℕ → ℕ → List (List ℕ)
ways_up zero t k = []
ways_up (suc f) t k =
    let up = ways_up f t (parent t k) in
    cond (eqb k 0) [] (up ++ (segment t k ∷ []))

-- the segments of a node's full path
unfoldable pub segments_to : List ℕ → ℕ → List (List ℕ)
segments_to t k = ways_up k t k

-- each above the one before it, the first above k
unfoldable pub ascends : ℕ → List ℕ → Bool
ascends k [] = true
ascends k (m ∷ ms) = ltb k m && ascends m ms
