-- The full path of a node, written by going from parent to parent up to the root; the root's own is `/`.
use Rattle.std.specs.Prelude.{ℕ, zero, suc, List, [], ◌∷◌, ◌++◌, cond, ltb, eqb, Result, Err, Ok}
use Rattle.text.specs.Decimal.{digits}
use Rattle.text.specs.Room.{fitted, filled, refusal_at}
use Rattle.tree.specs.Tree.{records, check_tree, parent, tag, number}
use Rattle.text.specs.declared.Refusal.{Refusal}

-- a node as a segment: its tag and its number
unfoldable pub segment : List ℕ → ℕ → List ℕ
segment t k = tag t k ++ digits (number t k)

-- a separator before each segment, from the root down; at most f steps up
unfoldable pub path_up : ℕ → List ℕ → ℕ → List ℕ
path_up zero t k = []
path_up (suc f) t k =
    let up = path_up f t (parent t k) in
    cond (eqb k 0) [] (up ++ (47 ∷ segment t k))

-- a parent is lower, so as many steps as the node's number reach the root
unfoldable pub full_path : List ℕ → ℕ → List ℕ
full_path t k = cond (eqb k 0) (47 ∷ []) (path_up k t k)

-- 15, then 16, then 19; the answer, and what the room then holds
abbrev pub path_by : Result Unit ℕ → ℕ → List ℕ → ℕ → Result ℕ Refusal
path_by (Err p) room t k = Err (refusal_at 15 p)
path_by (Ok u) room t k = cond (ltb (records t) k) (Err (refusal_at 16 0)) (fitted room (full_path t k))

unfoldable pub path_answer : ℕ → List ℕ → ℕ → Result ℕ Refusal
path_answer room t k = path_by (check_tree t) room t k

abbrev pub path_room_by : Result Unit ℕ → List ℕ → List ℕ → ℕ → List ℕ
path_room_by (Err p) room t k = room
path_room_by (Ok u) room t k = cond (ltb (records t) k) room (filled room (full_path t k))

unfoldable pub path_room : List ℕ → List ℕ → ℕ → List ℕ
path_room room t k = path_room_by (check_tree t) room t k
