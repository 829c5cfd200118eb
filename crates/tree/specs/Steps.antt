-- Resolving as the code goes: one record, one segment and one answer at a time. proofs/StepLaws, FollowLaws and GiveLaws have it that these are those of specs/Resolve.
use Rattle.std.specs.Prelude.{ℕ, ◌+◌, ◌≤◌, List, [], ◌∷◌, Bool, cond, length, take, drop, leb, ltb, Result, Ok, Err}
use Rattle.text.specs.Lists.{parts}
use Rattle.forms.specs.Targets.{is_separator}
use Rattle.tree.specs.declared.Spot.{Spot}
use Rattle.tree.specs.declared.Spot.TheVariants.{Node, Tagged}
use Rattle.tree.specs.Tree.{records, check_tree}
use Rattle.tree.specs.Resolve.{Instances, nodes, unresolved, starred, along}
use Rattle.text.specs.Room.{refusal_at}
use Rattle.text.specs.declared.Refusal.{Refusal}

-- the first of some nodes, 0 where there is none
abbrev pub first_of : List ℕ → ℕ
first_of [] = 0
first_of (m ∷ ms) = m

-- a node that is kept or not
abbrev pub kept : Bool → ℕ → List ℕ
kept b k = cond b (k ∷ []) []

-- 15 and 16
abbrev pub verdict_by : Result Unit ℕ → List ℕ → ℕ → Result Unit Refusal
verdict_by (Err p) t d = Err (refusal_at 15 p)
verdict_by (Ok u) t d = cond (ltb (records t) d) (Err (refusal_at 16 0)) (Ok tt)

unfoldable pub verdict_of : List ℕ → ℕ → Result Unit Refusal
verdict_of t d = verdict_by (check_tree t) t d

-- the segments of a text from a place on; past its end there are none
unfoldable pub segments_from : List ℕ → ℕ → List (List ℕ)
segments_from text at = cond (leb at (length text)) (parts is_separator (drop at text)) []

-- what they lead to from node n
unfoldable pub along_from : List ℕ → List ℕ → ℕ → ℕ → Instances
along_from text t n at = along t n at (segments_from text at)

-- what the code finds at a path's end
abbrev pub instances_at : List ℕ → List ℕ → Result Spot Refusal → Instances
instances_at text t (Ok (Node n)) = nodes (n ∷ [])
instances_at text t (Ok (Tagged n at len)) = starred t n at (take len (drop at text))
instances_at text t (Err e) = unresolved e.number e.place

-- and that it lies within the tree and the text
abbrev pub Within : List ℕ → List ℕ → Result Spot Refusal → Type 0
Within text t (Ok (Node n)) = n ≤ records t
Within text t (Ok (Tagged n at len)) = at + len ≤ length text
Within text t (Err e) = Unit {0}
