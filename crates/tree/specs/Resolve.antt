-- The instances that a target's text addresses in a tree, from a default target.
use Rattle.std.specs.Prelude.{ℕ, zero, suc, ◌+◌, List, [], ◌∷◌, Bool, true, false, cond, ◌&&◌, length, ltb, leb, eqb, Result, Ok, Err}
use Rattle.std.proofs.Math.Option.{Option, none, some}
use Rattle.text.specs.Bytes.{same_bytes}
use Rattle.text.specs.Room.{filled, refusal_at}
use Rattle.forms.specs.Targets.{Segment, here, above, child, children, segment_of, Target, session, path, target_of}
use Rattle.reach.specs.declared.Form.TheVariants as form
use Rattle.reach.specs.Reach.{reach_of}
use Rattle.tree.specs.declared.Resolved.{Resolved}
use Rattle.tree.specs.declared.Resolved.TheVariants as resolved
use Rattle.tree.specs.Tree.{parent_in, number_in, tag_in, records, check_tree, record_at, parent}
use Rattle.text.specs.declared.Refusal.{Refusal}

-- ---- children

-- of the m nodes from k on, those that pass the test, in record order
unfoldable pub nodes_from : (ℕ → Bool) → ℕ → ℕ → List ℕ
nodes_from f k zero = []
nodes_from f k (suc m) = let rest = nodes_from f (suc k) m in cond (f k) (k ∷ rest) rest

-- is the record that r begins with a child of node n with this tag; and with this number?
unfoldable pub tagged_in : List ℕ → ℕ → List ℕ → Bool
tagged_in r n a = eqb (parent_in r) n && same_bytes (tag_in r) a

unfoldable pub named_in : List ℕ → ℕ → List ℕ → ℕ → Bool
named_in r n a i = eqb (number_in r) i && tagged_in r n a

-- is node k?
unfoldable pub is_tagged : List ℕ → ℕ → List ℕ → ℕ → Bool
is_tagged t n a k = tagged_in (record_at t k) n a

unfoldable pub is_named : List ℕ → ℕ → List ℕ → ℕ → ℕ → Bool
is_named t n a i k = named_in (record_at t k) n a i

-- A starred tag gives all children with that tag, in record order.
unfoldable pub tagged_under : List ℕ → ℕ → List ℕ → List ℕ
tagged_under t n a = nodes_from (is_tagged t n a) 1 (records t)

-- the child with this tag and number
unfoldable pub named_under : List ℕ → ℕ → List ℕ → ℕ → List ℕ
named_under t n a i = nodes_from (is_named t n a i) 1 (records t)

-- ---- along the path

-- a session, some nodes, or one refusal
pub data Instances : Type 0 where
  session' : Instances
  nodes : List ℕ → Instances
  unresolved : ℕ → ℕ → Instances

-- 18: no such child, at the start of its segment
abbrev pub or_none : ℕ → List ℕ → (ℕ → List ℕ → Instances) → Instances
or_none p [] f = unresolved 18 p
or_none p (m ∷ ms) f = f m ms

-- all children of n with a tag that stands at place p
abbrev pub starred : List ℕ → ℕ → ℕ → List ℕ → Instances
starred t n p a = or_none p (tagged_under t n a) (λ m ms. nodes (m ∷ ms))

-- one segment, at place p, from node n; 17: `..` at the root, at the start of its segment. A text that is of its form has no segment of no form.
abbrev pub segment_step : List ℕ → ℕ → ℕ → Option Segment → (ℕ → Instances) → Instances
segment_step t n p none f = unresolved 12 0
segment_step t n p (some here) f = f n
segment_step t n p (some above) f = cond (eqb n 0) (unresolved 17 p) (f (parent t n))
segment_step t n p (some (child a i)) f = or_none p (named_under t n a i) (λ m ms. f m)
segment_step t n p (some (children a)) f = starred t n p a

unfoldable pub along : List ℕ → ℕ → ℕ → List (List ℕ) → Instances
along t n p [] = nodes (n ∷ [])
along t n p (s ∷ ss) = segment_step t n p (segment_of s) (λ m. along t m (p + length s + 1) ss)

-- ---- resolving

-- 15: tree malformed; 16: default target is no node
abbrev pub in_tree : Result Unit ℕ → List ℕ → ℕ → Instances → Instances
in_tree (Err p) t d f = unresolved 15 p
in_tree (Ok u) t d f = cond (ltb (records t) d) (unresolved 16 0) f

-- A path starts at the root with a leading separator, otherwise at the default target.
abbrev pub from : List ℕ → ℕ → Target → Instances
from t d session = session'
from t d (path true ss) = along t 0 1 ss
from t d (path false ss) = along t d 0 ss

-- 12 first: its term is the whole text, and its place the end of the longest beginning of it that is also a beginning of some target (request c; reach/proofs/Longest)
abbrev pub or_form : List ℕ → Option Target → List ℕ → ℕ → Instances
or_form text none t d = unresolved 12 (reach_of form.Target text)
or_form text (some g) t d = in_tree (check_tree t) t d (from t d g)

-- Empty text means the default target.
unfoldable pub instances_of : List ℕ → List ℕ → ℕ → Instances
instances_of [] t d = in_tree (check_tree t) t d (nodes (d ∷ []))
instances_of (b ∷ s) t d = or_form (b ∷ s) (target_of (b ∷ s)) t d

-- ---- the answer, and the lent list: node numbers at its start, its other places unchanged; 19 last

abbrev pub resolved_by : ℕ → Instances → Result Resolved Refusal
resolved_by room session' = Ok resolved.Session
resolved_by room (nodes ms) = cond (leb (length ms) room) (Ok (resolved.Nodes (length ms))) (Err (refusal_at 19 0))
resolved_by room (unresolved n p) = Err (refusal_at n p)

abbrev pub list_by : List ℕ → Instances → List ℕ
list_by room session' = room
list_by room (nodes ms) = filled room ms
list_by room (unresolved n p) = room

unfoldable pub resolve_of : ℕ → List ℕ → List ℕ → ℕ → Result Resolved Refusal
resolve_of room text t d = resolved_by room (instances_of text t d)

unfoldable pub resolve_list : List ℕ → List ℕ → List ℕ → ℕ → List ℕ
resolve_list room text t d = list_by room (instances_of text t d)
