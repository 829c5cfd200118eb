-- Request c, of a text that is resolved: it is refused as 12 exactly where it is no target, and then at the end of its longest beginning that is also a beginning of
-- some target. Assumes nothing.
use Prim.Native.Nat.{ℕ, ◌+◌}
use mathlib.Core.Path.{◌≡◌, refl, sym, ap, ◌∙◌}
use mathlib.Core.List.{List, [], ◌∷◌}
use mathlib.Core.Bool.{Bool, true, false, cond, ◌||◌}
use mathlib.Core.Option.{Option, none, some}
use lib.ListN.{length}
use lib.Dec.{eqb, leb, ltb}
use native.Mathlib.Omega.{arith}
use borrow.Author.Tests.{eq-eqb}
use Rattle.text.specs.Lists.{is_nil, parts}
use Rattle.text.proofs.Tests.{and_l, and_r, no_case}
use Rattle.forms.specs.Targets.{is_segment, is_starred, are_segments, Segment, here, above, child, children, segment_of, Target, target_of, is_separator}
use Rattle.forms.specs.Answers.{is_some, piece_of}
use Rattle.forms.specs.Steps.{is_last}
use Rattle.forms.proofs.SegmentLaws.{last_by}
use Rattle.forms.proofs.FormCases.{target_from}
use Rattle.reach.specs.declared.Form.TheVariants as form
use Rattle.reach.specs.Beginnings.{Longest}
use Rattle.reach.specs.Forms.{is_of}
use Rattle.reach.specs.Reach.{reach_of}
use Rattle.reach.proofs.Far.{longest_only}
use Rattle.reach.proofs.Longest.{longest}
use Rattle.tree.specs.declared.Resolved.TheVariants as resolved
use Rattle.tree.specs.Tree.{records, parent, check_tree}
use Rattle.tree.specs.Resolve.{tagged_under, named_under, Instances, session', nodes, unresolved, or_none, segment_step, along, in_tree, from, or_form, instances_of, resolved_by, resolve_of}
use Rattle.text.proofs.Refusals.{same_number, same_place}
use Rattle.std.proofs.Common.{Result, Ok, Err}
use Rattle.text.specs.Room.{refusal_at}

-- ---- a target is not refused as 12

abbrev is_twelve : Instances → Bool
is_twelve session' = false
is_twelve (nodes ms) = false
is_twelve (unresolved n p) = eqb n 12

-- a segment of a path is one
segment_some : (s : List ℕ) → is_segment s || is_starred s ≡ true → is_some (segment_of s) ≡ true
segment_some s e = go (segment_of s) (last_by 0 s ∙ e)
  where
    go : (o : Option Segment) → is_last (piece_of 0 o) ≡ true → is_some o ≡ true
    go none h = no_case (sym h)
    go (some g) h = refl

or_not : (p : ℕ) (l : List ℕ) (f : ℕ → List ℕ → Instances) → ((m : ℕ) (ms : List ℕ) → is_twelve (f m ms) ≡ false) → is_twelve (or_none p l f) ≡ false
or_not p [] f h = refl
or_not p (m ∷ ms) f h = h m ms

step_not : (t : List ℕ) (n p : ℕ) (o : Option Segment) (f : ℕ → Instances) → is_some o ≡ true → ((m : ℕ) → is_twelve (f m) ≡ false) → is_twelve (segment_step t n p o f) ≡ false
step_not t n p none f e h = no_case (sym e)
step_not t n p (some here) f e h = h n
step_not t n p (some above) f e h = go (eqb n 0)
  where
    go : (x : Bool) → is_twelve (cond x (unresolved 17 p) (f (parent t n))) ≡ false
    go true = refl
    go false = h (parent t n)
step_not t n p (some (child a i)) f e h = or_not p (named_under t n a i) (λ m ms. f m) (λ m ms. h m)
step_not t n p (some (children a)) f e h = or_not p (tagged_under t n a) (λ m ms. nodes (m ∷ ms)) (λ m ms. refl)

along_not : (t : List ℕ) (n p : ℕ) (ss : List (List ℕ)) → are_segments ss ≡ true → is_twelve (along t n p ss) ≡ false
unfolding along are_segments
along_not t n p [] e = no_case (sym e)
along_not t n p (s ∷ []) e = step_not t n p (segment_of s) (λ m. nodes (m ∷ [])) (segment_some s e) (λ m. refl)
along_not t n p (s ∷ r ∷ rs) e =
    step_not t n p (segment_of s) (λ m. along t m (p + length s + 1) (r ∷ rs))
    (segment_some s (ap (λ (x : Bool). x || is_starred s) (and_l (is_segment s) (are_segments (r ∷ rs)) e)))
    (λ m. along_not t m (p + length s + 1) (r ∷ rs) (and_r (is_segment s) (are_segments (r ∷ rs)) e))

tree_not : (c : Result Unit ℕ) (t : List ℕ) (d : ℕ) (f : Instances) → is_twelve f ≡ false → is_twelve (in_tree c t d f) ≡ false
tree_not (Err p) t d f e = refl
tree_not (Ok u) t d f e = go (ltb (records t) d)
  where
    go : (x : Bool) → is_twelve (cond x (unresolved 16 0) f) ≡ false
    go true = refl
    go false = e

target_not : (text t : List ℕ) (d : ℕ) (g : Target) → target_of text ≡ some g → is_twelve (from t d g) ≡ false
unfolding along
target_not text t d =
    target_from (λ _ g. is_twelve (from t d g) ≡ false) (λ _ _. refl) (λ _ _. refl) (λ _ s _ e _. along_not t 0 1 (parts is_separator s) e)
    (λ s e _. along_not t d 0 (parts is_separator s) e) text

twelve_not : (room : ℕ) (f : Instances) (p : ℕ) → is_twelve f ≡ false → resolved_by room f ≡ Err (refusal_at 12 p) → ⊥
twelve_not room session' p e h = let z : ◌≡◌ {A = ℕ} 0 1 = cc in omega arith
twelve_not room (nodes ms) p e h = go (leb (length ms) room) h
  where
    go : (x : Bool) → cond x (Ok (resolved.Nodes (length ms))) (Err (refusal_at 19 0)) ≡ Err (refusal_at 12 p) → ⊥
    go true h = let z : ◌≡◌ {A = ℕ} 0 1 = cc in omega arith
    go false h = let z : ◌≡◌ {A = ℕ} 19 12 = same_number h in omega arith
twelve_not room (unresolved n q) p e h = let z : n ≡ 12 = same_number h in no_case (sym (eq-eqb n 12 z) ∙ e)

-- ---- exactly where

-- A TEXT THAT IS NO TARGET is refused as 12, at the end of its longest beginning; the empty text means the default target
pub no_target : (room : ℕ) (text t : List ℕ) (d p : ℕ) → is_nil text ≡ false → is_of form.Target text ≡ false → Longest (is_of form.Target) text p → resolve_of room text t d ≡ Err (refusal_at 12 p)
unfolding resolve_of instances_of
no_target room [] t d p n e l = no_case n
no_target room (b ∷ s) t d p n e l = go (target_of (b ∷ s)) e
  where
    go : (o : Option Target) → is_some o ≡ false → resolved_by room (or_form (b ∷ s) o t d) ≡ Err (refusal_at 12 p)
    go none e = ap (λ (p : ℕ). Err (refusal_at 12 p)) (longest_only (is_of form.Target) (b ∷ s) (reach_of form.Target (b ∷ s)) p (longest form.Target (b ∷ s)) l)
    go (some g) e = no_case e

-- WHAT IS REFUSED AS 12 is no target, and the place is the end of its longest beginning
pub twelve_at : (room : ℕ) (text t : List ℕ) (d p : ℕ) → resolve_of room text t d ≡ Err (refusal_at 12 p) → (is_of form.Target text ≡ false) × Longest (is_of form.Target) text p
unfolding resolve_of instances_of
twelve_at room [] t d p h = absurd (twelve_not room (in_tree (check_tree t) t d (nodes (d ∷ []))) p (tree_not (check_tree t) t d (nodes (d ∷ [])) refl) h)
twelve_at room (b ∷ s) t d p h = go (target_of (b ∷ s)) refl h
  where
    go : (o : Option Target) → target_of (b ∷ s) ≡ o → resolved_by room (or_form (b ∷ s) o t d) ≡ Err (refusal_at 12 p) → (is_of form.Target (b ∷ s) ≡ false) × Longest (is_of form.Target) (b ∷ s) p
    go none e h = let z : reach_of form.Target (b ∷ s) ≡ p = same_place h in (ap is_some e, rw (← z) (longest form.Target (b ∷ s)))
    go (some g) e h = absurd (twelve_not room (in_tree (check_tree t) t d (from t d g)) p (tree_not (check_tree t) t d (from t d g) (target_not (b ∷ s) t d g e)) h)
