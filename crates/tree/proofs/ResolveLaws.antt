-- What holds of every resolving: what a starred tag gives, what `..` after a child leads back to, and that only nodes of the tree are given.
use mathlib.Core.Path.{◌≡◌, refl, ap, sym, ◌∙◌}
use Prim.Native.Nat.{ℕ, zero, suc, ◌+◌, ◌<◌, ◌≤◌}
use native.Mathlib.Nat.{eq-or-lt_of_le}
use native.Mathlib.Omega.{arith}
use mathlib.Core.List.Memᴰ
use mathlib.Core.List.{List, [], ◌∷◌, Memᴰ}
use mathlib.Core.Logic.{⊎_elim}
use mathlib.Core.Bool.{Bool, true, false, cond}
use mathlib.Core.Option.{Option, none, some}
use borrow.Author.Tests.{le-leb, lt-ltb, ltb-true, ltb-false, eqb-true, eqb-false, ne_eqb}
use lib.Dec.{eqb, leb, ltb}
use lib.ListN.{length}
use Rattle.text.specs.Bytes.{bytes, same_bytes}
use Rattle.text.specs.Lists.{all_of}
use Rattle.text.proofs.Tests.{and_l, and_r, and_in, no_case}
use Rattle.forms.specs.Targets.{Segment, here, above, child, children, segment_of, Target, session, path, target_of}
use Rattle.tree.specs.Tree.{records, check_tree, record_at, parent, tag, number}
use Rattle.tree.specs.Resolve.{nodes_from, tagged_in, named_in, is_tagged, is_named, tagged_under, named_under, Instances, session', nodes, unresolved, or_none, segment_step, along, in_tree, from, or_form, instances_of}
use Rattle.tree.specs.Ways.{ascends}
use Rattle.tree.proofs.GoodLaws.{good_node}
use Rattle.std.proofs.Common.{Result, Ok, Err}

-- ---- the nodes that pass a test

module _ (f : ℕ → Bool) where
  -- each of them passes it and lies among those asked
  pub nodes_each : (k m j : ℕ) → Memᴰ j (nodes_from f k m) → (k ≤ j) × (j < k + m) × (f j ≡ true)
  unfolding nodes_from
  nodes_each k zero j h = absurd (Memᴰ.not-nil h)
  nodes_each k (suc m) j h = go (f k) refl h (nodes_each (suc k) m j)
    where
      more : (suc k ≤ j) × (j < suc k + m) × (f j ≡ true) → (k ≤ j) × (j < k + suc m) × (f j ≡ true)
      more i = let a = i.0 in let b = i.1 in (omega arith, omega arith, i.2)

      go : (b : Bool) → f k ≡ b → Memᴰ j (cond b (k ∷ nodes_from f (suc k) m) (nodes_from f (suc k) m))
          → (Memᴰ j (nodes_from f (suc k) m) → (suc k ≤ j) × (j < suc k + m) × (f j ≡ true)) → (k ≤ j) × (j < k + suc m) × (f j ≡ true)
      go true e w ih = ⊎_elim (λ (q : j ≡ k). (omega arith, omega arith, ap f q ∙ e)) (λ (x : Memᴰ j (nodes_from f (suc k) m)). more (ih x)) (Memᴰ.cases_cons w)
      go false e w ih = more (ih w)

  -- and each that does is there
  pub nodes_all : (k m j : ℕ) → k ≤ j → j < k + m → f j ≡ true → Memᴰ j (nodes_from f k m)
  unfolding nodes_from
  nodes_all k zero j a b e = absurd (omega arith)
  nodes_all k (suc m) j a b e = ⊎_elim (λ (q : k ≡ j). first (f k) refl q) (λ (q : k < j). later (f k) (nodes_all (suc k) m j (omega arith) (omega arith) e)) (eq-or-lt_of_le a)
    where
      first : (x : Bool) → f k ≡ x → k ≡ j → Memᴰ j (cond x (k ∷ nodes_from f (suc k) m) (nodes_from f (suc k) m))
      first true y q = Memᴰ.head (sym q)
      first false y q = no_case (sym e ∙ sym (ap f q) ∙ y)

      later : (x : Bool) → Memᴰ j (nodes_from f (suc k) m) → Memᴰ j (cond x (k ∷ nodes_from f (suc k) m) (nodes_from f (suc k) m))
      later true w = Memᴰ.tail w
      later false w = w

  -- in order, each once
  ascends_from : (j k : ℕ) (l : List ℕ) → j ≤ k → ascends k l ≡ true → ascends j l ≡ true
  unfolding ascends
  ascends_from j k [] h e = refl
  ascends_from j k (m ∷ l) h e =
      let w = ltb-true k m (and_l (ltb k m) (ascends m l) e) in
      and_in (ltb j m) (ascends m l) (lt-ltb j m (omega arith)) (and_r (ltb k m) (ascends m l) e)

  pub nodes_order : (k m : ℕ) → ascends k (nodes_from f (suc k) m) ≡ true
  unfolding nodes_from ascends
  nodes_order k zero = refl
  nodes_order k (suc m) = go (f (suc k)) (nodes_order (suc k) m)
    where
      go : (b : Bool) → ascends (suc k) (nodes_from f (suc (suc k)) m) ≡ true
          → ascends k (cond b (suc k ∷ nodes_from f (suc (suc k)) m) (nodes_from f (suc (suc k)) m)) ≡ true
      go true ih = and_in (ltb k (suc k)) (ascends (suc k) (nodes_from f (suc (suc k)) m)) (lt-ltb k (suc k) (omega arith)) ih
      go false ih = ascends_from k (suc k) (nodes_from f (suc (suc k)) m) (omega arith) ih

-- ---- what a starred tag gives: exactly the children with that tag, in record order, each once

module _ (t : List ℕ) (n : ℕ) (a : List ℕ) where
  pub tagged_each : (k : ℕ) → Memᴰ k (tagged_under t n a) → (1 ≤ k) × (k ≤ records t) × (is_tagged t n a k ≡ true)
  unfolding tagged_under
  tagged_each k h =
      let w = nodes_each (is_tagged t n a) 1 (records t) k h in
      let b = w.1 in
      (w.0, omega arith, w.2)

  pub tagged_all : (k : ℕ) → 1 ≤ k → k ≤ records t → is_tagged t n a k ≡ true → Memᴰ k (tagged_under t n a)
  unfolding tagged_under
  tagged_all k one there e = nodes_all (is_tagged t n a) 1 (records t) k one (omega arith) e

  pub tagged_order : ascends 0 (tagged_under t n a) ≡ true
  unfolding tagged_under
  tagged_order = nodes_order (is_tagged t n a) 0 (records t)

  -- and a starred segment gives just these
  pub starred_gives : (p : ℕ) (s : List ℕ) (ss : List (List ℕ)) (ms : List ℕ) → segment_of s ≡ some (children a) → along t n p (s ∷ ss) ≡ nodes ms → ms ≡ tagged_under t n a
  unfolding along
  starred_gives p s ss ms e h = go (tagged_under t n a) (sym (ap (λ (o : Option Segment). segment_step t n p o (λ m. along t m (p + length s + 1) ss)) e) ∙ h)
    where
      go : (l : List ℕ) → or_none p l (λ m ms. nodes (m ∷ ms)) ≡ nodes ms → ms ≡ l
      go [] q = absurd (let z : ◌≡◌ {A = ℕ} 0 1 = cc in omega arith)
      go (m ∷ l) q = cc

-- a child with this tag has that parent and that tag
pub tagged_parent : (t : List ℕ) (n : ℕ) (a : List ℕ) (k : ℕ) → is_tagged t n a k ≡ true → parent t k ≡ n
unfolding is_tagged tagged_in
tagged_parent t n a k e = eqb-true (parent t k) n (and_l (eqb (parent t k) n) (same_bytes (tag t k) a) e)

-- ---- `..` after a child leads back

-- the first that passes a test
first_passes : (f : ℕ → Bool) (k m j : ℕ) (l : List ℕ) → nodes_from f k m ≡ j ∷ l → (k ≤ j) × (j < k + m) × (f j ≡ true)
first_passes f k m j l e = nodes_each f k m j (rw e (Memᴰ.head refl))

named_parent : (t : List ℕ) (n : ℕ) (a : List ℕ) (i k : ℕ) → is_named t n a i k ≡ true → parent t k ≡ n
unfolding is_named named_in is_tagged
named_parent t n a i k e = tagged_parent t n a k (and_r (eqb (number t k) i) (tagged_in (record_at t k) n a) e)

dots_above : segment_of (bytes "..") ≡ some above
unfolding segment_of bytes same_bytes
dots_above = refl

dots_length : length (bytes "..") ≡ 2
unfolding bytes
dots_length = refl

pub child_back : (t : List ℕ) (n p : ℕ) (s a : List ℕ) (i m : ℕ) (ms : List ℕ) (rest : List (List ℕ)) → segment_of s ≡ some (child a i) → named_under t n a i ≡ m ∷ ms
    → along t n p (s ∷ bytes ".." ∷ rest) ≡ along t n (p + length s + 1 + 2 + 1) rest
unfolding along named_under
child_back t n p s a i m ms rest e h =
    let w = first_passes (is_named t n a i) 1 (records t) m ms h in
    let one = w.0 in
    let q = p + length s + 1 in
    ap (λ (o : Option Segment). segment_step t n p o (λ k. along t k q (bytes ".." ∷ rest))) e
    ∙ ap (λ (l : List ℕ). or_none p l (λ k ks. along t k q (bytes ".." ∷ rest))) h
    ∙ ap (λ (o : Option Segment). segment_step t m q o (λ k. along t k (q + length (bytes "..") + 1) rest)) dots_above
    ∙ ap (λ (b : Bool). cond b (unresolved 17 q) (along t (parent t m) (q + length (bytes "..") + 1) rest)) (ne_eqb m 0 (λ z. omega arith))
    ∙ ap (λ (k : ℕ). along t k (q + length (bytes "..") + 1) rest) (named_parent t n a i m w.2)
    ∙ ap (λ (k : ℕ). along t n (q + k + 1) rest) dots_length

-- ---- every node number that is given lies between 0 and the tree's records

abbrev pub inside : List ℕ → ℕ → Bool
inside t k = leb k (records t)

nodes_inside : (t : List ℕ) (f : ℕ → Bool) (k m : ℕ) → k + m ≤ suc (records t) → all_of (inside t) (nodes_from f k m) ≡ true
unfolding nodes_from all_of
nodes_inside t f k zero h = refl
nodes_inside t f k (suc m) h = go (f k) (nodes_inside t f (suc k) m (omega arith))
  where
    go : (b : Bool) → all_of (inside t) (nodes_from f (suc k) m) ≡ true → all_of (inside t) (cond b (k ∷ nodes_from f (suc k) m) (nodes_from f (suc k) m)) ≡ true
    go true ih = simp (le-leb k (records t) (omega arith), ih)
    go false ih = ih

module _ (t : List ℕ) (good : check_tree t ≡ Ok tt) where
  Inside : Instances → Type 0
  Inside f = (ms : List ℕ) → f ≡ nodes ms → all_of (inside t) ms ≡ true

  refused_inside : (n p : ℕ) (ms : List ℕ) → unresolved n p ≡ nodes ms → all_of (inside t) ms ≡ true
  refused_inside n p ms e = absurd (let z : ◌≡◌ {A = ℕ} 0 1 = cc in omega arith)

  one_inside : (n : ℕ) (ms : List ℕ) → n ≤ records t → nodes (n ∷ []) ≡ nodes ms → all_of (inside t) ms ≡ true
  unfolding all_of
  one_inside n ms h e = let z : n ∷ [] ≡ ms = cc in ap (all_of (inside t)) (sym z) ∙ simp (le-leb n (records t) h)

  child_inside : (n p : ℕ) (a : List ℕ) (i : ℕ) (f : ℕ → Instances) (ms : List ℕ)
      → ((m : ℕ) → m ≤ records t → f m ≡ nodes ms → all_of (inside t) ms ≡ true) → or_none p (named_under t n a i) (λ m rest. f m) ≡ nodes ms → all_of (inside t) ms ≡ true
  unfolding named_under
  child_inside n p a i f ms ih e = go (nodes_from (is_named t n a i) 1 (records t)) refl e
    where
      go : (l : List ℕ) → nodes_from (is_named t n a i) 1 (records t) ≡ l → or_none p l (λ m rest. f m) ≡ nodes ms → all_of (inside t) ms ≡ true
      go [] y q = refused_inside 18 p ms q
      go (m ∷ l) y q =
          let w = first_passes (is_named t n a i) 1 (records t) m l y in
          let b = w.1 in
          ih m (omega arith) q

  star_inside : (n p : ℕ) (a ms : List ℕ) → or_none p (tagged_under t n a) (λ m rest. nodes (m ∷ rest)) ≡ nodes ms → all_of (inside t) ms ≡ true
  unfolding tagged_under
  star_inside n p a ms e = go (nodes_from (is_tagged t n a) 1 (records t)) (nodes_inside t (is_tagged t n a) 1 (records t) (omega arith)) e
    where
      go : (l : List ℕ) → all_of (inside t) l ≡ true → or_none p l (λ m rest. nodes (m ∷ rest)) ≡ nodes ms → all_of (inside t) ms ≡ true
      go [] y q = refused_inside 18 p ms q
      go (m ∷ l) y q = let z : m ∷ l ≡ ms = cc in ap (all_of (inside t)) (sym z) ∙ y

  above_inside : (n p : ℕ) (f : ℕ → Instances) (ms : List ℕ) → n ≤ records t → ((m : ℕ) → m ≤ records t → f m ≡ nodes ms → all_of (inside t) ms ≡ true)
      → cond (eqb n 0) (unresolved 17 p) (f (parent t n)) ≡ nodes ms → all_of (inside t) ms ≡ true
  above_inside n p f ms h ih e = go (eqb n 0) refl e
    where
      go : (b : Bool) → eqb n 0 ≡ b → cond b (unresolved 17 p) (f (parent t n)) ≡ nodes ms → all_of (inside t) ms ≡ true
      go true y q = refused_inside 17 p ms q
      go false y q =
          let z = eqb-false n 0 y in
          let g = good_node t good n (omega arith) h in
          let l = g.lower in
          ih (parent t n) (omega arith) q

  step_inside : (n p : ℕ) (o : Option Segment) (f : ℕ → Instances) (ms : List ℕ) → n ≤ records t → ((m : ℕ) → m ≤ records t → f m ≡ nodes ms → all_of (inside t) ms ≡ true)
      → segment_step t n p o f ≡ nodes ms → all_of (inside t) ms ≡ true
  step_inside n p none f ms h ih e = refused_inside 12 0 ms e
  step_inside n p (some here) f ms h ih e = ih n h e
  step_inside n p (some above) f ms h ih e = above_inside n p f ms h ih e
  step_inside n p (some (child a i)) f ms h ih e = child_inside n p a i f ms ih e
  step_inside n p (some (children a)) f ms h ih e = star_inside n p a ms e

  along_inside : (ss : List (List ℕ)) (n p : ℕ) (ms : List ℕ) → n ≤ records t → along t n p ss ≡ nodes ms → all_of (inside t) ms ≡ true
  unfolding along
  along_inside [] n p ms h e = one_inside n ms h e
  along_inside (s ∷ ss) n p ms h e = step_inside n p (segment_of s) (λ m. along t m (p + length s + 1) ss) ms h (λ m k q. along_inside ss m (p + length s + 1) ms k q) e

-- what lies in a tree: the tree is good and its default target is a node
in_tree_lem : (t : List ℕ) (d : ℕ) (f : Instances) (ms : List ℕ) (c : Result Unit ℕ) → in_tree c t d f ≡ nodes ms → (c ≡ Ok tt) × (d ≤ records t) × (f ≡ nodes ms)
in_tree_lem t d f ms (Err p) e = absurd (let z : ◌≡◌ {A = ℕ} 0 1 = cc in omega arith)
in_tree_lem t d f ms (Ok u) e = go (ltb (records t) d) refl e
  where
    go : (b : Bool) → ltb (records t) d ≡ b → cond b (unresolved 16 0) f ≡ nodes ms → (◌≡◌ {A = Result Unit ℕ} (Ok tt) (Ok tt)) × (d ≤ records t) × (f ≡ nodes ms)
    go true y q = absurd (let z : ◌≡◌ {A = ℕ} 0 1 = cc in omega arith)
    go false y q = (refl, ltb-false (records t) d y, q)

from_inside : (t : List ℕ) (d : ℕ) (g : Target) (ms : List ℕ) → in_tree (check_tree t) t d (from t d g) ≡ nodes ms → all_of (inside t) ms ≡ true
from_inside t d session ms e = absurd (let w = (in_tree_lem t d session' ms (check_tree t) e).2 in let z : ◌≡◌ {A = ℕ} 0 1 = cc in omega arith)
from_inside t d (path true ss) ms e = let w = in_tree_lem t d (along t 0 1 ss) ms (check_tree t) e in along_inside t w.0 ss 0 1 ms (omega arith) w.2
from_inside t d (path false ss) ms e = let w = in_tree_lem t d (along t d 0 ss) ms (check_tree t) e in along_inside t w.0 ss d 0 ms w.1 w.2

form_inside : (t : List ℕ) (d : ℕ) (text : List ℕ) (o : Option Target) (ms : List ℕ) → or_form text o t d ≡ nodes ms → all_of (inside t) ms ≡ true
form_inside t d text none ms e = absurd (let z : ◌≡◌ {A = ℕ} 0 1 = cc in omega arith)
form_inside t d text (some g) ms e = from_inside t d g ms e

pub found_inside : (text t : List ℕ) (d : ℕ) (ms : List ℕ) → instances_of text t d ≡ nodes ms → all_of (inside t) ms ≡ true
unfolding instances_of
found_inside [] t d ms e = let w = in_tree_lem t d (nodes (d ∷ [])) ms (check_tree t) e in one_inside t w.0 d ms w.1 w.2
found_inside (b ∷ s) t d ms e = form_inside t d (b ∷ s) (target_of (b ∷ s)) ms e
