-- One record at a time: what the code finds among the records is what specs/Resolve says. Assumes nothing.
use mathlib.Core.Path.{◌≡◌, refl, ap, sym, ◌∙◌}
use Prim.Native.Nat.{ℕ, suc, ◌+◌, ◌-◌, ◌/◌, ◌<◌, ◌≤◌}
use native.Mathlib.Numerals.{add-one}
use native.Mathlib.Omega.{arith}
use mathlib.Core.List.{List, [], ◌∷◌, ◌++◌}
use mathlib.Core.Bool.{Bool, true, false, cond}
use borrow.Author.Tests.{eq-eqb, ne_eqb}
use lib.ListN.{length, take}
use Rattle.text.specs.Bytes.{same_bytes}
use Rattle.tree.specs.Tree.{parent_in, number_in, tag_len_in, tag_in, records, check_tree, record_at}
use Rattle.tree.specs.Resolve.{nodes_from, tagged_in, named_in, is_tagged, is_named, named_under}
use Rattle.tree.specs.Steps.{kept}
use Rattle.tree.proofs.GoodLaws.{good_node, good_whole}
use Rattle.tree.proofs.RecordLaws.{tag_len_cut, tagged_cut, named_cut}
use Rattle.std.proofs.Common.{Ok}

-- ---- one record

module _ (r : List ℕ) (n : ℕ) (a : List ℕ) where
  pub other_parent : (p : ℕ) → p ≡ parent_in r → (p ≡ n → ⊥) → false ≡ tagged_in r n a
  unfolding tagged_in
  other_parent p e h = sym (simp (ne_eqb (parent_in r) n (λ z. h (e ∙ z))))

  pub by_tag : (p : ℕ) (s : List ℕ) (x : Bool) → p ≡ parent_in r → p ≡ n → s ≡ tag_in r → x ≡ same_bytes s a → x ≡ tagged_in r n a
  unfolding tagged_in
  by_tag p s x e f g h = h ∙ ap (λ (l : List ℕ). same_bytes l a) g ∙ sym (simp (eq-eqb (parent_in r) n (sym e ∙ f)))

  pub other_number : (i m : ℕ) → m ≡ number_in r → (m ≡ i → ⊥) → false ≡ named_in r n a i
  unfolding named_in
  other_number i m e h = sym (simp (ne_eqb (number_in r) i (λ z. h (e ∙ z))))

  pub by_number : (i m : ℕ) (x : Bool) → m ≡ number_in r → m ≡ i → x ≡ tagged_in r n a → x ≡ named_in r n a i
  unfolding named_in
  by_number i m x e f h = h ∙ sym (simp (eq-eqb (number_in r) i (sym e ∙ f)))

-- the record of node k + 1
module _ (t : List ℕ) (k n : ℕ) (r : List ℕ) (good : check_tree t ≡ Ok tt) (e : n ≡ length t / 22) (h : k < n) (q : r ≡ take 22 (record_at t (suc k))) where
  bytes_short : tag_len_in (record_at t (suc k)) ≤ 16
  bytes_short = (good_node t good (suc k) (omega arith) (omega (arith, good_whole t good))).short

  pub record_short : tag_len_in r ≤ 16
  record_short = let s = bytes_short in omega (arith, ap (λ (l : List ℕ). tag_len_in l) q, tag_len_cut (record_at t (suc k)))

  pub tagged_at : (m : ℕ) (a : List ℕ) → tagged_in r m a ≡ is_tagged t m a (suc k)
  unfolding is_tagged
  tagged_at m a = ap (λ (l : List ℕ). tagged_in l m a) q ∙ tagged_cut (record_at t (suc k)) bytes_short m a

  pub named_at : (m : ℕ) (a : List ℕ) (i : ℕ) → named_in r m a i ≡ is_named t m a i (suc k)
  unfolding is_named
  named_at m a i = ap (λ (l : List ℕ). named_in l m a i) q ∙ named_cut (record_at t (suc k)) bytes_short m a i

-- ---- some nodes

-- one more node
pub nodes_step : (f : ℕ → Bool) (n k : ℕ) → k < n → nodes_from f (suc k) (n - k) ≡ kept (f (suc k)) (suc k) ++ nodes_from f (suc (k + 1)) (n - (k + 1))
unfolding nodes_from
nodes_step f n k h =
    let m : n - k ≡ suc (n - (k + 1)) = omega arith in
    rw (m, add-one k) (go (f (suc k)))
  where
    go : (b : Bool) → cond b (suc k ∷ nodes_from f (suc (suc k)) (n - suc k)) (nodes_from f (suc (suc k)) (n - suc k)) ≡ kept b (suc k) ++ nodes_from f (suc (suc k)) (n - suc k)
    go true = refl
    go false = refl

pub nodes_none : (f : ℕ → Bool) (n k : ℕ) → n ≤ k → nodes_from f (suc k) (n - k) ≡ []
unfolding nodes_from
nodes_none f n k h = let m : n - k ≡ 0 = omega arith in rw m

module _ (t : List ℕ) (n : ℕ) (good : check_tree t ≡ Ok tt) (e : n ≡ length t / 22) where
  pub all_nodes : (f : ℕ → Bool) → nodes_from f 1 (n - 0) ≡ nodes_from f 1 (records t)
  all_nodes f = let z : n - 0 ≡ records t = omega (arith, good_whole t good) in ap (nodes_from f 1) z

  -- the first that is named
  pub child_start : (m : ℕ) (a : List ℕ) (i : ℕ) → nodes_from (is_named t m a i) 1 (n - 0) ≡ named_under t m a i
  unfolding named_under
  child_start m a i = all_nodes (is_named t m a i)

  module _ (m : ℕ) (a : List ℕ) (i : ℕ) (k : ℕ) (inv : nodes_from (is_named t m a i) (suc k) (n - k) ≡ named_under t m a i) where
    module _ (r : List ℕ) (x : Bool) (h : k < n) (q : r ≡ take 22 (record_at t (suc k))) (v : x ≡ named_in r m a i) where
      rest : List ℕ
      rest = nodes_from (is_named t m a i) (suc (k + 1)) (n - (k + 1))

      step : named_under t m a i ≡ kept x (suc k) ++ rest
      unfolding rest
      step =
          sym inv
          ∙ nodes_step (is_named t m a i) n k h
          ∙ ap (λ (b : Bool). kept b (suc k) ++ nodes_from (is_named t m a i) (suc (k + 1)) (n - (k + 1))) (sym (v ∙ named_at t k n r good e h q m a i))

      pub child_found : x ≡ true → (more : List ℕ) × (named_under t m a i ≡ (k + 1) ∷ more)
      child_found y = (rest, step ∙ ap (λ (b : Bool). kept b (suc k) ++ rest) y ∙ ap (λ (j : ℕ). j ∷ rest) (sym (add-one k)))

      pub child_again : x ≡ false → nodes_from (is_named t m a i) (suc (k + 1)) (n - (k + 1)) ≡ named_under t m a i
      unfolding rest
      child_again y = sym (step ∙ ap (λ (b : Bool). kept b (suc k) ++ rest) y)

    pub child_none : n ≤ k → named_under t m a i ≡ []
    child_none h = sym inv ∙ nodes_none (is_named t m a i) n k h

  pub child_within : (k : ℕ) → k < n → k + 1 ≤ records t
  child_within k h = omega (arith, good_whole t good)
