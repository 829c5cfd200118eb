-- What the loops and the tests of the check keep: the answer for the rest is the answer for the whole. Assumes nothing.
use mathlib.Core.Path.{◌≡◌, refl, ap, sym, ◌∙◌}
use Prim.Native.Nat.{ℕ, zero, suc, ◌+◌, ◌-◌, ◌*◌, ◌/◌, ◌<◌, ◌≤◌, min}
use mathlib.Core.List.{List, [], ◌∷◌}
use mathlib.Core.Bool.{Bool, true, false, ◌||◌, not, cond, and-false}
use native.Mathlib.Omega.{arith}
use borrow.Author.Tests.{eq-eqb, ne_eqb, lt-ltb, le-ltb}
use lib.Dec.{eqb}
use lib.ListN.{length, get_or, take, drop, length-drop, length-take}
use lib.Seq.{length-take-le, get_or-take}
use Rattle.text.specs.Bytes.{same_bytes, is_letter}
use Rattle.text.specs.Lists.{all_of, any_of, run_len}
use Rattle.text.proofs.Tests.{or_in_l, or_in_r, either}
use Rattle.text.proofs.Scans.{same_length, all_run, run_all}
use Rattle.text.proofs.Slices.{part_between}
use Rattle.tree.specs.Tree.{parent_in, tag_len_in, tag_in, padding_in, number_in, is_zero, same_node, twin, is_true, bad_form, bad_record, records, check_from, check_tree}
use Rattle.tree.specs.Marks.{same_segment}
use Rattle.std.proofs.Common.{Ok, Err}

-- ---- the same node

-- the tag and the padding as the code has them: n is the tag's length
module _ (r : List ℕ) (n : ℕ) (e : n ≡ tag_len_in r) where
  pub tag_part : take (4 + n - 4) (drop 4 r) ≡ tag_in r
  unfolding tag_in
  tag_part = part_between r 4 n ∙ ap (λ (i : ℕ). take i (drop 4 r)) e

  padding_part : n ≤ 16 → take (20 - (4 + n)) (drop (4 + n) r) ≡ padding_in r
  unfolding padding_in
  padding_part h = let z : 20 - (4 + n) ≡ 16 - n = omega arith in ap (λ (i : ℕ). take i (drop (4 + n) r)) z ∙ ap (λ (i : ℕ). take (16 - i) (drop (4 + i) r)) e

-- a record is what its 22 bytes say
pub cut_byte : (m : ℕ) (r : List ℕ) → 22 ≤ m → (i : ℕ) → i < 22 → get_or (take m r) i 0 ≡ get_or r i 0
cut_byte m r h i l = get_or-take m r i 0 (omega arith)

module _ (a b : List ℕ) where
  pub other_number : (p q : ℕ) → p ≡ number_in a → q ≡ number_in b → (p ≡ q → ⊥) → false ≡ same_segment a b
  other_number p q e f h = sym (simp (ne_eqb (number_in a) (number_in b) (λ z. h (e ∙ z ∙ sym f))))

  module _ (h : 22 ≤ length a) (k : 22 ≤ length b) (short : tag_len_in b ≤ 16) where
    pub lengths : (length (tag_in a) ≡ min (tag_len_in a) (length a - 4)) × (length (tag_in b) ≡ min (tag_len_in b) (length b - 4))
    unfolding tag_in
    lengths = (simp (length-take, length-drop), simp (length-take, length-drop))

    pub other_length : (tag_len_in a ≡ tag_len_in b → ⊥) → false ≡ same_segment a b
    other_length n =
        let l = lengths in
        let d : length (tag_in a) ≡ length (tag_in b) → ⊥ = λ z. n (omega arith) in
        sym (simp (same_length (tag_in a) (tag_in b) d) (and-false (eqb (number_in a) (number_in b))))

  pub by_tags : (m n w : ℕ) (r : Bool) → m ≡ number_in a → n ≡ number_in b → m ≡ n → w ≡ tag_len_in b → tag_len_in a ≡ tag_len_in b
      → r ≡ same_bytes (take (4 + w - 4) (drop 4 a)) (take (4 + w - 4) (drop 4 b)) → r ≡ same_segment a b
  by_tags m n w r e f g u l x =
      x ∙ ap (λ (s : List ℕ). same_bytes s (take (4 + w - 4) (drop 4 b))) (tag_part a w (u ∙ sym l))
      ∙ ap (same_bytes (tag_in a)) (tag_part b w u)
      ∙ sym (simp (eq-eqb (number_in a) (number_in b) (sym e ∙ g ∙ f)))

  pub other_parent : (p q : ℕ) → p ≡ parent_in a → q ≡ parent_in b → (p ≡ q → ⊥) → false ≡ same_node a b
  unfolding same_node
  other_parent p q e f h = sym (simp (ne_eqb (parent_in a) (parent_in b) (λ z. h (e ∙ z ∙ sym f))))

  pub by_segment : (p q : ℕ) (r : Bool) → p ≡ parent_in a → q ≡ parent_in b → p ≡ q → r ≡ same_segment a b → r ≡ same_node a b
  unfolding same_node
  by_segment p q r e f g x = x ∙ sym (simp (eq-eqb (parent_in a) (parent_in b) (sym e ∙ g ∙ f)))

-- ---- bad records

-- one test that holds, and none
pub any_nth : (l : List Bool) (i : ℕ) → get_or l i false ≡ true → any_of is_true l ≡ true
unfolding any_of
any_nth [] i e = e
any_nth (x ∷ l) zero e = or_in_l x (any_of is_true l) e
any_nth (x ∷ l) (suc i) e = or_in_r x (any_of is_true l) (any_nth l i e)

tag_length : (r : List ℕ) → 22 ≤ length r → tag_len_in r ≤ 16 → length (tag_in r) ≡ tag_len_in r
unfolding tag_in
tag_length r h s = length-take-le (tag_len_in r) (drop 4 r) (omega (arith, length-drop 4 r))

module _ (r : List ℕ) (k : ℕ) where
  pub bad_cut : length r < 22 → true ≡ bad_form r k
  unfolding bad_form
  bad_cut h = sym (any_nth _ 0 (lt-ltb (length r) 22 h))

  pub bad_kind : (get_or r 0 0 ≡ 16 → ⊥) → true ≡ bad_form r k
  unfolding bad_form
  bad_kind h = sym (any_nth _ 1 (simp (ne_eqb (get_or r 0 0) 16 h)))

  pub bad_beyond : 511 < k → true ≡ bad_form r k
  unfolding bad_form
  bad_beyond h = sym (any_nth _ 2 (lt-ltb 511 k h))

  pub bad_parent : (p : ℕ) → p ≡ parent_in r → k < p → true ≡ bad_form r k
  unfolding bad_form
  bad_parent p q h = sym (any_nth _ 3 (lt-ltb k (parent_in r) (omega arith)))

  pub bad_no_tag : tag_len_in r < 1 → true ≡ bad_form r k
  unfolding bad_form
  bad_no_tag h = sym (any_nth _ 4 (lt-ltb (tag_len_in r) 1 h))

  pub bad_long_tag : 16 < tag_len_in r → true ≡ bad_form r k
  unfolding bad_form
  bad_long_tag h = sym (any_nth _ 5 (lt-ltb 16 (tag_len_in r) h))

  pub bad_letter : (n m : ℕ) → n ≡ tag_len_in r → 22 ≤ length r → n ≤ 16 → m ≡ run_len is_letter (take (4 + n - 4) (drop 4 r)) → (m ≡ n → ⊥) → true ≡ bad_form r k
  unfolding bad_form
  bad_letter n m e h s x d =
      let run = x ∙ ap (run_len is_letter) (tag_part r n e) in
      sym (any_nth _ 6 (either (all_of is_letter (tag_in r)) (λ y. absurd (d (run ∙ all_run is_letter (tag_in r) y ∙ tag_length r h (omega arith) ∙ sym e))) (λ y. simp y)))

  pub bad_padding : (n : ℕ) (z : Bool) → n ≡ tag_len_in r → n ≤ 16 → z ≡ all_of is_zero (take (20 - (4 + n)) (drop (4 + n) r)) → z ≡ false → true ≡ bad_form r k
  unfolding bad_form
  bad_padding n z e s x f = sym (any_nth _ 7 (ap not (ap (all_of is_zero) (sym (padding_part r n e s)) ∙ sym x ∙ f)))

  pub bad_number : (m : ℕ) → m ≡ number_in r → m ≡ 0 → true ≡ bad_form r k
  unfolding bad_form
  bad_number m x z = sym (any_nth _ 8 (eq-eqb (number_in r) 0 (sym x ∙ z)))

  -- no test holds
  pub form_good : (p n m o : ℕ) (z : Bool) → 22 ≤ length r → get_or r 0 0 ≡ 16 → k ≤ 511 → p ≡ parent_in r → p ≤ k → n ≡ tag_len_in r → 1 ≤ n → n ≤ 16
      → m ≡ run_len is_letter (take (4 + n - 4) (drop 4 r)) → m ≡ n → z ≡ all_of is_zero (take (20 - (4 + n)) (drop (4 + n) r)) → z ≡ true
      → o ≡ number_in r → (o ≡ 0 → ⊥) → bad_form r k ≡ false
  unfolding bad_form any_of
  form_good p n m o z whole kind beyond q low e one short run all pad nought nu pos =
      let l : all_of is_letter (tag_in r) ≡ true =
      run_all is_letter (tag_in r) (sym (run ∙ ap (run_len is_letter) (tag_part r n e)) ∙ all ∙ e ∙ sym (tag_length r whole (omega arith))) in
      let y : all_of is_zero (padding_in r) ≡ true = ap (all_of is_zero) (sym (padding_part r n e short)) ∙ sym pad ∙ nought in
      simp (
        le-ltb (length r) 22 whole,
        eq-eqb (get_or r 0 0) 16 kind,
        le-ltb 511 k beyond,
        le-ltb k (parent_in r) (omega arith),
        le-ltb (tag_len_in r) 1 (omega arith),
        le-ltb 16 (tag_len_in r) (omega arith),
        l,
        y,
        ne_eqb (number_in r) 0 (λ w. pos (nu ∙ w)),
      )

-- ---- the check

module _ (t : List ℕ) (k p : ℕ) (x : Bool) (h : p < length t) (e : p ≡ 22 * k) (l : k ≤ records t) (inv : check_from (records t - k) t k ≡ check_tree t)
    (form : x ≡ bad_form (drop p t) k) where
  check_step : check_tree t ≡ cond (x || twin (take p t) (drop p t)) (Err p) (check_from (records t - (k + 1)) t (k + 1))
  unfolding check_from bad_record
  check_step =
      let m : records t - k ≡ suc (records t - (k + 1)) = omega arith in
      let rest = check_from (records t - (k + 1)) t (k + 1) in
      sym inv
      ∙ ap (λ (n : ℕ). check_from n t k) m
      ∙ ap (λ (q : ℕ). cond (bad_record (take q t) (drop q t) k) (Err q) rest) (sym e)
      ∙ ap (λ (b : Bool). cond b (Err p) rest)
      (ap (λ (b : Bool). b || twin (take p t) (drop p t)) (sym form))

  pub stop_form : x ≡ true → Err p ≡ check_tree t
  stop_form y = sym (check_step ∙ simp y)

  module _ (y : Bool) (other : x ≡ false) (pair : y ≡ twin (take p t) (drop p t)) where
    pub stop_twin : y ≡ true → Err p ≡ check_tree t
    stop_twin z = sym (check_step ∙ simp (other, sym pair ∙ z))

    pub check_again : y ≡ false → check_from (records t - (k + 1)) t (k + 1) ≡ check_tree t
    check_again z = sym (check_step ∙ simp (other, sym pair ∙ z))

module _ (t : List ℕ) where
  pub check_end : (k p : ℕ) → length t ≤ p → p ≡ 22 * k → k ≤ records t → check_from (records t - k) t k ≡ check_tree t → Ok tt ≡ check_tree t
  unfolding check_from
  check_end k p h e l inv = let m : 0 ≡ records t - k = omega arith in ap (λ (n : ℕ). check_from n t k) m ∙ inv

  pub check_start : check_from (records t - 0) t 0 ≡ check_tree t
  unfolding check_tree
  check_start = let m : records t - 0 ≡ records t = omega arith in ap (λ (n : ℕ). check_from n t 0) m

  -- a cut record at the end is bad
  pub check_cut : (k : ℕ) → k ≡ length t / 22 → 22 * k < length t → check_from (records t - k) t k ≡ check_tree t → Err (22 * k) ≡ check_tree t
  check_cut k e h inv = stop_form t k (22 * k) true h refl (omega arith) inv (bad_cut (drop (22 * k) t) k (omega (arith, length-drop (22 * k) t))) refl
