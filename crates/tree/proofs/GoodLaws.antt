-- What a good tree gives of each of its nodes. Assumes nothing.
use mathlib.Core.Path.{◌≡◌, refl, ap, sym, ◌∙◌}
use Prim.Native.Nat.{ℕ, zero, suc, ◌+◌, ◌-◌, ◌*◌, ◌/◌, ◌<◌, ◌≤◌}
use native.Mathlib.Omega.{arith}
use mathlib.Core.List.{List}
use mathlib.Core.Bool.{Bool, true, false, cond}
use borrow.Author.Tests.{ltb-false, eqb-false, not-false}
use lib.ListN.{length, get_or, take, drop, length-drop}
use lib.Seq.{get_or-drop}
use Rattle.text.specs.Bytes.{is_letter}
use Rattle.text.specs.Lists.{all_of, any_of}
use Rattle.text.proofs.Tests.{or_l, or_r, no_case, either}
use Rattle.tree.specs.Tree.{parent_in, tag_len_in, twin, is_true, bad_form, bad_record, records, check_from, check_tree, record_at, parent, tag, number}
use Rattle.tree.proofs.CheckLaws.{any_nth}
use Rattle.std.proofs.Common.{Result, Ok, Err}

not_bad : (b : Bool) (p : ℕ) (x : Result Unit ℕ) → cond b (Err p) x ≡ Ok tt → (b ≡ false) × (x ≡ Ok tt)
not_bad true p x e = let z : ◌≡◌ {A = ℕ} 0 1 = cc in absurd (omega arith)
not_bad false p x e = (refl, e)

-- where none of the tests holds, each fails
pub none_at : (l : List Bool) (i : ℕ) → any_of is_true l ≡ false → get_or l i false ≡ false
none_at l i e = either (get_or l i false) (λ y. no_case (sym (any_nth l i y) ∙ e)) (λ y. y)

-- record j of n that follow the first k
abbrev is_bad : List ℕ → ℕ → Bool
is_bad t k = bad_record (take (22 * k) t) (drop (22 * k) t) k

none_bad : (n : ℕ) (t : List ℕ) (k : ℕ) → check_from n t k ≡ Ok tt → (j : ℕ) → j < n → is_bad t (k + j) ≡ false
unfolding check_from
none_bad zero t k e j lt = absurd (omega arith)
none_bad (suc n) t k e zero lt =
    let z : k + 0 ≡ k = omega arith in
    ap (is_bad t) z ∙ (not_bad (is_bad t k) (22 * k) (check_from n t (k + 1)) e).0
none_bad (suc n) t k e (suc j) lt =
    let z : k + suc j ≡ k + 1 + j = omega arith in
    ap (is_bad t) z ∙ none_bad n t (k + 1) (not_bad (is_bad t k) (22 * k) (check_from n t (k + 1)) e).1 j (omega arith)

-- what a node of a good tree has
pub record GoodNode (t : List ℕ) (k : ℕ) : Type 0 where
  pub whole : 22 * k ≤ length t
  pub few : k ≤ 512
  pub lower : parent t k < k
  pub some : 1 ≤ tag_len_in (record_at t k)
  pub short : tag_len_in (record_at t k) ≤ 16
  pub letters : all_of is_letter (tag t k) ≡ true
  pub counted : number t k ≡ 0 → ⊥
  pub alone : twin (take (22 * (k - 1)) t) (record_at t k) ≡ false

own_good : (e r : List ℕ) (k : ℕ) → bad_record e r k ≡ false → bad_form r k ≡ false
unfolding bad_record
own_good e r k h = or_l (bad_form r k) (twin e r) h

no_twin : (e r : List ℕ) (k : ℕ) → bad_record e r k ≡ false → twin e r ≡ false
unfolding bad_record
no_twin e r k h = or_r (bad_form r k) (twin e r) h

from_record : (t : List ℕ) (k : ℕ) → 1 ≤ k → bad_record (take (22 * (k - 1)) t) (record_at t k) (k - 1) ≡ false → GoodNode t k
unfolding bad_form record_at
from_record t k one bad =
    let h = own_good (take (22 * (k - 1)) t) (drop (22 * (k - 1)) t) (k - 1) bad in
    let w : 22 ≤ length (drop (22 * (k - 1)) t) = ltb-false _ _ (none_at _ 0 h) in
    let f : k - 1 ≤ 511 = ltb-false _ _ (none_at _ 2 h) in
    let l : parent_in (drop (22 * (k - 1)) t) ≤ k - 1 = ltb-false _ _ (none_at _ 3 h) in
    record {
      whole = omega (arith, length-drop (22 * (k - 1)) t);
      few = omega arith;
      lower = omega arith;
      some = ltb-false _ _ (none_at _ 4 h);
      short = ltb-false _ _ (none_at _ 5 h);
      letters = not-false _ (none_at _ 6 h);
      counted = eqb-false _ _ (none_at _ 8 h);
      alone = no_twin (take (22 * (k - 1)) t) (drop (22 * (k - 1)) t) (k - 1) bad;
    }

module _ (t : List ℕ) (good : check_tree t ≡ Ok tt) where
  pub good_node : (k : ℕ) → 1 ≤ k → k ≤ records t → GoodNode t k
  unfolding check_tree record_at
  good_node k one here =
      let z : 0 + (k - 1) ≡ k - 1 = omega arith in
      from_record t k one (sym (ap (is_bad t) z) ∙ none_bad (records t) t 0 good (k - 1) (omega arith))

  -- no cut record
  pub good_whole : length t / 22 ≡ records t
  good_whole = go (records t) refl
    where
      go : (n : ℕ) → records t ≡ n → length t / 22 ≡ records t
      go zero z = omega arith
      go (suc m) z = let w = good_node (suc m) (omega arith) (omega arith) in omega (arith, w.whole)

  pub good_few : records t ≤ 512
  good_few = go (records t) refl
    where
      go : (n : ℕ) → records t ≡ n → records t ≤ 512
      go zero z = omega arith
      go (suc m) z = let w = good_node (suc m) (omega arith) (omega arith) in omega (arith, w.few)

  pub good_length : length t ≡ 22 * records t
  good_length = go (records t) refl
    where
      go : (n : ℕ) → records t ≡ n → length t ≡ 22 * records t
      go zero z = omega arith
      go (suc m) z = let w = good_node (suc m) (omega arith) (omega arith) in omega (arith, w.whole)

-- what the code reads of a record
module _ (t : List ℕ) (k p : ℕ) (e : p ≡ 22 * (k - 1)) where
  pub byte_of : (i : ℕ) → get_or (record_at t k) i 0 ≡ get_or t (p + i) 0
  unfolding record_at
  byte_of i = get_or-drop (22 * (k - 1)) t i 0 ∙ ap (λ (x : ℕ). get_or t (x + i) 0) (sym e)
