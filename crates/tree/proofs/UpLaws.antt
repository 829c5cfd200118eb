-- From parent to parent: what each step of the recursion uses. Assumes nothing.
use mathlib.Core.Path.{◌≡◌, refl, ap, sym, ◌∙◌}
use Prim.Native.Nat.{ℕ, zero, suc, ◌+◌, ◌-◌, ◌*◌, ◌/◌, ◌<◌, ◌≤◌}
use native.Mathlib.Numerals.{add-one}
use native.Mathlib.Omega.{arith}
use mathlib.Core.List.{List, [], ◌∷◌, ◌++◌}
use mathlib.Core.Bool.{Bool, cond}
use borrow.Author.Tests.{lt-ltb, le-ltb, ne_eqb}
use lib.Dec.{eqb, eqb-suc-zero}
use lib.ListN.{length, take, drop, set, length-append, length-drop, length-take}
use lib.Seq.{sets, length-take-le}
use Rattle.text.specs.Decimal.{width, digits}
use Rattle.text.specs.Room.{fitted, filled, refusal_at}
use Rattle.text.proofs.Writes.{sets_append, fitted_room, fitted_none, filled_none, filled_sets}
use Rattle.text.proofs.Decimals.{width_between, length_digits}
use Rattle.tree.specs.Tree.{parent_in, tag_len_in, tag_in, number_in, records, check_tree, record_at, parent, tag, number}
use Rattle.tree.specs.Path.{segment, path_up, full_path, path_by, path_answer, path_room_by, path_room}
use Rattle.tree.proofs.GoodLaws.{good_node, good_whole}
use Rattle.tree.proofs.RecordLaws.{parent_cut, number_cut, tag_len_cut, tag_cut}
use Rattle.std.proofs.Common.{Result, Ok, Err}

-- ---- a node's record, as the code reads it

module _ (t : List ℕ) (k : ℕ) (good : check_tree t ≡ Ok tt) (one : 1 ≤ k) (here : k ≤ records t) (r : List ℕ) (e : r ≡ take 22 (record_at t k)) where
  pub node_short : tag_len_in r ≤ 16
  node_short = let g = good_node t good k one here in omega (arith, ap (λ (l : List ℕ). tag_len_in l) e, tag_len_cut (record_at t k), g.short)

  pub node_parent : (p : ℕ) → p ≡ parent_in r → p ≡ parent t k
  node_parent p h = h ∙ ap (λ (l : List ℕ). parent_in l) e ∙ parent_cut (record_at t k)

  pub node_lower : (p : ℕ) → p ≡ parent_in r → p < k
  node_lower p h = let g = good_node t good k one here in omega (arith, node_parent p h, g.lower)

  pub node_segment : tag_in r ++ digits (number_in r) ≡ segment t k
  unfolding segment
  node_segment =
      let g = good_node t good k one here in
      ap (λ (l : List ℕ). tag_in l ++ digits (number_in l)) e
      ∙ ap (λ (l : List ℕ). l ++ digits (number_in (take 22 (record_at t k)))) (tag_cut (record_at t k) g.short)
      ∙ ap (λ (n : ℕ). tag t k ++ digits n) (number_cut (record_at t k))

-- ---- segments

pub digits_most : (m w : ℕ) → w ≡ length (digits m) → w ≤ 5
digits_most m w h = omega (arith, length_digits m, width_between m)

module _ (t : List ℕ) (k : ℕ) (good : check_tree t ≡ Ok tt) (one : 1 ≤ k) (here : k ≤ records t) where
  pub length_tag : length (tag t k) ≡ tag_len_in (record_at t k)
  unfolding tag_in record_at
  length_tag =
      let g = good_node t good k one here in
      length-take-le (tag_len_in (record_at t k)) (drop 4 (record_at t k))
      (omega (arith, length-drop 4 (record_at t k), length-drop (22 * (k - 1)) t, g.whole, g.short))

  length_segment : length (segment t k) ≡ tag_len_in (record_at t k) + width (number t k)
  unfolding segment
  length_segment = omega (arith, length-append (tag t k) (digits (number t k)), length_tag, length_digits (number t k))

  segment_most : length (segment t k) ≤ 21
  segment_most = let g = good_node t good k one here in omega (arith, length_segment, width_between (number t k), g.short)

-- a segment, as the code writes it
pub tag_most : (r s : List ℕ) → s ≡ tag_in r → tag_len_in r ≤ 16 → length s ≤ 16
unfolding tag_in
tag_most r s e h = omega (arith, ap length e, length-take (tag_len_in r) (drop 4 r))

module _ (r s : List ℕ) (n : ℕ) (e : s ≡ tag_in r) (f : n ≡ number_in r) where
  segment_by : length (tag_in r ++ digits (number_in r)) ≡ length s + width n
  segment_by = omega (arith, length-append (tag_in r) (digits (number_in r)), ap length e, length_digits (number_in r), ap width f)

  pub segment_length : (w : ℕ) → w ≡ width n → 1 + length s + w ≡ 1 + length (tag_in r ++ digits (number_in r))
  segment_length w g = omega (arith, segment_by)

  pub segment_place : (at w : ℕ) → w ≡ length (digits n) → at + 1 + length s + w ≡ at + (1 + length (tag_in r ++ digits (number_in r)))
  segment_place at w g = omega (arith, segment_by, length_digits n)

  -- the separator, the tag and the number, each stored after the other
  pub segment_put : (d x y z : List ℕ) (at : ℕ) → x ≡ set d at 47 → y ≡ sets x (at + 1) s → z ≡ sets y (at + 1 + length s) (digits n)
      → z ≡ sets d at (47 ∷ (tag_in r ++ digits (number_in r)))
  segment_put d x y z at u v w =
      let q : at + 1 + length s ≡ suc at + length s = omega arith in
      let y' : y ≡ sets (set d at 47) (suc at) s = v ∙ ap (λ (l : List ℕ). sets l (at + 1) s) u ∙ ap (λ (i : ℕ). sets (set d at 47) i s) (add-one at) in
      w ∙ ap (λ (i : ℕ). sets y i (digits n)) q ∙ ap (λ (l : List ℕ). sets l (suc at + length s) (digits n)) y'
      ∙ sets_append s (digits n) (set d at 47) (suc at)
      ∙ ap (λ (l : List ℕ). sets (set d at 47) (suc at) (l ++ digits n)) e
      ∙ ap (λ (i : ℕ). sets (set d at 47) (suc at) (tag_in r ++ digits i)) f

-- ---- the way up

up_root : (f : ℕ) (t : List ℕ) → path_up f t 0 ≡ []
unfolding path_up
up_root zero t = refl
up_root (suc f) t = refl

module _ (t : List ℕ) (good : check_tree t ≡ Ok tt) where
  -- more steps than the node's number change nothing
  up_more : (f : ℕ) → ((g k : ℕ) → k ≤ f → k ≤ g → k ≤ records t → path_up f t k ≡ path_up g t k)
      → (g k : ℕ) → k ≤ suc f → k ≤ g → k ≤ records t → path_up (suc f) t k ≡ path_up g t k
  unfolding path_up
  up_more f ih g zero a b h = up_root (suc f) t ∙ sym (up_root g t)
  up_more f ih zero (suc k) a b h = absurd (omega arith)
  up_more f ih (suc g) (suc k) a b h =
      let w = good_node t good (suc k) (omega arith) h in
      let l = w.lower in
      ap (λ (l : List ℕ). cond (eqb (suc k) 0) [] (l ++ (47 ∷ segment t (suc k)))) (ih g (parent t (suc k)) (omega arith) (omega arith) (omega arith))

  up_fuel : (f g k : ℕ) → k ≤ f → k ≤ g → k ≤ records t → path_up f t k ≡ path_up g t k
  up_fuel zero g k a b h =
      let z : k ≡ 0 = omega arith in
      ap (path_up 0 t) z ∙ up_root 0 t ∙ sym (ap (λ (q : ℕ). path_up g t q) z ∙ up_root g t)
  up_fuel (suc f) g k a b h = up_more f (λ g' k'. up_fuel f g' k') g k a b h

  path_step : (k : ℕ) → 1 ≤ k → k ≤ records t → path_up k t k ≡ path_up (parent t k) t (parent t k) ++ (47 ∷ segment t k)
  unfolding path_up
  path_step zero one h = absurd (omega arith)
  path_step (suc m) one h =
      let w = good_node t good (suc m) (omega arith) h in
      let l = w.lower in
      ap (λ (b : Bool). cond b [] (path_up m t (parent t (suc m)) ++ (47 ∷ segment t (suc m)))) (eqb-suc-zero m)
      ∙ ap (λ (l : List ℕ). l ++ (47 ∷ segment t (suc m))) (up_fuel m (parent t (suc m)) (parent t (suc m)) (omega arith) (omega arith) (omega arith))

module _ (t : List ℕ) (k p : ℕ) (good : check_tree t ≡ Ok tt) (here : k ≤ records t) (e : p ≡ parent t k) where
  pub path_up_lem : 1 ≤ k → path_up k t k ≡ path_up p t p ++ (47 ∷ segment t k)
  path_up_lem one = path_step t good k one here ∙ ap (λ (q : ℕ). path_up q t q ++ (47 ∷ segment t k)) (sym e)

  pub path_length : (a s : ℕ) → (k ≡ 0 → ⊥) → a ≡ length (path_up p t p) → s ≡ 1 + length (segment t k) → a + s ≡ length (path_up k t k)
  path_length a s ne w z = omega (arith, ap length (path_up_lem (omega arith)), length-append (path_up p t p) (47 ∷ segment t k))

  pub path_place : (a r : ℕ) → (k ≡ 0 → ⊥) → a ≡ length (path_up p t p) → r ≡ a + (1 + length (segment t k)) → r ≡ length (path_up k t k)
  path_place a r ne w z = z ∙ path_length a (1 + length (segment t k)) ne w refl

  pub path_most : (a r : ℕ) → (k ≡ 0 → ⊥) → p < k → a ≤ 22 * p → r ≡ a + (1 + length (segment t k)) → r ≤ 22 * k
  path_most a r ne l w z = omega (arith, segment_most t k good (omega arith) here)

  -- what the call for the parent wrote, and then the segment
  pub path_put : (at : ℕ) (d x y : List ℕ) → (k ≡ 0 → ⊥) → at ≡ length (path_up p t p) → x ≡ sets d 0 (path_up p t p) → y ≡ sets x at (47 ∷ segment t k)
      → y ≡ sets d 0 (path_up k t k)
  path_put at d x y ne z u v =
      let q : at ≡ 0 + length (path_up p t p) = omega arith in
      v ∙ ap (λ (l : List ℕ). sets l at (47 ∷ segment t k)) u ∙ ap (λ (n : ℕ). sets (sets d 0 (path_up p t p)) n (47 ∷ segment t k)) q
      ∙ sets_append (path_up p t p) (47 ∷ segment t k) d 0
      ∙ ap (sets d 0) (sym (path_up_lem (omega arith)))

pub root_length : (t : List ℕ) (k : ℕ) → k ≡ 0 → 0 ≡ length (path_up k t k)
root_length t k e = sym (ap (λ (q : ℕ). length (path_up q t q)) e ∙ ap length (up_root 0 t))

pub root_put : (t d : List ℕ) (k : ℕ) → k ≡ 0 → d ≡ sets d 0 (path_up k t k)
root_put t d k e = sym (ap (λ (q : ℕ). sets d 0 (path_up q t q)) e ∙ ap (sets d 0) (up_root 0 t))

-- ---- the answer, case by case, and the room

full_root : (t : List ℕ) (k : ℕ) → k ≡ 0 → full_path t k ≡ 47 ∷ []
unfolding full_path
full_root t k e = ap (full_path t) e

full_node : (t : List ℕ) (k : ℕ) → (k ≡ 0 → ⊥) → full_path t k ≡ path_up k t k
unfolding full_path
full_node t k e = simp (ne_eqb k 0 e)

module _ (t : List ℕ) (k : ℕ) where
  pub bad_answer : (room p : ℕ) (r : Result Unit ℕ) → r ≡ check_tree t → r ≡ Err p → Err (refusal_at 15 p) ≡ path_answer room t k
  unfolding path_answer
  bad_answer room p r e g = sym (ap (λ (c : Result Unit ℕ). path_by c room t k) (sym e ∙ g))

  pub bad_room : (room : List ℕ) (p : ℕ) (r : Result Unit ℕ) → r ≡ check_tree t → r ≡ Err p → room ≡ path_room room t k
  unfolding path_room
  bad_room room p r e g = sym (ap (λ (c : Result Unit ℕ). path_room_by c room t k) (sym e ∙ g))

  module _ (good : check_tree t ≡ Ok tt) where
    good_answer : (room : ℕ) → k ≤ length t / 22 → path_answer room t k ≡ fitted room (full_path t k)
    unfolding path_answer
    good_answer room h = ap (λ (c : Result Unit ℕ). path_by c room t k) good ∙ simp (le-ltb (records t) k (omega (arith, good_whole t good)))

    good_room : (room : List ℕ) → k ≤ length t / 22 → path_room room t k ≡ filled room (full_path t k)
    unfolding path_room
    good_room room h = ap (λ (c : Result Unit ℕ). path_room_by c room t k) good ∙ simp (le-ltb (records t) k (omega (arith, good_whole t good)))

    pub none_answer : (room : ℕ) → length t / 22 < k → Err (refusal_at 16 0) ≡ path_answer room t k
    unfolding path_answer
    none_answer room h = sym (ap (λ (c : Result Unit ℕ). path_by c room t k) good ∙ simp (lt-ltb (records t) k (omega (arith, good_whole t good))))

    pub none_room : (room : List ℕ) → length t / 22 < k → room ≡ path_room room t k
    unfolding path_room
    none_room room h = sym (ap (λ (c : Result Unit ℕ). path_room_by c room t k) good ∙ simp (lt-ltb (records t) k (omega (arith, good_whole t good))))

    pub small_root : (room : ℕ) → k ≤ length t / 22 → k ≡ 0 → room < 1 → Err (refusal_at 19 0) ≡ path_answer room t k
    small_root room h z l = sym (good_answer room h ∙ fitted_none room (full_path t k) (omega (arith, ap length (full_root t k z))))

    pub small_root_room : (room : List ℕ) → k ≤ length t / 22 → k ≡ 0 → length room < 1 → room ≡ path_room room t k
    small_root_room room h z l = sym (good_room room h ∙ filled_none room (full_path t k) (omega (arith, ap length (full_root t k z))))

    pub root_answer : (room : ℕ) → k ≤ length t / 22 → k ≡ 0 → 1 ≤ room → Ok 1 ≡ path_answer room t k
    root_answer room h z l =
        let e = ap length (full_root t k z) in
        sym (good_answer room h ∙ fitted_room room (full_path t k) (omega arith) ∙ ap Ok e)

    pub root_room : (room y : List ℕ) → k ≤ length t / 22 → k ≡ 0 → 1 ≤ length room → y ≡ set room 0 47 → y ≡ path_room room t k
    root_room room y h z l v =
        let e = full_root t k z in
        v ∙ filled_sets room (47 ∷ []) l ∙ ap (filled room) (sym e) ∙ sym (good_room room h)

    module _ (n : ℕ) (h : k ≤ length t / 22) (z : k ≡ 0 → ⊥) (e : n ≡ length (path_up k t k)) where
      pub small_node : (room : ℕ) → room < n → Err (refusal_at 19 0) ≡ path_answer room t k
      small_node room l = sym (good_answer room h ∙ fitted_none room (full_path t k) (omega (arith, ap length (full_node t k z))))

      pub small_node_room : (room : List ℕ) → length room < n → room ≡ path_room room t k
      small_node_room room l = sym (good_room room h ∙ filled_none room (full_path t k) (omega (arith, ap length (full_node t k z))))

      pub node_answer : (room : ℕ) → n ≤ room → Ok n ≡ path_answer room t k
      node_answer room l =
          let q = ap length (full_node t k z) in
          sym (good_answer room h ∙ fitted_room room (full_path t k) (omega arith) ∙ ap Ok (q ∙ sym e))

      pub node_room : (room y : List ℕ) → n ≤ length room → y ≡ sets room 0 (path_up k t k) → y ≡ path_room room t k
      node_room room y l v =
          let q = full_node t k z in
          v ∙ ap (sets room 0) (sym q) ∙ filled_sets room (full_path t k) (omega (arith, ap length q)) ∙ sym (good_room room h)
