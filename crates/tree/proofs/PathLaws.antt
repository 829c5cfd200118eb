-- A full path, read as a target, resolves to its node alone where it has at most 16 segments; a longer one is not of a target's form.
use mathlib.Core.Path.{◌≡◌, refl, ap, sym, ◌∙◌}
use Prim.Native.Nat.{ℕ, zero, suc, ◌+◌, ◌-◌, ◌*◌, ◌/◌, ◌<◌, ◌≤◌}
use native.Mathlib.Nat.{eq-or-lt_of_le}
use native.Mathlib.Omega.{arith}
use mathlib.Core.List.{List, [], ◌∷◌, ◌++◌, append_assoc, append-nil}
use mathlib.Core.Logic.{⊎_elim}
use mathlib.Core.Bool.{Bool, true, false, cond, not, ◌&&◌, ◌||◌}
use mathlib.Core.Option.{Option, none, some}
use borrow.Author.Tests.{le-leb, lt-leb, le-ltb, ltb-true, ltb-false, eqb-true, eqb-false, eq-eqb, ne_eqb}
use lib.Dec.{eqb, leb, ltb, eqb-suc-zero}
use lib.ListN.{length, get_or, take, drop, length-append}
use lib.Seq.{take-append_seam, drop-append_seam, take-take, drop-drop, length-take-le}
use Rattle.text.specs.Bytes.{bytes, same_bytes, is_letter, is_digit}
use Rattle.text.specs.Lists.{all_of, any_of, parts, each, between, is_nil, run_len}
use Rattle.text.specs.Decimal.{value_from, is_decimal, digits}
use Rattle.text.specs.Room.{wrote}
use Rattle.text.proofs.Tests.{and_l, and_r, and_in, or_l, or_r, or_in_l, or_in_r, no_case, neg_in, either}
use Rattle.text.proofs.SameTexts.{same_eq, same_refl}
use Rattle.text.proofs.AllAny.{all_append, any_append, all_none}
use Rattle.text.proofs.Parts.{parts_between}
use Rattle.text.proofs.Classes.{letter_bounds, digit_no_letter, other_byte}
use Rattle.text.proofs.Decimals.{digits_all, digits_some, digits_first, digits_two, value_two}
use Rattle.text.proofs.Slices.{drop_take}
use Rattle.text.proofs.Writes.{filled_room}
use Rattle.words.specs.Words.{session_name}
use Rattle.forms.specs.Targets.{is_separator, tag_len, is_tag_len, is_numbered, is_starred, is_segment, are_segments, Segment, child, segment_of, Target, path, segments_of, path_of, target_of}
use Rattle.reach.specs.declared.Form.TheVariants as form
use Rattle.reach.specs.Reach.{reach_of}
use Rattle.tree.specs.declared.Resolved.TheVariants as resolved
use Rattle.tree.specs.Tree.{parent_in, tag_len_in, tag_in, number_in, same_node, twin_in, twin, records, check_tree, record_at, parent, tag, number}
use Rattle.tree.specs.Path.{segment, path_up, full_path}
use Rattle.tree.specs.Resolve.{nodes_from, tagged_in, named_in, is_named, named_under, Instances, nodes, unresolved, or_none, segment_step, along, in_tree, or_form, instances_of, resolved_by, list_by, resolve_of, resolve_list}
use Rattle.tree.specs.Ways.{ways_up, segments_to}
use Rattle.tree.proofs.CheckLaws.{cut_byte}
use Rattle.tree.proofs.GoodLaws.{good_node, good_length, byte_of}
use Rattle.tree.proofs.UpLaws.{length_tag}
use Rattle.forms.proofs.SegmentBytes.{nil_segment}
use Rattle.std.proofs.Common.{Result, Ok}

-- ---- no two nodes of a good tree are the same

-- none of the earlier records is the same node
twin_none : (n : ℕ) (e r : List ℕ) → twin_in n e r ≡ false → (j : ℕ) → j < n → same_node (drop (22 * j) e) r ≡ false
unfolding twin_in
twin_none zero e r h j lt = absurd (omega arith)
twin_none (suc n) e r h zero lt = or_l (same_node e r) (twin_in n (drop 22 e) r) h
twin_none (suc n) e r h (suc j) lt =
    let z : 22 + 22 * j ≡ 22 * suc j = omega arith in
    ap (λ (l : List ℕ). same_node l r) (sym (drop-drop (22 * j) 22 e ∙ ap (λ (i : ℕ). drop i e) z))
    ∙ twin_none n (drop 22 e) r (or_r (same_node e r) (twin_in n (drop 22 e) r) h) j (omega arith)

-- a record is what its 22 bytes say
module _ (m : ℕ) (r : List ℕ) (h : 22 ≤ m) (short : tag_len_in r ≤ 16) where
  tag_cut : tag_in (take m r) ≡ tag_in r
  unfolding tag_in
  tag_cut =
      ap (λ (n : ℕ). take n (drop 4 (take m r))) (cut_byte m r h 3 (omega arith))
      ∙ ap (take (tag_len_in r)) (drop_take 4 m r)
      ∙ take-take (tag_len_in r) (m - 4) (drop 4 r) (omega arith)

  same_cut : (b : List ℕ) → same_node (take m r) b ≡ same_node r b
  unfolding same_node
  same_cut b =
      ap (λ (s : List ℕ). eqb (parent_in (take m r)) (parent_in b) && (eqb (number_in (take m r)) (number_in b) && same_bytes s (tag_in b))) tag_cut
      ∙ rw (cut_byte m r h 1 (omega arith), cut_byte m r h 2 (omega arith), cut_byte m r h 20 (omega arith), cut_byte m r h 21 (omega arith))

module _ (t : List ℕ) (good : check_tree t ≡ Ok tt) where
  -- an earlier node is another node
  earlier : (i k : ℕ) → 1 ≤ i → i < k → k ≤ records t → same_node (record_at t i) (record_at t k) ≡ false
  unfolding twin record_at
  earlier i k one lt here =
      let g = good_node t good i one (omega arith) in
      let w = g.whole in
      let e = take (22 * (k - 1)) t in
      let long : length e ≡ 22 * (k - 1) = length-take-le (22 * (k - 1)) t (omega (arith, good_length t good)) in
      let n = twin_none (length e / 22) e (record_at t k) (good_node t good k (omega arith) here).alone (i - 1) (omega arith) in
      sym (same_cut (22 * (k - 1) - 22 * (i - 1)) (record_at t i) (omega arith) g.short (record_at t k))
      ∙ ap (λ (l : List ℕ). same_node l (record_at t k)) (sym (drop_take (22 * (i - 1)) (22 * (k - 1)) t))
      ∙ n

  -- the same parent, tag and number: one and the same node
  alike : (i k : ℕ) → is_named t (parent t k) (tag t k) (number t k) i ≡ true → (same_node (record_at t i) (record_at t k) ≡ true) × (same_node (record_at t k) (record_at t i) ≡ true)
  unfolding is_named named_in tagged_in same_node
  alike i k e =
      let a = and_l (eqb (number t i) (number t k)) (eqb (parent t i) (parent t k) && same_bytes (tag t i) (tag t k)) e in
      let b = and_r (eqb (number t i) (number t k)) (eqb (parent t i) (parent t k) && same_bytes (tag t i) (tag t k)) e in
      let c = and_l (eqb (parent t i) (parent t k)) (same_bytes (tag t i) (tag t k)) b in
      let d = and_r (eqb (parent t i) (parent t k)) (same_bytes (tag t i) (tag t k)) b in
      let s : same_bytes (tag t k) (tag t i) ≡ true = ap (λ (l : List ℕ). same_bytes (tag t k) l) (same_eq (tag t i) (tag t k) d) ∙ same_refl (tag t k) in (
        simp (a, c, d),
        simp (eq-eqb (parent t k) (parent t i) (sym (eqb-true (parent t i) (parent t k) c)), eq-eqb (number t k) (number t i) (sym (eqb-true (number t i) (number t k) a)), s),
      )

  alone : (i k : ℕ) → 1 ≤ i → i ≤ records t → 1 ≤ k → k ≤ records t → is_named t (parent t k) (tag t k) (number t k) i ≡ true → i ≡ k
  alone i k a b c d e = either (ltb i k) (λ p. no_case (sym (alike i k e).0 ∙ earlier i k a (ltb-true i k p) d)) (λ p. either (ltb k i) (λ q. no_case (sym (alike i k e).1 ∙ earlier k i c (ltb-true k i q) b)) (λ q. le_antisymm i k (ltb-false i k p) (ltb-false k i q)))
    where
      le_antisymm : (x y : ℕ) → y ≤ x → x ≤ y → x ≡ y
      le_antisymm x y h k = omega arith

  itself : (k : ℕ) → is_named t (parent t k) (tag t k) (number t k) k ≡ true
  unfolding is_named named_in tagged_in
  itself k = simp (eq-eqb (number t k) (number t k) refl, eq-eqb (parent t k) (parent t k) refl, same_refl (tag t k))

-- just one passes the test
nodes_empty : (f : ℕ → Bool) (k m : ℕ) → ((i : ℕ) → k ≤ i → i < k + m → f i ≡ false) → nodes_from f k m ≡ []
unfolding nodes_from
nodes_empty f k zero u = refl
nodes_empty f k (suc m) u = rw (u k (omega arith) (omega arith)) (nodes_empty f (suc k) m (λ i a b. u i (omega arith) (omega arith)))

nodes_one : (f : ℕ → Bool) (k m j : ℕ) → k ≤ j → j < k + m → f j ≡ true → ((i : ℕ) → k ≤ i → i < k + m → f i ≡ true → i ≡ j) → nodes_from f k m ≡ j ∷ []
unfolding nodes_from
nodes_one f k zero j a b e u = absurd (omega arith)
nodes_one f k (suc m) j a b e u = ⊎_elim (λ (q : k ≡ j). first q) (λ (q : k < j). later q (nodes_one f (suc k) m j (omega arith) (omega arith) e (λ i x y. u i (omega arith) (omega arith)))) (eq-or-lt_of_le a)
  where
    others : k ≡ j → (i : ℕ) → suc k ≤ i → i < suc k + m → f i ≡ false
    others q i x y = either (f i) (λ h. absurd (let z = u i (omega arith) (omega arith) h in omega arith)) (λ h. h)

    first : k ≡ j → cond (f k) (k ∷ nodes_from f (suc k) m) (nodes_from f (suc k) m) ≡ j ∷ []
    first q = rw (ap f q ∙ e, nodes_empty f (suc k) m (others q)) (ap (λ (i : ℕ). i ∷ []) q)

    later : k < j → nodes_from f (suc k) m ≡ j ∷ [] → cond (f k) (k ∷ nodes_from f (suc k) m) (nodes_from f (suc k) m) ≡ j ∷ []
    later q ih = either (f k) (λ h. absurd (let z = u k (omega arith) (omega arith) h in omega arith)) (λ h. rw h ih)

pub named_alone : (t : List ℕ) → check_tree t ≡ Ok tt → (k : ℕ) → 1 ≤ k → k ≤ records t → named_under t (parent t k) (tag t k) (number t k) ≡ k ∷ []
unfolding named_under
named_alone t good k one here =
    nodes_one (is_named t (parent t k) (tag t k) (number t k)) 1 (records t) k one (omega arith) (itself t good k) (λ i a b e. alone t good i k a (omega arith) one here e)

-- ---- a node's segment is of its form

-- letters before what begins with none
run_letters : (a b : List ℕ) → all_of is_letter a ≡ true → all_of is_digit b ≡ true → is_nil b ≡ false → run_len is_letter (a ++ b) ≡ length a
unfolding run_len all_of
run_letters [] [] e f n = no_case n
run_letters [] (x ∷ b) e f n = rw (digit_no_letter x (and_l (is_digit x) (all_of is_digit b) f))
run_letters (x ∷ a) b e f n = rw (and_l (is_letter x) (all_of is_letter a) e) (ap suc (run_letters a b (and_r (is_letter x) (all_of is_letter a) e) f n))

letter_solid : (b : ℕ) → is_letter b ≡ true → is_separator b ≡ false
letter_solid b e = simp (other_byte is_letter 47 b true refl e, other_byte is_letter 92 b true refl e)

digit_solid : (b : ℕ) → is_digit b ≡ true → is_separator b ≡ false
digit_solid b e = simp (other_byte is_digit 47 b true refl e, other_byte is_digit 92 b true refl e)

-- it begins with a letter, so it is neither `.` nor `..`
no_dot : (a b c : List ℕ) → 1 ≤ length a → all_of is_letter a ≡ true → same_bytes (a ++ b) (46 ∷ c) ≡ false
unfolding same_bytes all_of
no_dot [] b c h e = absurd (omega arith)
no_dot (x ∷ a) b c h e = let w = letter_bounds x (and_l (is_letter x) (all_of is_letter a) e) in simp (ne_eqb x 46 (λ z. omega arith))

module _ (a : List ℕ) (n : ℕ) (some' : 1 ≤ length a) (short : length a ≤ 16) (letters : all_of is_letter a ≡ true) (one : n ≡ 0 → ⊥) (most : n ≤ 65535) where
  tag_is : tag_len (a ++ digits n) ≡ length a
  unfolding tag_len
  tag_is = run_letters a (digits n) letters (digits_all n) (digits_some n)

  rest_is : drop (tag_len (a ++ digits n)) (a ++ digits n) ≡ digits n
  rest_is = rw tag_is (drop-append_seam a (digits n))

  numbered : is_numbered (a ++ digits n) ≡ true
  unfolding is_numbered
  numbered =
      let d : is_decimal 65535 (drop (tag_len (a ++ digits n)) (a ++ digits n)) ≡ true = ap (is_decimal 65535) rest_is ∙ digits_two n most in
      let h : eqb (get_or (drop (tag_len (a ++ digits n)) (a ++ digits n)) 0 0) 48 ≡ false = ap (λ (r : List ℕ). eqb (get_or r 0 0) 48) rest_is ∙ ne_eqb (get_or (digits n) 0 0) 48 (λ z. one (digits_first n (omega arith) z)) in
      let l : is_tag_len (tag_len (a ++ digits n)) ≡ true = ap is_tag_len tag_is ∙ simp (le-leb 1 (length a) some', le-leb (length a) 16 short) in
      simp (l, d, h)

  pub segment_is : segment_of (a ++ digits n) ≡ some (child a n)
  unfolding segment_of bytes
  segment_is =
      let x : same_bytes (a ++ digits n) (46 ∷ []) ≡ false = no_dot a (digits n) [] some' letters in
      let y : same_bytes (a ++ digits n) (46 ∷ 46 ∷ []) ≡ false = no_dot a (digits n) (46 ∷ []) some' letters in
      let s : take (tag_len (a ++ digits n)) (a ++ digits n) ≡ a = rw tag_is (take-append_seam a (digits n)) in
      let v : value_from 0 (drop (tag_len (a ++ digits n)) (a ++ digits n)) ≡ n = ap (value_from 0) rest_is ∙ value_two n most in
      rw (x, y, numbered) (ap (λ (l : List ℕ). some (child l (value_from 0 (drop (tag_len (a ++ digits n)) (a ++ digits n))))) s ∙ ap (λ (i : ℕ). some (child a i)) v)

  pub segment_form : is_segment (a ++ digits n) ≡ true
  unfolding is_segment
  segment_form = or_in_r (same_bytes (a ++ digits n) (bytes ".")) (same_bytes (a ++ digits n) (bytes "..") || is_numbered (a ++ digits n)) (or_in_r (same_bytes (a ++ digits n) (bytes "..")) (is_numbered (a ++ digits n)) numbered)

  pub segment_solid : any_of is_separator (a ++ digits n) ≡ false
  segment_solid = any_append is_separator a (digits n) (all_none is_letter is_separator letter_solid a letters) (all_none is_digit is_separator digit_solid (digits n) (digits_all n))

-- ---- the way from the root

each_append : (x : ℕ) (ws : List (List ℕ)) (s : List ℕ) → each x (ws ++ (s ∷ [])) ≡ each x ws ++ (x ∷ s)
unfolding each
each_append x [] s = ap (λ (l : List ℕ). x ∷ l) (append-nil s)
each_append x (w ∷ ws) s = ap (λ (l : List ℕ). x ∷ l) (ap (λ (l : List ℕ). w ++ l) (each_append x ws s) ∙ sym (append_assoc w (each x ws) (x ∷ s)))

-- a full path is its segments, a separator before each
path_ways : (t : List ℕ) (f k : ℕ) → path_up f t k ≡ each 47 (ways_up f t k)
unfolding path_up ways_up each
path_ways t zero k = refl
path_ways t (suc f) k = go (eqb k 0) (path_ways t f (parent t k))
  where
    go : (b : Bool) → path_up f t (parent t k) ≡ each 47 (ways_up f t (parent t k))
        → cond b [] (path_up f t (parent t k) ++ (47 ∷ segment t k)) ≡ each 47 (cond b [] (ways_up f t (parent t k) ++ (segment t k ∷ [])))
    go true ih = refl
    go false ih = ap (λ (l : List ℕ). l ++ (47 ∷ segment t k)) ih ∙ sym (each_append 47 (ways_up f t (parent t k)) (segment t k))

nil_last : (ws : List (List ℕ)) (s : List ℕ) → is_nil (ws ++ (s ∷ [])) ≡ false
nil_last [] s = refl
nil_last (w ∷ ws) s = refl

ways_some : (t : List ℕ) (k : ℕ) → 1 ≤ k → is_nil (segments_to t k) ≡ false
unfolding ways_up segments_to
ways_some t zero one = absurd (omega arith)
ways_some t (suc m) one =
    ap (λ (b : Bool). is_nil (cond b [] (ways_up m t (parent t (suc m)) ++ (segment t (suc m) ∷ [])))) (eqb-suc-zero m) ∙ nil_last (ways_up m t (parent t (suc m))) (segment t (suc m))

-- the segments ws lead from the root to node m, and s from there to k
one_more : (t : List ℕ) (ws : List (List ℕ)) (s : List ℕ) (m k p : ℕ) (rest : List (List ℕ)) → along t 0 p (ws ++ (s ∷ rest)) ≡ along t m (p + length (each 47 ws)) (s ∷ rest)
    → along t m (p + length (each 47 ws)) (s ∷ rest) ≡ along t k (p + length (each 47 ws) + length s + 1) rest
    → along t 0 p ((ws ++ (s ∷ [])) ++ rest) ≡ along t k (p + length (each 47 (ws ++ (s ∷ [])))) rest
one_more t ws s m k p rest e h =
    let y : p + length (each 47 ws) + length s + 1 ≡ p + length (each 47 (ws ++ (s ∷ []))) = omega (arith, ap length (each_append 47 ws s), length-append (each 47 ws) (47 ∷ s)) in
    ap (along t 0 p) (append_assoc ws (s ∷ []) rest) ∙ e ∙ h ∙ ap (λ (i : ℕ). along t k i rest) y

module _ (t : List ℕ) (good : check_tree t ≡ Ok tt) (byte : (i : ℕ) → get_or t i 0 ≤ 255) where
  number_most : (k : ℕ) → number t k ≤ 65535
  number_most k =
      omega (arith, byte_of t k (22 * (k - 1)) refl 20, byte_of t k (22 * (k - 1)) refl 21, byte (22 * (k - 1) + 20), byte (22 * (k - 1) + 21))

  module _ (k : ℕ) (one : 1 ≤ k) (here : k ≤ records t) where
    tag_some : 1 ≤ length (tag t k)
    tag_some = let g = good_node t good k one here in omega (arith, length_tag t k good one here, g.some)

    tag_short : length (tag t k) ≤ 16
    tag_short = let g = good_node t good k one here in omega (arith, length_tag t k good one here, g.short)

    node_segment : segment_of (segment t k) ≡ some (child (tag t k) (number t k))
    unfolding segment
    node_segment = let g = good_node t good k one here in segment_is (tag t k) (number t k) tag_some tag_short g.letters g.counted (number_most k)

    node_form : is_segment (segment t k) ≡ true
    unfolding segment
    node_form = let g = good_node t good k one here in segment_form (tag t k) (number t k) tag_some tag_short g.letters g.counted (number_most k)

    node_solid : not (any_of is_separator (segment t k)) ≡ true
    unfolding segment
    node_solid =
        let g = good_node t good k one here in
        neg_in (any_of is_separator (tag t k ++ digits (number t k))) (segment_solid (tag t k) (number t k) tag_some tag_short g.letters g.counted (number_most k))

    -- a node's segment leads from its parent to it
    pub step_to : (p : ℕ) (rest : List (List ℕ)) → along t (parent t k) p (segment t k ∷ rest) ≡ along t k (p + length (segment t k) + 1) rest
    unfolding along
    step_to p rest =
        ap (λ (o : Option Segment). segment_step t (parent t k) p o (λ m. along t m (p + length (segment t k) + 1) rest)) node_segment
        ∙ ap (λ (l : List ℕ). or_none p l (λ m ms. along t m (p + length (segment t k) + 1) rest)) (named_alone t good k one here)

  along_ways : (f k : ℕ) → k ≤ f → k ≤ records t → (p : ℕ) (rest : List (List ℕ)) → along t 0 p (ways_up f t k ++ rest) ≡ along t k (p + length (each 47 (ways_up f t k))) rest
  unfolding ways_up each
  along_ways zero k a h p rest =
      let z : 0 ≡ k = omega arith in
      let y : p ≡ p + 0 = omega arith in
      ap (λ (i : ℕ). along t i p rest) z ∙ ap (λ (i : ℕ). along t k i rest) y
  along_ways (suc f) k a h p rest = go (eqb k 0) refl (along_ways f (parent t k))
    where
      go : (b : Bool) → eqb k 0 ≡ b
          → (parent t k ≤ f → parent t k ≤ records t → (p : ℕ) (rest : List (List ℕ))
          → along t 0 p (ways_up f t (parent t k) ++ rest) ≡ along t (parent t k) (p + length (each 47 (ways_up f t (parent t k)))) rest)
          → along t 0 p (cond b [] (ways_up f t (parent t k) ++ (segment t k ∷ [])) ++ rest)
          ≡ along t k (p + length (each 47 (cond b [] (ways_up f t (parent t k) ++ (segment t k ∷ []))))) rest
      go true e ih =
          let z : 0 ≡ k = sym (eqb-true k 0 e) in
          let y : p ≡ p + 0 = omega arith in
          ap (λ (i : ℕ). along t i p rest) z ∙ ap (λ (i : ℕ). along t k i rest) y
      go false e ih =
          let n = eqb-false k 0 e in
          let one : 1 ≤ k = omega arith in
          let g = good_node t good k one h in
          let l = g.lower in
          one_more t (ways_up f t (parent t k)) (segment t k) (parent t k) k p rest (ih (omega arith) (omega arith) p (segment t k ∷ rest))
          (step_to k one h (p + length (each 47 (ways_up f t (parent t k)))) rest)

  ways_all : (q : List ℕ → Bool) → ((j : ℕ) → 1 ≤ j → j ≤ records t → q (segment t j) ≡ true) → (f k : ℕ) → k ≤ records t → all_of q (ways_up f t k) ≡ true
  unfolding ways_up all_of
  ways_all q u zero k h = refl
  ways_all q u (suc f) k h = go (eqb k 0) refl (ways_all q u f (parent t k))
    where
      go : (b : Bool) → eqb k 0 ≡ b → (parent t k ≤ records t → all_of q (ways_up f t (parent t k)) ≡ true)
          → all_of q (cond b [] (ways_up f t (parent t k) ++ (segment t k ∷ []))) ≡ true
      go true e ih = refl
      go false e ih =
          let n = eqb-false k 0 e in
          let one : 1 ≤ k = omega arith in
          let g = good_node t good k one h in
          let l = g.lower in
          all_append q (ways_up f t (parent t k)) (segment t k ∷ []) (ih (omega arith)) (simp (u k one h))

-- ---- a text of segments, a separator before each, as a target

segments_all : (s : List ℕ) (ss : List (List ℕ)) → all_of is_segment (s ∷ ss) ≡ true → are_segments (s ∷ ss) ≡ true
unfolding are_segments all_of
segments_all s [] e = or_in_l (is_segment s) (is_starred s) (and_l (is_segment s) true e)
segments_all s (r ∷ rs) e =
    and_in (is_segment s) (are_segments (r ∷ rs)) (and_l (is_segment s) (all_of is_segment (r ∷ rs)) e) (segments_all r rs (and_r (is_segment s) (all_of is_segment (r ∷ rs)) e))

some_text : (s r : List ℕ) → is_segment s ≡ true → is_nil (s ++ r) ≡ false
some_text [] r e = no_case (sym e ∙ nil_segment)
some_text (x ∷ s) r e = refl

target_each : (s : List ℕ) (ss : List (List ℕ)) → all_of is_segment (s ∷ ss) ≡ true → all_of (λ w. not (any_of is_separator w)) (s ∷ ss) ≡ true
    → target_of (each 47 (s ∷ ss)) ≡ cond (leb (length (s ∷ ss)) 16) (some (path true (s ∷ ss))) none
unfolding target_of path_of segments_of each between session_name bytes same_bytes
target_each s ss e h =
    let n : is_nil (s ++ each 47 ss) ≡ false = some_text s (each 47 ss) (and_l (is_segment s) (all_of is_segment ss) (unfold all_of in e)) in
    let p : parts is_separator (s ++ each 47 ss) ≡ s ∷ ss = parts_between is_separator 47 s ss refl h in
    rw n
    (ap (λ (l : List (List ℕ)). cond (are_segments l && leb (length l) 16) (some (path true l)) none) p
    ∙ ap (λ (b : Bool). cond (b && leb (length (s ∷ ss)) 16) (some (path true (s ∷ ss))) none) (segments_all s ss e))

-- ---- the laws

full_ways : (t : List ℕ) (k : ℕ) → 1 ≤ k → full_path t k ≡ each 47 (segments_to t k)
unfolding full_path segments_to
full_ways t k one = rw (ne_eqb k 0 (λ z. omega arith)) (path_ways t k k)

found_each : (s : List ℕ) (ss : List (List ℕ)) (t : List ℕ) (d : ℕ) → instances_of (each 47 (s ∷ ss)) t d ≡ or_form (each 47 (s ∷ ss)) (target_of (each 47 (s ∷ ss))) t d
unfolding instances_of each
found_each s ss t d = refl

no_ways : (t : List ℕ) (i : ℕ) → i ≡ 0 → length (segments_to t i) ≡ 0
unfolding segments_to ways_up
no_ways t i z = ap (λ (j : ℕ). length (ways_up j t j)) z

module _ (t : List ℕ) (good : check_tree t ≡ Ok tt) (byte : (i : ℕ) → get_or t i 0 ≤ 255) (d : ℕ) (default : d ≤ records t) (k : ℕ) (here : k ≤ records t) where
  in_good : (f : Instances) → in_tree (check_tree t) t d f ≡ f
  in_good f = ap (λ (c : Result Unit ℕ). in_tree c t d f) good ∙ simp (le-ltb (records t) d default)

  all_form : all_of is_segment (segments_to t k) ≡ true
  unfolding segments_to
  all_form = ways_all t good byte is_segment (λ j x y. node_form t good byte j x y) k k here

  all_parted : all_of (λ w. not (any_of is_separator w)) (segments_to t k) ≡ true
  unfolding segments_to
  all_parted = ways_all t good byte (λ w. not (any_of is_separator w)) (λ j x y. node_solid t good byte j x y) k k here

  found_ways : (s : List ℕ) (ss : List (List ℕ)) → 1 ≤ k → segments_to t k ≡ s ∷ ss
      → instances_of (full_path t k) t d ≡ or_form (full_path t k) (cond (leb (length (segments_to t k)) 16) (some (path true (segments_to t k))) none) t d
  found_ways s ss one e =
      let a : all_of is_segment (s ∷ ss) ≡ true = ap (all_of is_segment) (sym e) ∙ all_form in
      let b : all_of (λ w. not (any_of is_separator w)) (s ∷ ss) ≡ true = ap (all_of (λ w. not (any_of is_separator w))) (sym e) ∙ all_parted in
      let way = full_ways t k one ∙ ap (each 47) e in
      ap (λ (l : List ℕ). instances_of l t d) way
      ∙ found_each s ss t d
      ∙ ap (λ (l : List ℕ). or_form l (target_of (each 47 (s ∷ ss))) t d) (sym way)
      ∙ ap (λ (o : Option Target). or_form (full_path t k) o t d) (target_each s ss a b)
      ∙ ap (λ (l : List (List ℕ)). or_form (full_path t k) (cond (leb (length l) 16) (some (path true l)) none) t d) (sym e)

  along_to : along t 0 1 (segments_to t k) ≡ nodes (k ∷ [])
  unfolding segments_to along
  along_to = ap (along t 0 1) (sym (append-nil (ways_up k t k))) ∙ along_ways t good byte k k (omega arith) here 1 []

  slash_found : instances_of (full_path t 0) t d ≡ nodes (0 ∷ [])
  unfolding full_path instances_of target_of path_of session_name bytes same_bytes along
  slash_found = in_good (nodes (0 ∷ []))

  root_found : k ≡ 0 → instances_of (full_path t k) t d ≡ nodes (k ∷ [])
  root_found z = ap (λ (i : ℕ). instances_of (full_path t i) t d) z ∙ slash_found ∙ ap (λ (i : ℕ). nodes (i ∷ [])) (sym z)

  -- a full path resolves to its node alone
  pub path_found : length (segments_to t k) ≤ 16 → instances_of (full_path t k) t d ≡ nodes (k ∷ [])
  path_found few = either (eqb k 0) (λ z. root_found (eqb-true k 0 z)) (λ z. go (eqb-false k 0 z) (segments_to t k) refl)
    where
      go : (k ≡ 0 → ⊥) → (l : List (List ℕ)) → segments_to t k ≡ l → instances_of (full_path t k) t d ≡ nodes (k ∷ [])
      go n [] e = no_case (sym (ap is_nil e) ∙ ways_some t k (omega arith))
      go n (s ∷ ss) e =
          found_ways s ss (omega arith) e
          ∙ ap (λ (b : Bool). or_form (full_path t k) (cond b (some (path true (segments_to t k))) none) t d) (le-leb (length (segments_to t k)) 16 few)
          ∙ in_good (along t 0 1 (segments_to t k))
          ∙ along_to

  -- a node deeper than 16 has a full path that is not of a target's form
  pub path_deep : 16 < length (segments_to t k) → instances_of (full_path t k) t d ≡ unresolved 12 (reach_of form.Target (full_path t k))
  path_deep many = go (segments_to t k) refl
    where
      go : (l : List (List ℕ)) → segments_to t k ≡ l → instances_of (full_path t k) t d ≡ unresolved 12 (reach_of form.Target (full_path t k))
      go [] e = absurd (omega (arith, ap length e))
      go (s ∷ ss) e =
          found_ways s ss (either (eqb k 0) (λ z. let w = no_ways t k (eqb-true k 0 z) in omega arith) (λ z. let n = eqb-false k 0 z in omega arith)) e
          ∙ ap (λ (b : Bool). or_form (full_path t k) (cond b (some (path true (segments_to t k))) none) t d) (lt-leb (length (segments_to t k)) 16 many)

  -- the same in the answer and in the list
  pub path_resolves : (room : List ℕ) → length (segments_to t k) ≤ 16 → 1 ≤ length room
      → (resolve_of (length room) (full_path t k) t d ≡ Ok (resolved.Nodes 1)) × (resolve_list room (full_path t k) t d ≡ wrote room (k ∷ []))
  unfolding resolve_of resolve_list
  path_resolves room few h = (
    ap (resolved_by (length room)) (path_found few) ∙ rw (le-leb 1 (length room) h),
    ap (list_by room) (path_found few) ∙ filled_room room (k ∷ []) h,
  )
