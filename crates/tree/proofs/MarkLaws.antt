-- The marks of earlier records: a record that finds one of its own missing has no twin before it. Assumes nothing.
use mathlib.Core.Path.{◌≡◌, refl, ap, sym, subst, ◌∙◌}
use Prim.Native.Nat.{ℕ, zero, suc, ◌+◌, ◌-◌, ◌*◌, ◌/◌, ◌<◌, ◌≤◌}
use mathlib.Core.List.{List, [], ◌∷◌}
use mathlib.Core.Bool.{Bool, true, false}
use mathlib.Core.Logic.{⊎_elim}
use native.Mathlib.Nat.{eq-or-lt_of_le}
use native.Mathlib.Omega.{arith}
use borrow.Author.Tests.{eqb-true, ltb-false}
use lib.Dec.{eqb}
use lib.ListN.{length, get_or, take, drop, set, length-drop, length-set}
use lib.Seq.{drop-drop, length-take-le, get_or-set_same}
use Rattle.std.specs.List.{list_any}
use Rattle.std.specs.Simd.{first_chunks}
use Rattle.text.proofs.Tests.{and_l, and_r, either, no_case}
use Rattle.text.proofs.SameTexts.{same_eq}
use Rattle.text.proofs.Slices.{drop_take, get_d_part}
use Rattle.tree.specs.Tree.{parent_in, tag_len_in, tag_in, number_in, same_node, twin_in, twin, bad_form}
use Rattle.tree.specs.Marks.{mix_of, mark_of, other_mark_of, Marked}
use Rattle.tree.proofs.CheckLaws.{cut_byte, lengths}
use Rattle.tree.proofs.GoodLaws.{none_at}
use Rattle.tree.proofs.RecordLaws.{tag_len_cut, form_cut, chunk_at, chunks_before, any_twin}

-- what a record that is good by its own bytes has
form_fits : (r : List ℕ) (k : ℕ) → bad_form r k ≡ false → (22 ≤ length r) × (1 ≤ tag_len_in r) × (tag_len_in r ≤ 16)
unfolding bad_form
form_fits r k h = (ltb-false _ _ (none_at _ 0 h), ltb-false _ _ (none_at _ 4 h), ltb-false _ _ (none_at _ 5 h))

-- ---- the same node is mixed the same

module _ (a b : List ℕ) (h : 22 ≤ length a) (k : 22 ≤ length b) (one : 1 ≤ tag_len_in b) (short : tag_len_in b ≤ 16) (same : same_node a b ≡ true) where
  parents : parent_in a ≡ parent_in b
  unfolding same_node
  parents = eqb-true (parent_in a) (parent_in b) (and_l _ _ same)

  numbers : number_in a ≡ number_in b
  unfolding same_node
  numbers = eqb-true (number_in a) (number_in b) (and_l _ _ (and_r (eqb (parent_in a) (parent_in b)) _ same))

  tags : tag_in a ≡ tag_in b
  unfolding same_node
  tags = same_eq (tag_in a) (tag_in b) (and_r (eqb (number_in a) (number_in b)) _ (and_r (eqb (parent_in a) (parent_in b)) _ same))

  same_length : tag_len_in a ≡ tag_len_in b
  same_length = omega (arith, (lengths a b h k short).0, (lengths a b h k short).1, ap length tags)

  letters : (i : ℕ) → i < tag_len_in b → get_or a (4 + i) 0 ≡ get_or b (4 + i) 0
  unfolding tag_in
  letters i l =
      sym (get_d_part a 4 (tag_len_in a) i 0 (omega (arith, same_length))) ∙ ap (λ (s : List ℕ). get_or s i 0) tags ∙ get_d_part b 4 (tag_len_in b) i 0 l

  last : get_or a (3 + tag_len_in a) 0 ≡ get_or b (3 + tag_len_in b) 0
  last =
      let z : 4 + (tag_len_in b - 1) ≡ 3 + tag_len_in b = omega arith in
      ap (λ (n : ℕ). get_or a (3 + n) 0) same_length
      ∙ ap (λ (n : ℕ). get_or a n 0) (sym z)
      ∙ letters (tag_len_in b - 1) (omega arith)
      ∙ ap (λ (n : ℕ). get_or b n 0) z

  same_mix : mix_of a ≡ mix_of b
  unfolding mix_of
  same_mix = omega (arith, parents, numbers, same_length, letters 0 (omega arith), last)

-- and by its 22 bytes alone
module _ (m : ℕ) (r : List ℕ) (h : 22 ≤ m) (short : tag_len_in (take m r) ≤ 16) where
  pub mix_cut : mix_of (take m r) ≡ mix_of r
  unfolding mix_of
  mix_cut =
      let last = cut_byte m r h (3 + tag_len_in (take m r)) (omega arith) ∙ ap (λ (n : ℕ). get_or r (3 + n) 0) (cut_byte m r h 3 (omega arith)) in
      omega (arith, cut_byte m r h 1 (omega arith), cut_byte m r h 2 (omega arith), cut_byte m r h 3 (omega arith), cut_byte m r h 4 (omega arith), cut_byte m r h 20 (omega arith), cut_byte m r h 21 (omega arith), last)

-- ---- no mark, no twin

twin_clear : (n : ℕ) (e r : List ℕ) → ((j : ℕ) → j < n → same_node (drop (22 * j) e) r ≡ false) → twin_in n e r ≡ false
unfolding twin_in
twin_clear zero e r f = refl
twin_clear (suc n) e r f =
    let rest = twin_clear n (drop 22 e) r (λ j l.
    let z : 22 + 22 * j ≡ 22 * suc j = omega arith in
    ap (λ (s : List ℕ). same_node s r) (drop-drop (22 * j) 22 e ∙ ap (λ (i : ℕ). drop i e) z) ∙ f (suc j) (omega arith)) in
    simp (f 0 (omega arith), rest)

module _ (t : List ℕ) (k p : ℕ) (e : p ≡ 22 * k) (fits : (22 ≤ length (drop p t)) × (1 ≤ tag_len_in (drop p t)) × (tag_len_in (drop p t) ≤ 16)) where
  -- an earlier record that is the same node has the same marks
  earlier : (j : ℕ) → j < k → same_node (drop (22 * j) (take p t)) (drop p t) ≡ true → mix_of (drop (22 * j) t) ≡ mix_of (drop p t)
  earlier j l s =
      let c = drop_take (22 * j) p t in
      let n = length-drop (22 * j) t in
      let n' = length-drop p t in
      let w : 22 ≤ length (take (p - 22 * j) (drop (22 * j) t)) = omega (arith, length-take-le (p - 22 * j) (drop (22 * j) t) (omega (arith, fits.0))) in
      let s' = ap (λ (a : List ℕ). same_node a (drop p t)) (sym c) ∙ s in
      let short = same_length _ _ w fits.0 fits.1 fits.2 s' in
      sym (mix_cut (p - 22 * j) (drop (22 * j) t) (omega arith) (omega (arith, short, fits.2)))
      ∙ same_mix _ _ w fits.0 fits.1 fits.2 s'

  no_mark : (f : ℕ → ℕ) (marks : List Bool) → ((j : ℕ) → j < k → get_or marks (f (mix_of (drop (22 * j) t))) false ≡ true)
      → get_or marks (f (mix_of (drop p t))) false ≡ false → twin (take p t) (drop p t) ≡ false
  unfolding twin
  no_mark f marks known missing =
      let n = length-take-le p t (omega (arith, length-drop p t, fits.0)) in
      twin_clear (length (take p t) / 22) (take p t) (drop p t)
      (λ j l. either (same_node (drop (22 * j) (take p t)) (drop p t))
      (λ s. no_case (sym (known j (omega arith)) ∙ ap (λ (m : ℕ). get_or marks (f m) false) (earlier j (omega arith) s) ∙ missing))
      (λ s. s))

-- ---- one turn of the check

-- a mark stays
still : (marks : List Bool) (i j : ℕ) → get_or marks j false ≡ true → get_or (set marks i true) j false ≡ true
still [] i j h = h
still (x ∷ marks) zero zero h = refl
still (x ∷ marks) zero (suc j) h = h
still (x ∷ marks) (suc i) zero h = h
still (x ∷ marks) (suc i) (suc j) h = still marks i j h

-- the record that the code looks at begins at place p
module _ (t : List ℕ) (k p : ℕ) (x : Bool) (form : x ≡ bad_form (drop p t) k) (good : x ≡ false) where
  pub turn_fits : (22 ≤ length (drop p t)) × (1 ≤ tag_len_in (drop p t)) × (tag_len_in (drop p t) ≤ 16)
  turn_fits = form_fits (drop p t) k (sym form ∙ good)

  module _ (m : ℕ) (marks : List Bool) (e : p ≡ 22 * k) (mix_here : m ≡ mix_of (drop p t)) (known : Marked marks t k) where
    lone : (f : ℕ → ℕ) → ((j : ℕ) → j < k → get_or marks (f (mix_of (drop (22 * j) t))) false ≡ true) → get_or marks (f m) false ≡ false
        → twin (take p t) (drop p t) ≡ false
    lone f all missing = no_mark t k p e turn_fits f marks all (ap (λ (n : ℕ). get_or marks (f n) false) (sym mix_here) ∙ missing)

    -- without one of its marks the record has no twin
    pub turn_lone : (get_or marks (mark_of m) false ≡ false → twin (take p t) (drop p t) ≡ false)
        × (get_or marks (other_mark_of m) false ≡ false → twin (take p t) (drop p t) ≡ false)
    turn_lone = (lone mark_of (λ j l. (known.1 j l).0), lone other_mark_of (λ j l. (known.1 j l).1))

    -- and with both set it is one of those that are marked
    pub turn_marked : Marked (set (set marks (mark_of m) true) (other_mark_of m) true) t (k + 1)
    turn_marked = (length-set (set marks (mark_of m) true) (other_mark_of m) true ∙ length-set marks (mark_of m) true ∙ known.0, each)
      where
        both : ℕ → Type 0
        both n = (get_or (set (set marks (mark_of m) true) (other_mark_of m) true) (mark_of n) false ≡ true) × (get_or (set (set marks (mark_of m) true) (other_mark_of m) true) (other_mark_of n) false ≡ true)

        stays : (i : ℕ) → get_or marks i false ≡ true → get_or (set (set marks (mark_of m) true) (other_mark_of m) true) i false ≡ true
        stays i h = still (set marks (mark_of m) true) (other_mark_of m) i (still marks (mark_of m) i h)

        old : (j : ℕ) → j < k → both (mix_of (drop (22 * j) t))
        old j h = let n = mix_of (drop (22 * j) t) in (stays (mark_of n) (known.1 j h).0, stays (other_mark_of n) (known.1 j h).1)

        new : (j : ℕ) → j ≡ k → both (mix_of (drop (22 * j) t))
        new j h =
            let size = known.0 in
            let first = get_or-set_same marks (mark_of m) true false (omega arith) in
            let second = get_or-set_same (set marks (mark_of m) true) (other_mark_of m) true false (omega (arith, length-set marks (mark_of m) true)) in
            subst both (mix_here ∙ ap (λ (q : ℕ). mix_of (drop q t)) (e ∙ ap (λ (i : ℕ). 22 * i) (sym h)))
            (still (set marks (mark_of m) true) (other_mark_of m) (mark_of m) first, second)

        each : (j : ℕ) → j < k + 1 → both (mix_of (drop (22 * j) t))
        each j l = ⊎_elim (new j) (old j) (eq-or-lt_of_le (omega arith))

-- ---- the same, as the code has it: the record after k others is 22 bytes

module _ (t : List ℕ) (rs : List (List ℕ)) (k : ℕ) (whole : rs ≡ first_chunks 22 (length t / 22) t) (h : k < length t / 22) where
  turn_bytes : get_or rs k [] ≡ take 22 (drop (22 * k) t)
  turn_bytes = ap (λ (l : List (List ℕ)). get_or l k []) whole ∙ chunk_at (length t / 22) k t h

  turn_long : 22 ≤ length (drop (22 * k) t)
  turn_long = omega (arith, length-drop (22 * k) t)

  pub turn_form : (x : Bool) → bad_form (get_or rs k []) k ≡ x → x ≡ bad_form (drop (22 * k) t) k
  turn_form x e = sym e ∙ ap (λ (r : List ℕ). bad_form r k) turn_bytes ∙ form_cut (drop (22 * k) t) k turn_long

  -- r is what the code goes on with
  module _ (short : tag_len_in (drop (22 * k) t) ≤ 16) (r : List ℕ) (same : r ≡ get_or rs k []) where
    pub turn_mix : (m : ℕ) → m ≡ mix_of r → m ≡ mix_of (drop (22 * k) t)
    turn_mix m e = e ∙ ap mix_of (same ∙ turn_bytes) ∙ mix_cut 22 (drop (22 * k) t) (omega arith) (omega (arith, tag_len_cut (drop (22 * k) t)))

    pub turn_twin : (y : Bool) → y ≡ list_any (λ (a : List ℕ). same_node a r) (take k rs) → y ≡ twin (take (22 * k) t) (drop (22 * k) t)
    unfolding twin
    turn_twin y e =
        let n : length (take (22 * k) t) / 22 ≡ k = omega (arith, length-take-le (22 * k) t (omega arith)) in
        e ∙ ap (λ (b : List ℕ). list_any (λ (a : List ℕ). same_node a b) (take k rs)) (same ∙ turn_bytes)
        ∙ ap (λ (l : List (List ℕ)). list_any (λ (a : List ℕ). same_node a (take 22 (drop (22 * k) t))) l) (ap (take k) whole ∙ chunks_before (length t / 22) k t (omega arith))
        ∙ any_twin k t (drop (22 * k) t) (omega arith) turn_long short
        ∙ ap (λ (i : ℕ). twin_in i (take (22 * k) t) (drop (22 * k) t)) (sym n)
