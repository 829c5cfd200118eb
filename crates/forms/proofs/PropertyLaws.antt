-- Names, and how a property's text divides by its bytes: its name, its operator, its value. Assumes nothing.
use Prim.Native.Nat.{ℕ, suc, ◌+◌, ◌-◌, ◌<◌, ◌≤◌, min}
use mathlib.Core.Path.{◌≡◌, refl, sym, ap, ◌∙◌}
use mathlib.Core.List.{List, [], ◌∷◌, ◌++◌}
use mathlib.Core.Bool.{Bool, true, false, cond, ◌&&◌}
use mathlib.Core.Option.{Option, none, some}
use native.Mathlib.Omega.{arith}
use native.Mathlib.Numerals.{add-one}
use lib.ListN.{length, get_or, take, drop, length-take, drop_of_length-le}
use lib.Seq.{take_all, split_at, length-take-le, take-length}
use lib.Dec.{eqb, leb, ltb}
use borrow.Author.Tests.{eqb-true, eq-eqb, ne_eqb, le-leb, lt-leb, leb-true, leb-false, lt-ltb, ltb-true, eqb-false}
use Rattle.text.specs.Bytes.{is_letter, is_word}
use Rattle.text.specs.Lists.{all_of, any_of, up_to, run_len, given}
use Rattle.text.proofs.Tests.{and_l, and_r, no_case}
use Rattle.text.proofs.AllAny.{up_over, up_at, past_at_lem, any_at, all_right}
use Rattle.text.proofs.Classes.{letter_word}
use Rattle.text.proofs.Scans.{run_within, all_run, run_fails, take_run, drop_step}
use Rattle.terms.specs.declared.Mode.TheVariants.{Out, OutGrave, In}
use Rattle.terms.specs.Signs.{Sign, bare, is_bare, signs, raws, bares}
use Rattle.terms.proofs.SignBytes.{raws_signs, raws_append}
use Rattle.terms.proofs.Bares.{bare_signs, bares_signs, raws_bares, none_bares, bares_alone}
use Rattle.terms.proofs.ByteCases.{out_case, grave_first}
use Rattle.forms.specs.Forms.{starts, is_name, has_eq, Value, value_of, Said, alone, equals, matches, said_of, property, property_of, topic_of, entry, entry_of}
use Rattle.forms.specs.Answers.{is_some, operator_of, shape_of, property_in, topic_in, is_value_in, shape}
use Rattle.forms.specs.Steps.{name_len, equal_at, shape_if, is_entry_in}
use Rattle.forms.proofs.ValueLaws.{starts_byte, value_part}
use Rattle.forms.proofs.FormCases.{named_of, as_property, as_entry}
use Rattle.std.proofs.Common.{Some, None}

-- ---- names

pub name_words : (s : List ℕ) → is_name s ≡ true → all_of is_word s ≡ true
unfolding is_name all_of
name_words [] e = refl
name_words (b ∷ s) e =
    let l = and_l (is_letter b) (all_of is_word s && leb (length s) 63) e in
    let r = and_l (all_of is_word s) (leb (length s) 63) (and_r (is_letter b) (all_of is_word s && leb (length s) 63) e) in
    simp (letter_word b l, r)

pub name_some : (s : List ℕ) → is_name s ≡ true → 0 < length s
unfolding is_name
name_some [] e = no_case (sym e)
name_some (b ∷ s) e = omega arith

leb_suc : (r : ℕ) → leb r 63 ≡ leb (suc r) 64
leb_suc r = go (leb r 63) refl
  where
    go : (t : Bool) → leb r 63 ≡ t → leb r 63 ≡ leb (suc r) 64
    go true e = let h = leb-true r 63 e in e ∙ sym (le-leb (suc r) 64 (omega arith))
    go false e = let h = leb-false r 63 e in e ∙ sym (lt-leb (suc r) 64 (omega arith))

-- the run of letters, digits and underscores that a text begins with, as a name
run_name : (t : List ℕ) → is_name (take (run_len is_word t) t) ≡ is_letter (get_or t 0 0) && leb (run_len is_word t) 64
unfolding is_name run_len
run_name [] = refl
run_name (b ∷ s) = go (is_word b) refl
  where
    no_letter : is_word b ≡ false → (x : Bool) → is_letter b ≡ x → x ≡ false
    no_letter e true p = no_case (sym (letter_word b p) ∙ e)
    no_letter e false p = refl

    go : (w : Bool) → is_word b ≡ w → is_name (take (cond (is_word b) (suc (run_len is_word s)) 0) (b ∷ s)) ≡ is_letter b && leb (cond (is_word b) (suc (run_len is_word s)) 0) 64
    go true e =
        let l = length-take-le (run_len is_word s) s (run_within is_word s) in
        rw (e, take_run is_word s, l, leb_suc (run_len is_word s))
    go false e = rw e (sym (ap (λ x. x && leb 0 64) (no_letter e (is_letter b) refl)))

name_by : (t : List ℕ) → name_len t ≡ cond (is_name (take (run_len is_word t) t)) (run_len is_word t) 0
unfolding name_len
name_by t = ap (λ x. cond x (run_len is_word t) 0) (sym (run_name t))

-- a text that begins with a name of k bytes, and no more of its kind
pub record Named (t : List ℕ) (k : ℕ) : Type 0 where
  pub name : is_name (take k t) ≡ true
  pub words : all_of is_word (take k t) ≡ true
  pub within : k ≤ length t
  pub some : 0 < k
  pub next : k < length t → is_word (get_or t k 0) ≡ false

pub named : (t : List ℕ) (k : ℕ) → k ≡ name_len t → (k ≡ 0 → ⊥) → Named t k
named t k e h = go (is_name (take (run_len is_word t) t)) refl
  where
    go : (x : Bool) → is_name (take (run_len is_word t) t) ≡ x → Named t k
    go true p =
        let r : k ≡ run_len is_word t = e ∙ name_by t ∙ rw p in
        let w = run_within is_word t in
        let s : is_name (take k t) ≡ true = ap (λ (j : ℕ). is_name (take j t)) r ∙ p in
        record {
          name = s;
          words = name_words (take k t) s;
          within = omega arith;
          some = let z = name_some (take k t) s in let l = length-take k t in omega arith;
          next = λ z. ap (λ (j : ℕ). is_word (get_or t j 0)) r ∙ run_fails is_word t 0 (omega arith);
        }
    go false p = absurd (h (e ∙ name_by t ∙ rw p))

-- a text that begins with none
pub unnamed : (t : List ℕ) → name_len t ≡ 0 → is_name (take (run_len is_word t) t) ≡ false
unnamed t e = go (is_name (take (run_len is_word t) t)) refl
  where
    go : (x : Bool) → is_name (take (run_len is_word t) t) ≡ x → x ≡ false
    go true p =
        let z = name_some (take (run_len is_word t) t) p in
        let l = length-take (run_len is_word t) t in
        let r : run_len is_word t ≡ 0 = sym (name_by t ∙ rw p) ∙ e in
        absurd (omega arith)
    go false p = refl

-- a name is all of its text
pub name_is : (t : List ℕ) → (length t ≡ 0 → ⊥) → eqb (name_len t) (length t) ≡ is_name t
name_is t h = go (is_name t) refl
  where
    go : (x : Bool) → is_name t ≡ x → eqb (name_len t) (length t) ≡ x
    go true p =
        let r : run_len is_word t ≡ length t = all_run is_word t (name_words t p) in
        let q : is_name (take (run_len is_word t) t) ≡ true = ap is_name (take_all (run_len is_word t) t (omega arith)) ∙ p in
        eq-eqb (name_len t) (length t) (name_by t ∙ rw q r)
    go false p = ne_eqb (name_len t) (length t) (λ z. let n = named t (name_len t) refl (λ y. h (sym z ∙ y)) in
        no_case (sym n.name ∙ ap is_name (ap (λ (j : ℕ). take j t) z ∙ take_all (length t) t (omega arith)) ∙ p))

-- ---- the signs of letters, digits and underscores, and of whatever follows

pub words_read : (n v : List ℕ) → all_of is_word n ≡ true → signs Out (n ++ v) ≡ bares n ++ signs Out v
words_read = bares_signs is_word (unfold is_word in refl) (unfold is_word in refl)

pub words_alone : (n : List ℕ) → all_of is_word n ≡ true → signs Out n ≡ bares n
words_alone = bares_alone is_word (unfold is_word in refl) (unfold is_word in refl)

none_bare : (s : List ℕ) → all_of is_word s ≡ true → any_of (is_bare 61) (bares s) ≡ false
none_bare = none_bares is_word 61 (unfold is_word in refl)

-- the name before the first bare `=`, where something else follows the run that a text begins with
grave_up : (v : List ℕ) → (u : List ℕ) × (raws (up_to (is_bare 61) (signs OutGrave v)) ≡ 96 ∷ u)
unfolding up_to raws
grave_up v =
    grave_first (λ z. (u : List ℕ) × (raws (up_to (is_bare 61) z) ≡ 96 ∷ u)) (λ r. (raws (up_to (is_bare 61) r), refl)) (λ b r. (b ∷ raws (up_to (is_bare 61) r), refl)) v

first_up : (c : ℕ) (v : List ℕ) → (c ≡ 61 → ⊥) → (u : List ℕ) × (raws (up_to (is_bare 61) (signs Out (c ∷ v))) ≡ c ∷ u)
unfolding signs up_to raws
first_up c v n =
    out_case (λ g m. (u : List ℕ) × (raws (up_to (is_bare 61) (g ++ signs m v)) ≡ c ∷ u)) c (λ p. let g = grave_up v in (g.0, g.1 ∙ ap (λ z. z ∷ g.0) (sym (eqb-true c 96 p))))
    (λ _ q. (raws (up_to (is_bare 61) (signs In v)), ap (λ z. z ∷ raws (up_to (is_bare 61) (signs In v))) (sym (eqb-true c 34 q))))
    (λ _ _. (raws (up_to (is_bare 61) (signs Out v)), simp (ne_eqb c 61 n)))

pub not_name : (n : List ℕ) (c : ℕ) (v : List ℕ) → is_word c ≡ false → is_name (n ++ (c ∷ v)) ≡ false
not_name n c v e = go (is_name (n ++ (c ∷ v))) refl
  where
    go : (x : Bool) → is_name (n ++ (c ∷ v)) ≡ x → x ≡ false
    go true p = no_case (sym (and_l (is_word c) (all_of is_word v) (unfold all_of in all_right is_word n (c ∷ v) (name_words (n ++ (c ∷ v)) p))) ∙ e)
    go false p = refl

cut_at : (t : List ℕ) (k : ℕ) → k < length t → t ≡ take k t ++ (get_or t k 0 ∷ drop (k + 1) t)
cut_at t k h = split_at t k 0 h ∙ ap (λ (j : ℕ). take k t ++ (get_or t k 0 ∷ drop j t)) (sym (add-one k))

-- ---- a name, and what may follow it after `=`: properties, and the items of display and output, are both of this form

module _ {A B : Type 0} (rest : List Sign → Option B) (mere : List ℕ → A) (with : List ℕ → B → A) where
  abbrev reads : List Sign → Option A
  reads t = named_of rest mere with t

  -- n is the run of letters, digits and underscores that a text begins with: all of it, before `=`, before anything else
  pub named_alone : (n : List ℕ) → all_of is_word n ≡ true → reads (signs Out n) ≡ cond (is_name n) (some (mere n)) none
  unfolding named_of
  named_alone n e = ap reads (words_alone n e) ∙ simp (none_bare n e, raws_bares n)

  pub named_equal : (n v : List ℕ) → all_of is_word n ≡ true → reads (signs Out (n ++ (61 ∷ v))) ≡ cond (is_name n) (given (rest (signs Out v)) (λ b. some (with n b))) none
  unfolding named_of
  named_equal n v e =
      let w = none_bare n e in
      ap reads (words_read n (61 ∷ v) e ∙ ap (λ z. bares n ++ z) (bare_signs 61 v refl refl))
      ∙ simp (
        any_at (is_bare 61) (bares n) (bare 61) (signs Out v) refl,
        up_at (is_bare 61) (bares n) (bare 61) (signs Out v) w refl,
        past_at_lem (is_bare 61) (bares n) (bare 61) (signs Out v) w refl,
        raws_bares n,
      )

  pub named_other : (n : List ℕ) (c : ℕ) (v : List ℕ) → all_of is_word n ≡ true → is_word c ≡ false → (c ≡ 61 → ⊥) → reads (signs Out (n ++ (c ∷ v))) ≡ none
  unfolding named_of
  named_other n c v e w d = go (has_eq (signs Out (n ++ (c ∷ v)))) refl
    where
      first : (u : List ℕ) × (raws (up_to (is_bare 61) (signs Out (c ∷ v))) ≡ c ∷ u)
      first = first_up c v d

      up : raws (up_to (is_bare 61) (signs Out (n ++ (c ∷ v)))) ≡ n ++ (c ∷ first.0)
      up =
          ap (λ z. raws (up_to (is_bare 61) z)) (words_read n (c ∷ v) e)
          ∙ ap raws (up_over (is_bare 61) (bares n) (signs Out (c ∷ v)) (none_bare n e))
          ∙ raws_append (bares n) (up_to (is_bare 61) (signs Out (c ∷ v)))
          ∙ ap (λ z. z ++ raws (up_to (is_bare 61) (signs Out (c ∷ v)))) (raws_bares n)
          ∙ ap (λ z. n ++ z) first.1

      go : (x : Bool) → has_eq (signs Out (n ++ (c ∷ v))) ≡ x → reads (signs Out (n ++ (c ∷ v))) ≡ none
      go true p = rw (p, up, not_name n c first.0 w)
      go false p = rw (p, raws_signs (n ++ (c ∷ v)), not_name n c v w)

  -- the same by places of a text t that no name begins
  pub named_none : (t : List ℕ) → name_len t ≡ 0 → reads (signs Out t) ≡ none
  named_none t e = go (leb (length t) (run_len is_word t)) (eqb (get_or t (run_len is_word t) 0) 61) refl refl
    where
      go : (x y : Bool) → leb (length t) (run_len is_word t) ≡ x → eqb (get_or t (run_len is_word t) 0) 61 ≡ y → reads (signs Out t) ≡ none
      go true y p q =
          let a : take (run_len is_word t) t ≡ t = take_all (run_len is_word t) t (leb-true (length t) (run_len is_word t) p) in
          named_alone t (ap (all_of is_word) (sym a) ∙ take_run is_word t) ∙ rw (ap is_name (sym a) ∙ unnamed t e)
      go false true p q =
          let h = leb-false (length t) (run_len is_word t) p in
          let n = take (run_len is_word t) t in
          let v = drop (run_len is_word t + 1) t in
          ap (λ z. reads (signs Out z)) (cut_at t (run_len is_word t) h)
          ∙ ap (λ (z : ℕ). reads (signs Out (n ++ (z ∷ v)))) (eqb-true (get_or t (run_len is_word t) 0) 61 q)
          ∙ named_equal n v (take_run is_word t) ∙ rw (unnamed t e)
      go false false p q =
          let h = leb-false (length t) (run_len is_word t) p in
          ap (λ z. reads (signs Out z)) (cut_at t (run_len is_word t) h)
          ∙ named_other (take (run_len is_word t) t) (get_or t (run_len is_word t) 0) (drop (run_len is_word t + 1) t) (take_run is_word t) (run_fails is_word t 0 h)
          (eqb-false (get_or t (run_len is_word t) 0) 61 q)

  -- a name of k bytes begins it
  module _ (t : List ℕ) (k : ℕ) (n : Named t k) where
    named_mere : k ≡ length t → reads (signs Out t) ≡ some (mere (take k t))
    named_mere h =
        let a : take k t ≡ t = take_all k t (omega arith) in
        ap (λ z. reads (signs Out z)) (sym a) ∙ named_alone (take k t) n.words ∙ rw n.name

    named_not : k < length t → (get_or t k 0 ≡ 61 → ⊥) → reads (signs Out t) ≡ none
    named_not h d = ap (λ z. reads (signs Out z)) (cut_at t k h) ∙ named_other (take k t) (get_or t k 0) (drop (k + 1) t) n.words (n.next h) d

    named_with : k < length t → get_or t k 0 ≡ 61 → reads (signs Out t) ≡ given (rest (signs Out (drop (k + 1) t))) (λ b. some (with (take k t) b))
    named_with h d =
        ap (λ z. reads (signs Out z)) (cut_at t k h) ∙ ap (λ (z : ℕ). reads (signs Out (take k t ++ (z ∷ drop (k + 1) t)))) d
        ∙ named_equal (take k t) (drop (k + 1) t) n.words ∙ rw n.name

-- ---- a property, and an item of display or output, by places of a text t

-- no name begins it
pub unnamed_property : (t : List ℕ) → name_len t ≡ 0 → property_of (signs Out t) ≡ none
unnamed_property t e = as_property (signs Out t) ∙ named_none said_of (λ n. property n alone) property t e

pub unnamed_entry : (t : List ℕ) → name_len t ≡ 0 → entry_of (signs Out t) ≡ none
unnamed_entry t e = as_entry (signs Out t) ∙ named_none value_of (λ n. entry n none) (λ n v. entry n (some v)) t e

-- a name of k bytes begins it
module _ (t : List ℕ) (k : ℕ) (n : Named t k) where
  -- and is all of it
  pub mere_property : k ≡ length t → property_of (signs Out t) ≡ some (property (take k t) alone)
  mere_property h = as_property (signs Out t) ∙ named_mere said_of (λ m. property m alone) property t k n h

  pub mere_entry : k ≡ length t → entry_of (signs Out t) ≡ some (entry (take k t) none)
  mere_entry h = as_entry (signs Out t) ∙ named_mere value_of (λ m. entry m none) (λ m v. entry m (some v)) t k n h

  -- something else than `=` follows
  other_property : k < length t → (get_or t k 0 ≡ 61 → ⊥) → property_of (signs Out t) ≡ none
  other_property h d = as_property (signs Out t) ∙ named_not said_of (λ m. property m alone) property t k n h d

  other_entry : k < length t → (get_or t k 0 ≡ 61 → ⊥) → entry_of (signs Out t) ≡ none
  other_entry h d = as_entry (signs Out t) ∙ named_not value_of (λ m. entry m none) (λ m v. entry m (some v)) t k n h d

  -- `=` follows
  said_property : k < length t → get_or t k 0 ≡ 61 → property_of (signs Out t) ≡ given (said_of (signs Out (drop (k + 1) t))) (λ s. some (property (take k t) s))
  said_property h d = as_property (signs Out t) ∙ named_with said_of (λ m. property m alone) property t k n h d

  valued_entry : k < length t → get_or t k 0 ≡ 61 → entry_of (signs Out t) ≡ given (value_of (signs Out (drop (k + 1) t))) (λ w. some (entry (take k t) (some w)))
  valued_entry h d = as_entry (signs Out t) ∙ named_with value_of (λ m. entry m none) (λ m v. entry m (some v)) t k n h d

-- ---- `=` and `==`

equal_there : (t : List ℕ) (v : ℕ) → equal_at t v ≡ true → (v < length t) × (get_or t v 0 ≡ 61)
equal_there t v e = (ltb-true v (length t) (and_l (ltb v (length t)) (eqb (get_or t v 0) 61) e), eqb-true (get_or t v 0) 61 (and_r (ltb v (length t)) (eqb (get_or t v 0) 61) e))

equal_not : (t : List ℕ) (v : ℕ) → v < length t → equal_at t v ≡ false → get_or t v 0 ≡ 61 → ⊥
equal_not t v h e z = no_case (sym (rw (lt-ltb v (length t) h, eq-eqb (get_or t v 0) 61 z) refl) ∙ e)

said_two : (t : List ℕ) (v : ℕ) → equal_at t v ≡ true → said_of (signs Out (drop v t)) ≡ given (value_of (signs Out (drop (v + 1) t))) (λ w. some (matches w))
unfolding said_of
said_two t v e =
    let h = equal_there t v e in
    ap (λ z. said_of (signs Out z)) (drop_step t v h.0 ∙ ap (λ (b : ℕ). b ∷ drop (v + 1) t) h.1) ∙ ap said_of (bare_signs 61 (drop (v + 1) t) refl refl)

said_one : (t : List ℕ) (v : ℕ) → equal_at t v ≡ false → said_of (signs Out (drop v t)) ≡ given (value_of (signs Out (drop v t))) (λ w. some (equals w))
unfolding said_of
said_one t v e = rw (no_start (leb (length t) v) refl)
  where
    no_start : (x : Bool) → leb (length t) v ≡ x → starts 61 (signs Out (drop v t)) ≡ false
    no_start true p = ap (λ (z : List ℕ). starts 61 (signs Out z)) (drop_of_length-le t (leb-true (length t) v p)) ∙ unfold signs in refl
    no_start false p =
        let h = leb-false (length t) v p in
        ap (λ (z : List ℕ). starts 61 (signs Out z)) (drop_step t v h) ∙ starts_byte 61 (get_or t v 0) (drop (v + 1) t) refl
        ∙ ne_eqb (get_or t v 0) 61 (equal_not t v h e)

-- ---- each answer of the code; the text is the first n bytes of s

shape_value : (make : Value → Said) (p : ℕ) → ((v : Value) → operator_of (make v) ≡ p) → (o : Option Value) (m : List ℕ) (k : ℕ) → length m ≡ k
    → shape_if (is_some o) k p ≡ shape_of (given (given o (λ w. some (make w))) (λ s. some (property m s)))
shape_value make p op none m k e = refl
shape_value make p op (some v) m k e = sym (ap (λ (j : ℕ). Some (shape j (operator_of (make v)))) e ∙ ap (λ (j : ℕ). Some (shape k j)) (op v))

entry_value : (o : Option Value) (m : List ℕ) → is_some o ≡ is_some (given o (λ w. some (entry m (some w))))
entry_value none m = refl
entry_value (some v) m = refl

module _ (s : List ℕ) (n k : ℕ) (e : k ≡ name_len (take n s)) where
  pub property_unnamed : k ≡ 0 → None ≡ property_in s n
  unfolding property_in
  property_unnamed h = sym (ap shape_of (unnamed_property (take n s) (sym e ∙ h)))

  pub entry_unnamed : k ≡ 0 → false ≡ is_entry_in s n
  unfolding is_entry_in
  entry_unnamed h = sym (ap is_some (unnamed_entry (take n s) (sym e ∙ h)))

  module _ (h : k ≡ 0 → ⊥) where
    name_length : length (take k (take n s)) ≡ k
    name_length = length-take-le k (take n s) (named (take n s) k e h).within

    pub property_mere : k ≡ length (take n s) → Some (shape k 0) ≡ property_in s n
    unfolding property_in
    property_mere z = sym (ap shape_of (mere_property (take n s) k (named (take n s) k e h) z) ∙ ap (λ (j : ℕ). Some (shape j 0)) name_length)

    pub entry_mere : k ≡ length (take n s) → true ≡ is_entry_in s n
    unfolding is_entry_in
    entry_mere z = sym (ap is_some (mere_entry (take n s) k (named (take n s) k e h) z))

    module _ (l : k ≡ length (take n s) → ⊥) where
      before : k < length (take n s)
      before = let w = (named (take n s) k e h).within in omega (arith, l)

      pub property_not : equal_at (take n s) k ≡ false → None ≡ property_in s n
      unfolding property_in
      property_not q = sym (ap shape_of (other_property (take n s) k (named (take n s) k e h) before (equal_not (take n s) k before q)))

      pub entry_not : equal_at (take n s) k ≡ false → false ≡ is_entry_in s n
      unfolding is_entry_in
      entry_not q = sym (ap is_some (other_entry (take n s) k (named (take n s) k e h) before (equal_not (take n s) k before q)))

      pub property_two : (r : Bool) → equal_at (take n s) k ≡ true → equal_at (take n s) (k + 1) ≡ true
          → r ≡ is_value_in (take (length s - (k + 2)) (drop (k + 2) s)) (n - (k + 2)) → shape_if r k 2 ≡ property_in s n
      unfolding property_in
      property_two r q u v =
          let t = take n s in
          let z : k + 1 + 1 ≡ k + 2 = omega arith in
          ap (λ (b : Bool). shape_if b k 2) (v ∙ value_part s n (k + 2)) ∙ shape_value matches 2 (λ v. refl) (value_of (signs Out (drop (k + 2) t))) (take k t) k name_length
          ∙ sym (ap shape_of (said_property t k (named t k e h) before (equal_there t k q).1
          ∙ ap (λ o. given o (λ a. some (property (take k t) a))) (said_two t (k + 1) u ∙ ap (λ (j : ℕ). given (value_of (signs Out (drop j t))) (λ w. some (matches w))) z)))

      pub property_one : (r : Bool) → equal_at (take n s) k ≡ true → equal_at (take n s) (k + 1) ≡ false
          → r ≡ is_value_in (take (length s - (k + 1)) (drop (k + 1) s)) (n - (k + 1)) → shape_if r k 1 ≡ property_in s n
      unfolding property_in
      property_one r q u v =
          let t = take n s in
          ap (λ (b : Bool). shape_if b k 1) (v ∙ value_part s n (k + 1)) ∙ shape_value equals 1 (λ v. refl) (value_of (signs Out (drop (k + 1) t))) (take k t) k name_length
          ∙ sym (ap shape_of (said_property t k (named t k e h) before (equal_there t k q).1 ∙ ap (λ o. given o (λ a. some (property (take k t) a))) (said_one t (k + 1) u)))

      pub entry_one : (r : Bool) → equal_at (take n s) k ≡ true → r ≡ is_value_in (take (length s - (k + 1)) (drop (k + 1) s)) (n - (k + 1)) → r ≡ is_entry_in s n
      unfolding is_entry_in
      entry_one r q v =
          let t = take n s in
          v ∙ value_part s n (k + 1) ∙ entry_value (value_of (signs Out (drop (k + 1) t))) (take k t)
          ∙ sym (ap is_some (valued_entry t k (named t k e h) before (equal_there t k q).1))

      -- where a value begins after one `=`, or after two, is within the line
      pub value_within : equal_at (take n s) k ≡ true → (k + 1 ≤ length s) × (k + 1 ≤ n)
      value_within q = let w = length-take n s in omega (arith, (equal_there (take n s) k q).0)

      pub value_within_2 : equal_at (take n s) (k + 1) ≡ true → (k + 2 ≤ length s) × (k + 2 ≤ n)
      value_within_2 q = let w = length-take n s in omega (arith, (equal_there (take n s) (k + 1) q).0)

-- ---- topics

pub topic_by : (t : List ℕ) (b : Bool) → b ≡ is_name t → shape_if b (length t) 0 ≡ topic_in t
unfolding topic_in topic_of
topic_by t true e = sym (rw (raws_signs t, sym e))
topic_by t false e = sym (rw (raws_signs t, sym e))

-- the length of a name at the front of a part, step by step
-- the part that is the text
pub taken_part : (s : List ℕ) (n e : ℕ) → e ≡ length (take n s) → take e s ≡ take n s
taken_part s n e h = go (leb n (length s)) refl
  where
    l : length (take n s) ≡ min n (length s)
    l = length-take n s

    go : (x : Bool) → leb n (length s) ≡ x → take e s ≡ take n s
    go true p = let q = leb-true n (length s) p in let z : e ≡ n = omega (arith, l) in ap (λ (j : ℕ). take j s) z
    go false p = let q = leb-false n (length s) p in take_all e s (omega (arith, l)) ∙ sym (take_all n s (omega arith))

pub name_nil : (t : List ℕ) → length t ≡ 0 → false ≡ is_name t
unfolding is_name
name_nil [] h = refl
name_nil (b ∷ t) h = absurd (omega arith)

-- a whole name, and an item of display or output, as the code takes them
pub ruleset whole_name = (name_nil, name_is, take-length)

pub ruleset one_entry = (entry_unnamed, entry_mere, entry_not, entry_one, value_within)
