-- A value by its first byte. Assumes nothing.
use Prim.Native.Nat.{ℕ, ◌-◌}
use mathlib.Core.Path.{◌≡◌, refl, sym, ap, ◌∙◌}
use mathlib.Core.List.{List, [], ◌∷◌, ◌++◌, map}
use mathlib.Core.Bool.{Bool, true, false, cond}
use mathlib.Core.Option.{none, some}
use native.Mathlib.Omega.{arith}
use lib.ListN.{length, get_or, take, drop}
use lib.Dec.{eqb}
use borrow.Author.Tests.{eqb-true, ne_eqb}
use Rattle.text.proofs.Slices.{part_from, drop_take}
use Rattle.terms.specs.declared.Mode.TheVariants.{Out, OutGrave}
use Rattle.terms.specs.Signs.{signs, stands}
use Rattle.forms.specs.Forms.{starts, is_text, items_in, is_list, list_of, text_of, one, many, value_of}
use Rattle.forms.specs.Answers.{is_some, is_value_in}
use Rattle.terms.proofs.ByteCases.{out_case, grave_first}
use Rattle.terms.proofs.Bares.{bare_signs}

-- ---- the first sign of a text

grave_starts : (k : ℕ) (s : List ℕ) → eqb 96 k ≡ false → starts k (signs OutGrave s) ≡ false
grave_starts k s e = grave_first (λ z. starts k z ≡ false) (λ r. e) (λ b r. refl) s

-- it is a bare byte k where the first byte is k, for every k but GRAVE
pub starts_byte : (k b : ℕ) (s : List ℕ) → eqb 96 k ≡ false → starts k (signs Out (b ∷ s)) ≡ eqb b k
unfolding signs
starts_byte k b s e =
    out_case (λ g m. starts k (g ++ signs m s) ≡ eqb b k) b (λ p. grave_starts k s e ∙ sym (ap (λ z. eqb z k) (eqb-true b 96 p) ∙ e))
    (λ _ q. sym (ap (λ z. eqb z k) (eqb-true b 34 q))) (λ _ _. refl)

-- ---- a value

pub some_if : {A : Type 0} (b : Bool) (a : A) → is_some (cond b (some a) none) ≡ b
some_if true a = refl
some_if false a = refl

pub value_text_lem : (t : List ℕ) → (get_or t 0 0 ≡ 40 → ⊥) → is_some (value_of (signs Out t)) ≡ is_text (signs Out t)
unfolding value_of text_of
value_text_lem [] h = unfold signs in some_if (is_text []) (one (stands []))
value_text_lem (b ∷ t) h = rw (starts_byte 40 b t refl, ne_eqb b 40 h) (some_if (is_text (signs Out (b ∷ t))) (one (stands (signs Out (b ∷ t)))))

pub value_list : (t : List ℕ) → get_or t 0 0 ≡ 40 → is_some (value_of (signs Out t)) ≡ is_list (signs Out (drop 1 t))
unfolding value_of list_of
value_list [] h = absurd (omega arith)
value_list (b ∷ t) h =
    ap (λ z. is_some (value_of (signs Out (z ∷ t)))) h ∙ ap (λ z. is_some (value_of z)) (bare_signs 40 t refl refl)
    ∙ some_if (is_list (signs Out t)) (many (map stands (items_in (signs Out t))))

module _ (s : List ℕ) (n : ℕ) where
  pub empty_value : length (take n s) ≡ 0 → false ≡ is_value_in s n
  unfolding is_value_in
  empty_value h = go (take n s) h
    where
      go : (t : List ℕ) → length t ≡ 0 → false ≡ is_some (value_of (signs Out t))
      go [] e = unfold value_of text_of is_text signs in refl
      go (b ∷ t) e = absurd (omega arith)

  pub text_value : (get_or (take n s) 0 0 ≡ 40 → ⊥) → is_text (signs Out (take n s)) ≡ is_value_in s n
  unfolding is_value_in
  text_value h = sym (value_text_lem (take n s) h)

  -- the list's reader gets the part after the parenthesis
  pub list_value : get_or (take n s) 0 0 ≡ 40 → is_list (signs Out (take (n - 1) (take (length s - 1) (drop 1 s)))) ≡ is_value_in s n
  unfolding is_value_in
  list_value h =
      ap (λ (t : List ℕ). is_list (signs Out (take (n - 1) t))) (part_from s 1) ∙ ap (λ (t : List ℕ). is_list (signs Out t)) (sym (drop_take 1 n s))
      ∙ sym (value_list (take n s) h)

-- the value that stands v bytes into a text, by the part of the line where it begins
pub value_part : (s : List ℕ) (n v : ℕ) → is_value_in (take (length s - v) (drop v s)) (n - v) ≡ is_some (value_of (signs Out (drop v (take n s))))
unfolding is_value_in
value_part s n v =
    ap (λ (t : List ℕ). is_some (value_of (signs Out (take (n - v) t)))) (part_from s v) ∙ ap (λ (t : List ℕ). is_some (value_of (signs Out t))) (sym (drop_take v n s))

-- a value by its first byte, as the code takes it
pub ruleset first_byte = (empty_value, text_value, list_value)
