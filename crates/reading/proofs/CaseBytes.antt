-- Letters in either case: what a text keeps in lower case, and that its lower case and its letters tell it. Assumes nothing.
use Prim.Native.Nat.{ℕ, zero, suc, ◌+◌}
use mathlib.Core.Path.{◌≡◌, refl, sym, ap, ◌∙◌}
use mathlib.Core.List.{List, [], ◌∷◌, flat_map}
use mathlib.Core.Bool.{Bool, true, false, cond, ◌&&◌}
use native.Mathlib.Omega.{arith}
use lib.ListN.{take, drop, get_or}
use lib.Dec.{eqb, leb}
use Rattle.text.specs.Bytes.{is_letter, is_digit, printable}
use Rattle.text.specs.Lists.{all_of, run_len}
use Rattle.text.specs.Decimal.{is_decimal}
use Rattle.text.proofs.Tests.{or_l, or_in_l, or_in_r, either, no_case}
use Rattle.text.proofs.Classes.{inside, above, within_low, within_high, letter_bounds, other_byte}
use Rattle.words.specs.Words.{lower, lowered}
use Rattle.words.proofs.Folding.{lowered_digits}
use Rattle.reading.specs.EitherCase.{letters}

-- ---- a byte

-- a class that has all letters or none has a byte exactly where it has the byte in lower case: every law of one byte below but the last is a case of this
lower_class : (f : ℕ → Bool) (x : Bool) → ((b : ℕ) → is_letter b ≡ true → f b ≡ x) → (b : ℕ) → f (lower b) ≡ f b
unfolding lower
lower_class f x all b = go (leb 65 b && leb b 90) refl
  where
    go : (t : Bool) → leb 65 b && leb b 90 ≡ t → f (cond t (b + 32) b) ≡ f b
    go true e =
        let l = within_low 65 90 b e in
        let h = within_high 65 90 b e in
        let z = inside 97 122 (b + 32) (omega arith) (omega arith) in
        all (b + 32) (or_in_r (leb 65 (b + 32) && leb (b + 32) 90) (leb 97 (b + 32) && leb (b + 32) 122) z)
        ∙ sym (all b (or_in_l (leb 65 b && leb b 90) (leb 97 b && leb b 122) e))
    go false e = refl

-- no letter becomes anything else, and nothing else a letter
lower_is_letter : (b : ℕ) → is_letter (lower b) ≡ is_letter b
lower_is_letter b = lower_class is_letter true (λ c e. e) b

-- a byte that is no letter stands in a text where it stands in its lower case
pub lower_byte : (k : ℕ) → is_letter k ≡ false → (b : ℕ) → eqb (lower b) k ≡ eqb b k
lower_byte k n b = lower_class (λ c. eqb c k) false (λ c e. other_byte is_letter k c true n e) b

-- row 2 asks for printable bytes, and numbers ask for digits
pub lower_printable : (b : ℕ) → printable (lower b) ≡ printable b
lower_printable b = lower_class printable true (λ c e. let h = letter_bounds c e in inside 32 126 c (omega (arith, h.0)) (omega (arith, h.1))) b

lower_digit : (b : ℕ) → is_digit (lower b) ≡ is_digit b
lower_digit b = lower_class is_digit false (λ c e. above 48 57 c (omega (arith, (letter_bounds c e).0))) b

-- what is no letter is itself in lower case
lower_other : (b : ℕ) → is_letter b ≡ false → lower b ≡ b
unfolding lower
lower_other b e = rw (or_l (leb 65 b && leb b 90) (leb 97 b && leb b 122) e)

-- ---- a text

-- what says of a text what it says of its lower case says the same of two texts that differ in the case of letters alone
pub folded : {A : Type 0} (f : List ℕ → A) → ((s : List ℕ) → f (lowered s) ≡ f s) → (s r : List ℕ) → lowered s ≡ lowered r → f s ≡ f r
folded f k s r e = sym (k s) ∙ ap f e ∙ k r

-- what is left of a text, and its front, in lower case
pub lowered_drop : (n : ℕ) (s : List ℕ) → lowered (drop n s) ≡ drop n (lowered s)
unfolding lowered
lowered_drop zero s = refl
lowered_drop (suc n) [] = refl
lowered_drop (suc n) (b ∷ s) = lowered_drop n s

lowered_take : (n : ℕ) (s : List ℕ) → lowered (take n s) ≡ take n (lowered s)
unfolding lowered
lowered_take zero s = refl
lowered_take (suc n) [] = refl
lowered_take (suc n) (b ∷ s) = ap (λ (z : List ℕ). lower b ∷ z) (lowered_take n s)

-- the same part of two such texts: it differs in the case of letters alone too
pub part_folds : (s r : List ℕ) → lowered s ≡ lowered r → (i n : ℕ) → lowered (take n (drop i s)) ≡ lowered (take n (drop i r))
part_folds s r e i n = is s ∙ ap (λ (z : List ℕ). take n (drop i z)) e ∙ sym (is r)
  where
    is : (z : List ℕ) → lowered (take n (drop i z)) ≡ take n (drop i (lowered z))
    is z = lowered_take n (drop i z) ∙ ap (take n) (lowered_drop i z)

-- a run of a class that has a byte where it has it in lower case is as long there
pub run_lowered : (f : ℕ → Bool) → ((b : ℕ) → f (lower b) ≡ f b) → (s : List ℕ) → run_len f (lowered s) ≡ run_len f s
unfolding run_len lowered
run_lowered f k [] = refl
run_lowered f k (b ∷ s) = rw (k b, run_lowered f k s)

-- digits are no letters, so a number is itself in lower case, and nothing else becomes one
all_digits : (s : List ℕ) → all_of is_digit (lowered s) ≡ all_of is_digit s
unfolding all_of lowered
all_digits [] = refl
all_digits (b ∷ s) = rw (lower_digit b, all_digits s)

pub decimal_lowered : (most : ℕ) (s : List ℕ) → is_decimal most (lowered s) ≡ is_decimal most s
unfolding is_decimal all_of
decimal_lowered most s = either (all_of is_digit s) (λ e. ap (is_decimal most) (lowered_digits s e)) (λ e. no (lowered s) (all_digits s ∙ e) ∙ sym (no s e))
  where
    no : (r : List ℕ) → all_of is_digit r ≡ false → is_decimal most r ≡ false
    no [] e = no_case e
    no (b ∷ r) e = simp e

-- ---- a text's letters

-- a text with other letters in the places of its own
refill : List ℕ → List ℕ → List ℕ
refill [] w = []
refill (c ∷ s) w = cond (is_letter c) (get_or w 0 0 ∷ refill s (drop 1 w)) (c ∷ refill s w)

-- its own letters make a text again of its lower case
refill_own : (s : List ℕ) → refill (lowered s) (letters s) ≡ s
unfolding refill lowered letters flat_map
refill_own [] = refl
refill_own (b ∷ s) = go (is_letter b) refl (refill_own s)
  where
    go : (t : Bool) → is_letter b ≡ t → refill (lowered s) (letters s) ≡ s → refill (lowered (b ∷ s)) (letters (b ∷ s)) ≡ b ∷ s
    go true e ih = rw (lower_is_letter b, e) (ap (λ (z : List ℕ). b ∷ z) ih)
    go false e ih = rw (lower_other b e, e) (ap (λ (z : List ℕ). b ∷ z) ih)

-- A TEXT IS TOLD BY ITS LOWER CASE AND ITS LETTERS
pub told : (s r : List ℕ) → lowered s ≡ lowered r → letters s ≡ letters r → s ≡ r
told s r e f = sym (refill_own s) ∙ ap (λ (z : List ℕ). refill z (letters s)) e ∙ ap (refill (lowered r)) f ∙ refill_own r
