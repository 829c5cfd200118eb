-- Laws of the classes of bytes. Assumes nothing.
use Prim.Native.Nat.{ℕ, ◌<◌, ◌≤◌}
use mathlib.Core.Path.{◌≡◌, sym, ap, ◌∙◌}
use mathlib.Core.Bool.{Bool, true, false, not, ◌&&◌, ◌||◌, and-false}
use native.Mathlib.Omega.{arith}
use borrow.Author.Tests.{ne_eqb, le-leb, lt-leb, leb-true}
use lib.Dec.{eqb, leb}
use Rattle.text.specs.Bytes.{is_letter, is_digit, is_word}
use Rattle.text.proofs.Tests.{and_l, and_r, or_in_l, or_case, no_case}

-- a byte between two bounds, and outside them
module _ (lo hi b : ℕ) where
  pub within_low : leb lo b && leb b hi ≡ true → lo ≤ b
  within_low e = leb-true lo b (and_l (leb lo b) (leb b hi) e)

  pub within_high : leb lo b && leb b hi ≡ true → b ≤ hi
  within_high e = leb-true b hi (and_r (leb lo b) (leb b hi) e)

  pub inside : lo ≤ b → b ≤ hi → leb lo b && leb b hi ≡ true
  inside h k = simp (le-leb lo b h, le-leb b hi k)

  pub below : b < lo → leb lo b && leb b hi ≡ false
  below h = simp (lt-leb lo b h)

  pub above : hi < b → leb lo b && leb b hi ≡ false
  above h = simp (lt-leb b hi h) (and-false (leb lo b))

module _ (b : ℕ) where
  -- the bounds of a letter and of a digit
  pub letter_bounds : is_letter b ≡ true → (65 ≤ b) × (b ≤ 122)
  letter_bounds e =
      or_case (leb 65 b && leb b 90) (leb 97 b && leb b 122) e (λ p. let l = within_low 65 90 b p in let h = within_high 65 90 b p in omega arith)
      (λ p. let l = within_low 97 122 b p in let h = within_high 97 122 b p in omega arith)

  pub digit_bounds : is_digit b ≡ true → (48 ≤ b) × (b ≤ 57)
  digit_bounds e = (within_low 48 57 b e, within_high 48 57 b e)

  -- letters are word bytes
  pub letter_word : is_letter b ≡ true → is_word b ≡ true
  unfolding is_word
  letter_word e = or_in_l (is_letter b) (is_digit b || eqb b 95) e

  -- no letter is a digit
  pub digit_no_letter : is_digit b ≡ true → is_letter b ≡ false
  digit_no_letter e = let h = digit_bounds e in simp (lt-leb 65 b (omega arith), lt-leb 97 b (omega arith))

-- a byte of another class is another byte: x says whether the class has b, and k is not as b is
pub other_byte : (f : ℕ → Bool) (k b : ℕ) (x : Bool) → f k ≡ not x → f b ≡ x → eqb b k ≡ false
other_byte f k b x n e = ne_eqb b k (λ q. differs x (sym e ∙ ap f q ∙ n))
  where
    differs : (x : Bool) → x ≡ not x → ⊥
    differs true z = no_case z
    differs false z = no_case (sym z)
