-- Decimal numbers: no leading zero but `0` itself, with an upper limit; too large is no number.
use Rattle.std.specs.Prelude.{ℕ, ◌+◌, ◌-◌, ◌*◌, ◌/◌, ◌%◌, List, [], ◌∷◌, Bool, false, cond, not, ◌&&◌, ◌||◌, drop, eqb, leb, ltb, Option, Some, None}
use Rattle.text.specs.Lists.{all_of, is_nil}
use Rattle.text.specs.Bytes.{is_digit}

-- the value of some digits that follow a value
unfoldable pub value_from : ℕ → List ℕ → ℕ
value_from n [] = n
value_from n (b ∷ s) = value_from (n * 10 + (b - 48)) s

unfoldable pub is_decimal : ℕ → List ℕ → Bool
is_decimal most [] = false
is_decimal most (b ∷ s) = all_of is_digit (b ∷ s) && ((not (eqb b 48) || is_nil s) && leb (value_from 0 (b ∷ s)) most)

unfoldable pub decimal_of : ℕ → List ℕ → Option ℕ
decimal_of most s = cond (is_decimal most s) (Some (value_from 0 s)) None

-- how many digits a number below 100,000 has
unfoldable pub width : ℕ → ℕ
width n = cond (ltb n 10) 1 (cond (ltb n 100) 2 (cond (ltb n 1000) 3 (cond (ltb n 10000) 4 5)))

abbrev pub five_digits : ℕ → List ℕ
five_digits n = (48 + n / 10000 % 10) ∷ (48 + n / 1000 % 10) ∷ (48 + n / 100 % 10) ∷ (48 + n / 10 % 10) ∷ (48 + n % 10) ∷ []

-- a number below 100,000 as written: every number that is written has 2 bytes
unfoldable pub digits : ℕ → List ℕ
digits n = drop (5 - width n) (five_digits n)
