-- The machine for the arguments of keep and level, as the code has it. proofs/Longest has it that it goes as far as the paper says.
use Rattle.std.specs.Prelude.{ℕ, ◌+◌, ◌-◌, ◌*◌, Bool, true, false, cond, ◌&&◌, get_or, eqb, leb, ltb, Option, Some, None}
use Rattle.text.specs.Bytes.{is_digit}
use Rattle.words.specs.Words.{lower, all_name}
use Rattle.reach.specs.declared.Tally.{Tally}
use Rattle.reach.specs.declared.Tally.TheVariants as tally

-- one digit after digits of the value v, up to a limit
unfoldable pub digit_more : ℕ → ℕ → ℕ → Option ℕ
digit_more most v b = cond (is_digit b && leb (v * 10 + (b - 48)) most) (Some (v * 10 + (b - 48))) None

-- the letter of `all` after the first n, in either case
unfoldable pub is_all_letter : ℕ → ℕ → Bool
is_all_letter n b = ltb n 3 && eqb (lower b) (get_or all_name n 0)

unfoldable pub all_step : ℕ → ℕ → Tally
all_step n b = cond (is_all_letter n b) (tally.All (n + 1)) tally.Off

abbrev pub number_or : Tally → Option ℕ → Tally
number_or other (Some v) = tally.Number v
number_or other None = other

-- a level may be `all`
unfoldable pub first_step : Bool → ℕ → Tally
first_step level b = cond (eqb b 48) tally.Zero (number_or (cond level (all_step 0 b) tally.Off) (digit_more 4294967295 0 b))

abbrev pub tally_step : Bool → Tally → ℕ → Tally
tally_step level tally.First b = first_step level b
tally_step level tally.Zero b = tally.Off
tally_step level (tally.Number v) b = number_or tally.Off (digit_more 4294967295 v b)
tally_step level (tally.All n) b = all_step n b
tally_step level tally.Off b = tally.Off

abbrev pub is_off_tally : Tally → Bool
is_off_tally tally.First = false
is_off_tally tally.Zero = false
is_off_tally (tally.Number v) = false
is_off_tally (tally.All n) = false
is_off_tally tally.Off = true
