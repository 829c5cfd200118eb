-- Terms and escapes, second half: terms are parted by one or more unescaped spaces outside quotes; spaces at either end count for nothing.
use Rattle.std.specs.Prelude.{ℕ, ◌+◌, List, [], ◌∷◌, Bool, true, cond, not, ◌&&◌, length}
use Rattle.text.specs.Lists.{up_to}
use Rattle.terms.specs.declared.Mode.TheVariants.{Out}
use Rattle.terms.specs.Signs.{Sign, is_bare, raw, signs}

abbrev pub is_gap : Sign → Bool
is_gap x = is_bare 32 x

-- where a term starts, and its signs
pub record Term : Type 0 where
  pub start : ℕ
  pub text : List Sign

-- the terms of a text that begins at place i; g: a gap, or the line's start, stands before it
unfoldable pub terms_from : ℕ → Bool → List Sign → List Term
terms_from i g [] = []
terms_from i g (x ∷ xs) =
    let first : Term = record { start = i; text = up_to is_gap (x ∷ xs) } in
    let rest = terms_from (i + length (raw x)) (is_gap x) xs in
    cond (g && not (is_gap x)) (first ∷ rest) rest

unfoldable pub terms_of : List ℕ → List Term
terms_of line = terms_from 0 true (signs Out line)
