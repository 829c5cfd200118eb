-- What follows `endoutput` isn't read: with anything else after that line a reply has the same items and the same number of a refusal. Assumes nothing.
use Prim.Native.Nat.{ℕ, ◌+◌, ◌≤◌}
use mathlib.Core.Path.{◌≡◌, sym, ap, ◌∙◌}
use mathlib.Core.List.{List, ◌∷◌, ◌++◌}
use mathlib.Core.Bool.{true}
use native.Mathlib.Omega.{arith}
use lib.ListN.{length, take}
use Rattle.text.proofs.Tests.{no_case}
use Rattle.replies.specs.declared.Form.TheVariants.{End}
use Rattle.replies.specs.Lines.{line_ends, text_len, is_last, Line, lines_of}
use Rattle.replies.specs.Reading.{verdict_of}
use Rattle.replies.specs.Items.{told_in, says_of}
use Rattle.replies.proofs.TurnLaws.{number}
use Rattle.replies.proofs.Says.{saying, is_read, rest_said, same_told, same_number, same_says}

-- s up to the end of a line's text, and then r
abbrev pub with_rest : Line → List ℕ → List ℕ → List ℕ
with_rest l r s = take (l.place + length l.text) s ++ r

-- l is the line `endoutput` of the reply s; r is what follows, its end of line first, or nothing
module _ (s : List ℕ) (xs : List Line) (l : Line) (ys : List Line) (h : lines_of s ≡ xs ++ (l ∷ ys)) (o : l.form ≡ End) (r : List ℕ) (e : line_ends r ≡ true) where
  same_said : saying (lines_of (with_rest l r s)) ≡ saying (lines_of s)
  same_said = rest_said r e s xs l ys h (ap is_read o) (omega (arith, ap text_len o)) (λ z. no_case (sym (ap is_last o) ∙ z))

  pub unread_told : told_in (lines_of (with_rest l r s)) ≡ told_in (lines_of s)
  unread_told = same_told (with_rest l r s) s same_said

  module _ (a : length s ≤ 65535) (b : length (with_rest l r s) ≤ 65535) where
    pub unread_number : number (verdict_of (with_rest l r s)) ≡ number (verdict_of s)
    unread_number = same_number (with_rest l r s) s same_said b a

    pub unread_says : says_of (with_rest l r s) ≡ says_of s
    unread_says = same_says (with_rest l r s) s same_said b a
