-- Replacing an end of line outside quotes by another changes no item, no turn and no number of a refusal. Assumes nothing.
use Prim.Native.Nat.{ℕ, ◌+◌, ◌<◌, ◌≤◌}
use mathlib.Core.Path.{◌≡◌, refl, sym, ap, ◌∙◌}
use mathlib.Core.List.{List, [], ◌∷◌, ◌++◌, map}
use mathlib.Core.Bool.{true}
use native.Mathlib.Omega.{arith}
use lib.ListN.{length, take, drop, length-append}
use lib.Seq.{drop-drop}
use Rattle.text.specs.Lists.{all_of}
use Rattle.text.proofs.Tests.{and_l}
use Rattle.replies.specs.Lines.{is_end, line_ends, end_len, Line, lines_of}
use Rattle.replies.specs.Reading.{verdict_of}
use Rattle.replies.specs.Items.{told_in, says_of}
use Rattle.replies.proofs.TurnLaws.{number}
use Rattle.replies.proofs.Says.{saying, turns_said, is_read, say, say_ends, say_after, rest_said, same_told, same_number, same_says}

-- s with e for the end of line at place n
abbrev pub with_end : ℕ → List ℕ → List ℕ → List ℕ
with_end n e s = take n s ++ (e ++ drop (n + end_len (drop n s)) s)

-- ends of line, and what follows
ends_front : (e r : List ℕ) → 0 < length e → all_of is_end e ≡ true → line_ends (e ++ r) ≡ true
unfolding all_of
ends_front [] r h a = absurd (omega arith)
ends_front (b ∷ e) r h a = and_l (is_end b) (all_of is_end e) a

-- ---- the theorems: e is one or more ends of line, as CR, LF and CR LF are; it stands for the end of a line that is read, or behind the text's last line

pub three_ends : map (all_of is_end) ((13 ∷ []) ∷ (10 ∷ []) ∷ (13 ∷ 10 ∷ []) ∷ []) ≡ true ∷ true ∷ true ∷ []
unfolding all_of
three_ends = refl

module _ (e : List ℕ) (some_byte : 0 < length e) (all-ends : all_of is_end e ≡ true) (s : List ℕ) (xs : List Line) (l : Line) (ys : List Line) (h : lines_of s ≡ xs ++ (l ∷ ys)) (o : is_read l.form ≡ true) where
  abbrev pub other : List ℕ
  other = with_end (l.place + length l.text) e s

  same_said : saying (lines_of other) ≡ saying (lines_of s)
  same_said =
      let n = l.place + length l.text in
      let k = end_len (drop n s) in
      let r = drop (n + k) s in
      rest_said (e ++ r) (ends_front e r some_byte all-ends) s xs l ys h o (omega (arith, length-append e r, some_byte))
      (λ z. say_ends e r all-ends ∙ ap say (sym (drop-drop k n s)) ∙ say_after (drop n s))

  -- the same items
  pub ends_told : told_in (lines_of other) ≡ told_in (lines_of s)
  ends_told = same_told other s same_said

  -- the same turns of the lines that say something
  pub ends_turns : turns_said (saying (lines_of other)) ≡ turns_said (saying (lines_of s))
  ends_turns = ap turns_said same_said

  module _ (a : length s ≤ 65535) (b : length other ≤ 65535) where
    -- the same number, and what the reply says
    pub ends_number : number (verdict_of other) ≡ number (verdict_of s)
    ends_number = same_number other s same_said b a

    pub ends_says : says_of other ≡ says_of s
    ends_says = same_says other s same_said b a
