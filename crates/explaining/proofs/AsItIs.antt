-- A line that is accepted is shown byte for byte; where no noise stands before a place, the mark stands behind as many spaces; and a line that is too long is
-- told by its first 1,024 bytes, which are all that the joiner keeps of it. Assumes nothing.
use Prim.Native.Nat.{ℕ, ◌<◌}
use mathlib.Core.Path.{◌≡◌, refl, sym, ap, ◌∙◌}
use mathlib.Core.List.{List, [], ◌∷◌, ◌++◌}
use mathlib.Core.Bool.{true}
use native.Mathlib.Omega.{arith}
use lib.ListN.{length, take, replicate, length-take}
use lib.Seq.{take_all}
use Rattle.text.specs.Bytes.{printable}
use Rattle.text.specs.Lists.{all_of}
use Rattle.text.proofs.Tests.{and_l, and_r}
use Rattle.terms.proofs.RowLaws.{no_row}
use Rattle.reading.specs.Reading.{Part, read, reading_of}
use Rattle.reading.proofs.PartOrder.{read_walk}
use Rattle.reading.proofs.Folds.{long_left}
use Rattle.explaining.specs.Explained.{visible, newline, mark_text, kept_text, refused_text, explained_of}
use Rattle.explaining.proofs.PutLaws.{byte_plain}
use Rattle.explaining.proofs.LineLaws.{refused_whole}

pub clean_visible : (s : List ℕ) → all_of printable s ≡ true → visible s ≡ s
unfolding visible all_of
clean_visible [] e = refl
clean_visible (b ∷ s) e =
    ap (λ (x : List ℕ). x ++ visible s) (byte_plain b (and_l (printable b) (all_of printable s) e))
    ∙ ap (λ (x : List ℕ). b ∷ x) (clean_visible s (and_r (printable b) (all_of printable s) e))

-- AN ACCEPTED LINE
pub accepted_visible : (line : List ℕ) (ps : List Part) → reading_of line ≡ read ps → visible line ≡ line
accepted_visible line ps e = clean_visible line ((no_row line).1 (read_walk line ps e).0).clean

-- THE MARK
pub clean_mark : (before : List ℕ) → all_of printable before ≡ true → mark_text before ≡ replicate (length before) 32 ++ (94 ∷ newline)
clean_mark before e = ap (λ (s : List ℕ). replicate (length s) 32 ++ (94 ∷ newline)) (clean_visible before e)

-- A LINE THAT IS TOO LONG
pub long_told : (line : List ℕ) → 1024 < length line → explained_of line ≡ refused_text (take 1024 line) 1 1024
unfolding refused_text
long_told line h =
    refused_whole line 1 1024 (long_left line h)
    ∙ ap (λ (s : List ℕ). kept_text s 1 1024) (sym (take_all 1024 (take 1024 line) (omega (arith, length-take 1024 line))))
