-- Rows 1 to 5 of the refusals, in their order, with their places.
use Rattle.std.specs.Prelude.{ℕ, ◌+◌, ◌-◌, List, [], ◌∷◌, cond, length, eqb, ltb, Result, Ok, Err}
use Rattle.text.specs.Bytes.{printable}
use Rattle.text.specs.Lists.{run_len, walk}
use Rattle.terms.specs.declared.Mode.{Mode}
use Rattle.terms.specs.declared.Mode.TheVariants.{Out, OutGrave, In, InGrave}
use Rattle.terms.specs.Signs.{after}
use Rattle.terms.specs.Terms.{Term, terms_of}
use Rattle.text.specs.Room.{refusal_at}
use Rattle.text.specs.declared.Refusal.{Refusal}

abbrev pub or_else : Result Unit Refusal → Result Unit Refusal → Result Unit Refusal
or_else (Ok u) v = v
or_else (Err e) v = Err (refusal_at e.number e.place)

-- 1: line over 1,024 bytes, at 1,024
unfoldable pub long_flaw : List ℕ → Result Unit Refusal
long_flaw line = cond (ltb 1024 (length line)) (Err (refusal_at 1 1024)) (Ok tt)

-- 2: a byte outside 20h to 7Eh, at the first such
unfoldable pub odd_flaw : List ℕ → Result Unit Refusal
odd_flaw line = cond (ltb (run_len printable line) (length line)) (Err (refusal_at 2 (run_len printable line))) (Ok tt)

-- where a line ends: outside quotes or in one, with a GRAVE that escapes nothing or without
unfoldable pub end_mode : Mode → List ℕ → Mode
end_mode m s = walk after m s

-- the quote that was opened last: i is the place of the next byte, q the answer so far
abbrev pub opens : Mode → ℕ → ℕ → ℕ → ℕ
opens Out b i q = cond (eqb b 34) i q
opens OutGrave b i q = q
opens In b i q = q
opens InGrave b i q = q

unfoldable pub opened_at : Mode → ℕ → ℕ → List ℕ → ℕ
opened_at m i q [] = q
opened_at m i q (b ∷ s) = opened_at (after m b) (i + 1) (opens m b i q) s

-- 3: last byte is an unescaped GRAVE that escapes nothing, at its index; 4: line ends in a quote, at the opening quote
abbrev pub end_flaw : Mode → ℕ → ℕ → Result Unit Refusal
end_flaw Out n q = Ok tt
end_flaw OutGrave n q = Err (refusal_at 3 (n - 1))
end_flaw In n q = Err (refusal_at 4 q)
end_flaw InGrave n q = Err (refusal_at 3 (n - 1))

unfoldable pub open_flaw : List ℕ → Result Unit Refusal
open_flaw line = end_flaw (end_mode Out line) (length line) (opened_at Out 0 0 line)

-- 5: over 64 terms, at the start of the 65th; k terms came before
unfoldable pub many_from : ℕ → List Term → Result Unit Refusal
many_from k [] = Ok tt
many_from k (t ∷ ts) = let more = many_from (k + 1) ts in cond (eqb k 64) (Err (refusal_at 5 t.start)) more

unfoldable pub many_flaw : List ℕ → Result Unit Refusal
many_flaw line = many_from 0 (terms_of line)

-- 1 to 5 go in that order
unfoldable pub lexical_of : List ℕ → Result Unit Refusal
lexical_of line =
    let later = or_else (open_flaw line) (many_flaw line) in
    or_else (long_flaw line) (or_else (odd_flaw line) later)
