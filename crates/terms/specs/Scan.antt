-- The term at or after a place, as a scan of the bytes finds it. proofs/TermList has it that going on from each end gives the line's terms.
use Rattle.std.specs.Prelude.{ℕ, zero, suc, ◌+◌, List, [], ◌∷◌, Bool, false, cond, not, ◌&&◌, drop, eqb, Option, Some, None}
use Rattle.text.specs.Lists.{run_len}
use Rattle.terms.specs.declared.Mode.{Mode}
use Rattle.terms.specs.declared.Mode.TheVariants.{Out, OutGrave, In, InGrave}
use Rattle.terms.specs.Signs.{after}
use Rattle.terms.specs.declared.Span.{Span}

abbrev pub is_space : ℕ → Bool
is_space b = eqb b 32

-- a byte that parts terms
abbrev pub gap_byte : Mode → ℕ → Bool
gap_byte Out b = is_space b
gap_byte OutGrave b = false
gap_byte In b = false
gap_byte InGrave b = false

-- how many bytes a term has: an open quote or a lone last GRAVE reaches the end
unfoldable pub term_len : Mode → List ℕ → ℕ
term_len m [] = 0
term_len m (b ∷ s) = let more = suc (term_len (after m b) s) in cond (gap_byte m b) 0 more

-- a part of a line by its place and its length
abbrev pub span : ℕ → ℕ → Span
span at len = record { at = at; len = len }

unfoldable pub found : ℕ → ℕ → Option Span
found at zero = None
found at (suc n) = Some (span at (suc n))

-- where the term at or after a place starts
unfoldable pub start_at : List ℕ → ℕ → ℕ
start_at line at = at + run_len is_space (drop at line)

-- from any place it scans as at a line's start; at or past the end there is none
unfoldable pub term_at : List ℕ → ℕ → Option Span
term_at line at = found (start_at line at) (term_len Out (drop (start_at line at) line))

-- a byte that is none of GRAVE, `"` and the one given: outside quotes it changes no mode, and the code passes a run of such bytes without one
unfoldable pub ordinary : ℕ → ℕ → Bool
ordinary stop b = not (eqb b 96) && (not (eqb b 34) && not (eqb b stop))
