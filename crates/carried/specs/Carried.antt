-- The reader that carries the lent line with its place.
use Rattle.std.specs.Prelude.{ℕ, zero, suc, ◌+◌, List, [], ◌∷◌, Result, Ok, Err, Option, Some, None}
use Rattle.terms.specs.Rows.{lexical_of}
use Rattle.terms.specs.Scan.{term_at}
use Rattle.text.specs.declared.Refusal.{Refusal}
use Rattle.terms.specs.declared.Span.{Span}

-- a term, or none, of a line that is not refused
abbrev pub found_as : Option Span → Result (Option Span) Refusal
found_as f = Ok f

-- on a line that rows 1 to 5 refuse, that refusal from every place; on another, the term at or after the place, or none
abbrev pub yield_by : Result Unit Refusal → Result (Option Span) Refusal → Result (Option Span) Refusal
yield_by (Ok u) y = y
yield_by (Err e) y = Err e

unfoldable pub yield_at : List ℕ → ℕ → Result (Option Span) Refusal
yield_at line at = yield_by (lexical_of line) (found_as (term_at line at))

-- without a term the place stays
abbrev pub past_by : ℕ → Result (Option Span) Refusal → ℕ
past_by at (Ok (Some e)) = e.at + e.len
past_by at (Ok None) = at
past_by at (Err e) = at

unfoldable pub past_at : List ℕ → ℕ → ℕ
past_at line at = past_by at (yield_at line at)

-- what n calls yield one after another, moving on after each
unfoldable pub yields : ℕ → List ℕ → ℕ → List (Result (Option Span) Refusal)
yields zero line at = []
yields (suc n) line at = yield_at line at ∷ yields n line (past_at line at)
