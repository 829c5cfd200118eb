-- Going on from the end of each term: what a reader of terms is given, call by call. And what a list of terms is that stands in order.
use Rattle.std.specs.Prelude.{ℕ, zero, suc, ◌+◌, List, [], ◌∷◌, Bool, ◌&&◌, length, leb, ltb, Option, Some, None}
use Rattle.terms.specs.Signs.{raws}
use Rattle.terms.specs.Terms.{Term}
use Rattle.terms.specs.Scan.{term_at, span}
use Rattle.terms.specs.declared.Span.{Span}

-- the place after a call: the term's end; without a term the place stays
abbrev pub place_after : Option Span → ℕ → ℕ
place_after (Some e) at = e.at + e.len
place_after None at = at

-- the answers of so many calls, the first at this place
unfoldable pub term_calls : ℕ → List ℕ → ℕ → List (Option Span)
term_calls zero line at = []
term_calls (suc k) line at = term_at line at ∷ term_calls k line (place_after (term_at line at) at)

-- how many bytes a term has, and the answer that gives it
unfoldable pub size_of : Term → ℕ
size_of t = length (raws t.text)

unfoldable pub found_term : Term → Option Span
found_term t = Some (span t.start (size_of t))

-- from a place on to an end: in order, none empty, no two overlapping
unfoldable pub in_order : ℕ → ℕ → List Term → Bool
in_order from end [] = leb from end
in_order from end (t ∷ ts) = leb from t.start && (ltb 0 (size_of t) && in_order (t.start + size_of t) end ts)
