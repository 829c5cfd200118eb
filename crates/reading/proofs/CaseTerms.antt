-- Two lines that differ in the case of letters alone: their terms stand at the same places, and rows 1 to 5 say the same of both. Assumes nothing.
use Prim.Native.Nat.{ℕ, ◌+◌}
use mathlib.Core.Path.{◌≡◌, refl, sym, ap, ◌∙◌}
use mathlib.Core.List.{List, [], ◌∷◌, map, cons-eq-cons, cons≢nil}
use mathlib.Core.Bool.{true}
use lib.ListN.{drop}
use Rattle.text.specs.Bytes.{printable}
use Rattle.text.specs.Lists.{run_len, walk}
use Rattle.terms.specs.declared.Mode.{Mode}
use Rattle.terms.specs.declared.Mode.TheVariants.{Out, OutGrave, In, InGrave}
use Rattle.terms.specs.Signs.{after, signs}
use Rattle.terms.specs.Terms.{Term, terms_from, terms_of}
use Rattle.terms.specs.Rows.{long_flaw, odd_flaw, end_mode, opens, opened_at, open_flaw, many_from, many_flaw, lexical_of}
use Rattle.terms.specs.Scan.{span, is_space, gap_byte, term_len, found, start_at, term_at}
use Rattle.terms.proofs.NextTerm.{terms_some, terms_none}
use Rattle.words.specs.Words.{lower, lowered}
use Rattle.words.proofs.Folding.{lowered_length}
use Rattle.terms.specs.declared.Span.{Span}
use Rattle.reading.specs.Records.{part_at}
use Rattle.reading.proofs.CaseBytes.{lower_byte, lower_printable, folded, lowered_drop, run_lowered}
use Rattle.std.proofs.Common.{Option, Some, None}

-- ---- a line in lower case is scanned as the line is: no byte that a scan looks for is a letter

-- what one byte does: the mode after it, whether it parts terms, whether it opens a quote
after_lower : (m : Mode) (b : ℕ) → after m (lower b) ≡ after m b
unfolding after
after_lower Out b = rw (lower_byte 96 refl b, lower_byte 34 refl b)
after_lower OutGrave b = refl
after_lower In b = rw (lower_byte 96 refl b, lower_byte 34 refl b)
after_lower InGrave b = refl

gap_lower : (m : Mode) (b : ℕ) → gap_byte m (lower b) ≡ gap_byte m b
gap_lower Out b = lower_byte 32 refl b
gap_lower OutGrave b = refl
gap_lower In b = refl
gap_lower InGrave b = refl

opens_lower : (m : Mode) (b i q : ℕ) → opens m (lower b) i q ≡ opens m b i q
opens_lower Out b i q = rw (lower_byte 34 refl b)
opens_lower OutGrave b i q = refl
opens_lower In b i q = refl
opens_lower InGrave b i q = refl

-- how long the term is that a text begins with
len_lowered : (m : Mode) (s : List ℕ) → term_len m (lowered s) ≡ term_len m s
unfolding term_len lowered
len_lowered m [] = refl
len_lowered m (b ∷ s) = rw (gap_lower m b, after_lower m b, len_lowered (after m b) s)

-- the term at or after a place: its start, and all of it
start_lowered : (at : ℕ) (line : List ℕ) → start_at (lowered line) at ≡ start_at line at
unfolding start_at
start_lowered at line =
    ap (λ (z : List ℕ). at + run_len is_space z) (sym (lowered_drop at line)) ∙ ap (λ (n : ℕ). at + n) (run_lowered is_space (lower_byte 32 refl) (drop at line))

term_lowered : (at : ℕ) (line : List ℕ) → term_at (lowered line) at ≡ term_at line at
unfolding term_at
term_lowered at line =
    ap (λ (i : ℕ). found i (term_len Out (drop i (lowered line)))) (start_lowered at line)
    ∙ ap (λ (z : List ℕ). found (start_at line at) (term_len Out z)) (sym (lowered_drop (start_at line at) line))
    ∙ ap (found (start_at line at)) (len_lowered Out (drop (start_at line at) line))

-- where the line ends, and its last open quote
end_lowered : (m : Mode) (s : List ℕ) → end_mode m (lowered s) ≡ end_mode m s
unfolding end_mode walk lowered
end_lowered m [] = refl
end_lowered m (b ∷ s) = ap (λ (k : Mode). end_mode k (lowered s)) (after_lower m b) ∙ end_lowered (after m b) s

opened_lowered : (m : Mode) (i q : ℕ) (s : List ℕ) → opened_at m i q (lowered s) ≡ opened_at m i q s
unfolding opened_at lowered
opened_lowered m i q [] = refl
opened_lowered m i q (b ∷ s) =
    ap (λ (k : Mode). opened_at k (i + 1) (opens m (lower b) i q) (lowered s)) (after_lower m b)
    ∙ ap (λ (j : ℕ). opened_at (after m b) (i + 1) j (lowered s)) (opens_lower m b i q)
    ∙ opened_lowered (after m b) (i + 1) (opens m b i q) s

-- rows 1 to 4
long_lowered : (line : List ℕ) → long_flaw (lowered line) ≡ long_flaw line
unfolding long_flaw
long_lowered line = rw (lowered_length line)

odd_lowered : (line : List ℕ) → odd_flaw (lowered line) ≡ odd_flaw line
unfolding odd_flaw
odd_lowered line = rw (lowered_length line, run_lowered printable lower_printable line)

open_lowered : (line : List ℕ) → open_flaw (lowered line) ≡ open_flaw line
unfolding open_flaw
open_lowered line = rw (lowered_length line, end_lowered Out line, opened_lowered Out 0 0 line)

-- ---- the terms of two such lines

-- the term of a line that stands at a place
abbrev pub term_in : List ℕ → Span → Term
term_in line p = record { start = p.at; text = signs Out (part_at line p) }

module _ (a b : List ℕ) (folds : lowered a ≡ lowered b) where
  -- what a scan finds in the first from a place on, it finds in the second
  same_term : (at : ℕ) (f : Option Span) → term_at a at ≡ f → f ≡ term_at b at
  same_term at f p = sym p ∙ folded (λ l. term_at l at) (term_lowered at) a b folds

  -- the places of the terms from a place on, in both lines
  pub record Spans (at : ℕ) (ts : List Term) : Type 0 where
    pub places : List Span
    pub here : ts ≡ map (term_in a) places
    pub there : terms_from at true (signs Out (drop at b)) ≡ map (term_in b) places

  -- term by term: a scan of the second finds each term where a scan of the first does
  places_from : (at : ℕ) (ts : List Term) → terms_from at true (signs Out (drop at a)) ≡ ts → Spans at ts
  places_from at [] e = go (term_at a at) refl
    where
      go : (f : Option Span) → term_at a at ≡ f → Spans at []
      go None p = record { places = []; here = refl; there = terms_none b at (same_term at None p) }
      go (Some r) p = absurd (cons≢nil (sym (terms_some a at r.at r.len (sym p)) ∙ e))
  places_from at (t ∷ ts) e = go (term_at a at) refl (λ i. places_from i ts)
    where
      go : (f : Option Span) → term_at a at ≡ f → ((i : ℕ) → terms_from i true (signs Out (drop i a)) ≡ ts → Spans i ts) → Spans at (t ∷ ts)
      go None p ih = absurd (cons≢nil (sym (sym (terms_none a at (sym p)) ∙ e)))
      go (Some y) p ih =
          let c = cons-eq-cons.0 (sym (terms_some a at y.at y.len (sym p)) ∙ e) in
          let r = ih (y.at + y.len) c.1 in
          let q = terms_some b at y.at y.len (same_term at (Some (span y.at y.len)) p) in
          record {
            places = span y.at y.len ∷ r.places;
            here = ap (λ (x : Term). x ∷ ts) (sym c.0) ∙ ap (λ (z : List Term). term_in a (span y.at y.len) ∷ z) r.here;
            there = q ∙ ap (λ (z : List Term). term_in b (span y.at y.len) ∷ z) r.there;
          }

  -- BOTH LINES HAVE THEIR TERMS AT THE SAME PLACES
  pub same_places : Spans 0 (terms_of a)
  unfolding terms_of
  same_places = places_from 0 (terms_of a) refl

  -- row 5 looks at the places alone
  many_places : (k : ℕ) (ps : List Span) → many_from k (map (term_in a) ps) ≡ many_from k (map (term_in b) ps)
  unfolding many_from
  many_places k [] = refl
  many_places k (p ∷ ps) = rw (many_places (k + 1) ps)

  many_same : many_flaw a ≡ many_flaw b
  unfolding many_flaw terms_of
  many_same = ap (many_from 0) same_places.here ∙ many_places 0 same_places.places ∙ sym (ap (many_from 0) same_places.there)

  -- ROWS 1 TO 5 SAY THE SAME OF BOTH
  pub same_rows : lexical_of a ≡ lexical_of b
  unfolding lexical_of
  same_rows = rw (folded long_flaw long_lowered a b folds, folded odd_flaw odd_lowered a b folds, folded open_flaw open_lowered a b folds, many_same)
