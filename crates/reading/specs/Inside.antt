-- Where parts of a line stand, and where a place does.
use Rattle.std.specs.Prelude.{ℕ, ◌+◌, ◌-◌, ◌<◌, ◌≤◌, ◌≡◌, List, [], ◌∷◌, ◌++◌, Bool, false, ◌&&◌, take, leb, ltb}
use Rattle.text.specs.Lists.{all_of}
use Rattle.terms.specs.declared.Mode.TheVariants.{Out}
use Rattle.terms.specs.Signs.{raws}
use Rattle.terms.specs.Terms.{Term, terms_of}
use Rattle.terms.specs.Rows.{end_mode}
use Rattle.terms.specs.Going.{size_of}
use Rattle.reach.specs.Pairs.{grave_waits}
use Rattle.terms.specs.declared.Span.{Span}
use Rattle.reading.specs.Command.{shown_of}
use Rattle.reading.specs.Reading.{Part}
use Rattle.reading.specs.Records.{Field, byte, part, fields_of}

-- from a place on to an end: in line order, none empty, no two overlapping
unfoldable pub parts_in_order : ℕ → ℕ → List Part → Bool
parts_in_order from end [] = leb from end
parts_in_order from end (p ∷ ps) = leb from p.start && (ltb 0 p.len && parts_in_order (p.start + p.len) end ps)

-- the positions and lengths that a part's record names
abbrev pub spans_in : List Field → List Span
spans_in [] = []
spans_in (byte b ∷ fs) = spans_in fs
spans_in (part s ∷ fs) = s ∷ spans_in fs

abbrev pub spans_of : Part → List Span
spans_of p = spans_in (fields_of (shown_of p.item) p.start p.len)

-- is it within these bounds?
abbrev pub is_within : ℕ → ℕ → Span → Bool
is_within from end s = leb from s.at && leb (s.at + s.len) end

-- does each position that a part's record names, with its length, lie in the part?
abbrev pub names_itself : Part → Bool
names_itself p = all_of (is_within p.start (p.start + p.len)) (spans_of p)

-- do all of them lie in the first n bytes?
abbrev pub is_inside : ℕ → Part → Bool
is_inside n p = all_of (is_within 0 n) (spans_of p)

-- p lies in a term of the line or at its end, and never between a GRAVE and the byte that it takes with it
pub record InTerm (line : List ℕ) (p : ℕ) : Type 0 where
  pub before : List Term
  pub term : Term
  pub after : List Term
  pub among : terms_of line ≡ before ++ (term ∷ after)
  pub from : term.start ≤ p
  pub to : p ≤ term.start + size_of term
  pub unsplit : p < term.start + size_of term → grave_waits (end_mode Out (take (p - term.start) (raws term.text))) ≡ false
