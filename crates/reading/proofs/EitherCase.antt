-- Request a: verbs, option names and level's `all` in either case, everything else exact. Assumes nothing.
use Prim.Native.Nat.{ℕ}
use mathlib.Core.Path.{◌≡◌, refl, sym, ap, ◌∙◌}
use mathlib.Core.List.{List, [], ◌∷◌, map, cons-eq-cons}
use mathlib.Core.Bool.{true, ◌&&◌, ◌||◌}
use mathlib.Core.Option.{some-injective}
use lib.ListN.{length, drop}
use Rattle.text.specs.Bytes.{same_bytes}
use Rattle.text.specs.Lists.{all_of}
use Rattle.text.proofs.Tests.{and_l, and_r, and_in}
use Rattle.text.proofs.Options.{none_some}
use Rattle.terms.specs.declared.Mode.TheVariants.{Out}
use Rattle.terms.specs.Signs.{signs, raws}
use Rattle.terms.specs.Terms.{terms_of}
use Rattle.terms.proofs.SignBytes.{raws_signs}
use Rattle.words.specs.Words.{lowered}
use Rattle.words.proofs.Folding.{lowered_length}
use Rattle.forms.proofs.PropertyLaws.{taken_part}
use Rattle.terms.specs.declared.Span.{Span}
use Rattle.reading.specs.declared.State.{State}
use Rattle.reading.specs.Command.{Item}
use Rattle.reading.specs.Reading.{begin, takes, next, Part, Reading, refusal, read, adding, part_of, unless, walk_terms, reading_of, command_in, command_of}
use Rattle.reading.specs.Records.{part_at}
use Rattle.reading.specs.EitherCase.{in_either_case, part_bytes, exact_in}
use Rattle.reading.proofs.PartOrder.{ended_nil, walk_taken, read_walk}
use Rattle.reading.proofs.CaseBytes.{folded, part_folds}
use Rattle.reading.proofs.CaseTerms.{term_in, same_places, same_rows}
use Rattle.reading.proofs.CaseDecisions.{taken_alike}
use Rattle.reading.proofs.CaseLetters.{taken_same}
use Rattle.std.proofs.Common.{Result}
use Rattle.text.specs.declared.Refusal.{Refusal}

abbrev item_of : Part → Item
item_of p = p.item

-- the bytes of a part are those of its place
pub own_bytes : (line : List ℕ) (p : Span) (i : Item) → part_bytes line (part_of (term_in line p) i) ≡ part_at line p
own_bytes line p i = taken_part (drop p.at line) p.len (length (raws (signs Out (part_at line p)))) (ap length (raws_signs (part_at line p)))

-- two lines that differ in the case of letters alone
module _ (a b : List ℕ) (folds : lowered a ≡ lowered b) where
  same_length : length a ≡ length b
  same_length = folded length lowered_length a b folds

  -- so do their texts at a place, and a part that stands there is the same in both
  place_folds : (p : Span) → lowered (part_at a p) ≡ lowered (part_at b p)
  place_folds p = part_folds a b folds p.at p.len

  same_part : (p : Span) (i : Item) → part_of (term_in a p) i ≡ part_of (term_in b p) i
  same_part p i =
      ap (λ (k : ℕ). record { start = p.at; len = k; item = i })
      (ap length (raws_signs (part_at a p)) ∙ folded length lowered_length (part_at a p) (part_at b p) (place_folds p) ∙ sym (ap length (raws_signs (part_at b p))))

  -- the test of a part by the texts at its place
  exact_at : (p : Span) (i : Item) (ps : List Part) → exact_in (part_of (term_in a p) i ∷ ps) a b ≡ (in_either_case i || same_bytes (part_at a p) (part_at b p)) && exact_in ps a b
  unfolding exact_in all_of
  exact_at p i ps = rw (own_bytes a p i, ap (part_bytes b) (same_part p i) ∙ own_bytes b p i)

  -- term by term: where the first is read and the second has the same bytes in what stays exact, the second is read alike
  walk_alike : (n : ℕ) (s : State) (ls : List Span) (ps : List Part) → walk_terms n s (map (term_in a) ls) ≡ read ps → exact_in ps a b ≡ true
      → walk_terms n s (map (term_in b) ls) ≡ read ps
  unfolding walk_terms
  walk_alike n s [] ps h e = h
  walk_alike n s (p ∷ ls) ps h e =
      let k = walk_taken n s (term_in a p) (map (term_in a) ls) ps h in
      let i = k.item in
      let x = in_either_case i || same_bytes (part_at a p) (part_at b p) in
      let both : x && exact_in k.rest a b ≡ true = sym (ap (λ (z : List Part). exact_in z a b) k.parts ∙ exact_at p i k.rest) ∙ e in
      rw (taken_alike (part_at a p) (part_at b p) (place_folds p) s i k.decided (and_l x (exact_in k.rest a b) both))
      (ap (adding (part_of (term_in b p) i)) (walk_alike n (next s i) ls k.rest k.walked (and_r x (exact_in k.rest a b) both))
      ∙ ap (λ (q : Part). read (q ∷ k.rest)) (sym (same_part p i))
      ∙ ap read (sym k.parts))

  -- and where both are read as the same items, they have the same bytes there
  walk_same : (n : ℕ) (s : State) (ls : List Span) (ps qs : List Part) → walk_terms n s (map (term_in a) ls) ≡ read ps → walk_terms n s (map (term_in b) ls) ≡ read qs
      → map item_of ps ≡ map item_of qs → exact_in ps a b ≡ true
  unfolding walk_terms
  walk_same n s [] ps qs h k e = rw (ended_nil s.phase n ps h) (unfold exact_in all_of in refl)
  walk_same n s (p ∷ ls) ps qs h k e =
      let f = walk_taken n s (term_in a p) (map (term_in a) ls) ps h in
      let g = walk_taken n s (term_in b p) (map (term_in b) ls) qs k in
      let c = cons-eq-cons.0 (sym (ap (map item_of) f.parts) ∙ e ∙ ap (map item_of) g.parts) in
      let d = g.decided ∙ ap takes (sym c.0) in
      let w = ap (λ (i : Item). walk_terms n (next s i) (map (term_in b) ls)) c.0 ∙ g.walked in
      ap (λ (z : List Part). exact_in z a b) f.parts
      ∙ exact_at p f.item f.rest
      ∙ and_in (in_either_case f.item || same_bytes (part_at a p) (part_at b p)) (exact_in f.rest a b)
      (taken_same (part_at a p) (part_at b p) (place_folds p) s f.item f.decided d) (walk_same n (next s f.item) ls f.rest g.rest f.walked w c.1)

  -- the walks over both, by the places of their terms
  walk_here : (ps : List Part) → reading_of a ≡ read ps → walk_terms (length a) begin (map (term_in a) (same_places a b folds).places) ≡ read ps
  walk_here ps is = ap (walk_terms (length a) begin) (sym (same_places a b folds).here) ∙ (read_walk a ps is).1

  walk_there : walk_terms (length b) begin (terms_of b) ≡ walk_terms (length a) begin (map (term_in b) (same_places a b folds).places)
  unfolding terms_of
  walk_there = ap (λ (n : ℕ). walk_terms n begin (terms_of b)) (sym same_length) ∙ ap (walk_terms (length a) begin) (same_places a b folds).there

-- two lines that differ in the case of letters alone, the first of them read as these parts
module _ (a b : List ℕ) (ps : List Part) (is : reading_of a ≡ read ps) (folds : lowered a ≡ lowered b) where
  -- where they have the same bytes in all that stays exact, the second is read as the same parts at the same places
  pub either_case : exact_in ps a b ≡ true → reading_of b ≡ read ps
  unfolding reading_of
  either_case h =
      ap (λ (v : Result Unit Refusal). unless v (walk_terms (length b) begin (terms_of b))) (sym (same_rows a b folds) ∙ (read_walk a ps is).0)
      ∙ walk_there a b folds
      ∙ walk_alike a b folds (length a) begin (same_places a b folds).places ps (walk_here a b folds ps is) h

  -- and where both are the same command, they have the same bytes there
  pub exact_elsewhere : command_of a ≡ command_of b → exact_in ps a b ≡ true
  unfolding command_of
  exact_elsewhere h = go (reading_of b) refl
    where
      go : (r : Reading) → reading_of b ≡ r → exact_in ps a b ≡ true
      go (refusal k p) e = none_some (map item_of ps) (sym (ap command_in e) ∙ sym h ∙ ap command_in is)
      go (read qs) e =
          walk_same a b folds (length a) begin (same_places a b folds).places ps qs (walk_here a b folds ps is) (sym (walk_there a b folds) ∙ (read_walk b qs e).1)
          (some-injective (map item_of ps) (map item_of qs) (sym (ap command_in is) ∙ h ∙ ap command_in e))
