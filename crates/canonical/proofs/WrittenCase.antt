-- Request a: canonical writing is in lower case in the verb, option names and level's argument, and changes no letter elsewhere. Assumes nothing.
use Prim.Native.Nat.{ℕ}
use mathlib.Core.Path.{◌≡◌, refl, sym, ap, ◌∙◌}
use mathlib.Core.List.{List, [], ◌∷◌, map}
use mathlib.Core.Bool.{true, false}
use mathlib.Core.Option.{some}
use lib.ListN.{length, drop}
use Rattle.text.specs.Lists.{all_of}
use Rattle.text.proofs.Tests.{and_l, and_r, and_in, no_case, either}
use Rattle.text.proofs.SameTexts.{eq_same}
use Rattle.terms.specs.Signs.{Sign, raws, bares}
use Rattle.terms.proofs.Bares.{raws_bares}
use Rattle.terms.proofs.SignBytes.{raws_signs}
use Rattle.terms.proofs.RowLaws.{no_row}
use Rattle.words.specs.declared.Kind.{Kind}
use Rattle.words.specs.Words.{lower, lowered, kind_of, verb_of, verb_name, option_of, option_name}
use Rattle.words.proofs.Folding.{lowered_same, lowered_again}
use Rattle.words.proofs.WordLaws.{verb_only_name, verb_shape, option_only_name, option_shape}
use Rattle.terms.specs.declared.Span.{Span}
use Rattle.reading.specs.declared.State.{State}
use Rattle.reading.specs.Command.{argument_by, Argument, Item, verb, option}
use Rattle.reading.specs.Reading.{begin, decide, takes, next, Part, read, part_of, walk_terms, reading_of}
use Rattle.reading.specs.Records.{part_at}
use Rattle.reading.specs.EitherCase.{is_level_kind, in_either_case, part_bytes, letters}
use Rattle.reading.proofs.TakenCases.{taken_case, argument_from}
use Rattle.reading.proofs.PartOrder.{ended_nil, walk_taken, read_walk}
use Rattle.reading.proofs.CaseTerms.{term_in, same_places}
use Rattle.reading.proofs.CaseLetters.{part_letters}
use Rattle.reading.proofs.EitherCase.{own_bytes}
use Rattle.canonical.specs.Canonical.{write_argument, write_item}
use Rattle.canonical.specs.WrittenCase.{right_case}
use Rattle.canonical.proofs.Frame.{clean_text, texts, clean_texts}
use Rattle.canonical.proofs.ReadBack.{one_term}

-- ---- parts in either case are written in lower case

-- a written term is in lower case: its bytes are their own lower case
abbrev IsLowered : List Sign → Type 0
IsLowered w = lowered (raws w) ≡ raws w

-- a text in lower case, written bare, is so: bare signs are their own bytes
bares_low : (s : List ℕ) → lowered s ≡ s → IsLowered (bares s)
bares_low s e = ap lowered (raws_bares s) ∙ e ∙ sym (raws_bares s)

-- the verb is written so: its name has letters in lower case alone
verb_low : (s : List ℕ) (n : ℕ) → verb_of s ≡ some n → IsLowered (write_item (verb n))
verb_low s n h = let o = verb_only_name s n h in bares_low (verb_name n) (lowered_same (verb_name n) (verb_shape n o.0 o.1).1)

-- an option is written so: its long name has such letters alone, and the `-` before it is no letter
option_low : (s : List ℕ) (n : ℕ) → option_of s ≡ some n → IsLowered (write_item (option n))
unfolding raws lowered lower
option_low s n h =
    let o = option_only_name s n h in
    ap (λ (z : List ℕ). 45 ∷ z) (bares_low (option_name n) (lowered_same (option_name n) (option_shape n o.0 o.1).1))

-- level's argument is written so: it was put in lower case where it was read
level_low : (t : List Sign) (k : Kind) (a : Argument) → argument_by k t ≡ some a → is_level_kind k ≡ true → IsLowered (write_argument a)
level_low t k a e =
    argument_from (λ d x. is_level_kind d ≡ true → IsLowered (write_argument x)) t (λ _ n. no_case (sym n)) (λ _ _. bares_low (lowered (raws t)) (lowered_again (raws t)))
    (λ _ n. no_case (sym n)) (λ _ _ n. no_case (sym n)) k a e

-- hence every item in either case is written so, whichever its term was taken as
item_low : (s : State) (t : List Sign) (i : Item) → decide s t ≡ takes i → in_either_case i ≡ true → IsLowered (write_item i)
unfolding decide
item_low s t i d =
    taken_case (λ _ j. in_either_case j ≡ true → IsLowered (write_item j)) s.verb s.seen s.count t (λ k e _. verb_low (raws t) k e)
    (λ k e _ _ _. option_low (drop 1 (raws t)) k e) (λ k a _ e n. level_low t (kind_of k) a e n) (λ _ _ _ _ n. no_case (sym n)) (λ _ _ _ _ n. no_case (sym n))
    (λ _ _ _ n. no_case (sym n)) s.phase i d

-- ---- every other part is written with the letters of its term

-- the written term is taken as the same item in the same state, and a term that is taken as an item that stays exact has that item's letters
item_letters_lem : (s : State) (t : List Sign) (i : Item) → decide s t ≡ takes i → clean_text t ≡ true → in_either_case i ≡ false → letters (raws (write_item i)) ≡ letters (raws t)
item_letters_lem s t i d k n = part_letters s (write_item i) i (one_term s t i d k).again n ∙ sym (part_letters s t i d n)

-- ---- the parts of a line

module _ (line : List ℕ) where
  -- one part: its own bytes in the line are those of the term that it was taken from
  part_case : (s : State) (p : Span) (i : Item) → decide s (term_in line p).text ≡ takes i → clean_text (term_in line p).text ≡ true
      → right_case line (part_of (term_in line p) i) ≡ true
  unfolding right_case
  part_case s p i d k =
      let t = (term_in line p).text in
      let w = raws (write_item i) in
      let own = ap letters (raws_signs (part_at line p) ∙ sym (own_bytes line p i)) in
      either (in_either_case i) (λ e. rw e (eq_same (lowered w) w (item_low s t i d e)))
      (λ e. rw e (eq_same (letters w) (letters (part_bytes line (part_of (term_in line p) i))) (item_letters_lem s t i d k e ∙ own)))

  -- all the parts, as the walk over the line's terms takes them one by one
  walk_case : (n : ℕ) (s : State) (ls : List Span) (ps : List Part) → all_of clean_text (texts (map (term_in line) ls)) ≡ true → walk_terms n s (map (term_in line) ls) ≡ read ps
      → all_of (right_case line) ps ≡ true
  unfolding walk_terms all_of texts
  walk_case n s [] ps k h = rw (ended_nil s.phase n ps h)
  walk_case n s (p ∷ ls) ps k h =
      let f = walk_taken n s (term_in line p) (map (term_in line) ls) ps h in
      let more = all_of clean_text (texts (map (term_in line) ls)) in
      let c = clean_text (term_in line p).text in
      ap (all_of (right_case line)) f.parts
      ∙ and_in (right_case line (part_of (term_in line p) f.item)) (all_of (right_case line) f.rest) (part_case s p f.item f.decided (and_l c more k))
      (walk_case n (next s f.item) ls f.rest (and_r c more k) f.walked)

-- CANONICAL WRITING IS IN LOWER CASE WHERE EITHER CASE IS READ, AND HAS THE LINE'S OWN LETTERS ELSEWHERE
-- (the places of a line's own terms: the law of two lines, of the line and itself)
pub written_case : (line : List ℕ) (ps : List Part) → reading_of line ≡ read ps → all_of (right_case line) ps ≡ true
written_case line ps h =
    let w = read_walk line ps h in
    let here = (same_places line line refl).here in
    walk_case line (length line) begin (same_places line line refl).places ps (ap (λ z. all_of clean_text (texts z)) (sym here) ∙ clean_texts line ((no_row line).1 w.0).clean)
    (ap (walk_terms (length line) begin) (sym here) ∙ w.1)
