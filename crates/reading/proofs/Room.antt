-- "A reading takes at most 399 bytes." Assumes nothing.
use Prim.Native.Nat.{ℕ, zero, suc, ◌+◌, ◌-◌, ◌*◌, ◌<◌, ◌≤◌}
use mathlib.Core.Path.{◌≡◌, refl, ap, ◌∙◌}
use mathlib.Core.List.{List, [], ◌∷◌}
use mathlib.Core.Bool.{Bool, true, false}
use mathlib.Core.Option.{some}
use native.Mathlib.Omega.{arith}
use lib.ListN.{length, drop, get_or, set, length-set, length-append}
use Rattle.text.proofs.Tests.{no_case}
use Rattle.terms.specs.Signs.{Sign, raws}
use Rattle.terms.specs.Terms.{Term, terms_of}
use Rattle.words.specs.declared.Kind.{Kind}
use Rattle.words.specs.declared.Kind.TheVariants.{Mere, Keep, Level, Place, Entries}
use Rattle.words.specs.Words.{option_of, kind_of}
use Rattle.words.proofs.WordLaws.{option_only_name}
use Rattle.forms.specs.Forms.{Property}
use Rattle.reading.specs.declared.Phase.{Phase}
use Rattle.reading.specs.declared.Phase.TheVariants.{First, Options, Waits, Rest}
use Rattle.reading.specs.declared.State.{State}
use Rattle.reading.specs.Command.{Item, verb, option, argument, target, prop, shown_of}
use Rattle.reading.specs.Reading.{state, begin, takes, decide_in, decide, phase_after, next, Part, Reading, refusal, read, part_of, walk_terms, reading_of}
use Rattle.reading.specs.Records.{bytes_of, option_fields, record_of, records_of, read_records}
use Rattle.reading.specs.Shown.{needed_in}
use Rattle.reading.proofs.PartOrder.{ended_nil, walk_taken, read_walk}
use Rattle.reading.proofs.TakenCases.{taken_case}
use Rattle.std.proofs.Common.{Ok}

-- options that may still be given
free : List Bool → ℕ
free [] = 0
free (true ∷ l) = free l
free (false ∷ l) = suc (free l)

set_free : (l : List Bool) (n : ℕ) → n < length l → get_or l n false ≡ false → suc (free (set l n true)) ≡ free l
unfolding free
set_free [] n h e = absurd (omega arith)
set_free (true ∷ l) zero h e = no_case e
set_free (false ∷ l) zero h e = refl
set_free (true ∷ l) (suc n) h e = set_free l n (omega arith) e
set_free (false ∷ l) (suc n) h e = ap suc (set_free l n (omega arith) e)

-- the first place stands for no option
set_free_1 : (l : List Bool) (n : ℕ) → 1 ≤ n → n < length l → get_or l n false ≡ false → suc (free (drop 1 (set l n true))) ≡ free (drop 1 l)
set_free_1 [] n k h e = absurd (omega arith)
set_free_1 (b ∷ l) zero k h e = absurd (omega arith)
set_free_1 (b ∷ l) (suc n) k h e = set_free l n (omega arith) e

-- the most that the records from a state on can take
phase_room : Phase → ℕ
phase_room First = 7
phase_room Options = 5
phase_room (Waits n) = 11
phase_room Rest = 0

room : Phase → List Bool → ℕ → ℕ
room p seen count = phase_room p + 6 * free (drop 1 seen) + 10 * (32 - count)

room_of : State → ℕ
room_of s = room s.phase s.seen s.count

option_room : (k e : ℕ) (d : Kind) → length (bytes_of (option_fields k d e)) + phase_room (phase_after k d) ≡ 11
unfolding phase_room
option_room k e Mere = refl
option_room k e Keep = refl
option_room k e Level = refl
option_room k e Place = refl
option_room k e Entries = refl

-- one part
Room : Phase → ℕ → List Bool → ℕ → Item → Type 0
Room p v seen count i = (a n : ℕ) → length (record_of (shown_of i) a n) + room_of (next (state p v seen count) i) ≤ room p seen count

option_part : (v : ℕ) (seen : List Bool) (count k : ℕ) (s : List ℕ) → option_of s ≡ some k → get_or seen k false ≡ false → length seen ≡ 13 → Room Options v seen count (option k)
unfolding Room room_of room
option_part v seen count k s p q l a n =
    let b = option_only_name s k p in
    let y = b.1 in
    let f = set_free_1 seen k b.0 (omega arith) q in
    let o = option_room k (a + n) (kind_of k) in
    let five : phase_room Options ≡ 5 = unfold phase_room in refl in
    omega arith

prop_room : (p : Phase) (v : ℕ) (seen : List Bool) (count : ℕ) (q : Property) → count < 32 → Room p v seen count (prop q)
unfolding Room room_of room phase_room
prop_room p v seen count q c a n = omega arith

one_room : (p : Phase) (v : ℕ) (seen : List Bool) (count : ℕ) (t : List Sign) (i : Item) → decide_in p v seen count t ≡ takes i → length seen ≡ 13 → Room p v seen count i
unfolding Room room_of room phase_room
one_room p v seen count t i h l =
    taken_case (λ ph j. Room ph v seen count j) v seen count t (λ k e a n. omega arith) (λ k e _ f. option_part v seen count k (drop 1 (raws t)) e f l)
    (λ k x d e a n. omega arith) (λ g x y e a n. omega arith) (λ q x c e. prop_room Options v seen count q c) (λ q c e. prop_room Rest v seen count q c) p i h

next_length : (s : State) (i : Item) → length (next s i).seen ≡ length s.seen
next_length s (verb n) = refl
next_length s (option n) = length-set s.seen n true
next_length s (argument n a) = refl
next_length s (target a) = refl
next_length s (prop a) = refl

walk_room : (n : ℕ) (s : State) (ts : List Term) (ps : List Part) → walk_terms n s ts ≡ read ps → length s.seen ≡ 13 → length (records_of ps) ≤ room_of s
unfolding records_of walk_terms
walk_room n s [] ps h l = rw (ended_nil s.phase n ps h) (omega arith)
walk_room n s (t ∷ ts) ps h l =
    let k = walk_taken n s t ts ps h in
    let r = walk_room n (next s k.item) ts k.rest k.walked (next_length s k.item ∙ l) in
    put k.item k.rest k.decided k.parts r
  where
    one : (i : Item) → decide s t.text ≡ takes i → length (record_of (shown_of i) t.start (length (raws t.text))) + room_of (next s i) ≤ room_of s
    one i d = unfold decide Room room_of in one_room s.phase s.verb s.seen s.count t.text i d l t.start (length (raws t.text))

    put : (i : Item) (qs : List Part) → decide s t.text ≡ takes i → ps ≡ part_of t i ∷ qs → length (records_of qs) ≤ room_of (next s i) → length (records_of ps) ≤ room_of s
    put i qs d e r =
        let o = one i d in
        let m = length-append (record_of (shown_of i) t.start (length (raws t.text))) (records_of qs) in
        rw e (omega arith)

begin_room : room_of begin ≡ 399
unfolding room_of room phase_room free
begin_room = refl

pub records_most : (line : List ℕ) (ps : List Part) → reading_of line ≡ read ps → length (records_of ps) ≤ 399
records_most line ps h =
    let r = walk_room (length line) begin (terms_of line) ps (read_walk line ps h).1 refl in
    let b = begin_room in
    omega arith

-- AT MOST 399 BYTES, blank among them
pub at_most_399 : (line : List ℕ) (ps : List Part) → reading_of line ≡ read ps → length (read_records ps) ≤ 399
at_most_399 line [] h = omega arith
at_most_399 line (p ∷ ps) h = records_most line (p ∷ ps) h

-- so does what a line is found to need
pub needed_most : (line : List ℕ) (n : ℕ) → Ok n ≡ needed_in (reading_of line) → n ≤ 399
needed_most line n e = go (reading_of line) refl
  where
    go : (r : Reading) → reading_of line ≡ r → n ≤ 399
    go (refusal k p) h = let z : ◌≡◌ {A = ℕ} 0 1 = cc (rw h at e) in absurd (omega arith)
    go (read ps) h = let m : n ≡ length (read_records ps) = cc (rw h at e) in omega (arith, m, at_most_399 line ps h)
