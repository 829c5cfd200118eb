-- The positions that the records of a reading name lie inside the line, each within its own part. Assumes nothing.
use Prim.Native.Nat.{ℕ, ◌+◌, ◌-◌, ◌<◌, ◌≤◌}
use mathlib.Core.Path.{◌≡◌, refl, sym, ap, ◌∙◌}
use mathlib.Core.List.{List, [], ◌∷◌, ◌++◌}
use mathlib.Core.Bool.{Bool, true, false, cond}
use mathlib.Core.Option.{some}
use native.Mathlib.Omega.{arith}
use lib.ListN.{length, length-append}
use lib.Dec.{eqb, leb}
use borrow.Author.Tests.{le-leb, leb-true}
use Rattle.text.specs.Lists.{all_of, any_of, up_to, past}
use Rattle.text.proofs.Tests.{and_l, and_r, and_in, no_case}
use Rattle.text.proofs.AllAny.{all_mono}
use Rattle.terms.specs.Signs.{Sign, bare, raw, raws, is_bare}
use Rattle.terms.specs.Terms.{Term, terms_of}
use Rattle.words.specs.declared.Kind.{Kind}
use Rattle.words.specs.declared.Kind.TheVariants.{Mere, Keep, Level, Place, Entries}
use Rattle.words.specs.Words.{kind_of}
use Rattle.forms.specs.Forms.{starts, Said, alone, equals, matches, Property, said_of, property_of, topic_of}
use Rattle.forms.specs.Answers.{operator_of}
use Rattle.reading.specs.declared.Phase.{Phase}
use Rattle.reading.specs.declared.State.{State}
use Rattle.terms.specs.declared.Span.{Span}
use Rattle.reading.specs.Command.{Item, option, prop, shown_of}
use Rattle.reading.specs.Reading.{begin, is_help, takes, decide_in, decide, next, Part, read, part_of, walk_terms, reading_of}
use Rattle.terms.specs.Scan.{span}
use Rattle.reading.specs.Records.{option_fields, value_span, fields_of}
use Rattle.reading.specs.Inside.{parts_in_order, spans_in, spans_of, is_within, names_itself, is_inside}
use Rattle.reading.proofs.TakenCases.{taken_case}
use Rattle.reading.proofs.PartOrder.{ended_nil, walk_taken, read_walk, parts_in_order_lem, bounds, order_ends}
use Rattle.terms.proofs.SignBytes.{raws_append}
use Rattle.terms.proofs.Bares.{bare_is, bare_split}
use Rattle.forms.proofs.FormCases.{said_from, topic_from, property_from}

-- ---- a property's name and operator have as many bytes as they say

split_size : (k : ℕ) → eqb 34 k ≡ false → (t : List Sign) → any_of (is_bare k) t ≡ true → length (raws t) ≡ length (raws (up_to (is_bare k) t)) + 1 + length (raws (past (is_bare k) t))
unfolding raws
split_size k n t e =
    let s = ap (λ (z : List Sign). length (raws z)) (bare_split k n t e) ∙ ap length (raws_append (up_to (is_bare k) t) (bare k ∷ past (is_bare k) t)) in
    let l = length-append (raws (up_to (is_bare k) t)) (k ∷ raws (past (is_bare k) t)) in
    omega arith

starts_some : (k : ℕ) → eqb 34 k ≡ false → (t : List Sign) → starts k t ≡ true → 0 < length (raws t)
unfolding raws
starts_some k n [] e = no_case (sym e)
starts_some k n (x ∷ t) e = let l = ap (λ (y : Sign). length (raw y ++ raws t)) (bare_is k n x e) in omega arith

said_size : (t : List Sign) (s : Said) → said_of t ≡ some s → operator_of s ≤ 1 + length (raws t)
said_size t s h = said_from (λ x. operator_of x ≤ 1 + length (raws t)) t (λ v e k. let n = starts_some 61 refl t e in omega arith) (λ v e k. omega arith) s h

Sized : List Sign → Property → Type 0
Sized t p = length p.name + operator_of p.said ≤ length (raws t)

topic_size : (t : List Sign) (p : Property) → topic_of t ≡ some p → Sized t p
unfolding Sized
topic_size t p h = topic_from (λ q. length q.name + operator_of q.said ≤ length (raws t)) t (λ n. omega arith) p h

property_size : (t : List Sign) (p : Property) → property_of t ≡ some p → Sized t p
unfolding Sized
property_size t p h =
    property_from (λ q. length q.name + operator_of q.said ≤ length (raws t)) t (λ x n. omega arith)
    (λ s x n e. let k = said_size (past (is_bare 61) t) s e in let l = split_size 61 refl t x in omega arith) p h

-- ---- what a taken part names lies in its term

Fits : List Sign → Item → Type 0
Fits t i = (a : ℕ) → all_of (is_within a (a + length (raws t))) (spans_in (fields_of (shown_of i) a (length (raws t)))) ≡ true

within : (from end a n : ℕ) → from ≤ a → a + n ≤ end → is_within from end (span a n) ≡ true
within from end a n h k = simp (le-leb from a h, le-leb (a + n) end k)

option_fits : (t : List Sign) (k : ℕ) → Fits t (option k)
unfolding Fits all_of
option_fits t k a = go (kind_of k)
  where
    go : (d : Kind) → all_of (is_within a (a + length (raws t))) (spans_in (option_fields k d (a + length (raws t)))) ≡ true
    go Mere = simp (within a (a + length (raws t)) (a + length (raws t)) 0 (omega arith) (omega arith))
    go Keep = refl
    go Level = refl
    go Place = refl
    go Entries = refl

whole_fits : (t : List Sign) (a : ℕ) → is_within a (a + length (raws t)) (span a (length (raws t))) ≡ true
whole_fits t a = within a (a + length (raws t)) a (length (raws t)) (omega arith) (omega arith)

prop_fits : (t : List Sign) (p : Property) → Sized t p → Fits t (prop p)
unfolding Fits Sized all_of
prop_fits t p h a =
    simp (within a (a + length (raws t)) a (length p.name) (omega arith) (omega arith), value p.said h)
  where
    value : (s : Said) → length p.name + operator_of s ≤ length (raws t)
        → is_within a (a + length (raws t)) (value_span (operator_of s) (a + length p.name) (length (raws t) - length p.name)) ≡ true
    value alone k = within a (a + length (raws t)) (a + length p.name + (length (raws t) - length p.name)) 0 (omega arith) (omega arith)
    value (equals v) k = within a (a + length (raws t)) (a + length p.name + 1) (length (raws t) - length p.name - 1) (omega arith) (omega arith)
    value (matches v) k = within a (a + length (raws t)) (a + length p.name + 2) (length (raws t) - length p.name - 2) (omega arith) (omega arith)

property_fits : (help : Bool) (t : List Sign) (q : Property) → cond help (topic_of t) (property_of t) ≡ some q → Fits t (prop q)
property_fits true t q e = prop_fits t q (topic_size t q e)
property_fits false t q e = prop_fits t q (property_size t q e)

part_fits : (p : Phase) (v : ℕ) (seen : List Bool) (count : ℕ) (t : List Sign) (i : Item) → decide_in p v seen count t ≡ takes i → Fits t i
unfolding Fits all_of
part_fits p v seen count t i h =
    taken_case (λ ph j. Fits t j) v seen count t (λ k e a. refl) (λ k e _ n. option_fits t k) (λ k x d e a. simp (whole_fits t a)) (λ g x y e a. simp (whole_fits t a))
    (λ q x c e. property_fits (is_help v) t q e) (λ q c e. property_fits (is_help v) t q e) p i h

one_names : (s : State) (t : Term) (i : Item) → decide s t.text ≡ takes i → names_itself (part_of t i) ≡ true
unfolding decide Fits
one_names s t i h = part_fits s.phase s.verb s.seen s.count t.text i h t.start

walk_names : (n : ℕ) (s : State) (ts : List Term) (ps : List Part) → walk_terms n s ts ≡ read ps → all_of names_itself ps ≡ true
unfolding walk_terms all_of
walk_names n s [] ps h = rw (ended_nil s.phase n ps h)
walk_names n s (t ∷ ts) ps h =
    let k = walk_taken n s t ts ps h in
    rw k.parts (simp (one_names s t k.item k.decided, walk_names n (next s k.item) ts k.rest k.walked))

-- EACH RECORD NAMES POSITIONS WITHIN ITS OWN PART; parts-in-order has it that the parts are inside the line
pub records_name_parts : (line : List ℕ) (ps : List Part) → reading_of line ≡ read ps → all_of names_itself ps ≡ true
records_name_parts line ps h = walk_names (length line) begin (terms_of line) ps (read_walk line ps h).1

-- ---- THEY LIE INSIDE THE LINE

wider : (from end n : ℕ) → end ≤ n → (s : Span) → is_within from end s ≡ true → is_within 0 n s ≡ true
wider from end n h s e =
    let k = leb-true (s.at + s.len) end (and_r (leb from s.at) (leb (s.at + s.len) end) e) in
    within 0 n s.at s.len (omega arith) (omega arith)

all_inside : (from end : ℕ) (ps : List Part) → parts_in_order from end ps ≡ true → all_of names_itself ps ≡ true → all_of (is_inside end) ps ≡ true
unfolding all_of
all_inside from end [] o h = refl
all_inside from end (p ∷ ps) o h =
    let b = bounds from end p ps o in
    let e = order_ends (p.start + p.len) end ps b.rest in
    let x = all_mono (is_within p.start (p.start + p.len)) (is_within 0 end) (wider p.start (p.start + p.len) end e) (spans_of p) (and_l (names_itself p) (all_of names_itself ps) h) in
    and_in (is_inside end p) (all_of (is_inside end) ps) x (all_inside (p.start + p.len) end ps b.rest (and_r (names_itself p) (all_of names_itself ps) h))

pub records_inside : (line : List ℕ) (ps : List Part) → reading_of line ≡ read ps → all_of (is_inside (length line)) ps ≡ true
records_inside line ps h = all_inside 0 (length line) ps (parts_in_order_lem line ps h) (records_name_parts line ps h)
