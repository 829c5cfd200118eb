-- The parts of a reading stand in line order, each inside the line and none empty; so does its target. Assumes nothing.
use Prim.Native.Nat.{ℕ, ◌+◌, ◌<◌, ◌≤◌}
use mathlib.Core.Path.{◌≡◌, refl}
use mathlib.Core.List.{List, [], ◌∷◌}
use mathlib.Core.Bool.{true, ◌&&◌}
use native.Mathlib.Omega.{arith}
use lib.ListN.{length}
use lib.Dec.{leb, ltb}
use borrow.Author.Tests.{leb-true, ltb-true}
use Rattle.text.proofs.Tests.{and_l, and_r}
use Rattle.terms.specs.Terms.{Term, terms_of}
use Rattle.terms.specs.Going.{size_of, in_order}
use Rattle.terms.specs.Rows.{lexical_of}
use Rattle.terms.proofs.TermList.{in_order_lem}
use Rattle.reading.specs.declared.Phase.{Phase}
use Rattle.reading.specs.declared.Phase.TheVariants.{First, Options, Waits, Rest}
use Rattle.reading.specs.declared.State.{State}
use Rattle.reading.specs.Command.{Item, verb, option, argument, target, prop}
use Rattle.reading.specs.Reading.{begin, Decision, refuses, takes, decide, next, Part, Reading, refusal, read, adding, ended, part_of, walk_terms, reading_of}
use Rattle.terms.specs.Scan.{span}
use Rattle.reading.specs.Records.{target_or, target_span, target_in}
use Rattle.reading.specs.Inside.{parts_in_order}
use Rattle.std.proofs.Common.{Result, Ok, Err}
use Rattle.text.specs.declared.Refusal.{Refusal}

-- the parts of a reading that was not refused, term by term
pub ended_nil : (p : Phase) (n : ℕ) (ps : List Part) → ended p n ≡ read ps → ps ≡ []
ended_nil First n ps e = cc
ended_nil Options n ps e = cc
ended_nil (Waits k) n ps e = cc
ended_nil Rest n ps e = cc

-- what was taken first, and the rest
pub record Taken (n : ℕ) (s : State) (t : Term) (ts : List Term) (ps : List Part) : Type 0 where
  pub item : Item
  pub rest : List Part
  pub decided : decide s t.text ≡ takes item
  pub walked : walk_terms n (next s item) ts ≡ read rest
  pub parts : ps ≡ part_of t item ∷ rest

pub walk_taken : (n : ℕ) (s : State) (t : Term) (ts : List Term) (ps : List Part) → walk_terms n s (t ∷ ts) ≡ read ps → Taken n s t ts ps
unfolding walk_terms
walk_taken n s t ts ps h = go (decide s t.text) refl
  where
    put : (i : Item) → decide s t.text ≡ takes i → (r : Reading) → walk_terms n (next s i) ts ≡ r → adding (part_of t i) r ≡ read ps → Taken n s t ts ps
    put i d (refusal k a) e f = let z : ◌≡◌ {A = ℕ} 0 1 = cc in absurd (omega arith)
    put i d (read qs) e f = record { item = i; rest = qs; decided = d; walked = e; parts = cc }

    go : (d : Decision) → decide s t.text ≡ d → Taken n s t ts ps
    go (refuses k) d = let z : ◌≡◌ {A = ℕ} 0 1 = cc (rw d at h) in absurd (omega arith)
    go (takes i) d = put i d (walk_terms n (next s i) ts) refl (rw d at h)

walk_order : (n : ℕ) (s : State) (ts : List Term) (ps : List Part) (from end : ℕ) → in_order from end ts ≡ true → walk_terms n s ts ≡ read ps → parts_in_order from end ps ≡ true
unfolding in_order parts_in_order size_of walk_terms
walk_order n s [] ps from end o h = let e : ps ≡ [] = ended_nil s.phase n ps h in rw e o
walk_order n s (t ∷ ts) ps from end o h =
    let k = walk_taken n s t ts ps h in
    let r = and_r (leb from t.start) (ltb 0 (size_of t) && in_order (t.start + size_of t) end ts) o in
    let q = walk_order n (next s k.item) ts k.rest (t.start + size_of t) end (and_r (ltb 0 (size_of t)) (in_order (t.start + size_of t) end ts) r) k.walked in
    rw k.parts (simp (and_l (leb from t.start) (ltb 0 (size_of t) && in_order (t.start + size_of t) end ts) o, and_l (ltb 0 (size_of t)) (in_order (t.start + size_of t) end ts) r) q)

-- a reading that was not refused comes from the walk over the line's terms
pub read_walk : (line : List ℕ) (ps : List Part) → reading_of line ≡ read ps → (lexical_of line ≡ Ok tt) × (walk_terms (length line) begin (terms_of line) ≡ read ps)
unfolding reading_of
read_walk line ps h = go (lexical_of line) refl
  where
    go : (v : Result Unit Refusal) → lexical_of line ≡ v → (lexical_of line ≡ Ok tt) × (walk_terms (length line) begin (terms_of line) ≡ read ps)
    go (Ok u) e = (e, rw e at h)
    go (Err r) e = let z : ◌≡◌ {A = ℕ} 0 1 = cc (rw e at h) in absurd (omega arith)

-- THE PARTS STAND IN LINE ORDER
pub parts_in_order_lem : (line : List ℕ) (ps : List Part) → reading_of line ≡ read ps → parts_in_order 0 (length line) ps ≡ true
parts_in_order_lem line ps h = walk_order (length line) begin (terms_of line) ps 0 (length line) (in_order_lem line) (read_walk line ps h).1

-- the bounds of a part and of what follows it
pub record Bounds (from end : ℕ) (p : Part) (ps : List Part) : Type 0 where
  pub low : from ≤ p.start
  pub some : 0 < p.len
  pub rest : parts_in_order (p.start + p.len) end ps ≡ true

pub bounds : (from end : ℕ) (p : Part) (ps : List Part) → parts_in_order from end (p ∷ ps) ≡ true → Bounds from end p ps
unfolding parts_in_order
bounds from end p ps o =
    let r = and_r (leb from p.start) (ltb 0 p.len && parts_in_order (p.start + p.len) end ps) o in
    record {
      low = leb-true from p.start (and_l (leb from p.start) (ltb 0 p.len && parts_in_order (p.start + p.len) end ps) o);
      some = ltb-true 0 p.len (and_l (ltb 0 p.len) (parts_in_order (p.start + p.len) end ps) r);
      rest = and_r (ltb 0 p.len) (parts_in_order (p.start + p.len) end ps) r;
    }

pub order_ends : (from end : ℕ) (ps : List Part) → parts_in_order from end ps ≡ true → from ≤ end
unfolding parts_in_order
order_ends from end [] o = leb-true from end o
order_ends from end (p ∷ ps) o =
    let b = bounds from end p ps o in
    let e = order_ends (p.start + p.len) end ps b.rest in
    omega (arith, b.low)

-- ---- the target's part

span_within : (from end : ℕ) (ps : List Part) → parts_in_order from end ps ≡ true → (target_span ps).at + (target_span ps).len ≤ end
unfolding target_span
span_within from end [] o = omega arith
span_within from end (p ∷ ps) o = go p.item (span_within (p.start + p.len) end ps (bounds from end p ps o).rest)
  where
    here : p.start + p.len ≤ end
    here = order_ends (p.start + p.len) end ps (bounds from end p ps o).rest

    go : (i : Item) → (target_span ps).at + (target_span ps).len ≤ end
        → (target_or i (span p.start p.len) (target_span ps)).at + (target_or i (span p.start p.len) (target_span ps)).len ≤ end
    go (verb k) ih = ih
    go (option k) ih = ih
    go (argument k x) ih = ih
    go (target x) ih = here
    go (prop x) ih = ih

-- THE TARGET LIES INSIDE THE LINE
pub target_within : (line : List ℕ) → (target_in (reading_of line)).at + (target_in (reading_of line)).len ≤ length line
target_within line = go (reading_of line) refl
  where
    go : (r : Reading) → reading_of line ≡ r → (target_in r).at + (target_in r).len ≤ length line
    go (refusal k p) e = omega arith
    go (read ps) e = span_within 0 (length line) ps (parts_in_order_lem line ps e)
