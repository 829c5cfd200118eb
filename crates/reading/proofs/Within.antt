-- The place of a refusal lies within the line, or at its end, and fits two bytes. Assumes nothing.
use Prim.Native.Nat.{ℕ, ◌+◌, ◌-◌, ◌<◌, ◌≤◌}
use mathlib.Core.Path.{◌≡◌, refl, sym, ◌∙◌}
use mathlib.Core.List.{List, [], ◌∷◌, ◌++◌}
use mathlib.Core.Bool.{Bool, true, false, cond, ◌&&◌}
use mathlib.Core.Option.{Option, none, some}
use native.Mathlib.Omega.{arith}
use lib.ListN.{length, take}
use lib.Dec.{eqb, leb, ltb}
use borrow.Author.Tests.{leb-true, ltb-true, ltb-false}
use Rattle.text.specs.Bytes.{printable}
use Rattle.text.specs.Lists.{run_len, walk}
use Rattle.text.proofs.Tests.{and_l, and_r}
use Rattle.text.proofs.Scans.{run_within}
use Rattle.terms.specs.declared.Mode.{Mode}
use Rattle.terms.specs.declared.Mode.TheVariants.{Out, OutGrave, In, InGrave}
use Rattle.terms.specs.Signs.{after, raws}
use Rattle.terms.specs.Terms.{Term, terms_of}
use Rattle.terms.specs.Going.{size_of, in_order}
use Rattle.terms.specs.Rows.{or_else, long_flaw, odd_flaw, end_mode, opens, opened_at, end_flaw, open_flaw, many_from, many_flaw, lexical_of}
use Rattle.terms.proofs.TermList.{in_order_lem}
use Rattle.reach.specs.declared.Form.{Form}
use Rattle.reach.specs.Forms.{is_of}
use Rattle.reach.specs.Reach.{reach_of}
use Rattle.reach.specs.Pairs.{grave_waits}
use Rattle.reach.proofs.Far.{longest_only, longest_within}
use Rattle.reach.proofs.Longest.{longest}
use Rattle.reach.proofs.Unsplit.{unsplit}
use Rattle.reading.specs.Reading.{form_asked, reading_of, refusal}
use Rattle.reading.specs.Inside.{InTerm}
use Rattle.reading.specs.Order.{Placed, Refused, by_line, by_term, by_end}
use Rattle.reading.proofs.Order.{line_exactly}
use Rattle.reading.proofs.Folds.{fine_short}
use Rattle.std.proofs.Common.{Result, Ok, Err}
use Rattle.text.specs.declared.Refusal.{Refusal}
use Rattle.text.proofs.Refusals.{same_place}
use Rattle.text.specs.Room.{refusal_at}

-- terms in order end before the end
terms_end : (from end : ℕ) (ts : List Term) → in_order from end ts ≡ true → from ≤ end
unfolding in_order
terms_end from end [] o = leb-true from end o
terms_end from end (t ∷ ts) o =
    let l = leb-true from t.start (and_l (leb from t.start) (ltb 0 (size_of t) && in_order (t.start + size_of t) end ts) o) in
    let r = and_r (leb from t.start) (ltb 0 (size_of t) && in_order (t.start + size_of t) end ts) o in
    let e = terms_end (t.start + size_of t) end ts (and_r (ltb 0 (size_of t)) (in_order (t.start + size_of t) end ts) r) in
    omega arith

rest_order : (from end : ℕ) (t : Term) (ts : List Term) → in_order from end (t ∷ ts) ≡ true → (t.start + size_of t ≤ end) × (in_order (t.start + size_of t) end ts ≡ true)
unfolding in_order
rest_order from end t ts o =
    let r = and_r (leb from t.start) (ltb 0 (size_of t) && in_order (t.start + size_of t) end ts) o in
    let q = and_r (ltb 0 (size_of t)) (in_order (t.start + size_of t) end ts) r in
    let e = terms_end (t.start + size_of t) end ts q in
    (e, q)

term_end : (from end : ℕ) (before : List Term) (t : Term) (after : List Term) → in_order from end (before ++ (t ∷ after)) ≡ true → t.start + size_of t ≤ end
term_end from end [] t after o = (rest_order from end t after o).0
term_end from end (b ∷ bs) t after o = term_end (b.start + size_of b) end bs t after (rest_order from end b (bs ++ (t ∷ after)) o).1

-- ---- rows 2 to 5

abbrev Held : ℕ → Result Unit Refusal → Type 0
Held n (Ok u) = Unit {0}
Held n (Err e) = e.place ≤ n

or_placed : (n : ℕ) (v w : Result Unit Refusal) → Held n v → Held n w → Held n (or_else v w)
or_placed n (Ok u) w a b = b
or_placed n (Err e) w a b = a

odd_placed : (line : List ℕ) → Held (length line) (odd_flaw line)
unfolding odd_flaw
odd_placed line = go (ltb (run_len printable line) (length line))
  where
    go : (x : Bool) → Held (length line) (cond x (Err (refusal_at 2 (run_len printable line))) (Ok tt))
    go true = run_within printable line
    go false = tt

opens_most : (n : ℕ) (m : Mode) (b i q : ℕ) → q ≤ n → i ≤ n → opens m b i q ≤ n
opens_most n Out b i q h k = go (eqb b 34)
  where
    go : (x : Bool) → cond x i q ≤ n
    go true = k
    go false = h
opens_most n OutGrave b i q h k = h
opens_most n In b i q h k = h
opens_most n InGrave b i q h k = h

opened_most : (n : ℕ) (m : Mode) (i q : ℕ) (s : List ℕ) → q ≤ n → i + length s ≤ n → opened_at m i q s ≤ n
unfolding opened_at
opened_most n m i q [] h k = h
opened_most n m i q (b ∷ s) h k = opened_most n (after m b) (i + 1) (opens m b i q) s (opens_most n m b i q h (omega arith)) (omega arith)

end_placed : (m : Mode) (n q : ℕ) → q ≤ n → Held n (end_flaw m n q)
end_placed Out n q h = tt
end_placed OutGrave n q h = omega arith
end_placed In n q h = h
end_placed InGrave n q h = omega arith

open_placed : (line : List ℕ) → Held (length line) (open_flaw line)
unfolding open_flaw
open_placed line = end_placed (end_mode Out line) (length line) (opened_at Out 0 0 line) (opened_most (length line) Out 0 0 line (omega arith) (omega arith))

many_placed : (k from end : ℕ) (ts : List Term) → in_order from end ts ≡ true → Held end (many_from k ts)
unfolding many_from
many_placed k from end [] o = tt
many_placed k from end (t ∷ ts) o =
    go (eqb k 64) (omega (arith, (rest_order from end t ts o).0)) (many_placed (k + 1) (t.start + size_of t) end ts (rest_order from end t ts o).1)
  where
    go : (x : Bool) → t.start ≤ end → Held end (many_from (k + 1) ts) → Held end (cond x (Err (refusal_at 5 t.start)) (many_from (k + 1) ts))
    go true h ih = h
    go false h ih = ih

lexical_placed : (line : List ℕ) (k p : ℕ) → lexical_of line ≡ Err (refusal_at k p) → (p ≤ length line) × (p ≤ 1024)
unfolding lexical_of long_flaw many_flaw
lexical_placed line k p h = go (ltb 1024 (length line)) refl
  where
    later : Held (length line) (or_else (odd_flaw line) (or_else (open_flaw line) (many_from 0 (terms_of line))))
    later =
        or_placed (length line) (odd_flaw line) (or_else (open_flaw line) (many_from 0 (terms_of line))) (odd_placed line)
        (or_placed (length line) (open_flaw line) (many_from 0 (terms_of line)) (open_placed line) (many_placed 0 0 (length line) (terms_of line) (in_order_lem line)))

    go : (x : Bool) → ltb 1024 (length line) ≡ x → (p ≤ length line) × (p ≤ 1024)
    go true e =
        let z : Err (refusal_at 1 1024) ≡ Err (refusal_at k p) = rw e at h in
        let y : 1024 ≡ p = same_place z in
        let l = ltb-true 1024 (length line) e in
        (omega arith, omega arith)
    go false e =
        let l = ltb-false 1024 (length line) e in
        let z : or_else (odd_flaw line) (or_else (open_flaw line) (many_from 0 (terms_of line))) ≡ Err (refusal_at k p) = rw e at h in
        let w : p ≤ length line = rw z at later in
        (w, omega arith)

-- ---- rows 6 to 14 and 20

-- THE PLACE OF A TERM THAT IS REFUSED lies in the term or at its end
in_term : (o : Option Form) (t : Term) (p : ℕ) → Placed o t p → (t.start ≤ p) × (p ≤ t.start + size_of t)
unfolding size_of
in_term none t p e = (omega arith, omega arith)
in_term (some f) t p e = let l = longest_within (is_of f) (raws t.text) e.len e.longest in let q = e.place in (omega arith, omega arith)

-- ... and never between a GRAVE and the byte that it escapes: unless the term ends there, no GRAVE waits
no_grave_lem : (o : Option Form) (t : Term) (p : ℕ) → Placed o t p → p < t.start + size_of t → grave_waits (end_mode Out (take (p - t.start) (raws t.text))) ≡ false
unfolding size_of end_mode walk
no_grave_lem none t p e h = let z : p - t.start ≡ 0 = omega arith in rw z refl
no_grave_lem (some f) t p e h =
    let r = raws t.text in
    let z = longest_only (is_of f) r (reach_of f r) e.len (longest f r) e.longest in
    let q = e.place in
    let d : p - t.start ≡ reach_of f r = omega arith in
    rw d (unsplit f r (omega arith))

-- WHERE A TERM IS REFUSED, the place lies in it or at its end, and never between a GRAVE and the byte that it escapes
pub place_in_term : (line : List ℕ) (k p : ℕ) → lexical_of line ≡ Ok tt → (k ≡ 9 → ⊥) → reading_of line ≡ refusal k p → InTerm line p
place_in_term line k p fine n h = go ((line_exactly line k p).0 h)
  where
    go : Refused line k p → InTerm line p
    go (by_line e) = let z = sym fine ∙ e in let y : ◌≡◌ {A = ℕ} 0 1 = cc in absurd (omega arith)
    go (by_term b t a s f e q g w) =
        let o = form_asked s.phase s.verb k in
        record { before = b; term = t; after = a; among = e; from = (in_term o t p g).0; to = (in_term o t p g).1; unsplit = no_grave_lem o t p g }
    go (by_end s f q w x y) = absurd (n x)

-- THE PLACE OF A REFUSAL
pub place_within : (line : List ℕ) (k p : ℕ) → reading_of line ≡ refusal k p → (p ≤ length line) × (p ≤ 1024)
place_within line k p h = go ((line_exactly line k p).0 h)
  where
    go : Refused line k p → (p ≤ length line) × (p ≤ 1024)
    go (by_line e) = lexical_placed line k p e
    go (by_term b t a s f e q g w) =
        let o = term_end 0 (length line) b t a (rw e at (in_order_lem line)) in
        let i = in_term (form_asked s.phase s.verb k) t p g in
        let l = fine_short line f in
        (omega arith, omega arith)
    go (by_end s f q w x y) = let l = fine_short line f in (omega arith, omega arith)
