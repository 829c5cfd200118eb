-- Going on from the end of each term gives the terms of a line, in order inside the line. Assumes nothing.
use Prim.Native.Nat.{ℕ, zero, suc, ◌+◌, ◌≤◌}
use mathlib.Core.Path.{◌≡◌, refl, sym, ap, ◌∙◌}
use mathlib.Core.List.{List, [], ◌∷◌, ◌++◌, map, cons-eq-cons, cons≢nil}
use mathlib.Core.Bool.{true}
use native.Mathlib.Omega.{arith}
use lib.ListN.{length, take, drop, replicate}
use borrow.Author.Tests.{le-leb, lt-ltb}
use Rattle.terms.specs.declared.Mode.TheVariants.{Out}
use Rattle.terms.specs.Signs.{signs}
use Rattle.terms.specs.Terms.{Term, terms_from, terms_of}
use Rattle.terms.specs.Scan.{term_at, span}
use Rattle.terms.specs.Going.{term_calls, size_of, found_term, in_order}
use Rattle.terms.proofs.NextTerm.{terms_some, terms_none, term_within, term_size}
use Rattle.std.proofs.Common.{Option, Some, None}
use Rattle.terms.specs.declared.Span.{Span}

-- ---- GOING ON FROM THE END OF EACH TERM yields the line's terms in order, and then none, however often it is asked again

stays : (l : List ℕ) (at k : ℕ) → term_at l at ≡ None → term_calls k l at ≡ replicate k None
unfolding term_calls
stays l at zero e = refl
stays l at (suc k) e = rw e (ap (λ (r : List (Option Span)). None ∷ r) (stays l at k e))

from_here : (l : List ℕ) (k at : ℕ) (ts : List Term) → terms_from at true (signs Out (drop at l)) ≡ ts
    → term_calls (length ts + k) l at ≡ map found_term ts ++ replicate k None
from_here l k at [] e = go (term_at l at) refl
  where
    go : (f : Option Span) → term_at l at ≡ f → term_calls (0 + k) l at ≡ replicate k None
    go None p = let z : 0 + k ≡ k = omega arith in ap (λ (i : ℕ). term_calls i l at) z ∙ stays l at k p
    go (Some r) p = absurd (cons≢nil (sym (terms_some l at r.at r.len (sym p)) ∙ e))
from_here l k at (t ∷ ts) e = go (term_at l at) refl (λ i. from_here l k i ts)
  where
    go : (f : Option Span) → term_at l at ≡ f → ((i : ℕ) → terms_from i true (signs Out (drop i l)) ≡ ts → term_calls (length ts + k) l i ≡ map found_term ts ++ replicate k None)
        → term_calls (suc (length ts) + k) l at ≡ found_term t ∷ (map found_term ts ++ replicate k None)
    go None p ih = absurd (cons≢nil (sym (sym (terms_none l at (sym p)) ∙ e)))
    go (Some y) p ih =
        let w = term_within l at y.at y.len (sym p) in
        let c = cons-eq-cons.0 (sym (terms_some l at y.at y.len (sym p)) ∙ e) in
        let z : suc (length ts) + k ≡ suc (length ts + k) = omega arith in
        ap (λ (i : ℕ). term_calls i l at) z
        ∙ one p
        ∙ ap (λ (r : List (Option Span)). Some y ∷ r) (ih (y.at + y.len) c.1)
        ∙ ap (λ (x : Option Span). x ∷ (map found_term ts ++ replicate k None)) (sym (ap found_term (sym c.0) ∙ sized w.fits))
      where
        one : term_at l at ≡ Some y → term_calls (suc (length ts + k)) l at ≡ Some y ∷ term_calls (length ts + k) l (y.at + y.len)
        one q = unfold term_calls in rw q

        sized : y.at + y.len ≤ length l → found_term (record { start = y.at; text = signs Out (take y.len (drop y.at l)) }) ≡ Some y
        sized h = unfold found_term size_of in ap (λ (i : ℕ). Some (span y.at i)) (term_size l y.at y.len h)

pub listed : (line : List ℕ) (k : ℕ) → term_calls (length (terms_of line) + k) line 0 ≡ map found_term (terms_of line) ++ replicate k None
listed line k = from_here line k 0 (terms_of line) (unfold terms_of in refl)

-- ---- TERMS STAND IN ORDER, inside the line; they don't overlap and are never empty

slice_size : (l : List ℕ) (a n : ℕ) → a + n ≤ length l → size_of (record { start = a; text = signs Out (take n (drop a l)) }) ≡ n
unfolding size_of
slice_size l a n h = term_size l a n h

order_from : (l : List ℕ) (at : ℕ) (ts : List Term) → at ≤ length l → terms_from at true (signs Out (drop at l)) ≡ ts → in_order at (length l) ts ≡ true
unfolding in_order
order_from l at [] h e = le-leb at (length l) h
order_from l at (t ∷ ts) h e = go (term_at l at) refl (λ i. order_from l i ts)
  where
    go : (f : Option Span) → term_at l at ≡ f → ((i : ℕ) → i ≤ length l → terms_from i true (signs Out (drop i l)) ≡ ts → in_order i (length l) ts ≡ true)
        → in_order at (length l) (t ∷ ts) ≡ true
    go None p ih = absurd (cons≢nil (sym (sym (terms_none l at (sym p)) ∙ e)))
    go (Some r) p ih =
        let w = term_within l at r.at r.len (sym p) in
        let c = cons-eq-cons.0 (sym (terms_some l at r.at r.len (sym p)) ∙ e) in
        let s : size_of t ≡ r.len = ap size_of (sym c.0) ∙ slice_size l r.at r.len w.fits in
        let b : t.start ≡ r.at = ap (λ (x : Term). x.start) (sym c.0) in
        simp (b, s, le-leb at r.at w.from, lt-ltb 0 r.len w.some, ih (r.at + r.len) w.fits c.1)

pub in_order_lem : (line : List ℕ) → in_order 0 (length line) (terms_of line) ≡ true
in_order_lem line = order_from line 0 (terms_of line) (omega arith) (unfold terms_of in refl)
