-- What the carried reader yields: started at 0 on a line that meets none of rows 1 to 5, that line's terms in order and then none; on another line that
-- line's refusal, from every place, without moving on. Assumes nothing.
use Prim.Native.Nat.{ℕ, zero, suc, ◌+◌, ◌≤◌}
use mathlib.Core.Path.{◌≡◌, refl, sym, ap, ◌∙◌}
use mathlib.Core.List.{List, ◌∷◌, ◌++◌, map}
use native.Mathlib.Omega.{arith}
use lib.ListN.{length, replicate}
use Rattle.terms.specs.Rows.{lexical_of}
use Rattle.terms.specs.Scan.{term_at}
use Rattle.terms.specs.Terms.{terms_of}
use Rattle.terms.specs.Going.{place_after, term_calls, found_term}
use Rattle.terms.proofs.NextTerm.{term_within}
use Rattle.terms.proofs.TermList.{listed}
use Rattle.carried.specs.Carried.{found_as, yield_by, yield_at, past_by, past_at, yields}
use Rattle.std.proofs.Common.{Result, Ok, Err, Option, Some, None}
use Rattle.text.specs.Room.{refusal_at}
use Rattle.text.specs.declared.Refusal.{Refusal}
use Rattle.terms.specs.declared.Span.{Span}

-- a term that is yielded lies inside the line
pub yield_within : (line : List ℕ) (at : ℕ) (s : Span) → Ok (Some s) ≡ yield_at line at → s.at + s.len ≤ length line
unfolding yield_at
yield_within line at s e = go (lexical_of line) (term_at line at) refl e
  where
    go : (v : Result Unit Refusal) (f : Option Span) → term_at line at ≡ f → Ok (Some s) ≡ yield_by v (found_as f) → s.at + s.len ≤ length line
    go (Err r) f g h = let z : ◌≡◌ {A = ℕ} 0 1 = cc in absurd (omega arith)
    go (Ok u) None g h = let z : ◌≡◌ {A = ℕ} 0 1 = cc in absurd (omega arith)
    go (Ok u) (Some q) g h =
        let x : s ≡ q = cc in
        let w = term_within line at q.at q.len (sym g) in
        rw x w.fits

module _ (line : List ℕ) (fine : lexical_of line ≡ Ok tt) where
  yield_found : (at : ℕ) → yield_at line at ≡ found_as (term_at line at)
  unfolding yield_at
  yield_found at = rw fine

  past_found : (at : ℕ) → past_at line at ≡ place_after (term_at line at) at
  unfolding past_at
  past_found at = ap (past_by at) (yield_found at) ∙ by (term_at line at)
    where
      by : (f : Option Span) → past_by at (found_as f) ≡ place_after f at
      by (Some e) = refl
      by None = refl

  yields_going : (n at : ℕ) → yields n line at ≡ map found_as (term_calls n line at)
  unfolding yields term_calls
  yields_going zero at = refl
  yields_going (suc n) at =
      rw (yield_found at) (ap (λ (r : List (Result (Option Span) Refusal)). found_as (term_at line at) ∷ r) (ap (yields n line) (past_found at) ∙ yields_going n (place_after (term_at line at) at)))

  -- THE LINE'S TERMS IN ORDER, AND THEN NONE, however often it is asked
  pub yields_terms : (k : ℕ)
      → yields (length (terms_of line) + k) line 0 ≡ map found_as (map found_term (terms_of line) ++ replicate k None)
  yields_terms k = yields_going (length (terms_of line) + k) 0 ∙ ap (map found_as) (listed line k)

-- on another line, its refusal from every place, and the place stays
pub yield_refused : (line : List ℕ) (number place at : ℕ) → lexical_of line ≡ Err (refusal_at number place)
    → (yield_at line at ≡ Err (refusal_at number place)) × (past_at line at ≡ at)
unfolding yield_at past_at
yield_refused line number place at e = rw e (refl, refl)

pub yields_refused : (line : List ℕ) (number place k at : ℕ) → lexical_of line ≡ Err (refusal_at number place) → yields k line at ≡ replicate k (Err (refusal_at number place))
unfolding yields
yields_refused line number place zero at e = refl
yields_refused line number place (suc k) at e =
    let r = yield_refused line number place at e in
    rw r.0 (ap (λ (l : List (Result (Option Span) Refusal)). Err (refusal_at number place) ∷ l) (ap (yields k line) r.1 ∙ yields_refused line number place k at e))
