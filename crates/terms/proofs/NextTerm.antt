-- The terms of a line, taken one at a time: `term_at` gives the first, its signs are those of its own bytes, and the rest are the terms from its end on. Assumes nothing.
use Prim.Native.Nat.{ℕ, zero, suc, ◌+◌, ◌<◌, ◌≤◌}
use mathlib.Core.Path.{◌≡◌, refl, sym, ap, ◌∙◌}
use mathlib.Core.List.{List, [], ◌∷◌, ◌++◌}
use mathlib.Core.Bool.{Bool, true, false, not}
use native.Mathlib.Omega.{arith}
use lib.ListN.{length, take, drop, length-append, length-drop}
use lib.Seq.{drop-drop}
use lib.Dec.{eqb}
use borrow.Author.Tests.{eqb-true}
use Rattle.text.specs.Bytes.{bytes, one_of}
use Rattle.text.specs.Lists.{any_of, up_to, run_len}
use Rattle.text.proofs.Tests.{or_l, or_r, no_case}
use Rattle.text.proofs.AllAny.{up_over}
use Rattle.text.proofs.Classes.{other_byte}
use Rattle.text.proofs.Slices.{length_between}
use Rattle.text.proofs.Scans.{scan_within}
use Rattle.terms.specs.declared.Mode.{Mode}
use Rattle.terms.specs.declared.Mode.TheVariants.{Out, OutGrave, In, InGrave}
use Rattle.terms.specs.Signs.{Sign, twelve, after, gives, at_end, signs, raw, raws}
use Rattle.terms.specs.Terms.{is_gap, Term, terms_from}
use Rattle.terms.specs.Scan.{is_space, gap_byte, term_len, found, start_at, term_at, span}
use Rattle.terms.proofs.ByteCases.{gives_case, out_case, grave_first, end_case}
use Rattle.terms.proofs.SignBytes.{pend, gives_width, raws_signs}
use Rattle.std.proofs.Common.{Option, Some, None}
use Rattle.terms.specs.declared.Span.{Span}

-- ---- what one byte gives

pub gives_solid : (m : Mode) (b : ℕ) → gap_byte m b ≡ false → any_of is_gap (gives m b) ≡ false
unfolding any_of one_of twelve bytes
gives_solid m b =
    gives_case (λ k g n. gap_byte k b ≡ false → any_of is_gap g ≡ false) b (λ _ e. refl) (λ _ _ e. refl) (λ _ _ e. simp e) (λ _ e. refl)
    (λ p e. simp (other_byte (one_of twelve) 32 b false refl p))
    (λ _ e. refl) (λ _ _ e. refl) (λ _ _ e. refl) (λ _ e. refl) (λ _ e. refl) m

-- the one byte that parts terms
gap_byte_lem : (m : Mode) (b : ℕ) → gap_byte m b ≡ true → (m ≡ Out) × (b ≡ 32)
gap_byte_lem Out b e = (refl, eqb-true b 32 e)
gap_byte_lem OutGrave b e = no_case (sym e)
gap_byte_lem In b e = no_case (sym e)
gap_byte_lem InGrave b e = no_case (sym e)

-- ---- signs with no gap among them

skip_solid : (i : ℕ) (a r : List Sign) → any_of is_gap a ≡ false → terms_from i false (a ++ r) ≡ terms_from (i + length (raws a)) false r
unfolding any_of terms_from raws
skip_solid i [] r e = ap (λ k. terms_from k false r) (omega arith)
skip_solid i (x ∷ a) r e =
    let n = length-append (raw x) (raws a) in
    simp (or_l (is_gap x) (any_of is_gap a) e) (skip_solid (i + length (raw x)) a r (or_r (is_gap x) (any_of is_gap a) e) ∙ ap (λ k. terms_from k false r) (omega arith))

-- ---- THE SIGNS OF A TERM ARE THOSE OF ITS OWN BYTES

end_solid : (m : Mode) → up_to is_gap (at_end m) ≡ at_end m
unfolding up_to
end_solid = end_case (λ m z. up_to is_gap z ≡ z) refl refl refl refl

pub text_slice : (m : Mode) (s : List ℕ) → up_to is_gap (signs m s) ≡ signs m (take (term_len m s) s)
unfolding signs term_len
text_slice m [] = end_solid m
text_slice m (b ∷ s) = go (gap_byte m b) refl (text_slice (after m b) s)
  where
    go : (x : Bool) → gap_byte m b ≡ x → up_to is_gap (signs (after m b) s) ≡ signs (after m b) (take (term_len (after m b) s) s)
        → up_to is_gap (signs m (b ∷ s)) ≡ signs m (take (term_len m (b ∷ s)) (b ∷ s))
    go true e ih =
        let g = gap_byte_lem m b e in
        rw e (rw (g.0, g.1) (unfold up_to gives after in refl))
    go false e ih = rw e (up_over is_gap (gives m b) (signs (after m b) s) (gives_solid m b e) ∙ ap (λ z. gives m b ++ z) ih)

-- ---- the terms from a term's end on

end_none : (i : ℕ) (m : Mode) → terms_from i false (at_end m) ≡ []
unfolding terms_from
end_none i = end_case (λ m z. terms_from i false z ≡ []) refl refl refl refl

space_next : (i : ℕ) (g : Bool) (s : List ℕ) → terms_from i g (signs Out (32 ∷ s)) ≡ terms_from (i + 1) true (signs Out s)
unfolding terms_from signs gives after
space_next i true s = refl
space_next i false s = refl

in_term : (i : ℕ) (m : Mode) (s : List ℕ) → terms_from i false (signs m s) ≡ terms_from (i + pend m + term_len m s) true (signs Out (drop (term_len m s) s))
unfolding signs term_len
in_term i m [] = end_none i m ∙ unfold terms_from in refl
in_term i m (b ∷ s) = go (gap_byte m b) refl (in_term (i + length (raws (gives m b))) (after m b) s)
  where
    go : (x : Bool) → gap_byte m b ≡ x
        → terms_from (i + length (raws (gives m b))) false (signs (after m b) s)
        ≡ terms_from (i + length (raws (gives m b)) + pend (after m b) + term_len (after m b) s) true (signs Out (drop (term_len (after m b) s) s))
        → terms_from i false (signs m (b ∷ s)) ≡ terms_from (i + pend m + term_len m (b ∷ s)) true (signs Out (drop (term_len m (b ∷ s)) (b ∷ s)))
    go true e ih =
        let g = gap_byte_lem m b e in
        rw e (rw (g.0, g.1) (space_next i false s ∙ ap (λ k. terms_from (k + 1) true (signs Out s)) (omega arith) ∙ sym (space_next (i + 0 + 0) true s)))
    go false e ih =
        let w = gives_width m b in
        rw e (skip_solid i (gives m b) (signs (after m b) s) (gives_solid m b e) ∙ ih ∙ ap (λ k. terms_from k true (signs Out (drop (term_len (after m b) s) s))) (omega arith))

-- a list of signs that begins with no gap
solid_head : List Sign → Bool
solid_head [] = false
solid_head (x ∷ xs) = not (is_gap x)

head_term : (i : ℕ) (l : List Sign) → solid_head l ≡ true → terms_from i true l ≡ record { start = i; text = up_to is_gap l } ∷ terms_from i false l
unfolding terms_from solid_head
head_term i [] e = no_case (sym e)
head_term i (x ∷ xs) e = rw e

grave_head : (s : List ℕ) → solid_head (signs OutGrave s) ≡ true
unfolding solid_head
grave_head s = grave_first (λ z. solid_head z ≡ true) (λ r. refl) (λ b r. refl) s

out_head : (b : ℕ) (s : List ℕ) → eqb b 32 ≡ false → solid_head (signs Out (b ∷ s)) ≡ true
unfolding signs solid_head
out_head b s e = out_case (λ g n. solid_head (g ++ signs n s) ≡ true) b (λ _. grave_head s) (λ _ _. refl) (λ _ _. simp e)

after_found : Option Span → List ℕ → List Term → List Term
after_found None l r = []
after_found (Some e) l r = record { start = e.at; text = signs Out (take e.len l) } ∷ r

-- at a gap's end
no_gap : (b : ℕ) (s : List ℕ) → run_len is_space (b ∷ s) ≡ 0 → eqb b 32 ≡ false
unfolding run_len
no_gap b s e = go (eqb b 32) refl
  where
    go : (t : Bool) → eqb b 32 ≡ t → t ≡ false
    go true p = let z : ◌≡◌ {A = ℕ} 1 0 = omega (arith, rw p at e) in cc
    go false p = refl

at_term : (i : ℕ) (s : List ℕ) → run_len is_space s ≡ 0
    → terms_from i true (signs Out s) ≡ after_found (found i (term_len Out s)) s (terms_from (i + term_len Out s) true (signs Out (drop (term_len Out s) s)))
unfolding after_found found
at_term i [] z = unfold terms_from signs term_len in refl
at_term i (b ∷ s) z =
    let e = no_gap b s z in
    let n : term_len Out (b ∷ s) ≡ suc (term_len (after Out b) s) = unfold term_len in rw e in
    let l : i + 0 + term_len Out (b ∷ s) ≡ i + term_len Out (b ∷ s) = omega arith in
    head_term i (signs Out (b ∷ s)) (out_head b s e)
    ∙ ap (λ (w : List Sign). record { start = i; text = w } ∷ terms_from i false (signs Out (b ∷ s))) (text_slice Out (b ∷ s))
    ∙ ap (λ (r : List Term). record { start = i; text = signs Out (take (term_len Out (b ∷ s)) (b ∷ s)) } ∷ r)
    (in_term i Out (b ∷ s) ∙ ap (λ k. terms_from k true (signs Out (drop (term_len Out (b ∷ s)) (b ∷ s)))) l)
    ∙ sym (ap (λ k. after_found (found i k) (b ∷ s) (terms_from (i + term_len Out (b ∷ s)) true (signs Out (drop (term_len Out (b ∷ s)) (b ∷ s))))) n
    ∙ ap (λ k. record { start = i; text = signs Out (take k (b ∷ s)) } ∷ terms_from (i + term_len Out (b ∷ s)) true (signs Out (drop (term_len Out (b ∷ s)) (b ∷ s)))) (sym n))

gap_skip : (i : ℕ) (s : List ℕ) → terms_from i true (signs Out s) ≡ terms_from (i + run_len is_space s) true (signs Out (drop (run_len is_space s) s))
unfolding run_len
gap_skip i [] = ap (λ k. terms_from k true (signs Out [])) (omega arith)
gap_skip i (b ∷ s) = go (eqb b 32) refl (gap_skip (i + 1) s)
  where
    go : (t : Bool) → eqb b 32 ≡ t → terms_from (i + 1) true (signs Out s) ≡ terms_from (i + 1 + run_len is_space s) true (signs Out (drop (run_len is_space s) s))
        → terms_from i true (signs Out (b ∷ s)) ≡ terms_from (i + run_len is_space (b ∷ s)) true (signs Out (drop (run_len is_space (b ∷ s)) (b ∷ s)))
    go true e ih =
        rw e (ap (λ k. terms_from i true (signs Out (k ∷ s))) (eqb-true b 32 e) ∙ space_next i true s ∙ ih ∙ ap (λ k. terms_from k true (signs Out (drop (run_len is_space s) s))) (omega arith))
    go false e ih = rw e (ap (λ k. terms_from k true (signs Out (b ∷ s))) (omega arith))

gap_over : (s : List ℕ) → run_len is_space (drop (run_len is_space s) s) ≡ 0
unfolding run_len
gap_over [] = refl
gap_over (b ∷ s) = go (eqb b 32) refl (gap_over s)
  where
    go : (t : Bool) → eqb b 32 ≡ t → run_len is_space (drop (run_len is_space s) s) ≡ 0 → run_len is_space (drop (run_len is_space (b ∷ s)) (b ∷ s)) ≡ 0
    go true e ih = simp e ih
    go false e ih = simp e

here : List ℕ → ℕ → ℕ
here l at = at + run_len is_space (drop at l)

terms_next : (l : List ℕ) (at : ℕ)
    → terms_from at true (signs Out (drop at l))
    ≡ after_found (term_at l at) (drop (here l at) l) (terms_from (here l at + term_len Out (drop (here l at) l)) true (signs Out (drop (here l at + term_len Out (drop (here l at) l)) l)))
unfolding here term_at start_at
terms_next l at =
    let g = run_len is_space (drop at l) in
    let n = term_len Out (drop (at + g) l) in
    let z : run_len is_space (drop (at + g) l) ≡ 0 = rw drop-drop at (gap_over (drop at l)) in
    gap_skip at (drop at l) ∙ ap (λ s. terms_from (at + g) true (signs Out s)) (drop-drop g at l) ∙ at_term (at + g) (drop (at + g) l) z
    ∙ ap (λ s. after_found (found (at + g) n) (drop (at + g) l) (terms_from (at + g + n) true (signs Out s))) (drop-drop n (at + g) l)

found_inv : (x y a n : ℕ) → Some (span a n) ≡ found x y → (x ≡ a) × (y ≡ n) × (0 < n)
unfolding found
found_inv x zero a n e = let z : ◌≡◌ {A = ℕ} 0 1 = cc in absurd (omega arith)
found_inv x (suc y) a n e =
    let s : span a n ≡ span x (suc y) = cc in
    let q : n ≡ suc y = ap (λ (s : Span). s.len) s in
    (sym (ap (λ (s : Span). s.at) s), sym q, omega arith)

-- what a scan that found a term says of the list of terms: this is the law that every loop over terms cites
pub terms_some : (l : List ℕ) (at a n : ℕ) → Some (span a n) ≡ term_at l at
    → terms_from at true (signs Out (drop at l)) ≡ record { start = a; text = signs Out (take n (drop a l)) } ∷ terms_from (a + n) true (signs Out (drop (a + n) l))
unfolding after_found term_at start_at here
terms_some l at a n e =
    let f = found_inv (at + run_len is_space (drop at l)) (term_len Out (drop (at + run_len is_space (drop at l)) l)) a n e in
    terms_next l at ∙ rw (← e, f.1, f.0)

pub terms_none : (l : List ℕ) (at : ℕ) → None ≡ term_at l at → terms_from at true (signs Out (drop at l)) ≡ []
unfolding after_found
terms_none l at e = terms_next l at ∙ rw (← e)

-- ---- where a term stands

pub term_short : (m : Mode) (s : List ℕ) → term_len m s ≤ length s
unfolding term_len
term_short = scan_within gap_byte after term_len (λ m. refl) (λ m b s. refl)

-- at or after the place asked for, not empty, inside the line
pub record Within (l : List ℕ) (at a n : ℕ) : Type 0 where
  pub from : at ≤ a
  pub some : 0 < n
  pub fits : a + n ≤ length l

pub term_within : (l : List ℕ) (at a n : ℕ) → Some (span a n) ≡ term_at l at → Within l at a n
unfolding term_at start_at
term_within l at a n e =
    let f = found_inv (at + run_len is_space (drop at l)) (term_len Out (drop (at + run_len is_space (drop at l)) l)) a n e in
    let p = f.0 in
    let q = f.1 in
    let r = f.2 in
    let h = term_short Out (drop (at + run_len is_space (drop at l)) l) in
    let k = length-drop (at + run_len is_space (drop at l)) l in
    record { from = omega arith; some = r; fits = omega arith }

-- at or past the end there is no term
pub term_past_end : (l : List ℕ) (at : ℕ) → length l ≤ at → term_at l at ≡ None
term_past_end l at h = go (term_at l at) refl
  where
    go : (f : Option Span) → term_at l at ≡ f → term_at l at ≡ None
    go None e = e
    go (Some x) e = let w = term_within l at x.at x.len (sym e) in let p = w.from in let q = w.some in let r = w.fits in absurd (omega arith)

-- a term's own bytes
pub term_size : (l : List ℕ) (a n : ℕ) → a + n ≤ length l → length (raws (signs Out (take n (drop a l)))) ≡ n
term_size l a n h = ap length (raws_signs (take n (drop a l))) ∙ length_between l a n h
