-- What stands before the first that passes a test, as a scan finds it. Assumes nothing.
use Prim.Native.Nat.{ℕ, suc, ◌+◌, ◌-◌, ◌<◌, ◌≤◌}
use mathlib.Core.Path.{◌≡◌, refl, sym, ap, ◌∙◌}
use mathlib.Core.List.{List, [], ◌∷◌}
use mathlib.Core.Bool.{Bool, true, false, cond, not}
use native.Mathlib.Omega.{arith}
use lib.ListN.{length, get_or, take, drop, length-take, length-drop}
use lib.Seq.{get_or-take}
use lib.Dec.{eqb}
use borrow.Author.Tests.{eq-eqb, ne_eqb, not-false}
use Rattle.text.specs.Lists.{any_of, up_to, run_len, is_nil}
use Rattle.text.proofs.Scans.{drop_step, run_within, run_fails}

module _ {A : Type 0} (f : A → Bool) where
  -- it is the front of its list
  pub up_take : (s : List A) → take (length (up_to f s)) s ≡ up_to f s
  unfolding up_to
  up_take [] = refl
  up_take (x ∷ s) = go (f x) (up_take s)
    where
      go : (t : Bool) → take (length (up_to f s)) s ≡ up_to f s → take (length (cond t [] (x ∷ up_to f s))) (x ∷ s) ≡ cond t [] (x ∷ up_to f s)
      go true ih = refl
      go false ih = ap (λ (z : List A). x ∷ z) ih

  -- it is the run of those that fail the test
  up_run : (s : List A) → length (up_to f s) ≡ run_len (λ x. not (f x)) s
  unfolding up_to run_len
  up_run [] = refl
  up_run (x ∷ s) = go (f x) (up_run s)
    where
      go : (t : Bool) → length (up_to f s) ≡ run_len (λ y. not (f y)) s → length (cond t [] (x ∷ up_to f s)) ≡ cond (not t) (suc (run_len (λ y. not (f y)) s)) 0
      go true ih = refl
      go false ih = ap suc ih

  pub up_within : (s : List A) → length (up_to f s) ≤ length s
  up_within s = omega (arith, up_run s, run_within (λ x. not (f x)) s)

  -- nothing in it passes the test, and what follows it does
  pub up_none : (s : List A) → any_of f (up_to f s) ≡ false
  unfolding up_to any_of
  up_none [] = refl
  up_none (x ∷ s) = go (f x) refl (up_none s)
    where
      go : (t : Bool) → f x ≡ t → any_of f (up_to f s) ≡ false → any_of f (cond t [] (x ∷ up_to f s)) ≡ false
      go true e ih = refl
      go false e ih = simp (e, ih)

  pub up_next : (s : List A) (d : A) → length (up_to f s) < length s → f (get_or s (length (up_to f s)) d) ≡ true
  up_next s d h = not-false (f (get_or s (length (up_to f s)) d)) (ap (λ (i : ℕ). not (f (get_or s i d))) (up_run s) ∙ run_fails (λ x. not (f x)) s d (omega (arith, up_run s)))

-- the first n of a list, from a place on
pub taken_step : (s : List ℕ) (n i : ℕ) → i < length (take n s) → drop i (take n s) ≡ get_or s i 0 ∷ drop (i + 1) (take n s)
taken_step s n i h =
    drop_step (take n s) i h ∙ ap (λ (b : ℕ). b ∷ drop (i + 1) (take n s)) (get_or-take n s i 0 (let l = length-take n s in omega arith))

-- nothing is left of a list after its last
pub last_one : (t : List ℕ) (i : ℕ) → i < length t → is_nil (drop (i + 1) t) ≡ eqb (i + 1) (length t)
last_one t i h = go (drop (i + 1) t) (length-drop (i + 1) t)
  where
    go : (r : List ℕ) → length r ≡ length t - (i + 1) → is_nil r ≡ eqb (i + 1) (length t)
    go [] e = sym (eq-eqb (i + 1) (length t) (omega arith))
    go (x ∷ r) e = sym (ne_eqb (i + 1) (length t) (λ z. omega arith))
