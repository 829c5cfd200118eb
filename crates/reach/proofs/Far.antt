-- How far a text goes towards a form, stated by places; that a machine goes so far; and that this is the paper's longest beginning. Assumes nothing.
use Prim.Native.Nat.{ℕ, suc, ◌<◌, ◌≤◌}
use mathlib.Core.Path.{◌≡◌, refl, sym, ap, ◌∙◌}
use mathlib.Core.List.{List, [], ◌∷◌, ◌++◌, append_assoc}
use mathlib.Core.Bool.{Bool, true, false, cond}
use native.Mathlib.Omega.{arith}
use lib.ListN.{length, take, drop, length-append, take-append-drop}
use lib.Seq.{length-take-le, take-append-le}
use lib.Dec.{leb}
use borrow.Author.Tests.{leb-true, leb-false}
use Rattle.text.proofs.Tests.{no_case}
use Rattle.reach.specs.Beginnings.{IsBeginning, BeginsSome, Longest}
use Rattle.reach.specs.Machine.{reach_by}

-- the first n bytes of a text begin some text of the form, and with one byte more they begin none
pub record Far (f : List ℕ → Bool) (s : List ℕ) (n : ℕ) : Type 0 where
  pub within : n ≤ length s
  pub rest : List ℕ
  pub some : f (take n s ++ rest) ≡ true
  pub stops : n < length s → (e : List ℕ) → f (take (suc n) s ++ e) ≡ false

-- the same of a form that takes the same texts
pub far_same : (f g : List ℕ → Bool) (s : List ℕ) (n : ℕ) → ((x : List ℕ) → f x ≡ g x) → Far f s n → Far g s n
far_same f g s n e r = record { within = r.within; rest = r.rest; some = sym (e (take n s ++ r.rest)) ∙ r.some; stops = λ h x. sym (e (take (suc n) s ++ x)) ∙ r.stops h x }

-- A machine: `At q f` says that in the state q what may follow is of the form f. Where from each such state some text follows, each byte that it takes leads to such a
-- state, and after a byte that it does not take no text follows, it goes as far as the form does.
module _ {S : Type 0} (step : S → ℕ → S) (off : S → Bool) (At : S → (List ℕ → Bool) → Type 0)
    (live : (q : S) (f : List ℕ → Bool) → At q f → (e : List ℕ) × (f e ≡ true))
    (goes : (q : S) (f : List ℕ → Bool) (b : ℕ) → At q f → off (step q b) ≡ false → At (step q b) (λ x. f (b ∷ x)))
    (stops : (q : S) (f : List ℕ → Bool) (b : ℕ) → At q f → off (step q b) ≡ true → (x : List ℕ) → f (b ∷ x) ≡ false) where
  pub far_by : (s : List ℕ) (q : S) (f : List ℕ → Bool) → At q f → Far f s (reach_by step off q s)
  unfolding reach_by
  far_by [] q f a = record { within = omega arith; rest = (live q f a).0; some = (live q f a).1; stops = λ h e. absurd (omega arith) }
  far_by (b ∷ s) q f a = go (off (step q b)) refl (λ p. far_by s (step q b) (λ x. f (b ∷ x)) (goes q f b a p))
    where
      taken : Far (λ x. f (b ∷ x)) s (reach_by step off (step q b) s) → Far f (b ∷ s) (suc (reach_by step off (step q b) s))
      taken r = record { within = omega (arith, r.within); rest = r.rest; some = r.some; stops = λ h e. r.stops (omega arith) e }

      go : (x : Bool) → off (step q b) ≡ x → (off (step q b) ≡ false → Far (λ y. f (b ∷ y)) s (reach_by step off (step q b) s))
          → Far f (b ∷ s) (cond (off (step q b)) 0 (suc (reach_by step off (step q b) s)))
      go true p ih = rw p (record { within = omega arith; rest = (live q f a).0; some = (live q f a).1; stops = λ h e. stops q f b a p e })
      go false p ih = rw p (taken (ih p))

-- that is the paper's longest beginning
pub far_longest : (f : List ℕ → Bool) (s : List ℕ) (n : ℕ) → Far f s n → Longest f s n
far_longest f s n r = record {
  beginning = take n s;
  begins = record { rest = drop n s; whole = take-append-drop n s };
  size = length-take-le n s r.within;
  some = record { text = take n s ++ r.rest; acceptable = r.some; begins = record { rest = r.rest; whole = refl } };
  most = λ p b x. not_more p b x (leb (length p) n) refl;
}
  where
    not_more : (p : List ℕ) → IsBeginning p s → BeginsSome f p → (y : Bool) → leb (length p) n ≡ y → length p ≤ n
    not_more p b x true e = leb-true (length p) n e
    not_more p b x false e =
        let l = leb-false (length p) n e in
        let h : length p ≤ length s = omega (arith, sym (length-append p b.rest) ∙ ap length b.whole) in
        let c = ap (take (suc n)) (sym b.whole) ∙ take-append-le (suc n) p b.rest (omega arith) in
        let e = x.begins.rest in
        let z : p ++ e ≡ take (suc n) s ++ (drop (suc n) p ++ e) =
        ap (λ z. z ++ e) (sym (take-append-drop (suc n) p)) ∙ append_assoc (take (suc n) p) (drop (suc n) p) e ∙ ap (λ z. z ++ (drop (suc n) p ++ e)) (sym c) in
        no_case (sym x.acceptable ∙ ap f (sym x.begins.whole ∙ z) ∙ r.stops (omega arith) (drop (suc n) p ++ e))

-- there is one such length
pub longest_only : (f : List ℕ → Bool) (s : List ℕ) (n m : ℕ) → Longest f s n → Longest f s m → n ≡ m
longest_only f s n m a b =
    omega (arith, a.size, b.size, a.most b.beginning b.begins b.some, b.most a.beginning a.begins a.some)

-- it lies in the term or at its end
pub longest_within : (f : List ℕ → Bool) (s : List ℕ) (n : ℕ) → Longest f s n → n ≤ length s
longest_within f s n a = omega (arith, a.size, sym (length-append a.beginning a.begins.rest) ∙ ap length a.begins.whole)
