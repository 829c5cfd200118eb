-- The bytes that signs are and the bytes that they stand for. Assumes nothing.
use Prim.Native.Nat.{ℕ, suc, ◌+◌, ◌<◌, ◌≤◌}
use mathlib.Core.Path.{◌≡◌, refl, sym, ap, ◌∙◌}
use mathlib.Core.List.{List, [], ◌∷◌, ◌++◌, append_assoc}
use mathlib.Core.Bool.{true}
use native.Mathlib.Omega.{arith}
use lib.ListN.{length, get_or, drop, drop_of_length-le}
use lib.Dec.{eqb}
use borrow.Author.Tests.{eqb-true}
use Rattle.text.proofs.Scans.{drop_step}
use Rattle.terms.specs.declared.Mode.{Mode}
use Rattle.terms.specs.declared.Mode.TheVariants.{Out, OutGrave, In, InGrave}
use Rattle.terms.specs.Signs.{Sign, bare, escaped, quote, quoted, quoted_escaped, after, gives, at_end, signs, raw, raws, stands_for, stands, meant}
use Rattle.terms.proofs.ByteCases.{gives_case, end_case}

-- a GRAVE whose sign is not told yet
abbrev pub pend : Mode → ℕ
pend Out = 0
pend OutGrave = 1
pend In = 0
pend InGrave = 1

pub gives_width : (m : Mode) (b : ℕ) → length (raws (gives m b)) + pend (after m b) ≡ pend m + 1
unfolding raws
gives_width m b =
    gives_case (λ k g n. length (raws g) + pend n ≡ pend k + 1) b (λ _. refl) (λ _ _. refl) (λ _ _. refl) (λ _. refl) (λ _. refl) (λ _. refl) (λ _ _. refl) (λ _ _. refl) (λ _. refl)
    (λ _. refl) m

-- ---- the raw bytes of the signs of a text are the text

held : Mode → List ℕ
held Out = []
held OutGrave = 96 ∷ []
held In = []
held InGrave = 96 ∷ []

pub raws_append : (a b : List Sign) → raws (a ++ b) ≡ raws a ++ raws b
unfolding raws
raws_append [] b = refl
raws_append (x ∷ a) b = ap (λ z. raw x ++ z) (raws_append a b) ∙ sym (append_assoc (raw x) (raws a) (raws b))

gives_raw : (m : Mode) (b : ℕ) (s : List ℕ) → raws (gives m b) ++ (held (after m b) ++ s) ≡ held m ++ (b ∷ s)
unfolding raws held
gives_raw m b s =
    let is : (k : ℕ) → eqb b k ≡ true → k ∷ s ≡ b ∷ s = λ k p. ap (λ z. z ∷ s) (sym (eqb-true b k p)) in
    gives_case (λ k g n. raws g ++ (held n ++ s) ≡ held k ++ (b ∷ s)) b (is 96) (λ _. is 34) (λ _ _. refl) (λ _. refl) (λ _. refl) (is 96) (λ _. is 34) (λ _ _. refl) (λ _. refl)
    (λ _. refl) m

ends : (m : Mode) → raws (at_end m) ≡ held m ++ []
unfolding raws held
ends = end_case (λ m z. raws z ≡ held m ++ []) refl refl refl refl

raws_from : (m : Mode) (s : List ℕ) → raws (signs m s) ≡ held m ++ s
unfolding signs
raws_from m [] = ends m
raws_from m (b ∷ s) =
    raws_append (gives m b) (signs (after m b) s) ∙ ap (λ z. raws (gives m b) ++ z) (raws_from (after m b) s) ∙ gives_raw m b s

pub raws_signs : (s : List ℕ) → raws (signs Out s) ≡ s
unfolding held
raws_signs s = raws_from Out s

pub stands_append : (a b : List Sign) → stands (a ++ b) ≡ stands a ++ stands b
unfolding stands
stands_append [] b = refl
stands_append (x ∷ a) b = ap (λ z. stands_for x ++ z) (stands_append a b) ∙ sym (append_assoc (stands_for x) (stands a) (stands b))

-- the bytes that a text stands for, one byte of it more
pub stands_on : (l : List ℕ) (i : ℕ) (m : Mode) → i < length l
    → stands (signs m (drop i l)) ≡ stands (gives m (get_or l i 0)) ++ stands (signs (after m (get_or l i 0)) (drop (i + 1) l))
unfolding signs
stands_on l i m h =
    let b = get_or l i 0 in
    let d : drop i l ≡ b ∷ drop (i + 1) l = drop_step l i h in
    ap (λ z. stands (signs m z)) d ∙ stands_append (gives m b) (signs (after m b) (drop (i + 1) l))

pub stands_past : (l : List ℕ) (i : ℕ) (m : Mode) → length l ≤ i → stands (signs m (drop i l)) ≡ stands (at_end m)
unfolding signs
stands_past l i m h = ap (λ z. stands (signs m z)) (drop_of_length-le l h)

-- ---- there are at most as many signs as bytes, and they stand for no more bytes

raws_length : (xs : List Sign) → (length xs ≤ length (raws xs)) × (length (stands xs) ≤ length (raws xs))
unfolding raws stands
raws_length [] = (omega arith, omega arith)
raws_length (x ∷ xs) = go x (raws_length xs)
  where
    go : (x : Sign) → (length xs ≤ length (raws xs)) × (length (stands xs) ≤ length (raws xs))
        → (suc (length xs) ≤ length (raw x ++ raws xs)) × (length (stands_for x ++ stands xs) ≤ length (raw x ++ raws xs))
    go (bare b) ih = let p = ih.0 in let q = ih.1 in (omega arith, omega arith)
    go (escaped b) ih = let p = ih.0 in let q = ih.1 in (omega arith, omega arith)
    go quote ih = let p = ih.0 in let q = ih.1 in (omega arith, omega arith)
    go (quoted b) ih = let p = ih.0 in let q = ih.1 in (omega arith, omega arith)
    go (quoted_escaped b) ih = let p = ih.0 in let q = ih.1 in (omega arith, omega arith)

pub signs_length : (s : List ℕ) → length (signs Out s) ≤ length s
signs_length s = let h = (raws_length (signs Out s)).0 in let e = ap length (raws_signs s) in omega arith

pub meant_length : (s : List ℕ) → length (meant s) ≤ length s
unfolding meant
meant_length s = let h = (raws_length (signs Out s)).1 in let e = ap length (raws_signs s) in omega arith
