-- Two texts have the same bytes exactly where they are equal. Assumes nothing.
use Prim.Native.Nat.{ℕ}
use mathlib.Core.Path.{◌≡◌, refl, sym, ap, ◌∙◌}
use mathlib.Core.List.{List, [], ◌∷◌}
use mathlib.Core.Bool.{true, false}
use lib.Dec.{eqb}
use borrow.Author.Tests.{eqb-true, eq-eqb}
use Rattle.text.specs.Bytes.{same_bytes}
use Rattle.text.proofs.Tests.{and_l, and_r, no_case}

pub same_eq : (a b : List ℕ) → same_bytes a b ≡ true → a ≡ b
unfolding same_bytes
same_eq [] [] e = refl
same_eq [] (y ∷ b) e = cc
same_eq (x ∷ a) [] e = cc
same_eq (x ∷ a) (y ∷ b) e =
    let p = eqb-true x y (and_l (eqb x y) (same_bytes a b) e) in
    let q = same_eq a b (and_r (eqb x y) (same_bytes a b) e) in
    cc

pub same_refl : (a : List ℕ) → same_bytes a a ≡ true
unfolding same_bytes
same_refl [] = refl
same_refl (x ∷ a) = simp (eq-eqb x x refl, same_refl a)

pub eq_same : (a b : List ℕ) → a ≡ b → same_bytes a b ≡ true
eq_same a b e = ap (same_bytes a) (sym e) ∙ same_refl a

pub differ_eq : (a b : List ℕ) → same_bytes a b ≡ false → a ≡ b → ⊥
differ_eq a b d e = no_case (sym (ap (λ (x : List ℕ). same_bytes x b) e ∙ same_refl b) ∙ d)
