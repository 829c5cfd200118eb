-- What one byte gives in a mode, and the mode after it, case by case: every law over modes and bytes cites these. Assumes nothing.
use Prim.Native.Nat.{ℕ}
use mathlib.Core.Path.{◌≡◌, refl}
use mathlib.Core.List.{List, [], ◌∷◌, ◌++◌}
use mathlib.Core.Bool.{Bool, true, false}
use lib.Dec.{eqb}
use Rattle.text.specs.Bytes.{one_of}
use Rattle.terms.specs.declared.Mode.{Mode}
use Rattle.terms.specs.declared.Mode.TheVariants.{Out, OutGrave, In, InGrave}
use Rattle.terms.specs.Signs.{Sign, bare, escaped, quote, quoted, quoted_escaped, twelve, two, after, gives, at_end, signs}

module _ (P : List Sign → Mode → Type 0) (b : ℕ) where
  -- outside quotes: a GRAVE, a quote mark, any other byte
  pub out_case : (eqb b 96 ≡ true → P [] OutGrave) → (eqb b 96 ≡ false → eqb b 34 ≡ true → P (quote ∷ []) In) → (eqb b 96 ≡ false → eqb b 34 ≡ false → P (bare b ∷ []) Out)
      → P (gives Out b) (after Out b)
  unfolding gives after
  out_case grave mark other = go (eqb b 96) (eqb b 34) refl refl
    where
      go : (x y : Bool) → eqb b 96 ≡ x → eqb b 34 ≡ y → P (gives Out b) (after Out b)
      go true y p q = rw p (grave p)
      go false true p q = rw (p, q) (mark p q)
      go false false p q = rw (p, q) (other p q)

  -- after a GRAVE outside quotes: one of the twelve, any other byte
  pub out_grave_case : (one_of twelve b ≡ true → P (escaped b ∷ []) Out) → (one_of twelve b ≡ false → P (bare 96 ∷ bare b ∷ []) Out) → P (gives OutGrave b) (after OutGrave b)
  unfolding gives after
  out_grave_case pair other = go (one_of twelve b) refl
    where
      go : (x : Bool) → one_of twelve b ≡ x → P (gives OutGrave b) (after OutGrave b)
      go true p = rw p (pair p)
      go false p = rw p (other p)

  -- in quotes: the same
  pub in_case : (eqb b 96 ≡ true → P [] InGrave) → (eqb b 96 ≡ false → eqb b 34 ≡ true → P (quote ∷ []) Out) → (eqb b 96 ≡ false → eqb b 34 ≡ false → P (quoted b ∷ []) In)
      → P (gives In b) (after In b)
  unfolding gives after
  in_case grave mark other = go (eqb b 96) (eqb b 34) refl refl
    where
      go : (x y : Bool) → eqb b 96 ≡ x → eqb b 34 ≡ y → P (gives In b) (after In b)
      go true y p q = rw p (grave p)
      go false true p q = rw (p, q) (mark p q)
      go false false p q = rw (p, q) (other p q)

  pub in_grave_case : (one_of two b ≡ true → P (quoted_escaped b ∷ []) In) → (one_of two b ≡ false → P (quoted 96 ∷ quoted b ∷ []) In) → P (gives InGrave b) (after InGrave b)
  unfolding gives after
  in_grave_case pair other = go (one_of two b) refl
    where
      go : (x : Bool) → one_of two b ≡ x → P (gives InGrave b) (after InGrave b)
      go true p = rw p (pair p)
      go false p = rw p (other p)

-- all modes, in the order above
pub gives_case : (P : Mode → List Sign → Mode → Type 0) (b : ℕ)
    → (eqb b 96 ≡ true → P Out [] OutGrave)
    → (eqb b 96 ≡ false → eqb b 34 ≡ true → P Out (quote ∷ []) In)
    → (eqb b 96 ≡ false → eqb b 34 ≡ false → P Out (bare b ∷ []) Out)
    → (one_of twelve b ≡ true → P OutGrave (escaped b ∷ []) Out)
    → (one_of twelve b ≡ false → P OutGrave (bare 96 ∷ bare b ∷ []) Out)
    → (eqb b 96 ≡ true → P In [] InGrave)
    → (eqb b 96 ≡ false → eqb b 34 ≡ true → P In (quote ∷ []) Out)
    → (eqb b 96 ≡ false → eqb b 34 ≡ false → P In (quoted b ∷ []) In)
    → (one_of two b ≡ true → P InGrave (quoted_escaped b ∷ []) In)
    → (one_of two b ≡ false → P InGrave (quoted 96 ∷ quoted b ∷ []) In)
    → (m : Mode) → P m (gives m b) (after m b)
gives_case P b grave mark other pair no-pair grave_in mark-in other_in pair_in no-pair-in Out = out_case (P Out) b grave mark other
gives_case P b grave mark other pair no-pair grave_in mark-in other_in pair_in no-pair-in OutGrave = out_grave_case (P OutGrave) b pair no-pair
gives_case P b grave mark other pair no-pair grave_in mark-in other_in pair_in no-pair-in In = in_case (P In) b grave_in mark-in other_in
gives_case P b grave mark other pair no-pair grave_in mark-in other_in pair_in no-pair-in InGrave = in_grave_case (P InGrave) b pair_in no-pair-in

-- what stands at a text's end, in each mode
pub end_case : (P : Mode → List Sign → Type 0) → P Out [] → P OutGrave (bare 96 ∷ []) → P In [] → P InGrave (quoted 96 ∷ []) → (m : Mode) → P m (at_end m)
end_case P out grave in' grave_in Out = out
end_case P out grave in' grave_in OutGrave = grave
end_case P out grave in' grave_in In = in'
end_case P out grave in' grave_in InGrave = grave_in

-- after a GRAVE outside quotes the first sign is that GRAVE, or the byte that it escapes
pub grave_first : (P : List Sign → Type 0) → ((r : List Sign) → P (bare 96 ∷ r)) → ((b : ℕ) (r : List Sign) → P (escaped b ∷ r)) → (s : List ℕ) → P (signs OutGrave s)
unfolding signs
grave_first P lone pair [] = lone []
grave_first P lone pair (b ∷ s) =
    out_grave_case (λ g n. P (g ++ signs n s)) b (λ _. pair b (signs Out s)) (λ _. lone (bare b ∷ signs Out s))
