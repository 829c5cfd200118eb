-- GRAVE takes the next byte with it, whichever it is: byte by byte this gives the signs of the paper's definition, which looks at the byte after a GRAVE.
-- Assumes nothing.
use Prim.Native.Nat.{ℕ}
use mathlib.Core.Path.{◌≡◌, refl, sym, ap, ◌∙◌}
use mathlib.Core.List.{List, [], ◌∷◌}
use mathlib.Core.Bool.{Bool, true, false}
use lib.Dec.{eqb}
use borrow.Author.Tests.{eqb-true}
use Rattle.text.specs.Bytes.{bytes, one_of}
use Rattle.terms.specs.declared.Mode.{Mode}
use Rattle.terms.specs.declared.Mode.TheVariants.{Out, In}
use Rattle.terms.specs.Signs.{Sign, bare, escaped, quote, quoted, quoted_escaped, twelve, two, one_sign, paper_signs, after, gives, signs}
use Rattle.text.proofs.Classes.{other_byte}
use Rattle.terms.proofs.Bares.{bare_signs}

pub twelve_grave : one_of twelve 96 ≡ true
unfolding one_of twelve bytes
twelve_grave = refl

twelve_mark : one_of twelve 34 ≡ true
unfolding one_of twelve bytes
twelve_mark = refl

pub two_grave : one_of two 96 ≡ true
unfolding one_of two bytes
two_grave = refl

two_mark : one_of two 34 ≡ true
unfolding one_of two bytes
two_mark = refl

-- what stands before a look-ahead: outside quotes, and in a quote
abbrev pub mode_of : Bool → Mode
mode_of false = Out
mode_of true = In

-- a byte that GRAVE can't escape gives itself, as it does without the GRAVE
plain_out : (c : ℕ) (s : List ℕ) → one_of twelve c ≡ false → signs Out (c ∷ s) ≡ bare c ∷ signs Out s
plain_out c s n = bare_signs c s (other_byte (one_of twelve) 96 c false twelve_grave n) (other_byte (one_of twelve) 34 c false twelve_mark n)

plain_in : (c : ℕ) (s : List ℕ) → one_of two c ≡ false → signs In (c ∷ s) ≡ quoted c ∷ signs In s
unfolding signs gives after
plain_in c s n = simp (other_byte (one_of two) 96 c false two_grave n, other_byte (one_of two) 34 c false two_mark n)

none_left : (q : Bool) → signs (mode_of q) [] ≡ paper_signs q []
unfolding signs paper_signs
none_left false = refl
none_left true = refl

one_left : (q : Bool) (b : ℕ) → signs (mode_of q) (b ∷ []) ≡ paper_signs q (b ∷ [])
unfolding signs gives after paper_signs
one_left false b = go (eqb b 96) (eqb b 34) refl refl
  where
    go : (x y : Bool) → eqb b 96 ≡ x → eqb b 34 ≡ y → signs Out (b ∷ []) ≡ one_sign false b ∷ []
    go true y p r = rw (eqb-true b 96 p)
    go false true p r = simp (p, r)
    go false false p r = simp (p, r)
one_left true b = go (eqb b 96) (eqb b 34) refl refl
  where
    go : (x y : Bool) → eqb b 96 ≡ x → eqb b 34 ≡ y → signs In (b ∷ []) ≡ one_sign true b ∷ []
    go true y p r = rw (eqb-true b 96 p)
    go false true p r = simp (p, r)
    go false false p r = simp (p, r)

-- i and j: the texts from the second byte after b on, and from the next one on
two_left : (q : Bool) (b c : ℕ) (s : List ℕ) → ((r : Bool) → signs (mode_of r) s ≡ paper_signs r s) → ((r : Bool) → signs (mode_of r) (c ∷ s) ≡ paper_signs r (c ∷ s))
    → signs (mode_of q) (b ∷ c ∷ s) ≡ paper_signs q (b ∷ c ∷ s)
unfolding signs gives after paper_signs
two_left false b c s i j = go (eqb b 96) (one_of twelve c) (eqb b 34) refl refl refl
  where
    go : (x y z : Bool) → eqb b 96 ≡ x → one_of twelve c ≡ y → eqb b 34 ≡ z → signs Out (b ∷ c ∷ s) ≡ paper_signs false (b ∷ c ∷ s)
    go true true z p t r = simp (p, t) (ap (λ (w : List Sign). escaped c ∷ w) (i false))
    go true false z p t r = rw (eqb-true b 96 p) (simp t (ap (λ (w : List Sign). bare 96 ∷ w) (sym (plain_out c s t) ∙ j false)))
    go false y true p t r = simp (p, r) (ap (λ (w : List Sign). quote ∷ w) (j true))
    go false y false p t r = simp (p, r) (ap (λ (w : List Sign). bare b ∷ w) (j false))
two_left true b c s i j = go (eqb b 96) (one_of two c) (eqb b 34) refl refl refl
  where
    go : (x y z : Bool) → eqb b 96 ≡ x → one_of two c ≡ y → eqb b 34 ≡ z → signs In (b ∷ c ∷ s) ≡ paper_signs true (b ∷ c ∷ s)
    go true true z p t r = simp (p, t) (ap (λ (w : List Sign). quoted_escaped c ∷ w) (i true))
    go true false z p t r = rw (eqb-true b 96 p) (simp t (ap (λ (w : List Sign). quoted 96 ∷ w) (sym (plain_in c s t) ∙ j true)))
    go false y true p t r = simp (p, r) (ap (λ (w : List Sign). quote ∷ w) (j false))
    go false y false p t r = simp (p, r) (ap (λ (w : List Sign). quoted b ∷ w) (j true))

pub as_paper : (q : Bool) (s : List ℕ) → signs (mode_of q) s ≡ paper_signs q s
as_paper q [] = none_left q
as_paper q (b ∷ []) = one_left q b
as_paper q (b ∷ c ∷ s) = two_left q b c s (λ r. as_paper r s) (λ r. as_paper r (c ∷ s))

-- THE TWO DEFINITIONS AGREE: on a whole text, and on one that begins in a quote
pub as_the_paper_says : (s : List ℕ) → signs Out s ≡ paper_signs false s
as_the_paper_says s = as_paper false s

pub as_the_paper_says_in : (s : List ℕ) → signs In s ≡ paper_signs true s
as_the_paper_says_in s = as_paper true s
