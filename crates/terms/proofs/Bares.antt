-- Bare bytes among signs: bytes that are themselves, and where one stands. Assumes nothing.
use Prim.Native.Nat.{ℕ}
use mathlib.Core.Path.{◌≡◌, refl, sym, ap, ◌∙◌}
use mathlib.Core.List.{List, [], ◌∷◌, ◌++◌, append-nil}
use mathlib.Core.Bool.{Bool, true, false}
use lib.Dec.{eqb}
use borrow.Author.Tests.{eqb-true}
use Rattle.text.specs.Lists.{any_of, up_to, all_of, past}
use Rattle.text.proofs.Tests.{and_l, and_r, no_case}
use Rattle.text.proofs.AllAny.{any_split}
use Rattle.text.proofs.Classes.{other_byte}
use Rattle.terms.specs.declared.Mode.TheVariants.{Out}
use Rattle.terms.specs.Signs.{Sign, bare, escaped, quote, quoted, quoted_escaped, after, gives, signs, raws, stands, is_bare, bares}

-- ---- bytes that are themselves

-- outside quotes a byte that is neither GRAVE nor `"`
pub bare_signs : (b : ℕ) (s : List ℕ) → eqb b 96 ≡ false → eqb b 34 ≡ false → signs Out (b ∷ s) ≡ bare b ∷ signs Out s
unfolding signs gives after
bare_signs b s g q = simp (g, q)

-- a text of such bytes: f passes no other
pub bares_signs : (f : ℕ → Bool) → f 96 ≡ false → f 34 ≡ false → (s v : List ℕ) → all_of f s ≡ true → signs Out (s ++ v) ≡ bares s ++ signs Out v
unfolding all_of
bares_signs f g q [] v e = refl
bares_signs f g q (b ∷ s) v e =
    let p = and_l (f b) (all_of f s) e in
    bare_signs b (s ++ v) (other_byte f 96 b true g p) (other_byte f 34 b true q p) ∙ ap (λ (z : List Sign). bare b ∷ z) (bares_signs f g q s v (and_r (f b) (all_of f s) e))

pub bares_alone : (f : ℕ → Bool) → f 96 ≡ false → f 34 ≡ false → (s : List ℕ) → all_of f s ≡ true → signs Out s ≡ bares s
unfolding signs
bares_alone f g q s e = ap (signs Out) (sym (append-nil s)) ∙ bares_signs f g q s [] e ∙ append-nil (bares s)

pub raws_bares : (s : List ℕ) → raws (bares s) ≡ s
unfolding raws
raws_bares [] = refl
raws_bares (b ∷ s) = ap (λ (z : List ℕ). b ∷ z) (raws_bares s)

pub stands_bares : (s : List ℕ) → stands (bares s) ≡ s
unfolding stands
stands_bares [] = refl
stands_bares (b ∷ s) = ap (λ (z : List ℕ). b ∷ z) (stands_bares s)

-- a byte that f does not pass stands in no text whose bytes it passes
pub none_bares : (f : ℕ → Bool) (k : ℕ) → f k ≡ false → (s : List ℕ) → all_of f s ≡ true → any_of (is_bare k) (bares s) ≡ false
unfolding all_of any_of
none_bares f k n [] e = refl
none_bares f k n (b ∷ s) e = simp (other_byte f k b true n (and_l (f b) (all_of f s) e), none_bares f k n s (and_r (f b) (all_of f s) e))

-- ---- a bare byte among signs: one that is no `"`, which would be a quote mark

pub bare_is : (k : ℕ) → eqb 34 k ≡ false → (x : Sign) → is_bare k x ≡ true → x ≡ bare k
bare_is k n (bare b) e = ap bare (eqb-true b k e)
bare_is k n (escaped b) e = no_case (sym e)
bare_is k n quote e = no_case (sym e ∙ n)
bare_is k n (quoted b) e = no_case (sym e)
bare_is k n (quoted_escaped b) e = no_case (sym e)

-- where one stands: what stands before the first, it, and what stands after it
pub bare_split : (k : ℕ) → eqb 34 k ≡ false → (t : List Sign) → any_of (is_bare k) t ≡ true → t ≡ up_to (is_bare k) t ++ (bare k ∷ past (is_bare k) t)
bare_split k n t e =
    let r = any_split (is_bare k) t e in
    r.2 ∙ ap (λ (x : Sign). up_to (is_bare k) t ++ (x ∷ past (is_bare k) t)) (bare_is k n r.0 r.1)
