-- The signs of a text that is cut in two, or appended to another. Assumes nothing.
use Prim.Native.Nat.{ℕ, zero, suc}
use mathlib.Core.Path.{◌≡◌, refl, sym, ap, ◌∙◌}
use mathlib.Core.List.{List, [], ◌∷◌, ◌++◌, append_assoc, append-nil}
use lib.ListN.{take, drop}
use Rattle.text.specs.Lists.{walk}
use Rattle.terms.specs.declared.Mode.{Mode}
use Rattle.terms.specs.declared.Mode.TheVariants.{Out}
use Rattle.terms.specs.Signs.{Sign, after, gives, at_end, signs, stands, meant}
use Rattle.terms.specs.Rows.{end_mode}
use Rattle.terms.proofs.SignBytes.{stands_append}

-- ---- THE CUT: wherever the scan is outside quotes
pub cut : (m : Mode) (s : List ℕ) (n : ℕ) → end_mode m (take n s) ≡ Out → signs m s ≡ signs m (take n s) ++ signs Out (drop n s)
unfolding signs end_mode walk
cut m [] zero e = rw (e, append-nil)
cut m [] (suc n) e = rw (e, append-nil)
cut m (b ∷ s) zero e = rw e
cut m (b ∷ s) (suc n) e =
    ap (λ z. gives m b ++ z) (cut (after m b) s n e) ∙ sym (append_assoc (gives m b) (signs (after m b) (take n s)) (signs Out (drop n s)))

-- ---- signs of appended texts

-- the signs that are told before a text's end
unfoldable pub told : Mode → List ℕ → List Sign
told m [] = []
told m (b ∷ s) = gives m b ++ told (after m b) s

pub signs_over : (m : Mode) (s t : List ℕ) → signs m (s ++ t) ≡ told m s ++ signs (end_mode m s) t
unfolding signs told end_mode walk
signs_over m [] t = refl
signs_over m (b ∷ s) t =
    ap (λ (z : List Sign). gives m b ++ z) (signs_over (after m b) s t) ∙ sym (append_assoc (gives m b) (told (after m b) s) (signs (end_mode (after m b) s) t))

pub signs_told : (m : Mode) (s : List ℕ) → signs m s ≡ told m s ++ at_end (end_mode m s)
unfolding signs
signs_told m s = ap (signs m) (sym (append-nil s)) ∙ signs_over m s []

-- a text that ends outside quotes, with no GRAVE waiting
pub signs_append : (m : Mode) (s t : List ℕ) → end_mode m s ≡ Out → signs m (s ++ t) ≡ signs m s ++ signs Out t
signs_append m s t e =
    signs_over m s t
    ∙ ap (λ (k : Mode). told m s ++ signs k t) e
    ∙ ap (λ (z : List Sign). z ++ signs Out t) (sym (signs_told m s ∙ ap (λ (k : Mode). told m s ++ at_end k) e ∙ append-nil (told m s)))

pub meant_append : (s t : List ℕ) → end_mode Out s ≡ Out → meant (s ++ t) ≡ meant s ++ meant t
unfolding meant
meant_append s t e = ap stands (signs_append Out s t e) ∙ stands_append (signs Out s) (signs Out t)
