-- Letters in either case: what `lower` does to a byte and to a text. Assumes nothing.
use Prim.Native.Nat.{ℕ, ◌+◌, ◌<◌, ◌≤◌}
use mathlib.Core.Path.{◌≡◌, refl, sym, ap, ◌∙◌}
use mathlib.Core.List.{List, [], ◌∷◌}
use mathlib.Core.Bool.{Bool, true, ◌&&◌}
use native.Mathlib.Omega.{arith}
use lib.ListN.{length, get_or, length-map, get_or-map}
use lib.Dec.{eqb, leb}
use Rattle.std.specs.List.{list_all, zip}
use borrow.Author.Tests.{leb-true, leb-false, le-leb, lt-leb}
use Rattle.text.specs.Bytes.{is_digit, same_bytes}
use Rattle.text.specs.Lists.{is_nil, all_of}
use Rattle.text.proofs.Tests.{and_l, and_r, either}
use Rattle.words.specs.Words.{lower, lowered}
use Rattle.words.specs.Names.{is_lower}

-- ---- a byte: A to Z go up by 32, nothing else moves

pub lower_letter : (b : ℕ) → 65 ≤ b → b ≤ 90 → lower b ≡ b + 32
unfolding lower
lower_letter b h k = simp (le-leb 65 b h, le-leb b 90 k)

pub lower_below : (b : ℕ) → b < 65 → lower b ≡ b
unfolding lower
lower_below b h = simp (lt-leb 65 b h)

pub lower_above : (b : ℕ) → 90 < b → lower b ≡ b
unfolding lower
lower_above b h = either (leb 65 b) (λ e. simp (e, lt-leb b 90 h)) (λ e. simp e)

lower_again : (b : ℕ) → lower (lower b) ≡ lower b
lower_again b =
    either (leb 65 b)
    (λ e.
    either (leb b 90)
    (λ f.
    let h = leb-true 65 b e in let k = leb-true b 90 f in let m = lower_letter b h k in
    ap lower m ∙ lower_above (b + 32) (omega arith) ∙ sym m)
    (λ f. ap lower (lower_above b (leb-false b 90 f))))
    (λ e. ap lower (lower_below b (leb-false 65 b e)))

-- ---- a text

pub lowered_length : (s : List ℕ) → length (lowered s) ≡ length s
unfolding lowered
lowered_length s = length-map s lower

pub lowered_nil : (s : List ℕ) → is_nil (lowered s) ≡ is_nil s
unfolding lowered
lowered_nil [] = refl
lowered_nil (b ∷ s) = refl

pub lowered_at : (s : List ℕ) (i : ℕ) → get_or (lowered s) i 0 ≡ lower (get_or s i 0)
unfolding lowered
lowered_at s i = ap (get_or (lowered s) i) (sym (lower_below 0 (omega arith))) ∙ get_or-map lower s i 0

pub lowered_again : (s : List ℕ) → lowered (lowered s) ≡ lowered s
unfolding lowered
lowered_again [] = refl
lowered_again (b ∷ s) = rw (lower_again b, lowered_again s)

-- a text of bytes that stay is itself in lower case; so is one of lower case letters, and one of digits
lowered_kept : (f : ℕ → Bool) → ((b : ℕ) → f b ≡ true → lower b ≡ b) → (s : List ℕ) → all_of f s ≡ true → lowered s ≡ s
unfolding lowered all_of
lowered_kept f k [] e = refl
lowered_kept f k (b ∷ s) e = rw (k b (and_l (f b) (all_of f s) e), lowered_kept f k s (and_r (f b) (all_of f s) e))

pub lowered_same : (s : List ℕ) → all_of is_lower s ≡ true → lowered s ≡ s
lowered_same = lowered_kept is_lower (λ b e. let h = leb-true 97 b (and_l (leb 97 b) (leb b 122) e) in lower_above b (omega arith))

pub lowered_digits : (s : List ℕ) → all_of is_digit s ≡ true → lowered s ≡ s
lowered_digits = lowered_kept is_digit (λ b e. let h = leb-true b 57 (and_r (leb 48 b) (leb b 57) e) in lower_below b (omega arith))

-- the letters of two texts of one length, two by two
pub pairs_lowered : (s name : List ℕ) → length s ≡ length name → list_all (λ p. eqb (lower p.0) p.1) (zip s name) ≡ same_bytes (lowered s) name
unfolding lowered same_bytes
pairs_lowered [] [] e = refl
pairs_lowered [] (c ∷ name) e = absurd (omega arith)
pairs_lowered (b ∷ s) [] e = absurd (omega arith)
pairs_lowered (b ∷ s) (c ∷ name) e = ap (λ t. eqb (lower b) c && t) (pairs_lowered s name (omega arith))
