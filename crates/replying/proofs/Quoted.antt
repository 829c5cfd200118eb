-- A written value is read back: as one value of its line, and as the bytes that it was written for. Assumes nothing.
use Prim.Native.Nat.{ℕ, suc, ◌+◌}
use mathlib.Core.Path.{◌≡◌, refl, ap}
use mathlib.Core.List.{List, [], ◌∷◌, ◌++◌}
use mathlib.Core.Bool.{Bool, true, false, ◌||◌}
use mathlib.Core.Option.{some}
use native.Mathlib.Omega.{arith}
use lib.ListN.{length}
use lib.Dec.{eqb}
use Rattle.text.specs.Bytes.{bytes, one_of}
use Rattle.text.specs.Lists.{any_of}
use Rattle.text.proofs.Tests.{or_l, or_r}
use Rattle.terms.specs.declared.Mode.TheVariants.{In}
use Rattle.terms.specs.Signs.{two, after, gives, signs, raws, stands, meant}
use Rattle.terms.specs.Quotes.{in_quotes, closing, quotes}
use Rattle.replies.specs.Lines.{begins, is_end, is_quote, quote_len}
use Rattle.replies.specs.Items.{plain_of}
use Rattle.replies.proofs.Forms.{Raw, plain, quoted, quote_over}
use Rattle.replying.specs.Writing.{value_line}

-- the two that are escaped, and the others
module _ (b : ℕ) (e : one_of two b ≡ false) where
  no_grave_lem : eqb b 96 ≡ false
  unfolding two one_of bytes
  no_grave_lem = or_l (eqb b 96) (eqb b 34 || false) e

  no_mark : eqb b 34 ≡ false
  unfolding two one_of bytes
  no_mark = or_l (eqb b 34) false (or_r (eqb b 96) (eqb b 34 || false) e)

-- what stands after an opening quote is read as it was written, and stands for what was written
closing_back : (v : List ℕ) → stands (signs In (raws (closing v))) ≡ v
unfolding closing in_quotes raws signs gives after stands
closing_back [] = refl
closing_back (b ∷ v) = go (one_of two b) refl (closing_back v)
  where
    go : (t : Bool) → one_of two b ≡ t → stands (signs In (raws (closing v))) ≡ v → stands (signs In (raws (closing (b ∷ v)))) ≡ b ∷ v
    go true p ih = rw p (rw p (ap (λ (l : List ℕ). b ∷ l) ih))
    go false p ih = rw p (simp (no_grave_lem b p, no_mark b p) (ap (λ (l : List ℕ). b ∷ l) ih))

-- GRAVE before `"` and GRAVE, undone
pub quotes_back : (v : List ℕ) → meant (raws (quotes v)) ≡ v
unfolding meant raws signs gives after stands
quotes_back v = closing_back v

-- the quote closes at its last byte
closing_whole : (v : List ℕ) → quote_len In (raws (closing v)) ≡ some (length (raws (closing v)))
unfolding closing in_quotes raws quote_len after
closing_whole [] = refl
closing_whole (b ∷ v) = go (one_of two b) refl (closing_whole v)
  where
    go : (t : Bool) → one_of two b ≡ t → quote_len In (raws (closing v)) ≡ some (length (raws (closing v))) → quote_len In (raws (closing (b ∷ v))) ≡ some (length (raws (closing (b ∷ v))))
    go true p ih =
        let n = length (raws (closing v)) in
        let z : 1 + (1 + n) ≡ suc (suc n) = omega arith in
        rw p (rw (ih, z))
    go false p ih =
        let n = length (raws (closing v)) in
        let z : 1 + n ≡ suc n = omega arith in
        rw p (simp (no_grave_lem b p, no_mark b p, ih, z))

-- so whatever follows
pub closing_closes : (v r : List ℕ) → quote_len In (raws (closing v) ++ r) ≡ some (length (raws (closing v)))
closing_closes v r = quote_over In (raws (closing v)) r (length (raws (closing v))) (closing_whole v)

-- what a written value stands for is what was written
pub value_back : (v : List ℕ) → plain_of (value_line v) ≡ v
unfolding plain_of value_line raws
value_back v = go (any_of is_end v || begins is_quote v) refl
  where
    go : (t : Bool) → any_of is_end v || begins is_quote v ≡ t → plain_of (value_line v) ≡ v
    go true p = rw p (quotes_back v)
    go false p = rw p (rw (or_r (any_of is_end v) (begins is_quote v) p))

-- and it is a value
pub value_raw : (v : List ℕ) → Raw (value_line v)
unfolding value_line raws
value_raw v = go (any_of is_end v || begins is_quote v) refl
  where
    go : (t : Bool) → any_of is_end v || begins is_quote v ≡ t → Raw (value_line v)
    go true p = rw p (quoted (raws (closing v)) (closing_whole v))
    go false p = rw p (plain v (or_l (any_of is_end v) (begins is_quote v) p) (or_r (any_of is_end v) (begins is_quote v) p))
