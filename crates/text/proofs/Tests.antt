-- Laws of tests: both, either, none. Assumes nothing.
use mathlib.Core.Path.{◌≡◌, refl}
use mathlib.Core.Bool.{Bool, true, false, not, ◌&&◌, ◌||◌, true≢false}

pub and_l : (a b : Bool) → a && b ≡ true → a ≡ true
and_l true b e = refl
and_l false b e = cc

pub and_r : (a b : Bool) → a && b ≡ true → b ≡ true
and_r true b e = e
and_r false b e = cc

pub and_in : (a b : Bool) → a ≡ true → b ≡ true → a && b ≡ true
and_in a b e f = simp (e, f)

pub or_l : (a b : Bool) → a || b ≡ false → a ≡ false
or_l true b e = cc
or_l false b e = refl

pub or_r : (a b : Bool) → a || b ≡ false → b ≡ false
or_r true b e = cc
or_r false b e = e

pub or_in_l : (a b : Bool) → a ≡ true → a || b ≡ true
or_in_l a b e = simp e

pub or_in_r : (a b : Bool) → b ≡ true → a || b ≡ true
or_in_r true b e = refl
or_in_r false b e = e

pub or_case : {P : Type 0} (a b : Bool) → a || b ≡ true → (a ≡ true → P) → (b ≡ true → P) → P
or_case true b e f g = f refl
or_case false b e f g = g e

-- a test that is turned round
pub neg_in : (t : Bool) → t ≡ false → not t ≡ true
neg_in t p = simp p

-- which of the two cases a test is
pub either : {P : Type 0} (b : Bool) → (b ≡ true → P) → (b ≡ false → P) → P
either true f g = f refl
either false f g = g refl

pub no_case : {P : Type 0} → true ≡ false → P
no_case e = absurd (true≢false e)
