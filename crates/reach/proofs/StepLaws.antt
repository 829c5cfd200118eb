-- What each step of a machine answers, test by test, as the code makes it. Assumes nothing.
use Prim.Native.Nat.{ℕ, ◌+◌, ◌-◌, ◌*◌, ◌<◌, ◌≤◌}
use mathlib.Core.Path.{◌≡◌, sym, ap, ◌∙◌}
use mathlib.Core.Bool.{Bool, true, false, not, ◌&&◌}
use native.Mathlib.Omega.{arith}
use lib.ListN.{get_or}
use lib.Dec.{eqb, leb, ltb}
use borrow.Author.Tests.{eq-eqb, ne_eqb, lt-leb, le-leb, leb-true, ltb-true, not-true, not-false}
use Rattle.text.specs.Bytes.{is_digit}
use Rattle.text.proofs.Tests.{and_l, and_r}
use Rattle.text.proofs.Decimals.{told_is}
use Rattle.words.specs.Words.{lower, all_name}
use Rattle.reach.specs.declared.Tally.{Tally}
use Rattle.reach.specs.declared.Tally.TheVariants as tally
use Rattle.reach.specs.declared.Road.{Road}
use Rattle.reach.specs.declared.Road.TheVariants as road
use Rattle.reach.specs.Numbers.{digit_more, is_all_letter, all_step, first_step, tally_step}
use Rattle.reach.specs.Roads.{part_step, tag_end, number_step}
use Rattle.std.proofs.Common.{Option, Some, None}

-- a flag that a function gave, turned
flag : (t r : Bool) → r ≡ t → not r ≡ true → t ≡ false
flag t r e h = sym e ∙ not-true r h

-- ---- numbers

module _ (most v b : ℕ) where
  pub digit_none : (d : Bool) → d ≡ is_digit b → not d ≡ true → None ≡ digit_more most v b
  unfolding digit_more
  digit_none d e h = simp (flag (is_digit b) d e h)

  pub digit_over : (d : Bool) (w : ℕ) → d ≡ is_digit b → not d ≡ false → w ≡ v * 10 + (b - 48) → most < w → None ≡ digit_more most v b
  unfolding digit_more
  digit_over d w e h z l = simp (sym e ∙ not-false d h, lt-leb (v * 10 + (b - 48)) most (omega arith))

  pub digit_is : (d : Bool) (w : ℕ) → d ≡ is_digit b → not d ≡ false → w ≡ v * 10 + (b - 48) → w ≤ most → Some w ≡ digit_more most v b
  unfolding digit_more
  digit_is d w e h z l = simp (sym e ∙ not-false d h, le-leb (v * 10 + (b - 48)) most (omega arith)) (ap Some z)

  -- a digit more keeps to the limit
  pub digit_small : (w : ℕ) → Some w ≡ digit_more most v b → w ≤ most
  unfolding digit_more
  digit_small w e =
      let t = told_is (is_digit b && leb (v * 10 + (b - 48)) most) w (v * 10 + (b - 48)) e in
      omega (arith, t.1, leb-true (v * 10 + (b - 48)) most (and_r (is_digit b) (leb (v * 10 + (b - 48)) most) t.0))

module _ (n b : ℕ) where
  pub all_few : is_all_letter n b ≡ true → n < 3
  unfolding is_all_letter
  all_few e = ltb-true n 3 (and_l (ltb n 3) (eqb (lower b) (get_or all_name n 0)) e)

-- the first byte: a zero; another digit; the first letter of `all`, for level; anything else
pub first_zero : (level : Bool) (b : ℕ) → b ≡ 48 → tally.Zero ≡ first_step level b
unfolding first_step
first_zero level b e = simp (eq-eqb b 48 e)

module _ (level : Bool) (b : ℕ) (d : Option ℕ) where
  pub first_number : (v : ℕ) → (b ≡ 48 → ⊥) → d ≡ digit_more 4294967295 0 b → d ≡ Some v → tally.Number v ≡ first_step level b
  unfolding first_step
  first_number v n e t = rw (ne_eqb b 48 n, ← e, t)

  pub first_all : (r : Tally) → (b ≡ 48 → ⊥) → d ≡ digit_more 4294967295 0 b → d ≡ None → level ≡ true → r ≡ all_step 0 b → r ≡ first_step level b
  unfolding first_step
  first_all r n e t l z = rw (ne_eqb b 48 n, ← e, t, l) z

  pub first_off : (b ≡ 48 → ⊥) → d ≡ digit_more 4294967295 0 b → d ≡ None → level ≡ false → tally.Off ≡ first_step level b
  unfolding first_step
  first_off n e t l = rw (ne_eqb b 48 n, ← e, t, l)

-- the next one
module _ (level : Bool) (q : Tally) (b : ℕ) where
  pub tally_first : (r : Tally) → q ≡ tally.First → r ≡ first_step level b → r ≡ tally_step level q b
  tally_first r e z = rw e z

  pub tally_number : (v w : ℕ) (d : Option ℕ) → q ≡ tally.Number v → d ≡ digit_more 4294967295 v b → d ≡ Some w → tally.Number w ≡ tally_step level q b
  tally_number v w d e z t = rw (e, ← z, t)

  pub tally_over : (v : ℕ) (d : Option ℕ) → q ≡ tally.Number v → d ≡ digit_more 4294967295 v b → d ≡ None → tally.Off ≡ tally_step level q b
  tally_over v d e z t = rw (e, ← z, t)

  pub tally_all : (n : ℕ) (r : Tally) → q ≡ tally.All n → r ≡ all_step n b → r ≡ tally_step level q b
  tally_all n r e z = rw e z

-- ---- targets

module _ (k b : ℕ) where
  pub tag_star : b ≡ 42 → road.Star ≡ tag_end k b
  unfolding tag_end
  tag_star e = simp (eq-eqb b 42 e)

  pub tag_zero : (b ≡ 42 → ⊥) → b ≡ 48 → road.Off ≡ tag_end k b
  unfolding tag_end
  tag_zero n e = simp (ne_eqb b 42 n, eq-eqb b 48 e)

  pub tag_number : (v : ℕ) (d : Option ℕ) → (b ≡ 42 → ⊥) → (b ≡ 48 → ⊥) → d ≡ digit_more 65535 0 b → d ≡ Some v → road.Number k v ≡ tag_end k b
  unfolding tag_end
  tag_number v d n m e t = rw (ne_eqb b 42 n, ne_eqb b 48 m, ← e, t)

  pub tag_off : (d : Option ℕ) → (b ≡ 42 → ⊥) → (b ≡ 48 → ⊥) → d ≡ digit_more 65535 0 b → d ≡ None → road.Off ≡ tag_end k b
  unfolding tag_end
  tag_off d n m e t = rw (ne_eqb b 42 n, ne_eqb b 48 m, ← e, t)

  pub number_more : (v w : ℕ) (d : Option ℕ) → d ≡ digit_more 65535 v b → d ≡ Some w → road.Number k w ≡ number_step k v b
  unfolding number_step
  number_more v w d e t = rw (← e, t)

  pub number_ends : (v : ℕ) (d : Option ℕ) (r : Road) → d ≡ digit_more 65535 v b → d ≡ None → r ≡ part_step k b → r ≡ number_step k v b
  unfolding number_step
  number_ends v d r e t z = rw (← e, t) z
