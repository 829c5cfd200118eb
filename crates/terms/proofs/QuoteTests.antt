-- The mode as two tests, as `open_flaw` keeps it: inside quotes or not, and whether a GRAVE takes the next byte.
use Prim.Native.Nat.{ℕ, ◌-◌}
use mathlib.Core.Path.{◌≡◌, refl}
use mathlib.Core.Bool.{Bool, true, false, cond, not}
use lib.Dec.{eqb}
use borrow.Author.Tests.{eqb-true}
use Rattle.terms.specs.declared.Mode.{Mode}
use Rattle.terms.specs.declared.Mode.TheVariants.{Out, OutGrave, In, InGrave}
use Rattle.terms.specs.Signs.{after}
use Rattle.terms.specs.Rows.{opens, end_flaw}
use Rattle.terms.proofs.ByteCases.{out_case, in_case}
use Rattle.std.proofs.Common.{Err}
use Rattle.text.specs.Room.{refusal_at}

abbrev pub mode_of : Bool → Bool → Mode
mode_of false false = Out
mode_of false true = OutGrave
mode_of true false = In
mode_of true true = InGrave

-- one byte on, as the tests are turned
pub mode-turns : (inside taken : Bool) (b : ℕ) → mode_of (cond (cond taken false (eqb b 34)) (not inside) inside) (cond taken false (eqb b 96)) ≡ after (mode_of inside taken) b
unfolding after
mode-turns false true b = refl
mode-turns true true b = refl
mode-turns false false b = out_case (λ g n. mode_of (cond (eqb b 34) true false) (eqb b 96) ≡ n) b (λ p. rw (eqb-true b 96 p)) (λ p r. simp (p, r)) (λ p r. simp (p, r))
mode-turns true false b = in_case (λ g n. mode_of (cond (eqb b 34) false true) (eqb b 96) ≡ n) b (λ p. rw (eqb-true b 96 p)) (λ p r. simp (p, r)) (λ p r. simp (p, r))

pub quote-turns : (inside taken : Bool) (b i q : ℕ) → cond (cond taken false (eqb b 34)) (cond inside q i) q ≡ opens (mode_of inside taken) b i q
quote-turns false true b i q = refl
quote-turns true true b i q = refl
quote-turns false false b i q = refl
quote-turns true false b i q = go (eqb b 34)
  where
    go : (x : Bool) → cond x q q ≡ q
    go true = refl
    go false = refl

-- the same of what the calls gave
module _ (inside taken mark : Bool) (b : ℕ) (e : mark ≡ cond taken false (eqb b 34)) where
  pub mode-on : (inside' taken' : Bool) → inside' ≡ cond mark (not inside) inside → taken' ≡ cond taken false (eqb b 96) → mode_of inside' taken' ≡ after (mode_of inside taken) b
  mode-on inside' taken' f g = rw (f, g, e) (mode-turns inside taken b)

  pub quote-on : (i q q' : ℕ) → q' ≡ cond mark (cond inside q i) q → q' ≡ opens (mode_of inside taken) b i q
  quote-on i q q' f = rw (f, e) (quote-turns inside taken b i q)

-- a line that ends in a GRAVE that escapes nothing, in quotes or not
pub ends-taken : (inside : Bool) (n q : ℕ) → end_flaw (mode_of inside true) n q ≡ Err (refusal_at 3 (n - 1))
ends-taken true n q = refl
ends-taken false n q = refl
