-- What stands at a text's front. Assumes nothing.
use Prim.Native.Nat.{ℕ, suc, ◌<◌, ◌≤◌}
use mathlib.Core.Path.{◌≡◌, sym}
use mathlib.Core.List.{List, [], ◌∷◌}
use mathlib.Core.Bool.{Bool, true, false, cond}
use native.Mathlib.Omega.{arith}
use lib.ListN.{length}
use lib.Dec.{eqb}
use Rattle.text.proofs.Tests.{no_case}
use Rattle.replies.specs.Lines.{begins, end_len}

pub begins_some : (f : ℕ → Bool) (s : List ℕ) → begins f s ≡ true → 0 < length s
begins_some f [] e = no_case (sym e)
begins_some f (b ∷ s) e = omega arith

pub end_within : (s : List ℕ) → end_len s ≤ length s
end_within [] = omega arith
end_within (b ∷ []) = go (eqb b 13) (eqb b 10)
  where
    go : (x y : Bool) → cond x 1 (cond y 1 0) ≤ 1
    go true y = omega arith
    go false true = omega arith
    go false false = omega arith
end_within (b ∷ c ∷ s) = go (eqb b 13) (eqb c 10) (eqb b 10)
  where
    go : (x y z : Bool) → cond x (cond y 2 1) (cond z 1 0) ≤ suc (suc (length s))
    go true true z = omega arith
    go true false z = omega arith
    go false y true = omega arith
    go false y false = omega arith
