-- What a caller of a read takes from its promise. Assumes nothing.
use Rattle.std.proofs.Common.{ℕ, ◌≤◌, ◌≡◌, Result, Ok, subst}
use Rattle.std.specs.declared.io.Error.{Error}
use Rattle.console.specs.Bounds.{Held}

-- the bytes that were read lie within what was lent
pub held_bytes : (r : Result ℕ Error) (most n : ℕ) → Held r most → r ≡ Ok n → n ≤ most
held_bytes r most n h e = subst (λ (x : Result ℕ Error). Held x most) e h
