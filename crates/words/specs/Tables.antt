-- What the code's answers say in the terms of specs/Words.
use Rattle.std.specs.Prelude.{ℕ, Option, Some, None}
use Rattle.std.proofs.Math.Option.{none, some}
use Rattle.std.proofs.Math.Option as math

-- a number that was looked up, or none
abbrev pub known : math.Option ℕ → Option ℕ
known none = None
known (some n) = Some n
