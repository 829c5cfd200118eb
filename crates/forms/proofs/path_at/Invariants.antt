-- `forms::path_at` meets its contract. Assumes nothing.
use Prim.Native.Nat.{◌≤◌}
use mathlib.Core.Path.{◌≡◌}
use lib.ListN.{length, drop}
use Rattle.forms.specs.Steps.{path_from}
use Rattle.forms.proofs.path_at.Given as goal

abbrev pub invariant-loop-k : goal.invariant-loop-k
invariant-loop-k l = (l.at ≤ length l.t) × (path_from l.rooted l.k (drop l.at l.t) ≡ path_from l.rooted 0 (drop l.from l.t))
