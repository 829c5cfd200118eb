-- `tree::check` meets its contract.
use mathlib.Core.Path.{◌≡◌}
use Prim.Native.Nat.{◌-◌}
use Rattle.tree.specs.Tree.{records, check_from, check_tree}
use Rattle.tree.specs.Marks.{Marked}
use Rattle.tree.proofs.check.Given as goal

abbrev pub invariant-loop-k : goal.invariant-loop-k
invariant-loop-k l = (check_from (records l.t - l.k) l.t l.k ≡ check_tree l.t) × Marked l.marks l.t l.k
