-- `tree::Tree::child` meets its contract.
use mathlib.Core.Path.{◌≡◌}
use Prim.Native.Nat.{suc, ◌-◌, ◌/◌}
use lib.ListN.{length}
use Rattle.tree.specs.Resolve.{nodes_from, is_named, named_under}
use Rattle.tree.proofs.Tree.child.Given as goal

abbrev pub invariant-loop-k : goal.invariant-loop-k
invariant-loop-k l = let t = l.self.bytes.now in nodes_from (is_named t l.node l.tag l.number) (suc l.k) (length t / 22 - l.k) ≡ named_under t l.node l.tag l.number
