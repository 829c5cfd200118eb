-- `tree::Tree::put_tagged` meets its contract.
use mathlib.Core.Path.{◌≡◌}
use Prim.Native.Nat.{suc, ◌≤◌, ◌-◌, ◌/◌}
use lib.ListN.{length}
use lib.Seq.{sets}
use Rattle.tree.specs.Resolve.{nodes_from, is_tagged, tagged_under}
use Rattle.tree.proofs.Tree.put_tagged.Given as goal

abbrev pub invariant-loop-k : goal.invariant-loop-k
invariant-loop-k l =
    let t = l.self.bytes.now in
    (l.at ≤ l.k) × (sets l.list l.at (nodes_from (is_tagged t l.node l.tag) (suc l.k) (length t / 22 - l.k)) ≡ sets l.initial.list 0 (tagged_under t l.node l.tag))
