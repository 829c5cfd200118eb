-- `tree::Tree::count_tagged` meets its contract.
use mathlib.Core.Path.{◌≡◌}
use Prim.Native.Nat.{suc, ◌≤◌, ◌-◌, ◌+◌, ◌/◌}
use lib.ListN.{length}
use Rattle.tree.specs.Resolve.{nodes_from, is_tagged, tagged_under}
use Rattle.tree.proofs.Tree.count_tagged.Given as goal

abbrev pub invariant-loop-r : goal.invariant-loop-r
invariant-loop-r l =
    let t = l.self.bytes.now in
    (l.found ≤ l.r-index) × (l.found + length (nodes_from (is_tagged t l.node l.tag) (suc l.r-index) (length t / 22 - l.r-index)) ≡ length (tagged_under t l.node l.tag))
