-- `reach::reach_from` meets its contract. Assumes nothing.
use Rattle.std.proofs.Common.{◌≡◌, ◌+◌, ◌≤◌, length, drop}
use Rattle.reach.specs.Machine.{reach_by}
use Rattle.reach.proofs.reach_from.Given as goal

abbrev pub invariant-loop-i : goal.invariant-loop-i
invariant-loop-i g l =
    let m = g.M.Machine in
    (l.i ≤ length l.t) × (l.i + reach_by (m.next l.machine) m.off l.q (drop l.i l.t) ≡ reach_by (m.next l.machine) m.off l.fn.first l.t)
