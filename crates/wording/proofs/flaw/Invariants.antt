-- `wording::flaw` meets its contract.
use mathlib.Core.Path.{◌≡◌}
use Prim.Native.Nat.{◌-◌, ◌≤◌}
use lib.ListN.{length}
use Rattle.wording.specs.Steps.{wording_at, flaw_in}
use Rattle.wording.proofs.flaw.Given as goal

abbrev pub invariant-loop-p : goal.invariant-loop-p
invariant-loop-p l = (l.p ≤ length l.records) × (flaw_in (wording_at l.p l.records) ≡ flaw_in (wording_at l.initial.p l.records))

abbrev pub decreases-loop-p : goal.decreases-loop-p
decreases-loop-p l = length l.records - l.p
