-- `replying::weigh` meets its contract. The loop's invariant: what is left, at the depth and with the bytes so far, is answered as the whole.
use Prim.Native.Nat.{◌-◌, ◌≤◌}
use mathlib.Core.Path.{◌≡◌}
use lib.ListN.{length, drop}
use Rattle.replying.specs.Records.{asked_from, asked_of}
use Rattle.replying.specs.Steps.{weighed}
use Rattle.replying.proofs.weigh.Given as goal

abbrev pub invariant-loop-at : goal.invariant-loop-at
invariant-loop-at l = (weighed l.depth (length l.records) l.n (asked_from 0 l.at l.text (drop l.at l.records)) ≡ weighed 0 (length l.records) 0 (asked_of l.records l.text)) × (l.at ≤ length l.records)

abbrev pub decreases-loop-at : goal.decreases-loop-at
decreases-loop-at l = length l.records - l.at
