-- `wording::measured` meets its contract.
use mathlib.Core.Path.{◌≡◌}
use Prim.Native.Nat.{◌-◌, ◌≤◌}
use lib.ListN.{length}
use Rattle.wording.specs.Words.{wording_of, text_answer}
use Rattle.wording.specs.Steps.{wording_at, answer_from}
use Rattle.wording.proofs.measured.Given as goal

abbrev pub invariant-loop-p : goal.invariant-loop-p
invariant-loop-p l = (l.p ≤ length l.records) × (l.at ≤ l.room) × (text_answer l.room (wording_of l.records) ≡ answer_from l.at l.room (wording_at l.p l.records))

abbrev pub decreases-loop-p : goal.decreases-loop-p
decreases-loop-p l = length l.records - l.p
