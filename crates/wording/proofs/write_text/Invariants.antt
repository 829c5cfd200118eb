-- `wording::write_text` meets its contract.
use mathlib.Core.Path.{◌≡◌}
use Prim.Native.Nat.{◌+◌, ◌-◌, ◌≤◌}
use lib.ListN.{length}
use lib.Seq.{sets}
use Rattle.wording.specs.Words.{wording_of}
use Rattle.wording.specs.Steps.{wording_at, flaw_in, worded_text}
use Rattle.wording.proofs.write_text.Given as goal
use Rattle.std.proofs.Common.{Ok}

abbrev pub invariant-loop-p : goal.invariant-loop-p
invariant-loop-p l =
    (l.p ≤ length l.records)
    × (length l.out ≡ length l.initial.out)
    × (flaw_in (wording_at l.p l.records) ≡ Ok tt)
    × (l.at + length (worded_text (wording_at l.p l.records)) ≡ length (worded_text (wording_of l.records)))
    × (sets l.out l.at (worded_text (wording_at l.p l.records)) ≡ sets l.initial.out 0 (worded_text (wording_of l.records)))

abbrev pub decreases-loop-p : goal.decreases-loop-p
decreases-loop-p l = length l.records - l.p
