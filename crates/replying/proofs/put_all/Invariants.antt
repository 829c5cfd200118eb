-- `replying::put_all` meets its contract. The loop's invariant: to write what is left, from w, gives what writing all would.
use Prim.Native.Nat.{◌+◌, ◌-◌, ◌≤◌}
use mathlib.Core.Path.{◌≡◌}
use lib.ListN.{length, drop}
use lib.Seq.{sets}
use Rattle.replying.specs.Records.{asked_from}
use Rattle.replying.specs.Writing.{told_asked, writing_of, written_by}
use Rattle.replying.proofs.put_all.Given as goal

abbrev pub invariant-loop-at : goal.invariant-loop-at
invariant-loop-at l =
    (sets l.out l.w (writing_of (told_asked (asked_from 0 l.at l.text (drop l.at l.records)))) ≡ sets l.initial.out 0 (written_by l.records l.text))
    × (l.w + length (writing_of (told_asked (asked_from 0 l.at l.text (drop l.at l.records)))) ≡ length (written_by l.records l.text))
    × (length l.out ≡ length l.initial.out)
    × (l.at ≤ length l.records)

abbrev pub decreases-loop-at : goal.decreases-loop-at
decreases-loop-at l = length l.records - l.at
