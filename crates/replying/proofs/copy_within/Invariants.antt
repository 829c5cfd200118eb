-- `replying::copy_within` meets its contract.
use Rattle.std.proofs.Common.{◌≡◌, ◌||◌, length, take, drop}
use Rattle.std.proofs.lemmas.List.Edits.{sets}
use Rattle.text.specs.Lists.{any_of}
use Rattle.replies.specs.Lines.{is_end}
use Rattle.replying.proofs.copy_within.Given as goal

abbrev pub invariant-loop-i : goal.invariant-loop-i
invariant-loop-i l =
    (length l.out ≡ length l.initial.out) × (l.any || any_of is_end (drop l.i l.v) ≡ any_of is_end l.v) × (l.out ≡ sets l.initial.out l.at (take l.i l.v))
