-- `replying::put_closing` meets its contract. The loop's invariant: to write what is left, from w, gives what writing all would.
use Prim.Native.Nat.{◌+◌, ◌*◌, ◌≤◌}
use mathlib.Core.Path.{◌≡◌}
use lib.ListN.{length, drop}
use lib.Seq.{sets}
use Rattle.terms.specs.Signs.{raws}
use Rattle.terms.specs.Quotes.{closing}
use Rattle.replying.proofs.put_closing.Given as goal

abbrev pub invariant-loop-b : goal.invariant-loop-b
invariant-loop-b l =
    (sets l.out l.w (raws (closing (drop l.b-index l.s))) ≡ sets l.initial.out l.at (raws (closing l.s)))
    × (l.w + length (raws (closing (drop l.b-index l.s))) ≡ l.at + length (raws (closing l.s)))
    × (length l.out ≡ length l.initial.out)
    × (l.w ≤ l.at + 2 * l.b-index)
