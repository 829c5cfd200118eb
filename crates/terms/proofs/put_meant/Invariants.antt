-- `terms::put_meant` meets its contract. The loop's invariant: to write what is left, w places after at, gives what writing all would.
use Prim.Native.Nat.{◌+◌, ◌≤◌}
use mathlib.Core.Path.{◌≡◌}
use lib.ListN.{length, drop}
use lib.Seq.{sets}
use Rattle.terms.specs.Signs.{signs, stands, meant}
use Rattle.terms.proofs.SignBytes.{pend}
use Rattle.terms.proofs.put_meant.Given as goal

abbrev pub invariant-loop-b : goal.invariant-loop-b
invariant-loop-b l =
    (sets l.out (l.at + l.w) (stands (signs l.m (drop l.b-index l.s))) ≡ sets l.initial.out l.at (meant l.s))
    × (l.w + length (stands (signs l.m (drop l.b-index l.s))) ≡ length (meant l.s))
    × (length l.out ≡ length l.initial.out)
    × (l.w + pend l.m ≤ l.b-index)
