-- `terms::meant_len` meets its contract. The loop's invariant: what was counted and what is left are what the text stands for.
use Prim.Native.Nat.{◌+◌}
use mathlib.Core.Path.{◌≡◌}
use lib.ListN.{length, drop}
use Rattle.terms.specs.Signs.{signs, stands, meant}
use Rattle.terms.proofs.meant_len.Given as goal

abbrev pub invariant-loop-b : goal.invariant-loop-b
invariant-loop-b l = l.n + length (stands (signs l.m (drop l.b-index l.s))) ≡ length (meant l.s)
