-- `text::decimal` meets its contract. The loop's invariant: what is read so far and the rest of the digits are the number.
use Prim.Native.Nat.{◌≤◌}
use mathlib.Core.Path.{◌≡◌}
use lib.ListN.{length, drop}
use Rattle.text.specs.Decimal.{decimal_of}
use Rattle.text.proofs.Decimals.{read_on}
use Rattle.text.proofs.decimal.Given as goal

abbrev pub invariant-loop-b : goal.invariant-loop-b
invariant-loop-b l = (l.b-index ≤ length l.s) × (l.v ≤ l.most) × (read_on l.most l.v (drop l.b-index l.s) ≡ decimal_of l.most l.s)
