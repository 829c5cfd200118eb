-- `printing::print_calls` meets its contract.
use mathlib.Core.Path.{◌≡◌}
use Prim.Native.Nat.{◌-◌}
use lib.ListN.{length}
use Rattle.printing.proofs.LoopLaws.{Turn}
use Rattle.printing.proofs.print_calls.Given as goal

abbrev pub invariant-loop-buffer : goal.invariant-loop-buffer
invariant-loop-buffer l =
    Turn l.initial.s l.initial.buffer l.part l.initial.out l.s l.buffer l.out l.at l.lines l.n × (length l.room ≡ length l.initial.room) × (length l.buffer ≡ length l.initial.buffer)

abbrev pub decreases-loop-buffer : goal.decreases-loop-buffer
decreases-loop-buffer l = length l.part - l.at
