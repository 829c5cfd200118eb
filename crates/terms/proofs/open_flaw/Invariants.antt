-- `terms::open_flaw` meets its contract. The loop's invariant: the mode at the line's end and the last opening quote, from here on, are the line's; and at place 0 no GRAVE takes a byte.
use Prim.Native.Nat.{◌-◌, ◌≤◌}
use mathlib.Core.Path.{◌≡◌}
use mathlib.Core.Bool.{false}
use lib.ListN.{length, drop}
use Rattle.terms.specs.declared.Mode.TheVariants.{Out}
use Rattle.terms.specs.Rows.{end_mode, opened_at}
use Rattle.terms.proofs.QuoteTests.{mode_of}
use Rattle.terms.proofs.open_flaw.Given as goal

abbrev pub invariant-loop-i : goal.invariant-loop-i
invariant-loop-i l =
    (end_mode (mode_of l.inside l.taken) (drop l.i l.line) ≡ end_mode Out l.line)
    × (opened_at (mode_of l.inside l.taken) l.i l.q (drop l.i l.line) ≡ opened_at Out 0 0 l.line)
    × (l.i ≤ length l.line)
    × (l.i ≡ 0 → l.taken ≡ false)

abbrev pub decreases-loop-i : goal.decreases-loop-i
decreases-loop-i l = length l.line - l.i
