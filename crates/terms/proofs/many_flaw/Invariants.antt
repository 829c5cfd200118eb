-- `terms::many_flaw` meets its contract. A line with too few bytes or too few spaces for 65 terms is fine. The loop's invariant: the answer for the terms from here on, with so many before them, is the answer.
use Prim.Native.Nat.{◌≤◌}
use mathlib.Core.Path.{◌≡◌}
use mathlib.Core.Bool.{true}
use lib.ListN.{length, drop}
use Rattle.terms.specs.declared.Mode.TheVariants.{Out}
use Rattle.terms.specs.Signs.{signs}
use Rattle.terms.specs.Terms.{terms_from}
use Rattle.terms.specs.Rows.{many_from, many_flaw}
use Rattle.terms.proofs.many_flaw.Given as goal

abbrev pub invariant-turns : goal.invariant-turns
invariant-turns l =
    (many_from l.counter (terms_from l.from true (signs Out (drop l.from l.line))) ≡ many_flaw l.line)
    × (l.from ≤ length l.line)
