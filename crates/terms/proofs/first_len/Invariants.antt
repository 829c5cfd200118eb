-- `terms::first_len` meets its contract. The loop's invariant: the bytes passed and those of the term from there on are what it has.
use Prim.Native.Nat.{◌+◌}
use mathlib.Core.Path.{◌≡◌}
use lib.ListN.{drop}
use Rattle.terms.specs.declared.Mode.TheVariants.{Out}
use Rattle.terms.specs.Scan.{term_len}
use Rattle.terms.proofs.first_len.Given as goal

abbrev pub invariant-loop-i : goal.invariant-loop-i
invariant-loop-i l = l.i + term_len l.m (drop l.i l.s) ≡ term_len Out l.s
