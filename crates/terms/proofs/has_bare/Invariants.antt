-- `terms::has_bare` meets its contract. The loop's invariant: the answer for what is left is the answer.
use mathlib.Core.Path.{◌≡◌}
use lib.ListN.{drop}
use Rattle.text.specs.Lists.{any_of}
use Rattle.terms.specs.declared.Mode.TheVariants.{Out}
use Rattle.terms.specs.Signs.{signs, is_bare}
use Rattle.terms.proofs.has_bare.Given as goal

abbrev pub invariant-loop-c : goal.invariant-loop-c
invariant-loop-c l = any_of (is_bare l.b) (signs l.m (drop l.c-index l.c-items)) ≡ any_of (is_bare l.b) (signs Out l.s)
