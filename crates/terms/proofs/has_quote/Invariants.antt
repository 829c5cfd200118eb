-- `terms::has_quote` meets its contract. The loop's invariant: the answer for what is left is the answer.
use mathlib.Core.Path.{◌≡◌}
use lib.ListN.{drop}
use Rattle.text.specs.Lists.{any_of}
use Rattle.terms.specs.declared.Mode.TheVariants.{Out}
use Rattle.terms.specs.Signs.{signs}
use Rattle.terms.specs.Marks.{is_mark}
use Rattle.terms.proofs.has_quote.Given as goal

abbrev pub invariant-loop-b : goal.invariant-loop-b
invariant-loop-b l = any_of is_mark (signs l.m (drop l.b-index l.s)) ≡ any_of is_mark (signs Out l.s)
