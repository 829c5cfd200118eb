-- What is passed, and what stands before the next byte that parts in the rest, is all that stands before it.
use Rattle.std.proofs.Common.{◌≡◌, ◌+◌, drop}
use Rattle.terms.specs.declared.Mode.TheVariants.{Out}
use Rattle.canonical.specs.Written.{text_len}
use Rattle.canonical.proofs.text_len.Given as goal

abbrev pub invariant-loop-i : goal.invariant-loop-i
invariant-loop-i l = l.i + text_len l.m (drop l.i l.s) ≡ text_len Out l.s
