-- `forms::entry_len` meets its contract. Assumes nothing.
use Rattle.std.proofs.Common.{◌≡◌, ◌+◌, ◌≤◌, false, length, drop}
use Rattle.terms.specs.declared.Mode.TheVariants.{Out}
use Rattle.forms.specs.Automata.{entry_len}
use Rattle.forms.proofs.entry_len.Given as goal

abbrev pub invariant-loop-i : goal.invariant-loop-i
invariant-loop-i l = (l.i ≤ length l.text) × (l.i + entry_len l.m l.listed (drop l.i l.text) ≡ entry_len Out false l.text)
