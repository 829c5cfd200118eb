-- `forms::is_list` meets its contract. Assumes nothing.
use Rattle.std.proofs.Common.{◌≡◌, ◌≤◌, length, drop}
use Rattle.terms.specs.Signs.{signs}
use Rattle.terms.specs.declared.Mode.TheVariants.{Out}
use Rattle.forms.specs.Automata.{list_from}
use Rattle.forms.specs.Forms.{is_list}
use Rattle.forms.proofs.is_list.Given as goal

abbrev pub invariant-loop-i : goal.invariant-loop-i
invariant-loop-i l = (l.k ≤ l.i) × (l.i ≤ length l.text) × (list_from l.q l.k (signs l.m (drop l.i l.text)) ≡ is_list (signs Out l.text))
