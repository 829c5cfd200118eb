-- `forms::is_text` meets its contract. Assumes nothing.
use Rattle.std.proofs.Common.{◌≡◌, ◌≤◌, length, drop}
use Rattle.terms.specs.Signs.{signs}
use Rattle.terms.specs.declared.Mode.TheVariants.{Out}
use Rattle.forms.specs.Automata.{text_from}
use Rattle.forms.specs.Forms.{is_text}
use Rattle.forms.proofs.is_text.Given as goal

abbrev pub invariant-loop-b : goal.invariant-loop-b
invariant-loop-b l = (l.b-index ≤ length l.text) × (text_from l.q (signs l.m (drop l.b-index l.text)) ≡ is_text (signs Out l.text))
