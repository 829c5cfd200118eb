-- `wording::no_room` meets its contract.
use mathlib.Core.Path.{sym, ap, ◌∙◌}
use Rattle.std.proofs.Common.{rules}
use Rattle.wording.specs.Steps.{answer_past}
use Rattle.wording.proofs.no_room.Goals as goal

pub returns : goal.returns
returns c = sym (ap answer_past (sym c.flaw.ensures ∙ c.in_ok-flaw.was))

pub returns-in_err-flaw : goal.returns-in_err-flaw
returns-in_err-flaw c = search rules ∙ sym (ap answer_past (sym c.flaw.ensures ∙ c.in_err-flaw.was))
