-- `wording::hindrance` meets its contract.
use mathlib.Core.Path.{sym, ap, ◌∙◌}
use Rattle.std.proofs.Common.{rules}
use Rattle.wording.specs.Steps.{hindrance_by}
use Rattle.wording.proofs.WordingLaws.{short_fits}
use Rattle.wording.proofs.hindrance.Goals as goal

pub returns-then-records-room : goal.returns-then-records-room
returns-then-records-room c = let a = c.args in c.flaw.ensures ∙ short_fits a.room a.records.now c.if-records-room.true

pub returns : goal.returns
returns c = sym (ap hindrance_by c.in_ok-measured.was) ∙ ap hindrance_by c.measured.ensures

pub returns-in_err-measured : goal.returns-in_err-measured
returns-in_err-measured c = search rules ∙ sym (ap hindrance_by c.in_err-measured.was) ∙ ap hindrance_by c.measured.ensures
