-- `reading::put_record` meets its contract. Assumes nothing.
use mathlib.Core.Path.{sym, ◌∙◌}
use Rattle.reading.specs.declared.Shown.TheVariants as shown
use Rattle.reading.proofs.Sizes.{record_sized}
use Rattle.reading.proofs.put_record.Goals as goal

pub returns-in-Verb : goal.returns-in-Verb
returns-in-Verb c =
    let a = c.args in
    rw c.in-Verb.is (c.record_len.ensures ∙ sym (record_sized (shown.Verb c.in-Verb.number) a.term.at a.term.len), c.copy.ensures)

pub returns-in-Target : goal.returns-in-Target
returns-in-Target c =
    let l = c in
    let a = l.args in
    rw l.in-Target.is (l.record_len-in-Target.ensures ∙ sym (record_sized shown.Target a.term.at a.term.len), rw l.part_bytes.ensures at l.copy-in-Target.ensures)
