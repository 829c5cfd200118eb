use mathlib.Core.Path.{sym, ◌∙◌}
use Rattle.words.proofs.Pens.{more, as_text}
use Rattle.canonical.proofs.WriteLaws.{graved_two, graved_one}
use Rattle.canonical.proofs.put_graved.Goals.{then-is_graved, else-is_graved}
use Rattle.canonical.proofs.put_graved.Goals as goal

pub returns : goal.returns
returns c =
    let a = c.args in
    elim c.if-is_graved.branch [
      | then-is_graved w ↦ as_text (sym (graved_two a.quoted a.b (sym c.is_graved.ensures ∙ w.if-is_graved.true))) (more w.byte.ensures (rw w.pen-is at c.byte-2.ensures))
      | else-is_graved w ↦ as_text (sym (graved_one a.quoted a.b (sym c.is_graved.ensures ∙ w.if-is_graved.false))) (rw w.pen-is at c.byte-2.ensures)
    ]
