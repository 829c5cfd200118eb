use mathlib.Core.Path.{sym}
use Rattle.words.proofs.Pens.{more, nothing_put, still_within, as_text}
use Rattle.canonical.proofs.WriteLaws.{graved_on, graved_past}
use Rattle.canonical.proofs.put_all_graved.Goals as goal

pub loop-b-preserved : goal.loop-b-preserved
loop-b-preserved c = (λ end p. c.loop-b.invariant.0 end (as_text (sym (graved_on c.args.quoted c.args.s.now c.loop-b.b-index c.loop-b-test.true)) (more c.put_graved.ensures p)), still_within c.put_graved.ensures)

pub returns : goal.returns
returns c = c.loop-b.invariant.0 _ (as_text (sym (graved_past c.args.quoted c.args.s.now c.loop-b.b-index c.loop-b-test.false)) (nothing_put c.loop-b.invariant.1))
