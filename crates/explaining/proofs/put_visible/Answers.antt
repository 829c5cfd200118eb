use mathlib.Core.Path.{sym}
use Rattle.words.proofs.Pens.{more, nothing_put, still_within, as_text}
use Rattle.explaining.proofs.PutLaws.{visible_on, visible_past}
use Rattle.explaining.proofs.put_visible.Goals as goal

pub loop-b-preserved : goal.loop-b-preserved
loop-b-preserved c = (λ end p. c.loop-b.invariant.0 end (as_text (sym (visible_on c.args.s.now c.loop-b.b-index c.loop-b-test.true)) (more c.put_visible_byte.ensures p)), still_within c.put_visible_byte.ensures)

pub returns : goal.returns
returns c = c.loop-b.invariant.0 _ (as_text (sym (visible_past c.args.s.now c.loop-b.b-index c.loop-b-test.false)) (nothing_put c.loop-b.invariant.1))
