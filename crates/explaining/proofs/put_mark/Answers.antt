use mathlib.Core.Path.{sym}
use Rattle.words.proofs.Pens.{more, nothing_put, still_within, as_text}
use Rattle.explaining.proofs.PutLaws.{columns_on, columns_past}
use Rattle.explaining.proofs.put_mark.Goals as goal

pub loop-b-preserved : goal.loop-b-preserved
loop-b-preserved c = (λ end p. c.loop-b.invariant.0 end (as_text (sym (columns_on c.args.before.now c.loop-b.b-index c.loop-b-test.true)) (more c.put_columns.ensures p)), still_within c.put_columns.ensures)

pub returns : goal.returns
returns c = more (c.loop-b.invariant.0 _ (as_text (sym (columns_past c.args.before.now c.loop-b.b-index c.loop-b-test.false)) (nothing_put c.loop-b.invariant.1))) c.text.ensures
