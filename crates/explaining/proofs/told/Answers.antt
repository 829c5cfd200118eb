use Rattle.explaining.proofs.PutLaws.{none_answer, fits_answer}
use Rattle.explaining.proofs.told.Goals as goal

pub returns-then-out-n : goal.returns-then-out-n
returns-then-out-n g c = none_answer c.args.out.now g.t (c.requires.1.1 _ _ _ c.put-n.ensures) c.if-out-n.true

pub returns : goal.returns
returns g c = fits_answer c.args.out.now g.t (c.requires.1.1 _ _ _ c.put-n.ensures) c.if-out-n.false (c.requires.1.1 _ _ _ c.put.ensures)
