use Rattle.text.specs.Bytes.{bytes}
use Rattle.words.proofs.Pens.{more}
use Rattle.explaining.proofs.put_target.Goals as goal

pub returns : goal.returns
unfolding bytes
returns c = more c.text.ensures (more c.put_visible.ensures c.put_end.ensures)
