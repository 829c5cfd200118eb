use Rattle.text.specs.Bytes.{bytes}
use Rattle.words.proofs.Pens.{more}
use Rattle.explaining.proofs.put_refused_at.Goals as goal

pub returns : goal.returns
unfolding bytes
returns c = more c.text.ensures (more c.put_number.ensures (more c.text-2.ensures (more c.put_number-2.ensures c.text-3.ensures)))
