use Rattle.text.specs.Bytes.{bytes}
use Rattle.words.proofs.Pens.{more}
use Rattle.explaining.proofs.put_verb.Goals as goal

pub returns : goal.returns
unfolding bytes
returns c = more c.text.ensures (more c.verb_name.ensures c.put_end.ensures)
