use Rattle.words.proofs.Pens.{more, as_text}
use Rattle.explaining.proofs.put_reason.Goals as goal

pub returns : goal.returns
returns c = more c.put_refused_at.ensures (more (as_text c.words_of.ensures c.text.ensures) c.put_end.ensures)
