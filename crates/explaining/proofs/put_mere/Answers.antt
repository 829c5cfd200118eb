use Rattle.words.proofs.Pens.{more}
use Rattle.explaining.proofs.put_mere.Goals as goal

pub returns-in-Mere : goal.returns-in-Mere
returns-in-Mere c = rw (← c.kind_of.ensures, c.in-Mere.is) (more c.put_option.ensures c.put_end.ensures)
