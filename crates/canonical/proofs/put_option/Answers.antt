use Rattle.words.proofs.Pens.{more}
use Rattle.canonical.proofs.put_option.Goals as goal

pub returns : goal.returns
returns c = more c.byte.ensures c.option_name.ensures
