use Rattle.text.specs.Bytes.{bytes}
use Rattle.words.proofs.Pens.{more}
use Rattle.explaining.proofs.put_option.Goals as goal

pub returns : goal.returns
unfolding bytes
returns c = more c.text.ensures c.option_name.ensures
