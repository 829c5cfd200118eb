use mathlib.Core.Path.{sym}
use Rattle.words.proofs.Pens.{more, as_text}
use Rattle.canonical.proofs.WriteLaws.{quotes_bytes}
use Rattle.canonical.proofs.put_quoted.Goals as goal

pub returns : goal.returns
returns c = as_text (sym (quotes_bytes c.args.s.now)) (more c.byte.ensures (more c.put_all_graved.ensures c.byte-2.ensures))
