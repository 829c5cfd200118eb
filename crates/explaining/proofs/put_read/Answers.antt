use mathlib.Core.Path.{sym, ap, ◌∙◌}
use Rattle.text.specs.Bytes.{bytes}
use Rattle.reading.specs.Shown.{verdict_in}
use Rattle.reading.proofs.Folds.{fine_left, fine_lexical}
use Rattle.explaining.specs.Explained.{blank_text}
use Rattle.words.proofs.Pens.{more, as_text}
use Rattle.explaining.proofs.LineLaws.{blank_whole, parts_whole}
use Rattle.explaining.proofs.put_read.Goals as goal

pub put_parts-requires : goal.put_parts-requires
put_parts-requires c = ap verdict_in (sym (fine_left c.args.line.now (fine_lexical c.args.line.now c.requires))) ∙ c.requires

pub returns-then-is_blank : goal.returns-then-is_blank
unfolding blank_text bytes
returns-then-is_blank c = as_text (sym (blank_whole c.args.line.now c.requires (sym c.is_blank.ensures ∙ c.if-is_blank.true))) c.text.ensures

pub returns-else-is_blank : goal.returns-else-is_blank
returns-else-is_blank c = as_text (sym (parts_whole c.args.line.now c.requires (sym c.is_blank.ensures ∙ c.if-is_blank.false))) (more c.put_visible.ensures (more c.put_end.ensures c.put_parts.ensures))
