use mathlib.Core.Path.{sym, ◌∙◌}
use Rattle.words.proofs.Pens.{as_text}
use Rattle.canonical.proofs.WriteLaws.{text_plain, text_quoted}
use Rattle.canonical.proofs.put_value.Goals as goal

pub returns-then-is_plain : goal.returns-then-is_plain
returns-then-is_plain c = as_text (sym (text_plain c.args.s.now (sym c.is_plain.ensures ∙ c.if-is_plain.true))) c.text.ensures

pub returns-else-is_plain : goal.returns-else-is_plain
returns-else-is_plain c = as_text (sym (text_quoted c.args.s.now (sym c.is_plain.ensures ∙ c.if-is_plain.false))) c.put_quoted.ensures
