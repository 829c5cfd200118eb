use mathlib.Core.Path.{sym, ◌∙◌}
use Rattle.words.proofs.Pens.{as_text}
use Rattle.explaining.proofs.PutLaws.{byte_plain, byte_hex}
use Rattle.explaining.proofs.put_visible_byte.Goals as goal

pub returns-then-is_printable : goal.returns-then-is_printable
returns-then-is_printable c = as_text (sym (byte_plain c.args.b (sym c.is_printable.ensures ∙ c.if-is_printable.true))) c.text.ensures

pub returns-else-is_printable : goal.returns-else-is_printable
returns-else-is_printable c = as_text (sym (byte_hex c.args.b (sym c.is_printable.ensures ∙ c.if-is_printable.false))) (rw (← c.hex_digit.ensures, ← c.hex_digit-else-is_printable.ensures) c.text-else-is_printable.ensures)
