use Prim.Native.Nat.{ℕ}
use mathlib.Core.List.{List}
use mathlib.Core.Path.{sym, ap, ◌∙◌}
use lib.ListN.{length, replicate}
use Rattle.words.proofs.Pens.{as_text}
use Rattle.explaining.proofs.PutLaws.{byte_plain, byte_hex}
use Rattle.explaining.proofs.put_columns.Goals as goal

pub returns-then-is_printable : goal.returns-then-is_printable
returns-then-is_printable c = as_text (sym (ap (λ (t : List ℕ). replicate {A = ℕ} (length t) 32) (byte_plain c.args.b (sym c.is_printable.ensures ∙ c.if-is_printable.true)))) c.text.ensures

pub returns-else-is_printable : goal.returns-else-is_printable
returns-else-is_printable c = as_text (sym (ap (λ (t : List ℕ). replicate {A = ℕ} (length t) 32) (byte_hex c.args.b (sym c.is_printable.ensures ∙ c.if-is_printable.false)))) c.text-else-is_printable.ensures
