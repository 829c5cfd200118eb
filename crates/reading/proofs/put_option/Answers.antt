-- `reading::put_option` meets its contract. Assumes nothing.
use mathlib.Core.Path.{sym, ◌∙◌}
use Rattle.reading.specs.declared.Shown.TheVariants as shown
use Rattle.reading.proofs.Sizes.{record_sized}
use Rattle.reading.proofs.put_option.Goals as goal

pub returns : goal.returns
returns c =
    let a = c.args in (
      c.record_len.ensures ∙ sym (record_sized (shown.Argument a.number) a.argument.at a.argument.len),
      rw c.part_bytes.ensures at c.copy.ensures,
    )
