-- `reading::put_property` meets its contract. Assumes nothing.
use mathlib.Core.Path.{◌∙◌}
use Rattle.words.proofs.RowLaws.{lengths}
use Rattle.reading.proofs.put_property.Goals as goal

pub returns : goal.returns
returns c =
    let l = c in (
      c.record_len.ensures ∙ lengths.3,
      rw (l.part_bytes-2.ensures, l.part_bytes.ensures, l.value_span-value.ensures, l.saturating_sub.ensures) at c.copy.ensures,
    )
