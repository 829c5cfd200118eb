-- `printing::put_text` meets its contract.
use mathlib.Core.Path.{◌∙◌}
use Rattle.printing.proofs.PrintLaws.{text_by}
use Rattle.printing.proofs.put_text.Goals as goal

pub returns : goal.returns
returns c =
    let a = c.args in
    let r = c.records_text in
    let all = text_by a.records.now a.out.now c.requires r.result r.new.out r.ensures.value r.ensures.out_after in
    (c.unwrap_or.ensures ∙ all.0, all.1)
