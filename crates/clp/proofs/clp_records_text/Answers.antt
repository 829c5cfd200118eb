use mathlib.Core.Path.{ap, ◌∙◌}
use Rattle.clp.specs.Face.{answer_of}
use Rattle.clp.proofs.clp_records_text.Goals as goal

pub returns : goal.returns
returns c = record { value = c.from.ensures ∙ ap answer_of c.records_text.ensures.value; room_after = c.records_text.ensures.out_after }
