-- `clp::clp_reply_value` meets its contract. Assumes nothing.
use mathlib.Core.Path.{ap, ◌∙◌}
use Rattle.clp.specs.Face.{answer_of}
use Rattle.clp.proofs.clp_reply_value.Goals as goal

pub returns : goal.returns
returns c =
    record { value = c.from.ensures ∙ ap answer_of c.value.ensures.0; room_after = c.value.ensures.1 }
