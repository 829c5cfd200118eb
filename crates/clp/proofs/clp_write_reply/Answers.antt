-- `clp::clp_write_reply` meets its contract. Assumes nothing.
use mathlib.Core.Path.{ap, ◌∙◌}
use Rattle.clp.specs.Face.{answer_of}
use Rattle.clp.proofs.clp_write_reply.Goals as goal

pub returns : goal.returns
returns c =
    record { value = c.from.ensures ∙ ap answer_of c.write.ensures.0; room_after = c.write.ensures.1 }
