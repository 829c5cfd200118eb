-- `clp::clp_read_reply` meets its contract. Assumes nothing.
use mathlib.Core.Path.{ap, ◌∙◌}
use Rattle.clp.specs.Face.{answer_of}
use Rattle.clp.proofs.clp_read_reply.Goals as goal

pub returns : goal.returns
returns c =
    record { value = c.from.ensures ∙ ap answer_of c.read.ensures.0; room_after = c.read.ensures.1 }
