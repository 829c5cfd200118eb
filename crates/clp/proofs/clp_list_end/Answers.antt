use mathlib.Core.Path.{◌∙◌}
use Rattle.clp.proofs.FaceLaws.{none_list_end, none_end_room, list_end_told, end_room_told}
use Rattle.clp.proofs.clp_list_end.Goals as goal

pub returns-then-state-gt16383 : goal.returns-then-state-gt16383
returns-then-state-gt16383 c = let h = c.if-state-gt16383.true in
    record { value = c.no_answer.ensures ∙ none_list_end _ h _; room_after = none_end_room _ h _ }

pub returns : goal.returns
returns c = let h = c.if-state-gt16383.false in record { value = list_end_told _ h c.state_of.result c.state_of.ensures _ c.end_answer.result _ c.end_answer.ensures.value c.some_of.ensures; room_after = end_room_told _ h c.state_of.result c.state_of.ensures _ _ c.end_answer.ensures.room_after }
