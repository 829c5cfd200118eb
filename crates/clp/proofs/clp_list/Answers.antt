use mathlib.Core.Path.{◌∙◌}
use Rattle.clp.proofs.FaceLaws.{none_list, none_list_buffer, none_list_room, list_low, list_told, list_buffer_told, list_room_told}
use Rattle.clp.proofs.clp_list.Goals as goal

pub returns-then-state-gt16383 : goal.returns-then-state-gt16383
returns-then-state-gt16383 c = let h = c.if-state-gt16383.true in
    record { value = c.no_call.ensures ∙ none_list _ h _ _ _; buffer_after = none_list_buffer _ h _ _ _; room_after = none_list_room _ h _ _ _ }

pub joined-requires : goal.joined-requires
joined-requires c = list_low _ c.state_of.result _ _ _ c.next_answer-l.result c.state_of.ensures c.next_answer-l.ensures.value

pub returns : goal.returns
returns c = let h = c.if-state-gt16383.false in
    let w = c.some_of in record {
      value = list_told _ h c.state_of.result c.state_of.ensures _ _ _ c.next_answer-l.result w.result _ c.next_answer-l.ensures.value w.ensures
          c.joined.ensures;
      buffer_after = list_buffer_told _ h c.state_of.result c.state_of.ensures _ _ _ _ c.next_answer-l.ensures.buffer_after;
      room_after = list_room_told _ h c.state_of.result c.state_of.ensures _ _ _ _ c.next_answer-l.ensures.room_after;
    }
