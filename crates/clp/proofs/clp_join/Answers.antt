use mathlib.Core.Path.{◌∙◌}
use Rattle.clp.proofs.FaceLaws.{none_join, none_buffer, join_low, join_told, buffer_told}
use Rattle.clp.proofs.clp_join.Goals as goal

pub returns-then-state-gt16383 : goal.returns-then-state-gt16383
returns-then-state-gt16383 c = let h = c.if-state-gt16383.true in record { value = c.no_call.ensures ∙ none_join _ h _ _; buffer_after = none_buffer _ h _ _ }

pub joined-requires : goal.joined-requires
joined-requires c = join_low _ c.state_of.result _ _ c.join-j.result c.state_of.ensures c.join-j.ensures.value

pub returns : goal.returns
returns c = let h = c.if-state-gt16383.false in record {
  value = join_told _ h c.state_of.result c.state_of.ensures _ _ c.join-j.result c.some_of.result _ c.join-j.ensures.value
      c.some_of.ensures c.joined.ensures;
  buffer_after = buffer_told _ h c.state_of.result c.state_of.ensures _ _ _ c.join-j.ensures.buffer_after;
}
