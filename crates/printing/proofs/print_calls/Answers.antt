use mathlib.Core.Path.{refl, sym, ◌∙◌}
use native.Mathlib.Omega.{arith}
use Rattle.printing.proofs.LoopLaws.{turn_start, turn_room, turn_counts, turn_on, turn_end}
use Rattle.printing.proofs.print_calls.Goals as goal

pub loop-buffer-init : goal.loop-buffer-init
loop-buffer-init c =
    let a = c.args in
    (turn_start a.state a.buffer.now a.part.now a.out.now c.requires.out_value, refl, refl)

pub overflow_sub-part : goal.overflow_sub-part
overflow_sub-part c = c.loop-buffer.invariant.0.within

pub overflow_sub-out : goal.overflow_sub-out
overflow_sub-out c = c.loop-buffer.invariant.0.room

pub slice_bounds-print_call-count : goal.slice_bounds-print_call-count
slice_bounds-print_call-count c = let h = c.loop-buffer.invariant.0.within in omega (arith, h)

pub slice_bounds-print_call-start : goal.slice_bounds-print_call-start
slice_bounds-print_call-start c = let h = c.loop-buffer.invariant.0.within in omega (arith, h)

pub slice_bounds-print_call-end : goal.slice_bounds-print_call-end
slice_bounds-print_call-end c = let h = c.loop-buffer.invariant.0.within in omega (arith, h)

pub slice_bounds-print_call-count-in-loop-buffer : goal.slice_bounds-print_call-count-in-loop-buffer
slice_bounds-print_call-count-in-loop-buffer c = let h = c.loop-buffer.invariant.0.room in omega (arith, h)

pub slice_bounds-print_call-start-in-loop-buffer : goal.slice_bounds-print_call-start-in-loop-buffer
slice_bounds-print_call-start-in-loop-buffer c = let h = c.loop-buffer.invariant.0.room in omega (arith, h)

pub slice_bounds-print_call-end-in-loop-buffer : goal.slice_bounds-print_call-end-in-loop-buffer
slice_bounds-print_call-end-in-loop-buffer c = let h = c.loop-buffer.invariant.0.room in omega (arith, h)

pub print_call-r-requires : goal.print_call-r-requires
print_call-r-requires c =
    let l = c.loop-buffer in
    record { buffer_value = l.invariant.0.fits; room_len = l.invariant.1 ∙ c.requires.room_len; longest_in_bounds = omega (arith, turn_room l.invariant.0 (sym c.may_call.ensures ∙ c.loop-buffer-test.true)) }

pub overflow_add-at : goal.overflow_add-at
overflow_add-at c =
    let t = turn_counts c.loop-buffer.invariant.0 (sym c.may_call.ensures ∙ c.loop-buffer-test.true) c.print_call-r.result c.print_call-r.ensures.value in
    omega (arith, t.within, c.well_formed)

pub overflow_add-lines : goal.overflow_add-lines
overflow_add-lines c =
    let t = turn_counts c.loop-buffer.invariant.0 (sym c.may_call.ensures ∙ c.loop-buffer-test.true) c.print_call-r.result c.print_call-r.ensures.value in
    omega (arith, t.within, t.few, c.well_formed)

pub overflow_add-n : goal.overflow_add-n
overflow_add-n c =
    let t = turn_counts c.loop-buffer.invariant.0 (sym c.may_call.ensures ∙ c.loop-buffer-test.true) c.print_call-r.result c.print_call-r.ensures.value in
    omega (arith, t.fits, c.loop-buffer.invariant.0.same, c.well_formed)

pub loop-buffer-smaller : goal.loop-buffer-smaller
loop-buffer-smaller c =
    let t = turn_counts c.loop-buffer.invariant.0 (sym c.may_call.ensures ∙ c.loop-buffer-test.true) c.print_call-r.result c.print_call-r.ensures.value in
    omega (arith, t.some, t.within)

pub loop-buffer-preserved : goal.loop-buffer-preserved
loop-buffer-preserved c =
    let l = c.loop-buffer in let q = c.print_call-r in
    (turn_on l.invariant.0 (sym c.may_call.ensures ∙ c.loop-buffer-test.true) q.result q.ensures.value q.new.buffer q.new.out q.ensures.buffer_after q.ensures.out_after, q.auto.room ∙ l.invariant.1, q.auto.buffer ∙ l.invariant.2)

pub returns : goal.returns
returns c = let all = turn_end c.loop-buffer.invariant.0 (sym c.may_call.ensures ∙ c.loop-buffer-test.false) c.requires.out_value in record { value = all.0; buffer_after = all.1.0; out_after = all.1.1 }
