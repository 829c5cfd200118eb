-- `printing::print_call` meets its contract.
use Rattle.printing.proofs.PrintLaws.{call_within, call_fits, call_done}
use Rattle.printing.proofs.print_call.Goals as goal

pub put_stands-requires : goal.put_stands-requires
put_stands-requires c =
    let a = c.args in let q = c.requires in let r = c.next_answer-r in
    record { stood = call_within a.state a.buffer.now a.part.now a.room.now q.buffer_value q.room_len r.result r.new.room r.ensures.value r.ensures.room_after; room_in_bounds = call_fits a.state a.buffer.now a.part.now a.room.now q.buffer_value q.room_len r.result r.new.room r.ensures.value r.ensures.room_after a.out.now q.longest_in_bounds }

pub returns : goal.returns
returns c =
    let a = c.args in let q = c.requires in let r = c.next_answer-r in let p = c.put_stands in let l = c.lines_in in let all = call_done a.state a.buffer.now a.part.now a.room.now q.buffer_value q.room_len r.result r.new.room r.ensures.value r.ensures.room_after r.new.buffer a.out.now p.new.out p.result l.result r.ensures.buffer_after p.ensures.0 p.ensures.1 l.ensures in record { value = all.0; buffer_after = all.1.0; out_after = all.1.1 }
