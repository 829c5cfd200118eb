-- `clpreply::print_reply` meets its contract: the records that reading gives stand in the room, and a refusal's place fits two bytes.
use Rattle.std.proofs.Common.{◌≤◌, length, sym, arith, length-take-le}
use Rattle.clpreply.proofs.ReplyLaws.{read_within, read_placed}
use Rattle.clpreply.proofs.print_reply.Goals as goal

pub slice_bounds-print_records-end : goal.slice_bounds-print_records-end
slice_bounds-print_records-end g c =
    omega (arith, read_within c.read.result (length c.args.records.now) c.args.reply.now c.read.ensures.0 c.in-Ok.n c.in-Ok.is, c.read.auto.out)

pub slice_bounds-print_records-end-in-Ok : goal.slice_bounds-print_records-end-in-Ok
slice_bounds-print_records-end-in-Ok g c =
    let h : c.in-Ok.n ≤ length c.read.new.out = omega (arith, read_within c.read.result (length c.args.records.now) c.args.reply.now c.read.ensures.0 c.in-Ok.n c.in-Ok.is, c.read.auto.out) in
    sym (length-take-le _ _ h)

pub record_of-requires : goal.record_of-requires
record_of-requires g c = read_placed c.read.result (length c.args.records.now) c.args.reply.now c.read.ensures.0 c.in-Err.refusal c.in-Err.is
