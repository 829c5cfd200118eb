-- `lister::next_answer` meets its contract.
use mathlib.Core.Path.{sym, ap}
use native.Mathlib.Omega.{arith}
use Rattle.joiner.specs.declared.Joined.{Joined}
use Rattle.joiner.specs.Join.{join_of}
use Rattle.lister.specs.Lister.{Call}
use Rattle.lister.proofs.ListLaws.{list_none, list_is, join_sane, listed_is}
use Rattle.lister.proofs.next_answer.Goals as goal

pub returns-then-room-lt399 : goal.returns-then-room-lt399
returns-then-room-lt399 c =
    let a = c.args in let e = sym (list_none a.state a.buffer.now a.part.now a.room.now c.if-room-lt399.true) in
    record { value = ap (λ (t : Call). t.answer) e; buffer_after = ap (λ (t : Call). t.buffer) e; room_after = ap (λ (t : Call). t.room) e }

pub put_outcome-requires : goal.put_outcome-requires
put_outcome-requires c =
    let a = c.args in let j = c.join-j in
    (omega arith, join_sane a.state a.buffer.now a.part.now j.new.buffer j.result.outcome (ap (λ (r : Joined). r.outcome) j.ensures.value) j.auto.buffer)

pub returns : goal.returns
returns c =
    let a = c.args in let j = c.join-j in let p = c.put_outcome in let all = listed_is (join_of a.state a.buffer.now a.part.now) a.room.now j.result j.new.buffer p.new.room p.result _ (list_is a.state a.buffer.now a.part.now a.room.now (omega arith)) j.ensures.value j.ensures.buffer_after p.ensures.0 p.ensures.1 in record { value = all.0; buffer_after = all.1.0; room_after = all.1.1 }
