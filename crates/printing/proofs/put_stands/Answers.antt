-- `printing::put_stands` meets its contract.
use mathlib.Core.Path.{sym, ap, ◌∙◌}
use Rattle.std.proofs.Common.{Ok, None}
use lib.Seq.{length-take-le}
use Rattle.printing.proofs.PrintLaws.{nothing_stands, refused_stands, records_within, records_fit, records_stand}
use Rattle.printing.proofs.put_stands.Goals as goal

pub slice_bounds-put_text-end : goal.slice_bounds-put_text-end
slice_bounds-put_text-end c =
    let a = c.args in
    sym (length-take-le _ _ (records_within a.s a.room.now a.out.now c.in-Ok-Some.n (c.in-Ok-Some.is ∙ ap Ok (rw c.in-Ok-Some.is at c.in-Ok-Some.field-0-is)) c.requires.stood))

pub put_text-requires : goal.put_text-requires
put_text-requires c =
    let a = c.args in
    records_fit a.s a.room.now a.out.now c.in-Ok-Some.n (c.in-Ok-Some.is ∙ ap Ok (rw c.in-Ok-Some.is at c.in-Ok-Some.field-0-is)) c.requires.room_in_bounds

pub returns-in_default : goal.returns-in_default
returns-in_default c = let a = c.args in nothing_stands a.s a.room.now a.out.now (c.in_default.is ∙ ap Ok {y = None} cc)

pub returns : goal.returns
returns c =
    let a = c.args in let r = c.put_text in
    records_stand a.s a.room.now a.out.now c.in-Ok-Some.n (c.in-Ok-Some.is ∙ ap Ok (rw c.in-Ok-Some.is at c.in-Ok-Some.field-0-is)) r.result r.new.out r.ensures.0 r.ensures.1

pub returns-in_default-2 : goal.returns-in_default-2
returns-in_default-2 c =
    let a = c.args in
    refused_stands a.s a.room.now a.out.now _ _ c.in_default.is
