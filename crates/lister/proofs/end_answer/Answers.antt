-- `lister::end_answer` meets its contract.
use mathlib.Core.Path.{sym, ap, ◌∙◌}
use Rattle.std.proofs.Common.{Ok, rules}
use Rattle.lister.specs.Listing.{stands_of}
use Rattle.lister.proofs.ListLaws.{end_nothing, end_cut}
use Rattle.lister.proofs.end_answer.Goals as goal

pub returns-in-Nothing : goal.returns-in-Nothing
returns-in-Nothing c =
    let a = c.args in
    let all = end_nothing a.state a.room.now c.end.result c.end.ensures (c.in_ok-end.was ∙ ap Ok c.in-Nothing.is) in
    record { value = all.0; room_after = all.1 }

pub returns-in_ok-put_cut-in-Cut : goal.returns-in_ok-put_cut-in-Cut
returns-in_ok-put_cut-in-Cut c =
    let a = c.args in
    let p = c.put_cut in
    let all = end_cut a.state a.room.now c.end.result c.end.ensures p.result _ p.new.out (c.in_ok-end.was ∙ ap Ok c.in-Cut.is) p.ensures.0 (sym (ap stands_of c.in_ok-put_cut-in-Cut.was)) p.ensures.1 in
    record { value = all.0; room_after = all.1 }

pub returns-in_err-put_cut-in-Cut : goal.returns-in_err-put_cut-in-Cut
returns-in_err-put_cut-in-Cut c =
    let a = c.args in
    let p = c.put_cut in
    let all = end_cut a.state a.room.now c.end.result c.end.ensures p.result _ p.new.out (c.in_ok-end.was ∙ ap Ok c.in-Cut.is) p.ensures.0 (sym (ap stands_of c.in_err-put_cut-in-Cut.was)) p.ensures.1 in
    record { value = search rules ∙ all.0; room_after = all.1 }
