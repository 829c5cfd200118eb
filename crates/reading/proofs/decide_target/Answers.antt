-- `reading::decide_target` meets its contract. Assumes nothing.
use mathlib.Core.Path.{sym, ap, ◌∙◌}
use native.Mathlib.Omega.{arith}
use Rattle.std.proofs.Common.{◌≡◌, Some, None, Err}
use Rattle.reading.proofs.Decisions.{by_where, target_decided}
use Rattle.reading.proofs.decide_target.Goals as goal

pub returns : goal.returns
returns c =
    let k : c.target_of.result ≡ Some c.in_ok-ok_or.field-0 = grind arith in
    sym (ap by_where k) ∙ ap by_where c.target_of.ensures ∙ target_decided c.args.t.now

pub returns-in_err-ok_or : goal.returns-in_err-ok_or
returns-in_err-ok_or c =
    let k : c.target_of.result ≡ None = grind arith in
    let r : c.from_residual.result ≡ Err 12 = grind arith in
    r ∙ sym (ap by_where k) ∙ ap by_where c.target_of.ensures ∙ target_decided c.args.t.now
