-- `reading::decide_verb` meets its contract. Assumes nothing.
use mathlib.Core.Path.{sym, ap, ◌∙◌}
use native.Mathlib.Omega.{arith}
use Rattle.std.proofs.Common.{◌≡◌, Some, None, Err}
use Rattle.reading.proofs.Decisions.{by_verb, verb_decided}
use Rattle.reading.proofs.decide_verb.Goals as goal

pub returns : goal.returns
returns c =
    let k : c.verb.result ≡ Some c.in_ok-n.n = grind arith in
    sym (ap by_verb k) ∙ ap by_verb c.verb.ensures ∙ verb_decided c.args.t.now

pub returns-in_err-n : goal.returns-in_err-n
returns-in_err-n c =
    let k : c.verb.result ≡ None = grind arith in
    let r : c.from_residual.result ≡ Err 6 = grind arith in
    r ∙ sym (ap by_verb k) ∙ ap by_verb c.verb.ensures ∙ verb_decided c.args.t.now
