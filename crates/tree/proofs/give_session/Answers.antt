-- `tree::give_session` meets its contract.
use borrow.Author.Rules.{rules}
use Rattle.std.proofs.Common.{◌≡◌, Err}
use Rattle.text.specs.Room.{refusal_at}
use Rattle.tree.proofs.GiveLaws.{flawed_given, session_given}
use Rattle.tree.proofs.give_session.Goals as goal

pub returns-in_err-verdict : goal.returns-in_err-verdict
returns-in_err-verdict c =
    let e = c.in_err-verdict.was in
    let r : c.from_residual.result ≡ Err (refusal_at c.in_err-verdict.field-0.0.number c.in_err-verdict.field-0.0.place) = search rules in
    rw r (search (flawed_given, rules))

pub returns : goal.returns
returns c = search (session_given, rules)
