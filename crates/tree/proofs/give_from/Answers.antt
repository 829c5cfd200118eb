-- `tree::give_from` meets its contract.
use borrow.Author.Rules.{rules}
use Rattle.std.proofs.Common.{◌≡◌, Err}
use Rattle.text.specs.Room.{refusal_at}
use Rattle.tree.proofs.GiveLaws.{fine_good, fine_node, flawed_given, flawed_put, fine_given, fine_put}
use Rattle.tree.proofs.give_from.Goals as goal

pub invariant_of-give : goal.invariant_of-give
invariant_of-give c = record { good = search (fine_good, rules) }

pub give-requires : goal.give-requires
give-requires c = search (fine_node, rules)

pub returns-in_err-verdict : goal.returns-in_err-verdict
returns-in_err-verdict c =
    let e = c.in_err-verdict.was in
    let r : c.from_residual.result ≡ Err (refusal_at c.in_err-verdict.field-0.0.number c.in_err-verdict.field-0.0.place) = search rules in
    rw r (search (flawed_given, rules), search (flawed_put, rules))

pub returns : goal.returns
returns c = (search (fine_given, rules), search (fine_put, rules))
