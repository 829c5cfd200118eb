-- `tree::give` meets its contract.
use borrow.Author.Rules.{rules}
use native.Mathlib.Omega.{arith}
use Rattle.tree.proofs.GiveLaws.{node_few, tag_inside, node_given, node_put, tagged_given, tagged_put, lost_given, lost_put}
use Prim.Native.Nat.{◌+◌, ◌≤◌}
use lib.ListN.{length}
use Rattle.std.proofs.Common.{◌≡◌, Ok, Err, ap, ◌∙◌}
use Rattle.text.specs.Room.{refusal_at}
use Rattle.tree.proofs.give.Goals as goal

pub give_one-requires : goal.give_one-requires
give_one-requires c = let e = c.in_ok-n.was ∙ ap Ok c.in-Node.is in search (node_few, rules)

pub overflow_add-p : goal.overflow_add-p
overflow_add-p c = let e = c.in_ok-n.was ∙ ap Ok c.in-Tagged.is in let a = c.args in let w : c.in-Tagged.p + c.in-Tagged.tag ≤ length a.text.now = search (tag_inside, rules) in omega arith

pub slice_bounds-give_tagged-end : goal.slice_bounds-give_tagged-end
slice_bounds-give_tagged-end c = let e = c.in_ok-n.was ∙ ap Ok c.in-Tagged.is in let a = c.args in let w : c.in-Tagged.p + c.in-Tagged.tag ≤ length a.text.now = search (tag_inside, rules) in omega arith

pub returns-in-Node : goal.returns-in-Node
returns-in-Node c = let e = c.in_ok-n.was ∙ ap Ok c.in-Node.is in (search (node_given, rules), search (node_put, rules))

pub returns-in-Tagged : goal.returns-in-Tagged
returns-in-Tagged c = let e = c.in_ok-n.was ∙ ap Ok c.in-Tagged.is in (search (tagged_given, rules), search (tagged_put, rules))

pub returns-in_err-n : goal.returns-in_err-n
returns-in_err-n c =
    let a = c.args in
    let f = c.follow in
    let e = c.in_err-n.was in
    let r : c.from_residual.result ≡ Err (refusal_at c.in_err-n.field-0.0.number c.in_err-n.field-0.0.place) = search rules in
    rw r (search (lost_given, rules), search (lost_put, rules))
