use Prim.Native.Nat.{◌+◌, ◌≤◌}
use lib.ListN.{length}
use native.Mathlib.Omega.{arith}
use Rattle.std.proofs.Common.{Some, ap, ◌∙◌}
use borrow.Author.Rules.{rules}
use Rattle.tree.proofs.FollowLaws.{here_within, above_within, child_within, tag_within, star_within, follow_past, follow_here, follow_root, follow_above, follow_none, follow_child, follow_star, follow_no}
use Rattle.tree.proofs.+follow.Goals as goal

pub returns-then-text-at : goal.returns-then-text-at
returns-then-text-at t c = (search (follow_past, rules), search rules)

pub overflow_add-at : goal.overflow_add-at
overflow_add-at t c =
    let e = c.in-Some-Here.is ∙ ap Some c.in-Some-Here.field-0-is in
    let w : c.args.at + c.in-Some-Here.len ≤ length c.args.text.now = search (here_within, rules) in
    omega arith

pub overflow_add-at-in-Some-Here : goal.overflow_add-at-in-Some-Here
overflow_add-at-in-Some-Here t c =
    let e = c.in-Some-Here.is ∙ ap Some c.in-Some-Here.field-0-is in
    let w : c.args.at + c.in-Some-Here.len ≤ length c.args.text.now = search (here_within, rules) in
    omega arith

pub returns-then-node-eq0 : goal.returns-then-node-eq0
returns-then-node-eq0 t c = let e = c.in-Some-Above.is ∙ ap Some c.in-Some-Above.field-0-is in (search (follow_root, rules), search rules)

pub overflow_add-at-in-Some-Above : goal.overflow_add-at-in-Some-Above
overflow_add-at-in-Some-Above t c =
    let e = c.in-Some-Above.is ∙ ap Some c.in-Some-Above.field-0-is in
    let w : c.args.at + c.in-Some-Above.len ≤ length c.args.text.now = search (above_within, rules) in
    omega arith

pub overflow_add-at-in-Some-Above-2 : goal.overflow_add-at-in-Some-Above-2
overflow_add-at-in-Some-Above-2 t c =
    let e = c.in-Some-Above.is ∙ ap Some c.in-Some-Above.field-0-is in
    let w : c.args.at + c.in-Some-Above.len ≤ length c.args.text.now = search (above_within, rules) in
    omega arith

pub overflow_add-at-in-Some-Child : goal.overflow_add-at-in-Some-Child
overflow_add-at-in-Some-Child t c =
    let e = c.in-Some-Child.is ∙ ap Some c.in-Some-Child.field-0-is in
    let w : c.args.at + c.in-Some-Child.tag ≤ length c.args.text.now = search (tag_within, rules) in
    omega arith

pub slice_bounds-child-end : goal.slice_bounds-child-end
slice_bounds-child-end t c =
    let e = c.in-Some-Child.is ∙ ap Some c.in-Some-Child.field-0-is in
    let w : c.args.at + c.in-Some-Child.tag ≤ length c.args.text.now = search (tag_within, rules) in
    omega arith

pub overflow_add-at-in-Some-Child-2 : goal.overflow_add-at-in-Some-Child-2
overflow_add-at-in-Some-Child-2 t c =
    let e = c.in-Some-Child.is ∙ ap Some c.in-Some-Child.field-0-is in
    let w : c.args.at + c.in-Some-Child.len ≤ length c.args.text.now = search (child_within, rules) in
    omega arith

pub overflow_add-at-in-Some-Child-3 : goal.overflow_add-at-in-Some-Child-3
overflow_add-at-in-Some-Child-3 t c =
    let e = c.in-Some-Child.is ∙ ap Some c.in-Some-Child.field-0-is in
    let w : c.args.at + c.in-Some-Child.len ≤ length c.args.text.now = search (child_within, rules) in
    omega arith

pub returns-in-Some-Here : goal.returns-in-Some-Here
returns-in-Some-Here t c = let e = c.in-Some-Here.is ∙ ap Some c.in-Some-Here.field-0-is in (search (follow_here, rules), search rules)

pub returns-else-node-eq0 : goal.returns-else-node-eq0
returns-else-node-eq0 t c = let e = c.in-Some-Above.is ∙ ap Some c.in-Some-Above.field-0-is in (search (follow_above, rules), search rules)

pub returns-in_default : goal.returns-in_default
returns-in_default t c = let e = c.in-Some-Child.is ∙ ap Some c.in-Some-Child.field-0-is in (search (follow_none, rules), search rules)

pub returns-in-Some : goal.returns-in-Some
returns-in-Some t c = let e = c.in-Some-Child.is ∙ ap Some c.in-Some-Child.field-0-is in (search (follow_child, rules), search rules)

pub returns-in-Some-Children : goal.returns-in-Some-Children
returns-in-Some-Children t c = let e = c.in-Some-Children.is ∙ ap Some c.in-Some-Children.field-0-is in (search (follow_star, rules), search (star_within, rules))

pub returns-in-None : goal.returns-in-None
returns-in-None t c = (search (follow_no, rules), search rules)
