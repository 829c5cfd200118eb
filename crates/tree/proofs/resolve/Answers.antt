-- `tree::resolve` meets its contract.
use borrow.Author.Rules.{rules}
use Rattle.std.proofs.Common.{Some, ap, ◌∙◌}
use Rattle.tree.proofs.GiveLaws.{empty_answer, empty_list, no_answer, no_list, session_answer, session_list, root_answer, root_list, under_answer, under_list, beside_answer, beside_list}
use Rattle.tree.proofs.resolve.Goals as goal

pub returns-then-text-eq0 : goal.returns-then-text-eq0
returns-then-text-eq0 c = (search (empty_answer, rules), search (empty_list, rules))

pub returns-then-segments-eq0 : goal.returns-then-segments-eq0
returns-then-segments-eq0 c = let e = c.in-Some-Path.is ∙ ap Some c.in-Some-Path.field-0-is in (search (root_answer, rules), search (root_list, rules))

pub returns-then-rooted : goal.returns-then-rooted
returns-then-rooted c = let e = c.in-Some-Path.is ∙ ap Some c.in-Some-Path.field-0-is in (search (under_answer, rules), search (under_list, rules))

pub returns-in-None : goal.returns-in-None
returns-in-None c = (search (no_answer, rules), search (no_list, rules))

pub returns-in-Some-Session : goal.returns-in-Some-Session
returns-in-Some-Session c = let e = c.in-Some-Session.is ∙ ap Some c.in-Some-Session.field-0-is in (search (session_answer, rules), search (session_list, rules))

pub returns-else-rooted : goal.returns-else-rooted
returns-else-rooted c = let e = c.in-Some-Path.is ∙ ap Some c.in-Some-Path.field-0-is in (search (beside_answer, rules), search (beside_list, rules))
