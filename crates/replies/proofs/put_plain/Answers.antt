-- `replies::put_plain` meets its contract. Assumes nothing.
use mathlib.Core.Path.{sym, ◌∙◌}
use lib.ListN.{length}
use Rattle.text.proofs.Writes.{fitted_none, fitted_room, filled_none, filled_sets}
use Rattle.replies.proofs.put_plain.Goals as goal

pub returns-then-out-s : goal.returns-then-out-s
returns-then-out-s c = (sym (fitted_none (length c.args.out.now) c.args.s.now c.if-out-s.true), sym (filled_none c.args.out.now c.args.s.now c.if-out-s.true))

pub returns : goal.returns
returns c = (sym (fitted_room (length c.args.out.now) c.args.s.now c.if-out-s.false), c.copy.ensures ∙ filled_sets c.args.out.now c.args.s.now c.if-out-s.false)
