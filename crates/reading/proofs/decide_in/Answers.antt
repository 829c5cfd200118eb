-- `reading::decide_in` meets its contract. Assumes nothing.
use mathlib.Core.Path.{sym, ap, ◌∙◌}
use Rattle.reading.specs.Cursor.{decided_of}
use lib.ListN.{take}
use Rattle.reading.proofs.Decisions.{in_option, in_after, in_dash, in_property}
use Rattle.reading.proofs.decide_in.Goals as goal

pub returns-then-starts_bare : goal.returns-then-starts_bare
returns-then-starts_bare c =
    let s = c in
    let a = s.args in
    rw s.in-Options.is (c.decide_option.ensures ∙ ap decided_of (in_option a.state.verb a.state.seen a.state.count (take a.n a.s.now) (sym s.starts_bare.ensures ∙ c.if-starts_bare.true)))

pub returns-then-starts_bare-2 : goal.returns-then-starts_bare-2
returns-then-starts_bare-2 c =
    let s = c in
    let a = s.args in
    rw s.in-Rest.is (ap decided_of (in_dash a.state.verb a.state.seen a.state.count (take a.n a.s.now) (sym s.starts_bare-in-Rest.ensures ∙ c.if-starts_bare-2.true)))

pub returns-else-starts_bare : goal.returns-else-starts_bare
returns-else-starts_bare c =
    let s = c in
    let a = s.args in
    rw s.in-Options.is (c.decide_after.ensures ∙ ap decided_of (in_after a.state.verb a.state.seen a.state.count (take a.n a.s.now) (sym s.starts_bare.ensures ∙ c.if-starts_bare.false)))

pub returns-else-starts_bare-2 : goal.returns-else-starts_bare-2
returns-else-starts_bare-2 c =
    let s = c in
    let a = s.args in
    rw s.in-Rest.is (c.decide_property.ensures ∙ ap decided_of (in_property a.state.verb a.state.seen a.state.count (take a.n a.s.now) (sym s.starts_bare-in-Rest.ensures ∙ c.if-starts_bare-2.false)))
