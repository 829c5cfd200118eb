-- `reading::decide_after` meets its contract. Assumes nothing.
use mathlib.Core.Path.{sym, ap, ◌∙◌}
use Rattle.reading.specs.Cursor.{decided_of}
use lib.ListN.{take}
use Rattle.reading.proofs.Decisions.{after_topic, after_property, after_target}
use Rattle.reading.proofs.decide_after.Goals as goal

pub returns-then-help : goal.returns-then-help
returns-then-help c =
    let a = c.args in
    c.decide_property.ensures ∙ ap decided_of (after_topic a.help a.count (take a.n a.s.now) c.if-help.true)

pub returns-then-has_bare : goal.returns-then-has_bare
returns-then-has_bare c =
    let b = c in
    let i = b in
    let a = i.args in
    c.decide_property-then-has_bare.ensures
    ∙ ap decided_of (after_property a.help a.count (take a.n a.s.now) i.if-help.false (sym b.has_bare.ensures ∙ c.if-has_bare.true))

pub returns : goal.returns
returns c =
    let b = c in
    let i = b in
    let a = i.args in
    c.decide_target.ensures
    ∙ ap decided_of (after_target a.help a.count (take a.n a.s.now) i.if-help.false (sym b.has_bare.ensures ∙ c.if-has_bare.false))
