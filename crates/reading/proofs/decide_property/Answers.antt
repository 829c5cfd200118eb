-- `reading::decide_property` meets its contract. Assumes nothing.
use mathlib.Core.Path.{sym, ap, ◌∙◌}
use Rattle.reading.specs.Shown.{by_shape}
use Rattle.reading.specs.Cursor.{decided_of}
use mathlib.Core.Bool.{Bool}
use lib.ListN.{take}
use Rattle.terms.specs.declared.Mode.TheVariants.{Out}
use Rattle.terms.specs.Signs.{signs}
use Rattle.forms.specs.Answers.{property_in}
use Rattle.reading.specs.Reading.{decide_property}
use Rattle.reading.proofs.Decisions.{property_many, topic_decided, property_decided}
use Rattle.reading.proofs.decide_property.Goals as goal

pub returns-then-count-ge32 : goal.returns-then-count-ge32
returns-then-count-ge32 c =
    let a = c.args in
    property_many a.count (take a.n a.s.now) a.help c.if-count-ge32.true

pub returns-then-help : goal.returns-then-help
returns-then-help c =
    let i = c in
    let a = i.args in
    c.by_shape.ensures ∙ ap by_shape c.topic_of.ensures
    ∙ topic_decided a.count (take a.n a.s.now) i.if-count-ge32.false
    ∙ ap (λ (h : Bool). decided_of (decide_property h a.count (signs Out (take a.n a.s.now)))) (sym i.if-help.true)

pub returns : goal.returns
unfolding property_in
returns c =
    let i = c in
    let a = i.args in
    c.by_shape-2.ensures ∙ ap by_shape c.property_of.ensures
    ∙ property_decided a.count (take a.n a.s.now) i.if-count-ge32.false
    ∙ ap (λ (h : Bool). decided_of (decide_property h a.count (signs Out (take a.n a.s.now)))) (sym i.if-help.false)
