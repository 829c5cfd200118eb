-- `reading::decide_argument` meets its contract. Assumes nothing.
use mathlib.Core.Path.{sym, ap, ◌∙◌}
use mathlib.Core.Bool.{Bool}
use lib.ListN.{take}
use Rattle.forms.specs.Answers.{are_entries_in}
use Rattle.reading.specs.Shown.{argument_if}
use Rattle.reading.proofs.Decisions.{argument_dash, argument_decided}
use Rattle.reading.proofs.decide_argument.Goals as goal

pub returns-then-starts_bare : goal.returns-then-starts_bare
returns-then-starts_bare c =
    let a = c.args in
    argument_dash a.option (take a.n a.s.now) (sym c.starts_bare.ensures ∙ c.if-starts_bare.true)

pub returns-in-Mere : goal.returns-in-Mere
returns-in-Mere c =
    let k = c in
    let s = k in
    let a = s.args in
    let d = sym k.kind_of.ensures ∙ c.in-Mere.is in
    rw d at (argument_decided a.option (take a.n a.s.now) (sym s.starts_bare.ensures ∙ k.if-starts_bare.false))

pub returns-in-Keep : goal.returns-in-Keep
returns-in-Keep c =
    let k = c in
    let s = k in
    let a = s.args in
    let d = sym k.kind_of.ensures ∙ c.in-Keep.is in
    c.argument_if.ensures ∙ ap (λ (x : Bool). argument_if x a.option) c.is_keep.ensures
    ∙ (rw d at (argument_decided a.option (take a.n a.s.now) (sym s.starts_bare.ensures ∙ k.if-starts_bare.false)))

pub returns-in-Level : goal.returns-in-Level
returns-in-Level c =
    let k = c in
    let s = k in
    let a = s.args in
    let d = sym k.kind_of.ensures ∙ c.in-Level.is in
    c.argument_if-in-Level.ensures ∙ ap (λ (x : Bool). argument_if x a.option) c.is_level.ensures
    ∙ (rw d at (argument_decided a.option (take a.n a.s.now) (sym s.starts_bare.ensures ∙ k.if-starts_bare.false)))

pub returns-in-Place : goal.returns-in-Place
returns-in-Place c =
    let k = c in
    let s = k in
    let a = s.args in
    let d = sym k.kind_of.ensures ∙ c.in-Place.is in
    c.argument_if-in-Place.ensures ∙ ap (λ (x : Bool). argument_if x a.option) c.is_place.ensures
    ∙ (rw d at (argument_decided a.option (take a.n a.s.now) (sym s.starts_bare.ensures ∙ k.if-starts_bare.false)))

pub returns-in-Entries : goal.returns-in-Entries
unfolding are_entries_in
returns-in-Entries c =
    let k = c in
    let s = k in
    let a = s.args in
    let d = sym k.kind_of.ensures ∙ c.in-Entries.is in
    c.argument_if-in-Entries.ensures ∙ ap (λ (x : Bool). argument_if x a.option) c.are_entries.ensures
    ∙ (rw d at (argument_decided a.option (take a.n a.s.now) (sym s.starts_bare.ensures ∙ k.if-starts_bare.false)))
