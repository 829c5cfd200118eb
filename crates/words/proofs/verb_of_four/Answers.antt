-- `words::verb_of_four` meets its contract.
use mathlib.Core.Path.{sym, ◌∙◌}
use Rattle.text.specs.Bytes.{bytes}
use Rattle.words.specs.Words.{verb_names, names}
use Rattle.words.specs.Rows.{find_of}
use Rattle.words.proofs.verb_of_four.Goals as goal

pub returns-then-named : goal.returns-then-named
unfolding find_of verb_names names bytes
returns-then-named c = simp (sym c.named.ensures ∙ c.if-named.true)

pub returns-then-named-2 : goal.returns-then-named-2
unfolding find_of verb_names names bytes
returns-then-named-2 c =
    let d1 = c in
    simp (
      sym d1.named.ensures ∙ d1.if-named.false,
      sym c.named-2.ensures ∙ c.if-named-2.true,
    )

pub returns-then-named-3 : goal.returns-then-named-3
unfolding find_of verb_names names bytes
returns-then-named-3 c =
    let d2 = c in
    let d1 = d2 in
    simp (
      sym d1.named.ensures ∙ d1.if-named.false,
      sym d2.named-2.ensures ∙ d2.if-named-2.false,
      sym c.named-3.ensures ∙ c.if-named-3.true,
    )

pub returns-then-named-4 : goal.returns-then-named-4
unfolding find_of verb_names names bytes
returns-then-named-4 c =
    let d3 = c in
    let d2 = d3 in
    let d1 = d2 in
    simp (
      sym d1.named.ensures ∙ d1.if-named.false,
      sym d2.named-2.ensures ∙ d2.if-named-2.false,
      sym d3.named-3.ensures ∙ d3.if-named-3.false,
      sym c.named-4.ensures ∙ c.if-named-4.true,
    )

pub returns-then-named-5 : goal.returns-then-named-5
unfolding find_of verb_names names bytes
returns-then-named-5 c =
    let d4 = c in
    let d3 = d4 in
    let d2 = d3 in
    let d1 = d2 in
    simp (
      sym d1.named.ensures ∙ d1.if-named.false,
      sym d2.named-2.ensures ∙ d2.if-named-2.false,
      sym d3.named-3.ensures ∙ d3.if-named-3.false,
      sym d4.named-4.ensures ∙ d4.if-named-4.false,
      sym c.named-5.ensures ∙ c.if-named-5.true,
    )

pub returns : goal.returns
unfolding find_of verb_names names bytes
returns c =
    let d5 = c in
    let d4 = d5 in
    let d3 = d4 in
    let d2 = d3 in
    let d1 = d2 in
    simp (
      sym d1.named.ensures ∙ d1.if-named.false,
      sym d2.named-2.ensures ∙ d2.if-named-2.false,
      sym d3.named-3.ensures ∙ d3.if-named-3.false,
      sym d4.named-4.ensures ∙ d4.if-named-4.false,
      sym d5.named-5.ensures ∙ d5.if-named-5.false,
    ) c.only.ensures
