-- `words::verb_of_six` meets its contract.
use mathlib.Core.Path.{sym, ◌∙◌}
use Rattle.text.specs.Bytes.{bytes}
use Rattle.words.specs.Words.{verb_names, names}
use Rattle.words.specs.Rows.{find_of}
use Rattle.words.proofs.verb_of_six.Goals as goal

pub returns-then-named : goal.returns-then-named
unfolding find_of verb_names names bytes
returns-then-named c = simp (sym c.named.ensures ∙ c.if-named.true)

pub returns : goal.returns
unfolding find_of verb_names names bytes
returns c =
    let d1 = c in
    simp (sym d1.named.ensures ∙ d1.if-named.false) c.only.ensures
