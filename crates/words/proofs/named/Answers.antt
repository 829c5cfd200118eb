-- `words::named` meets its contract.
use Rattle.std.proofs.Common.{rules, tests, eqb, ◌∙◌, sym, length}
use borrow.Author.Tests.{ne_eqb}
use Rattle.std.proofs.lemmas.Iterator.{YieldsList-from_slice, YieldsList-from_zip}
use Rattle.std.proofs.lemmas.Iterator.Consumers.{YieldsList-at}
use Rattle.std.proofs.lemmas.Iterator.Search.{all_from_yields_List}
use Rattle.text.proofs.Scans.{same_length as lengths_differ}
use Rattle.words.specs.Words.{lower, lowered}
use Rattle.words.proofs.Folding.{lowered_length, pairs_lowered}
use Rattle.words.proofs.named.Goals as goal

pub returns-then-t-name : goal.returns-then-t-name
returns-then-t-name c =
    let t = c.args.t.now in
    let n = c.args.name.now in
    all_from_yields_List (λ p. eqb (lower p.0) p.1) c.all.new.self _ _ c.all.ensures.ran
    (YieldsList-from_zip (YieldsList-at c.zip.ensures.first (YieldsList-from_slice t cc)) (YieldsList-from_slice n cc)) (λ x b q k. search (rules, tests))
    ∙ pairs_lowered t n c.if-t-name.true

pub returns-else-t-name : goal.returns-else-t-name
returns-else-t-name c =
    let t = c.args.t.now in
    let n = c.args.name.now in
    ne_eqb (length t) (length n) c.if-t-name.false ∙ sym (lengths_differ (lowered t) n (λ e. c.if-t-name.false (sym (lowered_length t) ∙ e)))
