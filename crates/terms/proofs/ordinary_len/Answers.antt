-- `terms::ordinary_len` meets its contract.
use Rattle.std.proofs.Common.{rules, tests, not, refl, ◌∙◌}
use Rattle.std.proofs.lemmas.Iterator.{YieldsList-from_slice}
use Rattle.std.proofs.lemmas.Iterator.Search.{position_from_yields_List}
use Rattle.text.proofs.Chains.{first_fails}
use Rattle.terms.specs.Scan.{ordinary}
use Rattle.terms.proofs.ordinary_len.Goals as goal

pub returns-clause-run : goal.returns-clause-run
returns-clause-run c =
    let s = c.args.s.now in
    let f = ordinary c.args.stop in
    let p = position_from_yields_List (λ b. not (f b)) _ _ _ c.position.ensures.ran (YieldsList-from_slice s cc) (λ x b q k. search (rules, tests)) in
    c.unwrap_or.ensures ∙ first_fails f c.position.result _ s refl p
