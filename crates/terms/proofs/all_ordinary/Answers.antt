-- `terms::all_ordinary` meets its contract.
use Rattle.std.proofs.Common.{rules, tests, true, ◌&&◌, ◌∙◌}
use Rattle.std.proofs.lemmas.Iterator.{YieldsList-from_slice}
use Rattle.std.proofs.lemmas.Iterator.Consumers.{fold_from_yields_List}
use Rattle.terms.specs.Scan.{ordinary}
use Rattle.terms.proofs.Chains.{all_folded}
use Rattle.terms.proofs.all_ordinary.Goals as goal

pub returns : goal.returns
returns c =
    let s = c.args.s.now in
    fold_from_yields_List _ (λ t b. t && ordinary 34 b) true _ c.fold.ensures.ran (YieldsList-from_slice s cc) (λ t x b q k. search (rules, tests)) ∙ all_folded (ordinary 34) true s
