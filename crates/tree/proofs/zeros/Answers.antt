-- `tree::zeros` meets its contract.
use mathlib.Core.Path.{◌∙◌}
use Rattle.std.proofs.Common.{rules, tests}
use Rattle.std.proofs.lemmas.Iterator.{YieldsList-from_slice}
use Rattle.std.proofs.lemmas.Iterator.Search.{all_from_yields_List}
use Rattle.text.proofs.Chains.{all_listed}
use Rattle.tree.specs.Tree.{is_zero}
use Rattle.tree.proofs.zeros.Goals as goal

pub returns : goal.returns
returns c =
    let xs = c.args.s.now in
    all_from_yields_List is_zero _ _ _ c.all.ensures.ran (YieldsList-from_slice xs cc) (λ x b q k. search (rules, tests)) ∙ all_listed is_zero xs
