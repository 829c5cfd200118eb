-- `replying::has_end` meets its contract.
use Rattle.std.proofs.Common.{ℕ, Bool, ◌||◌, ◌∙◌, false, rules, tests}
use Rattle.std.proofs.lemmas.Iterator.{YieldsList-from_slice}
use Rattle.std.proofs.lemmas.Iterator.Consumers.{fold_from_yields_List}
use Rattle.replies.specs.Lines.{is_end}
use Rattle.replying.proofs.Chains.{any_folded}
use Rattle.replying.proofs.has_end.Goals as goal

pub returns : goal.returns
returns c =
    let xs = c.args.v.now in
    fold_from_yields_List _ (λ (a : Bool) (b : ℕ). a || is_end b) false _ c.fold.ensures.ran (YieldsList-from_slice xs cc) (λ a x b q k. search (rules, tests)) ∙ any_folded is_end false xs
