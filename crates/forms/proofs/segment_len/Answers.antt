-- `forms::segment_len` meets its contract. Assumes nothing.
use Rattle.std.proofs.Common.{rules, tests, refl, ap, length, take, drop, ◌-◌, ◌∙◌}
use Rattle.std.proofs.lemmas.Iterator.{YieldsList-from_slice}
use Rattle.std.proofs.lemmas.Iterator.Search.{position_from_yields_List}
use Rattle.text.specs.Lists.{up_to}
use Rattle.text.proofs.Chains.{first_passes}
use Rattle.text.proofs.Slices.{part_from}
use Rattle.forms.specs.Answers.{segment_text}
use Rattle.forms.specs.Targets.{is_separator}
use Rattle.forms.proofs.segment_len.Goals as goal

pub returns : goal.returns
unfolding segment_text
returns c =
    let t = c.args.t.now in
    let a = c.args.at in
    let xs = take (length t - a) (drop a t) in
    let p = position_from_yields_List is_separator _ _ _ c.position.ensures.ran (YieldsList-from_slice xs cc) (λ x b q k. search (rules, tests)) in
    c.unwrap_or.ensures ∙ first_passes is_separator c.position.result _ xs refl p ∙ ap (λ z. length (up_to is_separator z)) (part_from t a)
