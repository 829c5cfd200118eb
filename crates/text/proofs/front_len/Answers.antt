use Rattle.std.proofs.Common.{rules, tests, not, ◌∙◌, refl}
use Rattle.std.proofs.lemmas.Iterator.{YieldsList-from_slice}
use Rattle.std.proofs.lemmas.Iterator.Search.{position_from_yields_List}
use Rattle.text.proofs.Chains.{first_fails}
use Rattle.text.proofs.front_len.Goals as goal

pub returns : goal.returns
returns g c = λ f computes.
    let s = c.args.s.now in
    c.unwrap_or.ensures
    ∙ first_fails f c.position.result _ s refl (position_from_yields_List (λ b. not (f b)) _ _ _ c.position.ensures.ran (YieldsList-from_slice s cc) (λ x b q k. search (rules, tests, computes)))
