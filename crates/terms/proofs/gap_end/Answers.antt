-- `terms::gap_end` meets its contract.
use Rattle.std.proofs.Common.{rules, tests, ◌+◌, not, refl, ap, ◌∙◌, arith}
use Rattle.std.proofs.lemmas.Iterator.{YieldsList-from_slice}
use Rattle.std.proofs.lemmas.Iterator.Search.{position_from_yields_List}
use Rattle.text.specs.Lists.{run_len}
use Rattle.text.proofs.Chains.{first_fails}
use Rattle.text.proofs.Scans.{run_past}
use Rattle.text.proofs.Slices.{part_from}
use Rattle.terms.specs.Scan.{is_space, start_at}
use Rattle.terms.proofs.gap_end.Goals as goal

pub returns-in_default : goal.returns-in_default
unfolding start_at
returns-in_default c = let h = c.in_default.ensures.lookup in omega (arith, run_past is_space c.args.line.now c.args.at (omega arith))

pub returns : goal.returns
unfolding start_at
returns c =
    let s = c.in-Some.rest.now in
    let p = position_from_yields_List (λ b. not (is_space b)) _ _ _ c.position.ensures.ran (YieldsList-from_slice s cc) (λ x b q k. search (rules, tests)) in
    let r = c.unwrap_or.ensures ∙ first_fails is_space c.position.result _ s refl p in
    let e = c.in-Some.ensures.lookup.0.2 ∙ part_from c.args.line.now c.args.at in
    ap (λ n. c.args.at + n) (r ∙ ap (run_len is_space) e)
