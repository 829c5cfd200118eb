-- `support::allows` meets its contract.
use Rattle.std.proofs.Common.{ℕ, ◌<◌, ◌≡◌, ◌∙◌, ap, List, [], get_or, ltb, arith, rules, tests}
use Rattle.std.proofs.lemmas.Grind.{common_steps}
use Rattle.support.specs.Table15.{rows}
use Rattle.support.proofs.Lookup.{table_bytes, each_verb, no_option}
use Rattle.support.proofs.allows.Goals as goal

pub returns-in_default : goal.returns-in_default
returns-in_default c = no_option c.args.verb c.args.option (omega (arith, c.in_default.ensures.lookup))

-- the code's table is the one that Table 15 makes
pub returns : goal.returns
unfolding table_bytes rows
returns c =
    let a = c.args in
    let h = c.in-Some.ensures.lookup in
    let n : a.option < 13 = omega (arith, h) in
    let row : c.in-Some.row.now ≡ get_or table_bytes c.from.result [] = search (rules, tests) in
    let cell : c.is_some_and.result ≡ ltb 46 (get_or c.in-Some.row.now a.verb 0) = grind (arith, common_steps) in
    cell ∙ ap (λ (r : List ℕ). ltb 46 (get_or r a.verb 0)) (row ∙ ap (λ (k : ℕ). get_or table_bytes k []) c.from.ensures) ∙ each_verb a.verb a.option (omega arith)
