-- `terms::ordinary_blocks` meets its contract.
use Rattle.std.proofs.Common.{rules, tests, ◌/◌, length, not, refl, ap, ◌∙◌, arith}
use Rattle.std.proofs.lemmas.Iterator.{YieldsList-from_slice}
use Rattle.std.proofs.lemmas.Iterator.Search.{position_from_yields_List}
use Rattle.text.specs.Lists.{all_of, run_len}
use Rattle.text.proofs.Chains.{first_fails}
use Rattle.terms.specs.Scan.{ordinary}
use Rattle.terms.proofs.RunLaws.{run_blocks}
use Rattle.terms.proofs.ordinary_blocks.Goals as goal

pub returns : goal.returns
returns c =
    let f = all_of (ordinary 34) in
    let line = c.args.line.now in
    let blocks = c.as_chunks.result.0.now in
    let p = position_from_yields_List (λ b. not (f b)) _ _ c.position.result c.position.ensures.ran (YieldsList-from_slice blocks cc) (λ x b q k. search (rules, tests)) in
    let n = c.unwrap_or.ensures ∙ first_fails f c.position.result _ blocks refl p ∙ ap (run_len f) c.as_chunks.ensures.front in
    rw n (run_blocks (ordinary 34) (length line / 16) line (omega arith))
