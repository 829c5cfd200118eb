-- `terms::spaces` meets its contract.
use Rattle.std.proofs.Common.{ℕ, cond, rules, arith}
use Rattle.std.proofs.lemmas.Iterator.{YieldsList-from_slice, YieldsList-from_map}
use Rattle.std.proofs.lemmas.Iterator.Consumers.{YieldsList-at, sum_by_from_yields_List, fits_by_from_yields_list}
use Rattle.std.proofs.lemmas.List.Sums.{count_by-le-length}
use Rattle.terms.specs.Scan.{is_space}
use Rattle.terms.proofs.CountLaws.{spaces_counted}
use Rattle.terms.proofs.spaces.Goals as goal

-- a byte's count
abbrev one : ℕ → ℕ
one b = cond (is_space b) 1 0

pub sum-requires-clause-fits : goal.sum-requires-clause-fits
sum-requires-clause-fits c =
    let s = c.args.s.now in
    fits_by_from_yields_list one s c.map.result _ (YieldsList-from_map _ one (YieldsList-at c.map.ensures.source (YieldsList-from_slice s cc)) c.map.ensures.closure (λ x r q k. search rules)) (omega (arith, count_by-le-length is_space s))

pub returns : goal.returns
returns c =
    let s = c.args.s.now in
    let n = sum_by_from_yields_List one s c.map.result _ c.sum.ensures.ran (YieldsList-from_map _ one (YieldsList-at c.map.ensures.source (YieldsList-from_slice s cc)) c.map.ensures.closure (λ x r q k. search rules)) in
    omega (arith, spaces_counted s)
