-- `replying::closing_len` meets its contract.
use Rattle.std.proofs.Common.{ℕ, ◌≡◌, cond, arith, rules}
use Rattle.std.specs.List.{count_by}
use Rattle.std.proofs.lemmas.Iterator.{YieldsList-from_slice, YieldsList-from_map}
use Rattle.std.proofs.lemmas.Iterator.Consumers.{YieldsList-at, sum_by_from_yields_List, fits_by_from_yields_list}
use Rattle.std.proofs.lemmas.List.Sums.{count_by-le-length}
use Rattle.replying.proofs.LineLaws.{is_graved, closing_length}
use Rattle.replying.proofs.closing_len.Goals as goal
use Rattle.replying.proofs.closing_len.Goals.{After-sum}

-- a byte's count
abbrev one : ℕ → ℕ
one b = cond (is_graved b) 1 0

pub sum-requires-clause-fits : goal.sum-requires-clause-fits
sum-requires-clause-fits c =
    let s = c.args.s.now in
    fits_by_from_yields_list one s c.map.result _ (YieldsList-from_map _ one (YieldsList-at c.map.ensures.source (YieldsList-from_slice s cc)) c.map.ensures.closure (λ x r q k. search rules)) (omega (arith, count_by-le-length is_graved s))

-- how many there are
counted : (c : After-sum) → c.sum.result ≡ count_by is_graved c.args.s.now
counted c = sum_by_from_yields_List one c.args.s.now c.map.result _ c.sum.ensures.ran (YieldsList-from_map _ one (YieldsList-at c.map.ensures.source (YieldsList-from_slice c.args.s.now cc)) c.map.ensures.closure (λ x r q k. search rules))

pub overflow_add-result : goal.overflow_add-result
overflow_add-result c = omega (arith, c.requires, counted (goal.at.overflow_add-result c).After-sum, count_by-le-length is_graved c.args.s.now)

pub overflow_add-result-2 : goal.overflow_add-result-2
overflow_add-result-2 c = omega (arith, c.requires, counted (goal.at.overflow_add-result-2 c).After-sum, count_by-le-length is_graved c.args.s.now)

pub returns : goal.returns
returns c =
    let s = c.args.s.now in
    let n = counted (goal.at.returns c).After-sum in
    (omega (arith, n, closing_length s), omega (arith, n, count_by-le-length is_graved s))
