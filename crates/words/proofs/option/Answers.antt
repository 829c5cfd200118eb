-- `words::option` meets its contract.
use Rattle.std.proofs.Common.{ℕ, ◌≡◌, ◌≤◌, ◌<◌, List, get_or, length, sym, ap, ◌∙◌, subst, arith}
use Rattle.std.proofs.lemmas.Grind.{common_steps}
use Rattle.words.specs.Words.{lower}
use Rattle.words.specs.Rows.{row_names, candidate_of, row_number}
use Rattle.words.proofs.RowLaws.{option_row_long, candidate_most, empty_none, candidate_none, row_some, row_hit, row_miss}
use Rattle.words.proofs.option.Goals as goal

pub returns-in_err-first : goal.returns-in_err-first
returns-in_err-first c = c.from_residual.ensures ∙ empty_none c.args.t.now (grind (arith, common_steps))

pub returns-in_err-n : goal.returns-in_err-n
returns-in_err-n c =
    let t = c.args.t.now in
    let f : c.lower.result ≡ lower (get_or t 0 0) = c.lower.ensures ∙ ap lower (grind (arith, common_steps)) in
    c.from_residual-in_err-n.ensures ∙ candidate_none t (sym c.in_err-n.was ∙ c.candidate.ensures ∙ ap (λ (x : ℕ). row_number (candidate_of x (length t))) f)

pub row_names-requires : goal.row_names-requires
row_names-requires c =
    let f = c.lower.result in
    let l = length c.args.t.now in
    let r = row_some (candidate_of f l) c.in_ok-n.n (sym c.in_ok-n.was ∙ c.candidate.ensures) in
    subst (λ (row : List ℕ). (0 < get_or row 0 0) × (get_or row 0 0 ≤ 11)) (sym c.option_row.ensures)
    (option_row_long c.in_ok-n.n (omega (arith, r.1)) (omega (arith, r.0, candidate_most f l)))

pub returns-then-row_names : goal.returns-then-row_names
returns-then-row_names c =
    let t = c.args.t.now in
    let f : c.lower.result ≡ lower (get_or t 0 0) = c.lower.ensures ∙ ap lower (grind (arith, common_steps)) in
    let r = row_some (candidate_of c.lower.result (length t)) c.in_ok-n.n (sym c.in_ok-n.was ∙ c.candidate.ensures) in
    row_hit t c.in_ok-n.n (r.0 ∙ ap (λ (x : ℕ). candidate_of x (length t)) f) r.1
    (ap (λ (row : List ℕ). row_names row t) (sym c.option_row.ensures) ∙ sym c.row_names.ensures ∙ c.if-row_names.true)

pub returns : goal.returns
returns c =
    let t = c.args.t.now in
    let f : c.lower.result ≡ lower (get_or t 0 0) = c.lower.ensures ∙ ap lower (grind (arith, common_steps)) in
    let r = row_some (candidate_of c.lower.result (length t)) c.in_ok-n.n (sym c.in_ok-n.was ∙ c.candidate.ensures) in
    row_miss t c.in_ok-n.n (r.0 ∙ ap (λ (x : ℕ). candidate_of x (length t)) f)
    (ap (λ (row : List ℕ). row_names row t) (sym c.option_row.ensures) ∙ sym c.row_names.ensures ∙ c.if-row_names.false)
