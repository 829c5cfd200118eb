-- `showing::line_len` meets its contract.
use Rattle.std.proofs.Common.{rules, tests, ◌≡◌, ◌∙◌, ◌-◌, List, ℕ, not, take, drop, length, sym, ap}
use Rattle.std.proofs.Math.Seq.{take-length}
use Rattle.std.proofs.lemmas.List.{drop_min, length-drop}
use Rattle.std.proofs.lemmas.Iterator.{YieldsList-from_slice}
use Rattle.std.proofs.lemmas.Iterator.Search.{position_from_yields_List}
use Rattle.text.specs.Lists.{run_len}
use Rattle.text.proofs.Chains.{first_fails}
use Rattle.showing.specs.Ways.{line_len}
use Rattle.showing.proofs.WayLaws.{in_line}
use Rattle.showing.proofs.line_len.Goals as goal

-- a slice from a place on, as the loan has it
whole : (n : ℕ) (s : List ℕ) → take (length s - n) (drop n s) ≡ drop n s
whole n s = ap (λ k. take k (drop n s)) (sym (length-drop n s)) ∙ take-length (drop n s)

pub returns-clause-value : goal.returns-clause-value
unfolding line_len in_line
returns-clause-value c =
    let s = c.args.input.now in
    let n = c.min.result in
    let rest = whole n s in
    c.unwrap_or.ensures
    ∙ first_fails in_line c.position.result _ (drop n s) (ap length rest) (position_from_yields_List (λ b. not (in_line b)) _ _ _ c.position.ensures.ran (YieldsList-from_slice (drop n s) (c.iter.ensures.rest ∙ rest)) (λ x b q k. search (rules, tests)))
    ∙ ap (λ k. run_len in_line (drop k s)) c.min.ensures
    ∙ ap (run_len in_line) (drop_min c.args.at s)
