use Prim.Native.Nat.{ℕ, ◌≤◌}
use mathlib.Core.Path.{◌≡◌, refl, sym, ap, ◌∙◌}
use mathlib.Core.List.{List}
use native.Mathlib.Omega.{arith}
use lib.ListN.{length}
use Rattle.std.proofs.Common.{Ok}
use Rattle.terms.specs.Terms.{terms_of}
use Rattle.terms.specs.Rows.{many_from, many_flaw}
use Rattle.terms.proofs.NextTerm.{terms_some, terms_none, term_within}
use Rattle.terms.proofs.CountLaws.{short_few, spaces_few}
use Rattle.terms.proofs.RowLaws.{many_few}
use Rattle.terms.proofs.ScanLaws.{many_ends, many_on}
use Rattle.terms.proofs.many_flaw.Goals as goal
use Rattle.terms.proofs.many_flaw.Goals.{then-line-lt129-via-then-line-lt129, then-line-lt129-via-else-line-lt129+then-spaces-lt64}

few : (line : List ℕ) → length (terms_of line) ≤ 64 → Ok tt ≡ many_flaw line
unfolding many_flaw
few line h = sym (many_few 0 (terms_of line) (omega arith))

pub returns-then-line-lt129 : goal.returns-then-line-lt129
returns-then-line-lt129 c =
    let l = c.args.line.now in
    elim c.then-line-lt129.branch [
      | then-line-lt129-via-then-line-lt129 w ↦ few l (short_few l w.if-line-lt129.true)
      | then-line-lt129-via-else-line-lt129+then-spaces-lt64 w ↦ few l (spaces_few l w.spaces.result w.spaces.ensures w.if-spaces-lt64.true)
    ]

pub turns-init : goal.turns-init
unfolding many_flaw terms_of
turns-init c = (refl, omega arith)

pub returns-in_default : goal.returns-in_default
unfolding many_from
returns-in_default c =
    let l = c.turns in
    sym (ap (many_from l.counter) (terms_none c.args.line.now l.from (sym c.in_default.is ∙ c.term_at.ensures))) ∙ l.invariant.0

pub overflow_add-from : goal.overflow_add-from
overflow_add-from c =
    let h = (term_within c.args.line.now c.turns.from _ _ (sym c.in-Some.is ∙ c.term_at.ensures)).fits in
    omega arith

pub turns-preserved : goal.turns-preserved
turns-preserved c =
    let l = c.turns in
    let line = c.args.line.now in
    let e = sym c.in-Some.is ∙ c.term_at.ensures in (
      sym (ap (many_from l.counter) (terms_some line l.from _ _ e) ∙ many_on l.counter _ _ (λ z. absurd (omega arith))) ∙ l.invariant.0,
      (term_within line l.from _ _ e).fits,
    )

pub returns-in-Some-term_at : goal.returns-in-Some-term_at
returns-in-Some-term_at c =
    let l = c.turns in
    sym (ap (many_from l.counter) (terms_some c.args.line.now l.from _ _ (sym c.in-Some-term_at.is ∙ c.term_at-2.ensures)) ∙ many_ends l.counter _ _ (omega arith)) ∙ l.invariant.0

pub returns-in-None : goal.returns-in-None
unfolding many_from
returns-in-None c =
    let l = c.turns in
    sym (ap (many_from l.counter) (terms_none c.args.line.now l.from (sym c.in-None.is ∙ c.term_at-2.ensures))) ∙ l.invariant.0
