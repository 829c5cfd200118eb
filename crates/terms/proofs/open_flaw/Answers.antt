use mathlib.Core.Path.{◌≡◌, refl, sym, ap, ◌∙◌}
use mathlib.Core.Bool.{Bool, false}
use native.Mathlib.Omega.{arith}
use Rattle.text.proofs.Tests.{no_case}
use Rattle.text.proofs.Scans.{walk_on, run_within}
use Rattle.terms.specs.Signs.{after}
use Rattle.terms.specs.Rows.{end_mode, end_flaw}
use Rattle.terms.specs.Scan.{ordinary}
use Rattle.terms.proofs.RunLaws.{run_mode_from, run_opened_from}
use Rattle.terms.proofs.ScanLaws.{opened_on, open_is}
use Rattle.std.proofs.Common.{ℕ, ◌-◌, length, Err}
use Rattle.text.specs.Room.{refusal_at}
use Rattle.terms.proofs.open_flaw.Goals as goal
use Rattle.terms.proofs.QuoteTests.{mode_of, mode-on, quote-on, ends-taken}

pub loop-i-init : goal.loop-i-init
loop-i-init c =
    let l = c.args.line.now in
    let n = c.ordinary_blocks-i in (
      run_mode_from 34 l n.result n.ensures,
      run_opened_from 34 l n.result n.ensures,
      omega (arith, n.ensures, run_within (ordinary 34) l),
      λ _. refl,
    )

pub loop-i-preserved : goal.loop-i-preserved
unfolding end_mode
loop-i-preserved c =
    let at = c in
    let v = at.loop-i in
    let l = at.args.line.now in
    let h = c.loop-i-test.true in
    let mark = c.is_free-mark in
    let taken = c.is_free-taken in
    let quote = c.opened-q in
    let m = mode-on v.inside v.taken mark.result _ mark.ensures c.turned-inside.result taken.result c.turned-inside.ensures taken.ensures in
    let q = quote-on v.inside v.taken mark.result _ mark.ensures v.i v.q quote.result quote.ensures in (
      walk_on after l v.i (mode_of v.inside v.taken) (mode_of c.turned-inside.result taken.result) h m ∙ v.invariant.0,
      opened_on l v.i (mode_of v.inside v.taken) (mode_of c.turned-inside.result taken.result) v.q quote.result h m q ∙ v.invariant.1,
      omega arith,
      λ e. absurd (omega arith),
    )

pub overflow_sub-result : goal.overflow_sub-result
overflow_sub-result c =
    let h : c.loop-i.i ≡ 0 → ⊥ = λ e. no_case (sym c.if-taken.true ∙ c.loop-i.invariant.3 e) in
    omega arith

pub returns-then-taken : goal.returns-then-taken
returns-then-taken c =
    let l = c.loop-i in
    let e : length c.args.line.now ≡ l.i = omega arith in
    ap (λ (n : ℕ). Err (refusal_at 3 (n - 1))) e
    ∙ sym (ap (λ (t : Bool). end_flaw (mode_of l.inside t) l.i l.q) c.if-taken.true ∙ ends-taken l.inside l.i l.q) ∙ open_is c.args.line.now l.i (mode_of l.inside l.taken) l.q c.loop-i-test.false l.invariant.2 l.invariant.0 l.invariant.1

pub returns-then-inside : goal.returns-then-inside
returns-then-inside c =
    let l = c.loop-i in
    sym (ap (λ (t : Bool). end_flaw (mode_of l.inside t) l.i l.q) c.if-taken.false ∙ ap (λ (t : Bool). end_flaw (mode_of t false) l.i l.q) c.if-inside.true) ∙ open_is c.args.line.now l.i (mode_of l.inside l.taken) l.q c.loop-i-test.false l.invariant.2 l.invariant.0 l.invariant.1

pub returns : goal.returns
returns c =
    let l = c.loop-i in
    sym (ap (λ (t : Bool). end_flaw (mode_of l.inside t) l.i l.q) c.if-taken.false ∙ ap (λ (t : Bool). end_flaw (mode_of t false) l.i l.q) c.if-inside.false) ∙ open_is c.args.line.now l.i (mode_of l.inside l.taken) l.q c.loop-i-test.false l.invariant.2 l.invariant.0 l.invariant.1
