use Prim.Native.Nat.{ℕ, ◌+◌, ◌*◌}
use mathlib.Core.Path.{sym, ap, ◌∙◌}
use native.Mathlib.Omega.{arith}
use lib.ListN.{drop, get_or}
use Rattle.std.proofs.lemmas.Grind.{common_steps}
use Rattle.text.proofs.Classes.{digit_bounds}
use Rattle.text.proofs.Decimals.{read_on, read_on_lem, read_no, read_past, read_large, no_digits, zero_alone, zero_leads, first_digit}
use Rattle.text.proofs.decimal.Goals as goal

pub returns-in_err-first : goal.returns-in_err-first
returns-in_err-first c = c.from_residual.ensures ∙ sym (no_digits c.args.most c.args.s.now (grind (arith, common_steps)))

pub returns-then-s-eq1 : goal.returns-then-s-eq1
returns-then-s-eq1 c = let a = c.args in sym (zero_alone a.most a.s.now (grind (arith, common_steps)) c.if-s-eq1.true)

pub returns-else-s-eq1 : goal.returns-else-s-eq1
returns-else-s-eq1 c = let a = c.args in sym (zero_leads a.most a.s.now (grind (arith, common_steps)) c.if-s-eq1.false)

pub loop-b-init : goal.loop-b-init
loop-b-init c = let a = c.args in (omega arith, omega arith, first_digit a.most a.s.now (grind (arith, common_steps)) (grind (arith, common_steps)))

pub returns-then-not-is_digit : goal.returns-then-not-is_digit
returns-then-not-is_digit c =
    let l = c.loop-b in
    let a = c.args in
    sym (read_no a.most l.v a.s.now l.b-index (omega arith) (sym c.is_digit.ensures ∙ c.if-not-is_digit.true)) ∙ l.invariant.2

pub overflow_add-v : goal.overflow_add-v
overflow_add-v c =
    let l = c.loop-b in
    omega (arith, c.digit_value.ensures, digit_bounds (get_or c.args.s.now l.b-index 0) (sym c.is_digit.ensures ∙ c.if-not-is_digit.false))

pub returns-then-limit-v : goal.returns-then-limit-v
returns-then-limit-v c =
    let l = c.loop-b in
    let a = c.args in
    let on = read_on_lem a.most l.v a.s.now l.b-index (omega arith) (sym c.is_digit.ensures ∙ c.if-not-is_digit.false) in
    let v = ap (λ (d : ℕ). read_on a.most (l.v * 10 + d) (drop (l.b-index + 1) a.s.now)) c.digit_value.ensures in
    sym (read_large a.most (l.v * 10 + c.digit_value.result) (drop (l.b-index + 1) a.s.now) (omega arith)) ∙ v ∙ sym on ∙ l.invariant.2

pub loop-b-preserved : goal.loop-b-preserved
loop-b-preserved c =
    let l = c.loop-b in
    let a = c.args in
    let on = read_on_lem a.most l.v a.s.now l.b-index (omega arith) (sym c.is_digit.ensures ∙ c.if-not-is_digit.false) in
    let v = ap (λ (d : ℕ). read_on a.most (l.v * 10 + d) (drop (l.b-index + 1) a.s.now)) c.digit_value.ensures in
    (omega arith, omega arith, v ∙ sym on ∙ l.invariant.2)

pub returns : goal.returns
returns c =
    let l = c.loop-b in
    let a = c.args in
    sym (read_past a.most l.v a.s.now l.b-index (omega arith) (omega arith)) ∙ l.invariant.2
