-- `tree::check` meets its contract.
use mathlib.Core.Path.{◌≡◌, refl, ap, sym, ◌∙◌}
use mathlib.Core.Bool.{true, false}
use Prim.Native.Nat.{ℕ, ◌*◌}
use native.Mathlib.Omega.{arith}
use borrow.Author.Tests.{eqb-true, eqb-false}
use lib.ListN.{length, take, drop}
use Rattle.tree.specs.Tree.{twin}
use Rattle.tree.proofs.CheckLaws.{check_start, check_again, stop_form, stop_twin, check_end, check_cut}
use Rattle.tree.proofs.MarkLaws.{turn_fits, turn_lone, turn_marked, turn_form, turn_mix, turn_twin}
use Rattle.tree.proofs.check.Goals.{else-marks-mark-via-then-marks-mark+then-marks-other+else-twin, else-marks-mark-via-then-marks-mark+else-marks-other, else-marks-mark-via-else-marks-mark}
use Rattle.tree.proofs.check.Goals as goal
use Rattle.std.proofs.Common.{Err}

pub loop-k-init : goal.loop-k-init
loop-k-init c = (check_start _, (refl, λ j h. absurd (omega arith)))

pub returns-in_default : goal.returns-in_default
returns-in_default c =
    let t = c.args.t.now in
    let l = c.loop-k in
    let form = turn_form t _ l.k c.as_chunks.ensures.front (omega arith) true c.in_default.ensures in
    stop_form t l.k _ true (omega arith) refl (omega arith) l.invariant.0 form refl

pub returns-then-twin : goal.returns-then-twin
returns-then-twin c =
    let t = c.args.t.now in
    let l = c.loop-k in
    let whole = c.as_chunks.ensures.front in
    let r = c.in-Some.ensures in
    let form = turn_form t _ l.k whole (omega arith) false r.0 in
    let short = (turn_fits t l.k _ false form refl).2 in
    let pair = turn_twin t _ l.k whole (omega arith) short _ r.1 _ c.twin.ensures in
    stop_twin t l.k _ false (omega arith) refl (omega arith) l.invariant.0 form _ refl pair c.if-twin.true

pub loop-k-preserved : goal.loop-k-preserved
loop-k-preserved c =
    let t = c.args.t.now in
    let l = c.loop-k in
    let whole = c.as_chunks.ensures.front in
    let r = c.in-Some.ensures in
    let form = turn_form t _ l.k whole (omega arith) false r.0 in
    let short = (turn_fits t l.k _ false form refl).2 in
    let mix = turn_mix t _ l.k whole (omega arith) short _ r.1 _ c.mix-m.ensures in
    let lone = turn_lone t l.k _ false form refl _ l.marks refl mix l.invariant.1 in
    let alone : twin (take (22 * l.k) t) (drop (22 * l.k) t) ≡ false =
    elim c.else-marks-mark.branch [
      | else-marks-mark-via-then-marks-mark+then-marks-other+else-twin w ↦ sym (turn_twin t _ l.k whole (omega arith) short _ r.1 _ w.twin.ensures) ∙ w.if-twin.false
      | else-marks-mark-via-then-marks-mark+else-marks-other w ↦ lone.1 w.if-marks-other.false
      | else-marks-mark-via-else-marks-mark w ↦ lone.0 w.if-marks-mark.false
    ] in
    (check_again t l.k _ false (omega arith) refl (omega arith) l.invariant.0 form _ refl refl alone, turn_marked t l.k _ false form refl _ l.marks refl mix l.invariant.1)

pub returns-then-is_empty : goal.returns-then-is_empty
returns-then-is_empty c =
    let l = c.loop-k in
    let e = c.as_chunks.ensures in
    let none = eqb-true (length c.as_chunks.result.1.now) 0 (sym c.is_empty.ensures ∙ c.if-is_empty.true) in
    check_end c.args.t.now l.k _ (omega (arith, e.front_len, e.back_len, none)) refl (omega (arith, e.front_len)) l.invariant.0

pub returns-else-is_empty : goal.returns-else-is_empty
returns-else-is_empty c =
    let l = c.loop-k in
    let e = c.as_chunks.ensures in
    let some = eqb-false (length c.as_chunks.result.1.now) 0 (sym c.is_empty.ensures ∙ c.if-is_empty.false) in
    let last : length c.as_chunks.result.0.now ≡ l.k = omega arith in
    ap (λ (i : ℕ). Err (22 * i)) last ∙ check_cut c.args.t.now l.k (sym last ∙ e.front_len) (omega (arith, e.front_len, e.back_len, some)) l.invariant.0
