-- `wording::len_in` meets its contract.
use mathlib.Core.Path.{sym, ◌∙◌}
use native.Mathlib.Omega.{arith}
use Rattle.wording.proofs.WordingLaws.{len_past, len_cut, len_whole}
use Rattle.wording.proofs.len_in.Goals.{then-kind-gt7-via-then-kind-gt7, then-kind-gt7-via-else-kind-gt7+then-all-eq0, then-kind-gt7-via-else-kind-gt7+else-all-eq0+then-left-all}
use Rattle.wording.proofs.len_in.Goals as goal

pub returns-then-kind-gt7 : goal.returns-then-kind-gt7
returns-then-kind-gt7 c =
    let a = c.args in
    let all = c.record_len-all.ensures in
    elim c.then-kind-gt7.branch [
      | then-kind-gt7-via-then-kind-gt7 w ↦ sym (len_past a.kind a.left w.if-kind-gt7.true)
      | then-kind-gt7-via-else-kind-gt7+then-all-eq0 w ↦ sym (len_whole a.kind a.left w.if-kind-gt7.false (omega (arith, all, w.if-all-eq0.true))) ∙ sym all ∙ w.if-all-eq0.true
      | then-kind-gt7-via-else-kind-gt7+else-all-eq0+then-left-all w ↦ sym (len_cut a.kind a.left w.if-kind-gt7.false (omega (arith, all, w.if-left-all.true)))
    ]

pub returns : goal.returns
returns c =
    let a = c.args in
    let all = c.record_len-all.ensures in
    (omega (arith, c.if-all-eq0.false), all ∙ len_whole a.kind a.left c.if-kind-gt7.false (omega (arith, all)))
