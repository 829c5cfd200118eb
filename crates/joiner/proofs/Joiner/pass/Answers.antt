use Rattle.std.proofs.Common.{◌≡◌, ◌+◌, ◌-◌, ◌≤◌, cond, rules, arith, sym, ap, length, ◌∙◌}
use mathlib.Core.Bool.{true≢false}
use lib.Seq.{sets, take-take}
use Rattle.joiner.proofs.Blocks.{not_true, not_false, turn_block, kept_small, kept_large, kept_long}
use Rattle.joiner.proofs.Laws.{turn_plain}
use Rattle.joiner.proofs.Reach.{to_fine, held_reachable}
use Rattle.joiner.proofs.Joiner.pass.Goals as goal
use Rattle.joiner.proofs.Joiner.pass.Goals.{then-not-self, else-not-self}

pub limit-end-requires : goal.limit-end-requires
limit-end-requires c = record { held_bound = (to_fine c.args.self c.requires.self_value).within; at_in_bounds = c.requires.at_in_bounds }

pub loop-block-preserved : goal.loop-block-preserved
loop-block-preserved c =
    let l = c.loop-block in
    let a = c.args in
    let o = a.self.over in
    let d = c.in-Some.ensures.cases.same in
    let j = c.if-not-self in
    let whole : 16 ≤ c.limit-end.result - l.at = search rules in
    let held : j.held ≡ cond o l.held (l.held + 16) = elim j.branch [
      | then-not-self w ↦ rw (not_true _ w.if-not-self.true) w.held-is
      | else-not-self w ↦ rw (not_false _ w.if-not-self.false) w.held-is
    ] in
    let kept : j.buffer ≡ cond o l.buffer (sets l.buffer l.held c.in-Some.field-0.now) = elim j.branch [
      | then-not-self w ↦ rw (not_true _ w.if-not-self.true) (w.buffer-is ∙ w.put.ensures)
      | else-not-self w ↦ rw (not_false _ w.if-not-self.false) w.buffer-is
    ] in
    record {
      from = omega arith;
      within = omega arith;
      room = λ e. omega (arith, held, kept_small o _ l.at l.held (omega arith) l.invariant.room e);
      same_held = λ e. held ∙ kept_large o l.held a.self.held l.invariant.same_held e;
      long = ap length kept ∙ kept_long o l.buffer c.in-Some.field-0.now l.held ∙ l.invariant.long;
      goes_on = turn_block o _ l.at l.held _ l.buffer _ a.part.now c.in-Some.field-0.now (omega arith) (λ e. omega (arith, l.invariant.room e)) (λ e. omega (arith, l.invariant.same_held e, (to_fine a.self c.requires.self_value).full e)) l.invariant.long
          l.invariant.goes_on (d ∙ take-take 16 _ _ whole) (c.all_plain.ensures c.if-not-all_plain.false) held kept;
    }

pub loop-at-init : goal.loop-at-init
loop-at-init c =
    let l = c.loop-block in
    record { from = l.invariant.from; within = l.invariant.within; room = l.invariant.room c.if-self-3.false; long = l.invariant.long; goes_on = rw c.if-self-3.false at l.invariant.goes_on }

pub loop-at-preserved : goal.loop-at-preserved
loop-at-preserved c =
    let l = c.loop-at in
    record {
      from = omega arith;
      within = omega arith;
      room = omega arith;
      long = search rules;
      goes_on = turn_plain _ l.at l.held l.buffer _ (omega arith) (omega arith) l.invariant.goes_on (sym c.ordinary.ensures ∙ c.if-ordinary.true);
    }

pub returns-else-ordinary-clause-over_value : goal.returns-else-ordinary-clause-over_value
returns-else-ordinary-clause-over_value c = held_reachable c.args.self _ c.requires.self_value (omega arith) (λ e. absurd (true≢false (sym e ∙ c.if-self-3.false)))

pub returns-after-loop-at-clause-over_value : goal.returns-after-loop-at-clause-over_value
returns-after-loop-at-clause-over_value c = held_reachable c.args.self _ c.requires.self_value (omega arith) (λ e. absurd (true≢false (sym e ∙ c.if-self-3.false)))
