-- `wording::put_fields` meets its contract.
use mathlib.Core.Path.{ap, ◌∙◌, sym}
use Prim.Native.Nat.{ℕ, ◌+◌, ◌<◌, ◌≤◌}
use native.Mathlib.Omega.{arith}
use lib.ListN.{length, get_or, drop}
use lib.Seq.{sets}
use Rattle.wording.proofs.WordingLaws.{field_read, total_more, fields_some, length_more, sets_more, fields_end}
use Rattle.wording.proofs.put_fields.Goals as goal

pub split_at-requires : goal.split_at-requires
split_at-requires c = let l = c.loop-w in omega (arith, c.from.ensures, total_more c.args.widths.now l.rest.now l.w-index (omega arith))

pub put_field-n-requires : goal.put_field-n-requires
put_field-n-requires c = let l = c.loop-w in omega (arith, c.requires.body_bound, fields_some c.args.widths.now l.rest.now l.w-index (omega arith))

pub overflow_add-n : goal.overflow_add-n
overflow_add-n c =
    let ws = c.args.widths.now in
    let l = c.loop-w in
    let here : l.w-index < length ws = omega arith in
    let fits : get_or ws l.w-index 0 ≤ length l.rest.now = omega (arith, total_more ws l.rest.now l.w-index here) in
    let read = field_read _ _ l.rest.now _ _ c.from.ensures c.split_at.ensures.front fits c.number.ensures in
    omega (arith, c.requires.body_bound, length_more ws l.rest.now l.w-index here _ _ read c.put_field-n.ensures.0)

pub loop-w-preserved : goal.loop-w-preserved
loop-w-preserved c =
    let a = c.args in
    let ws = a.widths.now in
    let l = c.loop-w in
    let here : l.w-index < length ws = omega arith in
    let fits : get_or ws l.w-index 0 ≤ length l.rest.now = omega (arith, total_more ws l.rest.now l.w-index here) in
    let read = field_read _ _ l.rest.now _ _ c.from.ensures c.split_at.ensures.front fits c.number.ensures in
    let rest = c.split_at.ensures.back ∙ ap (λ (n : ℕ). drop n l.rest.now) c.from.ensures in
    let m = c.put_field-n in record {
      within = omega (arith, total_more ws l.rest.now l.w-index here, c.split_at.ensures.back_len, c.from.ensures);
      counted = rw rest (omega (arith, length_more ws l.rest.now l.w-index here _ _ read m.ensures.0));
      put = rw rest (sets_more ws l.rest.now l.w-index here _ _ read m.ensures.0 a.at l.n l.out m.new.out _ l.invariant.put m.ensures.1);
    }

pub returns : goal.returns
returns c =
    let a = c.args in
    let l = c.loop-w in
    let none = fields_end a.widths.now l.rest.now l.w-index (omega arith) in
    (omega (arith, ap length none), sym (ap (sets l.out (a.at + l.n)) none) ∙ l.invariant.put)
