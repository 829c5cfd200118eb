-- `forms::property_of` meets its contract. Assumes nothing.
use mathlib.Core.Path.{sym, ap, ◌∙◌}
use lib.ListN.{length}
use native.Mathlib.Omega.{arith}
use borrow.Author.Rules.{rules}
use Rattle.forms.proofs.PropertyLaws.{property_unnamed, property_mere, property_not, property_one, property_two, value_within, value_within_2}
use Rattle.forms.proofs.property_of.Goals as goal

pub returns-then-k-eq0 : goal.returns-then-k-eq0
returns-then-k-eq0 c = property_unnamed c.args.s.now c.args.n c.name_len-k.result c.name_len-k.ensures c.if-k-eq0.true

pub returns-then-k-front : goal.returns-then-k-front
returns-then-k-front c = property_mere c.args.s.now c.args.n c.name_len-k.result c.name_len-k.ensures c.if-k-eq0.false (c.if-k-front.true ∙ (ap length c.front.ensures))

pub returns-then-not-is_equal : goal.returns-then-not-is_equal
returns-then-not-is_equal c = property_not c.args.s.now c.args.n c.name_len-k.result c.name_len-k.ensures c.if-k-eq0.false (λ z. c.if-k-front.false (z ∙ sym (ap length c.front.ensures))) (sym c.is_equal.ensures ∙ c.if-not-is_equal.true)

pub overflow_add-v : goal.overflow_add-v
overflow_add-v c = omega (arith, (value_within c.args.s.now c.args.n c.name_len-k.result c.name_len-k.ensures c.if-k-eq0.false (λ z. c.if-k-front.false (z ∙ sym (ap length c.front.ensures))) (sym c.is_equal.ensures ∙ c.if-not-is_equal.false)))

pub overflow_add-w : goal.overflow_add-w
overflow_add-w c = omega (arith, (value_within_2 c.args.s.now c.args.n c.name_len-k.result c.name_len-k.ensures c.if-k-eq0.false (λ z. c.if-k-front.false (z ∙ sym (ap length c.front.ensures))) (sym c.is_equal-2.ensures ∙ c.if-is_equal.true)))

pub slice_bounds-is_value-count : goal.slice_bounds-is_value-count
slice_bounds-is_value-count c = omega (arith, (value_within_2 c.args.s.now c.args.n c.name_len-k.result c.name_len-k.ensures c.if-k-eq0.false (λ z. c.if-k-front.false (z ∙ sym (ap length c.front.ensures))) (sym c.is_equal-2.ensures ∙ c.if-is_equal.true)))

pub slice_bounds-is_value-start : goal.slice_bounds-is_value-start
slice_bounds-is_value-start c = let h = value_within_2 c.args.s.now c.args.n c.name_len-k.result c.name_len-k.ensures c.if-k-eq0.false (λ z. c.if-k-front.false (z ∙ sym (ap length c.front.ensures))) (sym c.is_equal-2.ensures ∙ c.if-is_equal.true) in search rules

pub overflow_sub-n : goal.overflow_sub-n
overflow_sub-n c = omega (arith, (value_within_2 c.args.s.now c.args.n c.name_len-k.result c.name_len-k.ensures c.if-k-eq0.false (λ z. c.if-k-front.false (z ∙ sym (ap length c.front.ensures))) (sym c.is_equal-2.ensures ∙ c.if-is_equal.true)))

pub returns-then-is_equal : goal.returns-then-is_equal
returns-then-is_equal c =
    let k = c.name_len-k in
    let a = c.args in
    c.shape_if.ensures
    ∙ property_two a.s.now a.n k.result k.ensures c.if-k-eq0.false (λ z. c.if-k-front.false (z ∙ sym (ap length c.front.ensures))) c.is_value.result
    (sym c.is_equal.ensures ∙ c.if-not-is_equal.false) (sym c.is_equal-2.ensures ∙ c.if-is_equal.true) c.is_value.ensures

pub slice_bounds-is_value-count-2 : goal.slice_bounds-is_value-count-2
slice_bounds-is_value-count-2 c = omega (arith, (value_within c.args.s.now c.args.n c.name_len-k.result c.name_len-k.ensures c.if-k-eq0.false (λ z. c.if-k-front.false (z ∙ sym (ap length c.front.ensures))) (sym c.is_equal.ensures ∙ c.if-not-is_equal.false)))

pub slice_bounds-is_value-start-2 : goal.slice_bounds-is_value-start-2
slice_bounds-is_value-start-2 c = let h = value_within c.args.s.now c.args.n c.name_len-k.result c.name_len-k.ensures c.if-k-eq0.false (λ z. c.if-k-front.false (z ∙ sym (ap length c.front.ensures))) (sym c.is_equal.ensures ∙ c.if-not-is_equal.false) in search rules

pub overflow_sub-n-2 : goal.overflow_sub-n-2
overflow_sub-n-2 c = omega (arith, (value_within c.args.s.now c.args.n c.name_len-k.result c.name_len-k.ensures c.if-k-eq0.false (λ z. c.if-k-front.false (z ∙ sym (ap length c.front.ensures))) (sym c.is_equal.ensures ∙ c.if-not-is_equal.false)))

pub returns : goal.returns
returns c =
    let k = c.name_len-k in
    let a = c.args in
    c.shape_if-2.ensures
    ∙ property_one a.s.now a.n k.result k.ensures c.if-k-eq0.false (λ z. c.if-k-front.false (z ∙ sym (ap length c.front.ensures))) c.is_value-2.result
    (sym c.is_equal.ensures ∙ c.if-not-is_equal.false) (sym c.is_equal-2.ensures ∙ c.if-is_equal.false) c.is_value-2.ensures
