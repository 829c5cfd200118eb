-- `reading::target` meets its contract. Assumes nothing.
use mathlib.Core.Path.{ap, ◌∙◌}
use native.Mathlib.Omega.{arith}
use Rattle.text.proofs.Slices.{part_between}
use Rattle.terms.specs.declared.Span.{Span}
use Rattle.reading.specs.Records.{part_at, target_part}
use Rattle.reading.proofs.PartOrder.{target_within}
use Rattle.reading.proofs.target.Goals as goal

pub overflow_add-result : goal.overflow_add-result
overflow_add-result c =
    let t = c in
    let line = t.args.line.now in
    let x = ap (λ (s : Span). s.at) t.target_span-s.ensures in
    let y = ap (λ (s : Span). s.len) t.target_span-s.ensures in
    omega (arith, target_within line)

pub slice_bounds-result-end : goal.slice_bounds-result-end
slice_bounds-result-end c =
    let t = c in
    let line = t.args.line.now in
    let x = ap (λ (s : Span). s.at) t.target_span-s.ensures in
    let y = ap (λ (s : Span). s.len) t.target_span-s.ensures in
    omega (arith, target_within line)

pub returns : goal.returns
unfolding target_part
returns c =
    let line = c.args.line.now in
    part_between line c.target_span-s.result.at c.target_span-s.result.len ∙ ap (part_at line) c.target_span-s.ensures
