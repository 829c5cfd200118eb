-- `reading::target_span` meets its contract. Assumes nothing.
use mathlib.Core.Path.{sym, ap, ◌∙◌}
use Rattle.reading.specs.Records.{target_in}
use Rattle.reading.specs.Shown.{verdict_in}
use Rattle.reading.proofs.Folds.{fine_left, fine_lexical}
use Rattle.reading.proofs.target_span.Goals as goal

pub first_target-requires : goal.first_target-requires
first_target-requires c =
    let line = c.args.line.now in
    let v = sym c.verdict.ensures ∙ c.in-Ok.is in
    ap verdict_in (sym (fine_left line (fine_lexical line v))) ∙ v

pub returns-in-Ok : goal.returns-in-Ok
returns-in-Ok c =
    let line = c.args.line.now in
    let v = sym c.verdict.ensures ∙ c.in-Ok.is in
    c.first_target.ensures ∙ ap target_in (sym (fine_left line (fine_lexical line v)))
