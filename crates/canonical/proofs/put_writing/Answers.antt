-- `canonical::put_writing` meets its contract.
use mathlib.Core.Path.{◌≡◌, sym, ap, ◌∙◌}
use Rattle.std.proofs.Common.{rules, Err}
use Rattle.text.specs.Room.{refusal_at}
use mathlib.Core.Bool.{true}
use lib.Seq.{sets}
use Rattle.canonical.specs.Written.{written_in, written_from}
use Rattle.reading.specs.Reading.{Reading, reading_of}
use Rattle.reading.specs.Shown.{verdict_in}
use Rattle.reading.proofs.Folds.{fine_left, flawed_left, fine_short, refused_fine}
use Rattle.canonical.proofs.put_writing.Goals as goal

pub put_line-requires : goal.put_line-requires
put_line-requires c = fine_short c.args.line.now (sym c.lexical.ensures ∙ c.in_ok-lexical.was)

pub returns-in_err-lexical : goal.returns-in_err-lexical
returns-in_err-lexical c =
    let line = c.args.line.now in
    let flaw = c.in_err-lexical.field-0.0 in
    let r : c.from_residual.result ≡ Err (refusal_at flaw.number flaw.place) = search rules in
    let e = flawed_left line _ _ (sym c.lexical.ensures ∙ c.in_err-lexical.was) in
    (r ∙ sym (ap (written_from 0 true) e), λ f. refused_fine (reading_of line) _ _ e f)

pub returns : goal.returns
returns c =
    let a = c.args in
    let e = fine_left a.line.now (sym c.lexical.ensures ∙ c.in_ok-lexical.was) in
    let p = c.put_line in (
      p.ensures.0 ∙ sym (ap (written_from 0 true) e),
      λ f. p.ensures.1 (sym (ap verdict_in e) ∙ f) ∙ sym (ap (λ (r : Reading). sets a.out.now 0 (written_in true r)) e),
    )
