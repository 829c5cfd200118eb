-- `reading::put_reading` meets its contract. Assumes nothing.
use mathlib.Core.Path.{sym, ap, ◌∙◌}
use lib.Seq.{sets}
use Rattle.reading.specs.Reading.{Reading, reading_of}
use Rattle.reading.specs.Shown.{verdict_in, needed_in, bytes_in}
use Rattle.reading.proofs.Folds.{refused_fine, fine_left, flawed_left, fine_short, blank_left, total_needed, bytes_records}
use Rattle.reading.proofs.Sizes.{blank_sized}
use Rattle.reading.proofs.put_reading.Goals as goal
use Rattle.std.proofs.Common.{Ok, rules}

pub returns-then-is_blank : goal.returns-then-is_blank
returns-then-is_blank c =
    let a = c.args in
    let line = a.line.now in
    let f = sym c.lexical.ensures ∙ c.in_ok-lexical.was in
    let e = fine_left line f ∙ blank_left line (sym c.is_blank.ensures ∙ c.if-is_blank.true) in
    (ap Ok (c.record_len.ensures ∙ sym blank_sized) ∙ sym (ap needed_in e), λ g. c.put.ensures ∙ sym (ap (λ (r : Reading). sets a.out.now 0 (bytes_in r)) e))

pub put_records-requires : goal.put_records-requires
put_records-requires c = fine_short c.args.line.now (sym c.lexical.ensures ∙ c.in_ok-lexical.was)

pub returns-in_err-lexical : goal.returns-in_err-lexical
returns-in_err-lexical c =
    let line = c.args.line.now in
    let e = flawed_left line _ _ (sym c.lexical.ensures ∙ c.in_err-lexical.was) in
    (search rules ∙ sym (ap needed_in e), λ g. refused_fine (reading_of line) _ _ e g)

pub returns : goal.returns
returns c =
    let a = c.args in
    let line = a.line.now in
    let f = sym c.lexical.ensures ∙ c.in_ok-lexical.was in
    let e = fine_left line f in
    let b = sym c.is_blank.ensures ∙ c.if-is_blank.false in
    let p = c.put_records in (
      p.ensures.0 ∙ total_needed line b ∙ sym (ap needed_in e),
      λ g. p.ensures.1 (sym (ap verdict_in e) ∙ g) ∙ ap (sets a.out.now 0) (bytes_records line b ∙ sym (ap bytes_in e)),
    )
