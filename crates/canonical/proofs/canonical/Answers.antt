-- `canonical::canonical` meets its contract.
use mathlib.Core.Path.{◌≡◌, sym, ap, ◌∙◌}
use Rattle.std.proofs.Common.{rules, Err}
use Rattle.text.specs.Room.{refusal_at}
use mathlib.Core.Bool.{true}
use native.Mathlib.Omega.{arith}
use lib.ListN.{replicate}
use lib.Seq.{sets, length-take-le}
use Rattle.text.proofs.Writes.{held_is}
use Rattle.canonical.specs.Written.{written_in}
use Rattle.reading.specs.Reading.{reading_of}
use Rattle.canonical.proofs.LineLaws.{total_refused, total_fine, total_length, total_none, total_fits}
use Rattle.canonical.proofs.canonical.Goals as goal

pub returns-then-out-n : goal.returns-then-out-n
returns-then-out-n c =
    let a = c.args in
    total_none (reading_of a.line.now) a.out.now _ (sym c.in_ok-n.was ∙ c.put_writing.ensures.0) c.if-out-n.true

pub slice_bounds-held-end : goal.slice_bounds-held-end
slice_bounds-held-end c = omega (arith, c.if-n-gt1024.false, c.put_writing.auto.out)

pub slice_bounds-copy-end : goal.slice_bounds-copy-end
slice_bounds-copy-end c = let p = c.put_writing in sym (length-take-le _ p.new.out (omega (arith, c.if-n-gt1024.false, p.auto.out)))

pub returns : goal.returns
returns c =
    let a = c.args in
    let r = reading_of a.line.now in
    let p = c.put_writing in
    let e = sym c.in_ok-n.was ∙ p.ensures.0 in
    let n = total_length r a.out.now _ e in
    let h = held_is (replicate 1024 0) p.new.out (written_in true r) _ (p.ensures.1 (total_fine r a.out.now _ e)) n (omega (arith, n, c.if-n-gt1024.false)) in
    total_fits r a.out.now _ e c.if-out-n.false _ (c.copy.ensures ∙ ap (sets a.out.now 0) h)

pub returns-in_err-n : goal.returns-in_err-n
returns-in_err-n c =
    let a = c.args in
    let flaw = c.in_err-n.field-0.0 in
    let r : c.from_residual.result ≡ Err (refusal_at flaw.number flaw.place) = search rules in
    let t = total_refused (reading_of a.line.now) a.out.now _ _ (sym c.in_err-n.was ∙ c.put_writing.ensures.0) in
    (r ∙ t.0, t.1)

pub returns-then-n-gt1024 : goal.returns-then-n-gt1024
returns-then-n-gt1024 c =
    let a = c.args in
    let r = reading_of a.line.now in
    let p = c.put_writing-then-n-gt1024 in
    let e = sym c.in_ok-n.was ∙ c.put_writing.ensures.0 in
    let t = total_fits r a.out.now _ e c.if-out-n.false _ (p.ensures.1 (total_fine r a.out.now _ e)) in
    (p.ensures.0 ∙ sym e ∙ t.0, t.1)
