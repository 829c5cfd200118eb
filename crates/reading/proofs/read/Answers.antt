-- `reading::read` meets its contract. Assumes nothing.
use mathlib.Core.Path.{sym, ap, ◌∙◌}
use native.Mathlib.Omega.{arith}
use lib.ListN.{replicate}
use lib.Seq.{sets, length-take-le}
use Rattle.text.proofs.Writes.{held_is}
use Rattle.reading.specs.Reading.{reading_of}
use Rattle.reading.specs.Shown.{bytes_in}
use Rattle.reading.proofs.Folds.{read_none, read_all, needed_fine, needed_length}
use Rattle.reading.proofs.Room.{needed_most}
use Rattle.reading.proofs.read.Goals as goal

pub returns-then-out-n : goal.returns-then-out-n
returns-then-out-n c =
    let a = c.args in
    read_none (reading_of a.line.now) _ a.out.now (sym c.in_ok-n.was ∙ c.put_reading.ensures.0) c.if-out-n.true

pub slice_bounds-held-end : goal.slice_bounds-held-end
slice_bounds-held-end c =
    let p = c.put_reading in
    omega (arith, needed_most c.args.line.now _ (sym c.in_ok-n.was ∙ p.ensures.0), p.auto.out)

pub slice_bounds-copy-end : goal.slice_bounds-copy-end
slice_bounds-copy-end c =
    let p = c.put_reading in
    let m = needed_most c.args.line.now _ (sym c.in_ok-n.was ∙ p.ensures.0) in
    sym (length-take-le _ p.new.out (omega (arith, m, p.auto.out)))

pub returns : goal.returns
returns c =
    let a = c.args in
    let r = reading_of a.line.now in
    let p = c.put_reading in
    let e = sym c.in_ok-n.was ∙ p.ensures.0 in
    let m = needed_most a.line.now _ e in
    let n = needed_length r _ e in
    let h = held_is (replicate 399 0) p.new.out (bytes_in r) _ (p.ensures.1 (needed_fine r _ e)) n (omega (arith, m, n)) in
    read_all r _ a.out.now e c.if-out-n.false _ (c.copy.ensures ∙ ap (sets a.out.now 0) h)
