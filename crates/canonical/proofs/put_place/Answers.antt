use mathlib.Core.Path.{ap, sym}
use Rattle.canonical.specs.Written.{graved_all, dash_grave, place_in}
use Rattle.words.proofs.Pens.{more, as_text}
use mathlib.Core.Bool.{false}
use lib.ListN.{replicate}
use lib.Seq.{length-take-le}
use Rattle.text.proofs.Writes.{held_is}
use Rattle.terms.specs.Signs.{meant}
use Rattle.terms.proofs.SignBytes.{meant_length}
use native.Mathlib.Omega.{arith}
use Rattle.canonical.proofs.put_place.Goals as goal

pub slice_bounds-held-end : goal.slice_bounds-held-end
slice_bounds-held-end c = omega (arith, meant_length c.args.s.now, c.put_meant-n.ensures.0)

pub slice_bounds-put_all_graved-end : goal.slice_bounds-put_all_graved-end
slice_bounds-put_all_graved-end c = let p = c.put_meant-n in sym (length-take-le p.result p.new.out (omega (arith, meant_length c.args.s.now, p.ensures.0, p.auto.out)))

pub returns : goal.returns
unfolding place_in
returns c =
    let s = c.args.s.now in
    let p = c.put_meant-n in
    let h = held_is (replicate 1024 0) p.new.out (meant s) p.result p.ensures.1 p.ensures.0 (omega (arith, meant_length s)) in
    more (as_text (ap dash_grave c.leads_dash.ensures) c.put_dash.ensures) (as_text (ap (graved_all false) h) c.put_all_graved.ensures)
