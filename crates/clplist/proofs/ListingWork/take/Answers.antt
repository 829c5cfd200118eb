-- A call uses no more than there is, and something where there is something; the state stays one that some capture leads to.
use Rattle.std.proofs.Common.{arith}
use Rattle.clplist.proofs.RunLaws.{print_used, print_some_used, print_fits}
use Rattle.clplist.proofs.ListingWork.take.Goals as goal

pub invariant_of-self : goal.invariant_of-self
invariant_of-self c =
    let s = c.args.self.now in
    let p = c.print_part-printed in
    record { fits = print_fits p.result s.state s.line c.args.part.now c.args.text.now p.ensures.value s.fits (omega (arith, c.told-text)) p.new.buffer p.ensures.buffer_after }

pub returns-clause-used_in_bounds : goal.returns-clause-used_in_bounds
returns-clause-used_in_bounds c =
    let s = c.args.self.now in
    print_used c.print_part-printed.result s.state s.line c.args.part.now c.args.text.now c.print_part-printed.ensures.value

pub returns-clause-goes_on : goal.returns-clause-goes_on
returns-clause-goes_on c =
    let s = c.args.self.now in
    print_some_used c.print_part-printed.result s.state s.line c.args.part.now c.args.text.now c.print_part-printed.ensures.value s.fits (omega (arith, c.told-text))
