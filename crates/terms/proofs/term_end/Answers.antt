-- `terms::term_end` meets its contract: past a run of ordinary bytes the term goes on as from there.
use Rattle.std.proofs.Common.{ap, ◌∙◌, arith}
use Rattle.text.proofs.Slices.{part_from}
use Rattle.terms.specs.declared.Mode.TheVariants.{Out}
use Rattle.terms.specs.Scan.{term_len}
use Rattle.terms.proofs.RunLaws.{term_run}
use Rattle.terms.proofs.term_end.Goals as goal

pub returns : goal.returns
returns c =
    let e = c.in-Some.ensures.lookup.0.2 ∙ part_from c.args.line.now c.args.at in
    let t = term_run c.in-Some.rest.now c.ordinary_len-n.result c.first_len.result c.ordinary_len-n.ensures.run c.first_len.ensures.term in
    omega (arith, ap (term_len Out) e)
