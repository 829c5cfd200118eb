-- `terms::term_at` meets its contract: the two scans give `term_at`'s place and length, and a length of 0 is no term.
use mathlib.Core.Path.{sym, ◌∙◌}
use Rattle.terms.proofs.ScanLaws.{term_at_is, found_term_lem, found_none}
use Rattle.terms.proofs.term_at.Goals as goal

pub returns-then-len-eq0 : goal.returns-then-len-eq0
returns-then-len-eq0 c = sym (term_at_is c.args.line.now c.args.at c.gap_end-at.result c.term_end.result c.gap_end-at.ensures c.term_end.ensures ∙ found_none _ _ c.if-len-eq0.true)

pub returns : goal.returns
returns c = sym (term_at_is c.args.line.now c.args.at c.gap_end-at.result c.term_end.result c.gap_end-at.ensures c.term_end.ensures ∙ found_term_lem _ _ c.if-len-eq0.false)
