-- A term that was found lies inside the line, and ends past the place.
use Rattle.std.proofs.Common.{arith, sym, ◌∙◌}
use Rattle.terms.proofs.NextTerm.{term_within}
use Rattle.termcases.proofs.all_terms.Goals as goal

pub overflow_add-at : goal.overflow_add-at
overflow_add-at c = let w = term_within c.args.line.now c.loop-s.at _ _ (sym c.in-Some.is ∙ c.term_at.ensures) in let f = w.from in let s = w.some in let h = w.fits in omega arith

pub loop-s-smaller : goal.loop-s-smaller
loop-s-smaller c = let w = term_within c.args.line.now c.loop-s.at _ _ (sym c.in-Some.is ∙ c.term_at.ensures) in let f = w.from in let s = w.some in let h = w.fits in omega arith

pub loop-s-preserved : goal.loop-s-preserved
loop-s-preserved c = let w = term_within c.args.line.now c.loop-s.at _ _ (sym c.in-Some.is ∙ c.term_at.ensures) in let f = w.from in let s = w.some in let h = w.fits in omega arith
