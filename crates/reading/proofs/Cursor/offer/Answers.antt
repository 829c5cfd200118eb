-- `reading::Cursor::offer` meets its contract. Assumes nothing.
use mathlib.Core.Path.{sym, ap, ◌∙◌}
use native.Mathlib.Omega.{arith}
use Rattle.text.proofs.Slices.{length_from}
use Rattle.terms.proofs.NextTerm.{term_within}
use Rattle.reading.specs.Reading.{form_asked, place_of}
use Rattle.reading.specs.Cursor.{term_in, offer_on}
use Rattle.reading.proofs.Steps.{none_given, term_given, place_given}
use Rattle.reading.proofs.PlaceLaws.{past_fits}
use Rattle.std.proofs.Common.{ℕ, Err}
use Rattle.text.specs.Room.{refusal_at}
use Rattle.reading.proofs.Cursor.offer.Goals as goal

pub returns-in_default : goal.returns-in_default
returns-in_default c =
    let t = c in
    let a = t.args in
    c.offer_end.ensures ∙ none_given a.line.now a.self.at a.self.state (sym c.in_default.is ∙ t.term_at.ensures)

pub slice_bounds-decide_in-count : goal.slice_bounds-decide_in-count
slice_bounds-decide_in-count c = let w = term_within c.args.line.now c.args.self.at c.in-Some.term.at c.in-Some.term.len (sym c.in-Some.is ∙ c.term_at.ensures) in omega arith

pub slice_bounds-decide_in-start : goal.slice_bounds-decide_in-start
slice_bounds-decide_in-start c = let w = term_within c.args.line.now c.args.self.at c.in-Some.term.at c.in-Some.term.len (sym c.in-Some.is ∙ c.term_at.ensures) in omega arith

pub decide_in-requires : goal.decide_in-requires
decide_in-requires c = let w = term_within c.args.line.now c.args.self.at c.in-Some.term.at c.in-Some.term.len (sym c.in-Some.is ∙ c.term_at.ensures) in let a = c.args in rw (length_from a.line.now _) (omega arith)

pub overflow_add-end : goal.overflow_add-end
overflow_add-end c = let w = term_within c.args.line.now c.args.self.at c.in-Some.term.at c.in-Some.term.len (sym c.in-Some.is ∙ c.term_at.ensures) in omega arith

pub slice_bounds-past_start-end : goal.slice_bounds-past_start-end
slice_bounds-past_start-end c = let w = term_within c.args.line.now c.args.self.at c.in-Some.term.at c.in-Some.term.len (sym c.in-Some.is ∙ c.term_at.ensures) in omega arith

pub overflow_add-result : goal.overflow_add-result
overflow_add-result c =
    let a = c.args in
    let w = term_within c.args.line.now c.args.self.at c.in-Some.term.at c.in-Some.term.len (sym c.in-Some.is ∙ c.term_at.ensures) in
    omega (arith, past_fits (form_asked a.self.state.phase a.self.state.verb c.in-Err.number) a.line.now _ _ _ w.fits c.past_start-past.ensures)

pub returns-in-Ok : goal.returns-in-Ok
returns-in-Ok c =
    let a = c.args in
    sym (ap (offer_on (place_of a.self.state (term_in a.line.now c.in-Some.term.at c.in-Some.term.len)) c.in-Some.term.at c.in-Some.term.len) c.in-Ok.is) ∙ term_given a.line.now a.self.at a.self.state c.in-Some.term.at c.in-Some.term.len _ (sym c.in-Some.is ∙ c.term_at.ensures) c.decide_in.ensures

pub returns-in-Err : goal.returns-in-Err
returns-in-Err c =
    let a = c.args in
    ap (λ (p : ℕ). Err (refusal_at c.in-Err.number p)) (place_given a.line.now a.self.state c.in-Some.term.at c.in-Some.term.len c.in-Err.number _ c.past_start-past.ensures) ∙ sym (ap (offer_on (place_of a.self.state (term_in a.line.now c.in-Some.term.at c.in-Some.term.len)) c.in-Some.term.at c.in-Some.term.len) c.in-Err.is) ∙ term_given a.line.now a.self.at a.self.state c.in-Some.term.at c.in-Some.term.len _ (sym c.in-Some.is ∙ c.term_at.ensures) c.decide_in.ensures
