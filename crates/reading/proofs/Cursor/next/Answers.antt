-- `reading::Cursor::next` meets its contract. Assumes nothing.
use mathlib.Core.Path.{sym, ap, ◌∙◌}
use native.Mathlib.Omega.{arith}
use Rattle.std.proofs.Common.{◌≡◌, Result, Option, Ok, Err, rules}
use Rattle.text.specs.Room.{refusal_at}
use Rattle.text.specs.declared.Refusal.{Refusal}
use Rattle.reading.specs.declared.Offered.{Offered}
use Rattle.reading.specs.Cursor.{cursor_after, step}
use Rattle.reading.proofs.Steps.{offer_part, step_of_lem}
use Rattle.reading.proofs.Cursor.next.Goals as goal

pub overflow_add-self : goal.overflow_add-self
overflow_add-self c =
    let a = c.args in
    let w = offer_part a.line.now a.self.now _ c.offer.ensures _ _ _ (c.in_ok-offer.was ∙ ap Ok c.in-Some.is) in
    omega (arith, w.fits)

pub after-self-requires : goal.after-self-requires
after-self-requires c =
    let a = c.args in
    (offer_part a.line.now a.self.now _ c.offer.ensures _ _ _ (c.in_ok-offer.was ∙ ap Ok c.in-Some.is)).room

pub returns-in-Some : goal.returns-in-Some
returns-in-Some c =
    let a = c.args in
    rw c.after-self.ensures (sym (ap (λ (h : Result (Option Offered) Refusal). step h (cursor_after a.self.now h)) (c.in_ok-offer.was ∙ ap Ok c.in-Some.is)) ∙ step_of_lem a.line.now a.self.now _ c.offer.ensures)

pub returns-in_default : goal.returns-in_default
returns-in_default c =
    let a = c.args in
    rw c.in_default.is (sym (ap (λ (h : Result (Option Offered) Refusal). step h (cursor_after a.self.now h)) (c.in_ok-offer.was ∙ ap Ok c.in_default.is)) ∙ step_of_lem a.line.now a.self.now _ c.offer.ensures)

pub returns-in_err-offer : goal.returns-in_err-offer
returns-in_err-offer c =
    let a = c.args in
    let r : c.from_residual.result ≡ Err (refusal_at c.in_err-offer.field-0.0.number c.in_err-offer.field-0.0.place) = search rules in
    rw r (sym (ap (λ (h : Result (Option Offered) Refusal). step h (cursor_after a.self.now h)) c.in_err-offer.was) ∙ step_of_lem a.line.now a.self.now _ c.offer.ensures)
