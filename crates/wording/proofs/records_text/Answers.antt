-- `wording::records_text` meets its contract.
use mathlib.Core.Path.{sym, ap, ◌∙◌}
use Prim.Native.Nat.{ℕ}
use lib.ListN.{length}
use Rattle.std.proofs.Common.{Ok, rules}
use Rattle.wording.specs.Words.{wording_of, text_answer}
use Rattle.wording.proofs.WordingLaws.{fine_fits, flawed_refused, room_filled, room_refused}
use Rattle.wording.proofs.records_text.Goals as goal

pub returns-in_err-hindrance : goal.returns-in_err-hindrance
returns-in_err-hindrance c =
    let a = c.args in
    let e = flawed_refused (text_answer (length a.out.now) (wording_of a.records.now)) _ _ (sym c.in_err-hindrance.was ∙ c.hindrance.ensures) in
    record { value = search rules ∙ e; out_after = room_refused a.out.now (wording_of a.records.now) _ _ e }

pub write_text-requires : goal.write_text-requires
write_text-requires c =
    let a = c.args in
    let f = fine_fits (length a.out.now) (wording_of a.records.now) (sym c.in_ok-hindrance.was ∙ c.hindrance.ensures) in
    record { records_value = f.0; records_in_bounds = f.1 }

pub returns : goal.returns
returns c =
    let a = c.args in
    let f = fine_fits (length a.out.now) (wording_of a.records.now) (sym c.in_ok-hindrance.was ∙ c.hindrance.ensures) in
    let w = c.write_text in
    record { value = ap (λ (n : ℕ). Ok n) w.ensures.0 ∙ f.2; out_after = w.ensures.1 ∙ room_filled a.out.now (wording_of a.records.now) f.0 f.1 }
