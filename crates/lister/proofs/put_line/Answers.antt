-- `lister::put_line` meets its contract.
use mathlib.Core.Path.{sym, ◌∙◌}
use Prim.Native.Nat.{ℕ, ◌≤◌}
use native.Mathlib.Omega.{arith}
use mathlib.Core.Path.{subst}
use Rattle.lister.proofs.ListLaws.{line_place, line_wrote, line_listed}
use Rattle.lister.proofs.put_line.Goals as goal

pub put_refused-requires : goal.put_refused-requires
put_refused-requires c =
    let a = c.args in let r = c.read in
    record { in_bounds = subst (λ (n : ℕ). 4 ≤ n) (sym r.auto.out) (omega (arith, c.requires)); place_bound = line_place a.line.now a.room.now c.requires _ _ (sym c.in-Err.is ∙ r.ensures.0) }

pub returns-in-Ok : goal.returns-in-Ok
returns-in-Ok c = let a = c.args in let r = c.read in line_wrote a.line.now a.room.now c.requires _ r.new.out (sym c.in-Ok.is ∙ r.ensures.0) r.ensures.1

pub returns-in-Err : goal.returns-in-Err
returns-in-Err c =
    let a = c.args in let r = c.read in let p = c.put_refused in
    line_listed a.line.now a.room.now c.requires _ _ r.new.out p.new.room p.result (sym c.in-Err.is ∙ r.ensures.0) r.ensures.1 p.ensures.0 p.ensures.1
