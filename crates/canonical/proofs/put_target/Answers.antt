use Prim.Native.Nat.{ℕ}
use mathlib.Core.Path.{sym, ap}
use mathlib.Core.List.{[], ◌∷◌}
use Rattle.words.proofs.Pens.{more, nothing_put, still_within, as_text}
use Rattle.canonical.proofs.WriteLaws.{slashed_on, slashed_past}
use Rattle.canonical.proofs.put_target.Goals as goal

pub loop-b-preserved : goal.loop-b-preserved
loop-b-preserved c = (λ end p. c.loop-b.invariant.0 end (as_text (sym (slashed_on c.args.s.now c.loop-b.b-index c.loop-b-test.true)) (more (as_text (ap (λ (b : ℕ). b ∷ []) c.slash.ensures) c.byte.ensures) p)), still_within c.byte.ensures)

pub returns : goal.returns
returns c = c.loop-b.invariant.0 _ (as_text (sym (slashed_past c.args.s.now c.loop-b.b-index c.loop-b-test.false)) (nothing_put c.loop-b.invariant.1))
