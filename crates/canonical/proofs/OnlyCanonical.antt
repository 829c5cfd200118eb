-- No second answer of `canonical`, and no second content of the room, fits its contract: both are determined by the line and the room at entry.
-- Stated on the contract's own reading, so that it cannot drift from the source.
use mathlib.Core.Path.{◌≡◌, sym, ◌∙◌}
use contract.Lifetimes
use borrow.Fn.World
use borrow.Fn.Kinds
use denote.Triple.Clauses
use Rattle.canonical.specs.contracts.canonical as canonical-fn
use Rattle.canonical.proofs.canonical.Kinds as canonical-kinds
use Rattle.canonical.proofs.canonical.Reads as canonical-reads

pub canonical_only :
    (κs : Lifetimes.Lfts 2) (a : World.ArgsD canonical-fn.signature κs)
    (r r' : World.ResD canonical-fn.signature κs)
    (s s' : Clauses.AtExit (Kinds.ended_of 2 canonical-kinds.ps canonical-kinds.r) κs)
    → canonical-reads.Post κs a r s → canonical-reads.Post κs a r' s'
    → (r ≡ r') × (s.1.0.now ≡ s'.1.0.now)
canonical_only κs a r r' s s' p q = (p.0 ∙ sym q.0, p.1 ∙ sym q.1)
