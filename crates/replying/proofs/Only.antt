-- No second answer of `write`, and no second content of the room, fits its contract: both are determined by the records, the text and the room at entry.
-- Stated on the contract's own reading, so that it cannot drift from the source.
use mathlib.Core.Path.{◌≡◌, sym, ◌∙◌}
use contract.Lifetimes
use borrow.Fn.World
use borrow.Fn.Kinds
use denote.Triple.Clauses
use Rattle.replying.specs.contracts.write as write-fn
use Rattle.replying.proofs.write.Kinds as write-kinds
use Rattle.replying.proofs.write.Reads as write-reads

pub write_only :
    (κs : Lifetimes.Lfts 3) (a : World.ArgsD write-fn.signature κs)
    (r r' : World.ResD write-fn.signature κs)
    (s s' : Clauses.AtExit (Kinds.ended_of 3 write-kinds.ps write-kinds.r) κs)
    → write-reads.Post κs a r s → write-reads.Post κs a r' s'
    → (r ≡ r') × (s.1.1.0.now ≡ s'.1.1.0.now)
write_only κs a r r' s s' p q = (p.0 ∙ sym q.0, p.1 ∙ sym q.1)
