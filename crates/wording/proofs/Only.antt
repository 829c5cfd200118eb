-- No second result of a public function fits its contract: answers, and all lent memory at exit, are determined by what went in.
-- Stated on each contract's own reading, so that it cannot drift from the source.
use mathlib.Core.Path.{◌≡◌, sym, ◌∙◌}
use contract.Lifetimes
use borrow.Fn.World
use borrow.Fn.Kinds
use denote.Triple.Clauses
use Rattle.wording.specs.contracts.records_text as records-text-fn
use Rattle.wording.proofs.records_text.Kinds as records-text-kinds
use Rattle.wording.proofs.records_text.Reads as records-text-reads

-- the answer, and the room
pub records_text_only :
    (κs : Lifetimes.Lfts 2) (a : World.ArgsD records-text-fn.signature κs)
    (r r' : World.ResD records-text-fn.signature κs)
    (s s' : Clauses.AtExit (Kinds.ended_of 2 records-text-kinds.ps records-text-kinds.r) κs)
    → records-text-reads.Post κs a r s → records-text-reads.Post κs a r' s'
    → (r ≡ r') × (s.1.0.now ≡ s'.1.0.now)
records_text_only κs a r r' s s' p q = (p.0 ∙ sym q.0, p.1 ∙ sym q.1)
