-- No second result of a public function fits its contract: answers, and all lent memory at exit, are determined by what went in.
-- Stated on each contract's own reading, so that it cannot drift from the source.
use mathlib.Core.Path.{◌≡◌, sym, ◌∙◌}
use contract.Lifetimes
use borrow.Fn.World
use borrow.Fn.Kinds
use denote.Triple.Clauses
use Rattle.lister.specs.contracts.next_answer as next-answer-fn
use Rattle.lister.proofs.next_answer.Kinds as next-answer-kinds
use Rattle.lister.proofs.next_answer.Reads as next-answer-reads
use Rattle.lister.specs.contracts.end_answer as end-answer-fn
use Rattle.lister.proofs.end_answer.Kinds as end-answer-kinds
use Rattle.lister.proofs.end_answer.Reads as end-answer-reads

-- the answer, the line buffer, and the room
pub next_answer_only :
    (κs : Lifetimes.Lfts 3) (a : World.ArgsD next-answer-fn.signature κs)
    (r r' : World.ResD next-answer-fn.signature κs)
    (s s' : Clauses.AtExit (Kinds.ended_of 3 next-answer-kinds.ps next-answer-kinds.r) κs)
    → next-answer-reads.Post κs a r s → next-answer-reads.Post κs a r' s'
    → (r ≡ r') × (s.1.0.now ≡ s'.1.0.now) × (s.1.1.1.0.now ≡ s'.1.1.1.0.now)
next_answer_only κs a r r' s s' p q = (p.0 ∙ sym q.0, p.1.0 ∙ sym q.1.0, p.1.1 ∙ sym q.1.1)

-- the answer, and the room
pub end_answer_only :
    (κs : Lifetimes.Lfts 1) (a : World.ArgsD end-answer-fn.signature κs)
    (r r' : World.ResD end-answer-fn.signature κs)
    (s s' : Clauses.AtExit (Kinds.ended_of 1 end-answer-kinds.ps end-answer-kinds.r) κs)
    → end-answer-reads.Post κs a r s → end-answer-reads.Post κs a r' s'
    → (r ≡ r') × (s.1.0.now ≡ s'.1.0.now)
end_answer_only κs a r r' s s' p q = (p.0 ∙ sym q.0, p.1 ∙ sym q.1)
