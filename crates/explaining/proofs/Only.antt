-- No second result of a public function fits its contract: answers, and all lent memory at exit, are determined by what went in.
-- Stated on each contract's own reading, so that it cannot drift from the source.
use mathlib.Core.Path.{◌≡◌, sym, ◌∙◌}
use contract.Lifetimes
use borrow.Fn.World
use borrow.Fn.Kinds
use denote.Triple.Clauses
use Rattle.explaining.specs.contracts.explain as explain-fn
use Rattle.explaining.proofs.explain.Kinds as explain-kinds
use Rattle.explaining.proofs.explain.Reads as explain-reads
use Rattle.explaining.specs.contracts.explain_refusal as explain-refusal-fn
use Rattle.explaining.proofs.explain_refusal.Kinds as explain-refusal-kinds
use Rattle.explaining.proofs.explain_refusal.Reads as explain-refusal-reads
use Rattle.explaining.specs.contracts.explain_cut as explain-cut-fn
use Rattle.explaining.proofs.explain_cut.Kinds as explain-cut-kinds
use Rattle.explaining.proofs.explain_cut.Reads as explain-cut-reads

-- the answer, and the room
pub explain_only :
    (κs : Lifetimes.Lfts 2) (a : World.ArgsD explain-fn.signature κs)
    (r r' : World.ResD explain-fn.signature κs)
    (s s' : Clauses.AtExit (Kinds.ended_of 2 explain-kinds.ps explain-kinds.r) κs)
    → explain-reads.Post κs a r s → explain-reads.Post κs a r' s'
    → (r ≡ r') × (s.1.0.now ≡ s'.1.0.now)
explain_only κs a r r' s s' p q = (p.0 ∙ sym q.0, p.1 ∙ sym q.1)

pub explain_refusal_only :
    (κs : Lifetimes.Lfts 2) (a : World.ArgsD explain-refusal-fn.signature κs)
    (r r' : World.ResD explain-refusal-fn.signature κs)
    (s s' : Clauses.AtExit (Kinds.ended_of 2 explain-refusal-kinds.ps explain-refusal-kinds.r) κs)
    → explain-refusal-reads.Post κs a r s → explain-refusal-reads.Post κs a r' s'
    → (r ≡ r') × (s.1.1.1.0.now ≡ s'.1.1.1.0.now)
explain_refusal_only κs a r r' s s' p q = (p.0 ∙ sym q.0, p.1 ∙ sym q.1)

pub explain_cut_only :
    (κs : Lifetimes.Lfts 1) (a : World.ArgsD explain-cut-fn.signature κs)
    (r r' : World.ResD explain-cut-fn.signature κs)
    (s s' : Clauses.AtExit (Kinds.ended_of 1 explain-cut-kinds.ps explain-cut-kinds.r) κs)
    → explain-cut-reads.Post κs a r s → explain-cut-reads.Post κs a r' s'
    → (r ≡ r') × (s.0.now ≡ s'.0.now)
explain_cut_only κs a r r' s s' p q = (p.0 ∙ sym q.0, p.1 ∙ sym q.1)
