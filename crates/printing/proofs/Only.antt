-- No second result of a public function fits its contract: answers, and all lent memory at exit, are determined by what went in.
-- Stated on the contract's own reading, so that it cannot drift from the source.
use mathlib.Core.Path.{◌≡◌, sym, ◌∙◌}
use contract.Lifetimes
use borrow.Fn.World
use borrow.Fn.Kinds
use denote.Triple.Clauses
use Rattle.printing.specs.contracts.print_part as print-part-fn
use Rattle.printing.proofs.print_part.Kinds as print-part-kinds
use Rattle.printing.proofs.print_part.Reads as print-part-reads

-- the answer, the line buffer, and the room for the text
pub print_part_only :
    (κs : Lifetimes.Lfts 3) (a : World.ArgsD print-part-fn.signature κs)
    (r r' : World.ResD print-part-fn.signature κs)
    (s s' : Clauses.AtExit (Kinds.ended_of 3 print-part-kinds.ps print-part-kinds.r) κs)
    → print-part-reads.Post κs a r s → print-part-reads.Post κs a r' s'
    → (r ≡ r') × (s.1.0.now ≡ s'.1.0.now) × (s.1.1.1.0.now ≡ s'.1.1.1.0.now)
print_part_only κs a r r' s s' p q = (p.0 ∙ sym q.0, p.1.0 ∙ sym q.1.0, p.1.1 ∙ sym q.1.1)
