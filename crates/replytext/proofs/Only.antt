-- No second result of `record_text`, and no second content of the room, fits its contract: both are determined by the record and the room at entry.
-- Stated on the contract's own reading, so that it cannot drift from the source.
use mathlib.Core.Path.{◌≡◌, sym, ◌∙◌}
use contract.Lifetimes
use borrow.Fn.World
use borrow.Fn.Kinds
use denote.Triple.Clauses
use Rattle.replytext.specs.contracts.record_text as record-text-fn
use Rattle.replytext.proofs.record_text.Kinds as record-text-kinds
use Rattle.replytext.proofs.record_text.Reads as record-text-reads

pub record_text_only :
    (κs : Lifetimes.Lfts 2) (a : World.ArgsD record-text-fn.signature κs)
    (r r' : World.ResD record-text-fn.signature κs)
    (s s' : Clauses.AtExit (Kinds.ended_of 2 record-text-kinds.ps record-text-kinds.r) κs)
    → record-text-reads.Post κs a r s → record-text-reads.Post κs a r' s'
    → (r ≡ r') × (s.1.0.now ≡ s'.1.0.now)
record_text_only κs a r r' s s' p q = (p.0 ∙ sym q.0, p.1 ∙ sym q.1)
