-- No second result of a public function fits its contract: the answer, and what the lent room then holds, are determined by what went in.
-- Stated on each contract's own reading, so that it cannot drift from the source.
use mathlib.Core.Path.{◌≡◌, sym, ◌∙◌}
use contract.Lifetimes
use borrow.Fn.World
use borrow.Fn.Kinds
use denote.Triple.Clauses
use Rattle.replies.specs.contracts.is_end as is-end-fn
use Rattle.replies.proofs.is_end.Kinds as is-end-kinds
use Rattle.replies.proofs.is_end.Reads as is-end-reads
use Rattle.replies.specs.contracts.begins_quote as begins-quote-fn
use Rattle.replies.proofs.begins_quote.Kinds as begins-quote-kinds
use Rattle.replies.proofs.begins_quote.Reads as begins-quote-reads
use Rattle.replies.specs.contracts.is_keyword as is-keyword-fn
use Rattle.replies.proofs.is_keyword.Kinds as is-keyword-kinds
use Rattle.replies.proofs.is_keyword.Reads as is-keyword-reads
use Rattle.replies.specs.contracts.read as read-fn
use Rattle.replies.proofs.read.Kinds as read-kinds
use Rattle.replies.proofs.read.Reads as read-reads
use Rattle.replies.specs.contracts.value as value-fn
use Rattle.replies.proofs.value.Kinds as value-kinds
use Rattle.replies.proofs.value.Reads as value-reads

pub is_end_only :
    (κs : Lifetimes.Lfts 0) (a : World.ArgsD is-end-fn.signature κs)
    (r r' : World.ResD is-end-fn.signature κs)
    (s s' : Clauses.AtExit (Kinds.ended_of 0 is-end-kinds.ps is-end-kinds.r) κs)
    → is-end-reads.Post κs a r s → is-end-reads.Post κs a r' s'
    → r ≡ r'
is_end_only κs a r r' s s' p q = p ∙ sym q

pub begins_quote_only :
    (κs : Lifetimes.Lfts 1) (a : World.ArgsD begins-quote-fn.signature κs)
    (r r' : World.ResD begins-quote-fn.signature κs)
    (s s' : Clauses.AtExit (Kinds.ended_of 1 begins-quote-kinds.ps begins-quote-kinds.r) κs)
    → begins-quote-reads.Post κs a r s → begins-quote-reads.Post κs a r' s'
    → r ≡ r'
begins_quote_only κs a r r' s s' p q = p ∙ sym q

pub is_keyword_only :
    (κs : Lifetimes.Lfts 1) (a : World.ArgsD is-keyword-fn.signature κs)
    (r r' : World.ResD is-keyword-fn.signature κs)
    (s s' : Clauses.AtExit (Kinds.ended_of 1 is-keyword-kinds.ps is-keyword-kinds.r) κs)
    → is-keyword-reads.Post κs a r s → is-keyword-reads.Post κs a r' s'
    → r ≡ r'
is_keyword_only κs a r r' s s' p q = p ∙ sym q

pub read_only :
    (κs : Lifetimes.Lfts 2) (a : World.ArgsD read-fn.signature κs)
    (r r' : World.ResD read-fn.signature κs)
    (s s' : Clauses.AtExit (Kinds.ended_of 2 read-kinds.ps read-kinds.r) κs)
    → read-reads.Post κs a r s → read-reads.Post κs a r' s'
    → (r ≡ r') × (s.1.0.now ≡ s'.1.0.now)
read_only κs a r r' s s' p q = (p.0 ∙ sym q.0, p.1 ∙ sym q.1)

pub value_only :
    (κs : Lifetimes.Lfts 2) (a : World.ArgsD value-fn.signature κs)
    (r r' : World.ResD value-fn.signature κs)
    (s s' : Clauses.AtExit (Kinds.ended_of 2 value-kinds.ps value-kinds.r) κs)
    → value-reads.Post κs a r s → value-reads.Post κs a r' s'
    → (r ≡ r') × (s.1.0.now ≡ s'.1.0.now)
value_only κs a r r' s s' p q = (p.0 ∙ sym q.0, p.1 ∙ sym q.1)
