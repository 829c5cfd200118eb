-- No second result of a public function fits its contract: answers, and the room at exit, are determined by what went in.
-- Stated on each contract's own reading, so that it cannot drift from the source.
use mathlib.Core.Path.{◌≡◌, sym, ap, ◌∙◌}
use Rattle.reading.specs.Cursor.{Step}
use contract.Lifetimes
use borrow.Fn.World
use borrow.Fn.Kinds
use denote.Triple.Clauses
use Rattle.reading.specs.contracts.Cursor.begin as begin-fn
use Rattle.reading.proofs.Cursor.begin.Kinds as begin-kinds
use Rattle.reading.proofs.Cursor.begin.Reads as begin-reads
use Rattle.reading.specs.contracts.Cursor.next as next-fn
use Rattle.reading.proofs.Cursor.next.Kinds as next-kinds
use Rattle.reading.proofs.Cursor.next.Reads as next-reads
use Rattle.reading.specs.contracts.verdict as verdict-fn
use Rattle.reading.proofs.verdict.Kinds as verdict-kinds
use Rattle.reading.proofs.verdict.Reads as verdict-reads
use Rattle.reading.specs.contracts.read as read-fn
use Rattle.reading.proofs.read.Kinds as read-kinds
use Rattle.reading.proofs.read.Reads as read-reads
use Rattle.reading.specs.contracts.target_span as target-span-fn
use Rattle.reading.proofs.target_span.Kinds as target-span-kinds
use Rattle.reading.proofs.target_span.Reads as target-span-reads
use Rattle.reading.specs.contracts.target as target-fn
use Rattle.reading.proofs.target.Kinds as target-kinds
use Rattle.reading.proofs.target.Reads as target-reads
use Rattle.reading.specs.contracts.put_refusal as put-refusal-fn
use Rattle.reading.proofs.put_refusal.Kinds as put-refusal-kinds
use Rattle.reading.proofs.put_refusal.Reads as put-refusal-reads
use Rattle.reading.specs.contracts.put_cut as put-cut-fn
use Rattle.reading.proofs.put_cut.Kinds as put-cut-kinds
use Rattle.reading.proofs.put_cut.Reads as put-cut-reads

pub begin_only :
    (κs : Lifetimes.Lfts 0) (a : World.ArgsD begin-fn.signature κs)
    (r r' : World.ResD begin-fn.signature κs)
    (s s' : Clauses.AtExit (Kinds.ended_of 0 begin-kinds.ps begin-kinds.r) κs)
    → begin-reads.Post κs a r s → begin-reads.Post κs a r' s'
    → r ≡ r'
begin_only κs a r r' s s' p q = p ∙ sym q

pub next_only :
    (κs : Lifetimes.Lfts 2) (a : World.ArgsD next-fn.signature κs)
    (r r' : World.ResD next-fn.signature κs)
    (s s' : Clauses.AtExit (Kinds.ended_of 2 next-kinds.ps next-kinds.r) κs)
    → next-reads.Post κs a r s → next-reads.Post κs a r' s'
    → (r ≡ r') × (s.0.now ≡ s'.0.now)
next_only κs a r r' s s' p q = let e = p ∙ sym q in (ap (λ (t : Step). t.offer) e, ap (λ (t : Step). t.next) e)

pub verdict_only :
    (κs : Lifetimes.Lfts 1) (a : World.ArgsD verdict-fn.signature κs)
    (r r' : World.ResD verdict-fn.signature κs)
    (s s' : Clauses.AtExit (Kinds.ended_of 1 verdict-kinds.ps verdict-kinds.r) κs)
    → verdict-reads.Post κs a r s → verdict-reads.Post κs a r' s'
    → r ≡ r'
verdict_only κs a r r' s s' p q = p ∙ sym q

pub read_only :
    (κs : Lifetimes.Lfts 2) (a : World.ArgsD read-fn.signature κs)
    (r r' : World.ResD read-fn.signature κs)
    (s s' : Clauses.AtExit (Kinds.ended_of 2 read-kinds.ps read-kinds.r) κs)
    → read-reads.Post κs a r s → read-reads.Post κs a r' s'
    → (r ≡ r') × (s.1.0.now ≡ s'.1.0.now)
read_only κs a r r' s s' p q = (p.0 ∙ sym q.0, p.1 ∙ sym q.1)

pub target_span_only :
    (κs : Lifetimes.Lfts 1) (a : World.ArgsD target-span-fn.signature κs)
    (r r' : World.ResD target-span-fn.signature κs)
    (s s' : Clauses.AtExit (Kinds.ended_of 1 target-span-kinds.ps target-span-kinds.r) κs)
    → target-span-reads.Post κs a r s → target-span-reads.Post κs a r' s'
    → r ≡ r'
target_span_only κs a r r' s s' p q = p ∙ sym q

pub target_only :
    (κs : Lifetimes.Lfts 1) (a : World.ArgsD target-fn.signature κs)
    (r r' : World.ResD target-fn.signature κs)
    (s s' : Clauses.AtExit (Kinds.ended_of 1 target-kinds.ps target-kinds.r) κs)
    → target-reads.Post κs a r s → target-reads.Post κs a r' s'
    → r.now ≡ r'.now
target_only κs a r r' s s' p q = p ∙ sym q

pub put_refusal_only :
    (κs : Lifetimes.Lfts 1) (a : World.ArgsD put-refusal-fn.signature κs)
    (r r' : World.ResD put-refusal-fn.signature κs)
    (s s' : Clauses.AtExit (Kinds.ended_of 1 put-refusal-kinds.ps put-refusal-kinds.r) κs)
    → put-refusal-reads.Post κs a r s → put-refusal-reads.Post κs a r' s'
    → (r ≡ r') × (s.0.now ≡ s'.0.now)
put_refusal_only κs a r r' s s' p q = (p.0 ∙ sym q.0, p.1 ∙ sym q.1)

pub put_cut_only :
    (κs : Lifetimes.Lfts 1) (a : World.ArgsD put-cut-fn.signature κs)
    (r r' : World.ResD put-cut-fn.signature κs)
    (s s' : Clauses.AtExit (Kinds.ended_of 1 put-cut-kinds.ps put-cut-kinds.r) κs)
    → put-cut-reads.Post κs a r s → put-cut-reads.Post κs a r' s'
    → (r ≡ r') × (s.0.now ≡ s'.0.now)
put_cut_only κs a r r' s s' p q = (p.0 ∙ sym q.0, p.1 ∙ sym q.1)
