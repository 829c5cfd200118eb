-- No second result of a public function fits its contract: answers, and the room at exit, are determined by what went in.
-- Stated on each contract's own reading, so that it cannot drift from the source.
use mathlib.Core.Path.{◌≡◌, sym, ◌∙◌}
use contract.Lifetimes
use borrow.Fn.World
use borrow.Fn.Kinds
use denote.Triple.Clauses
use Rattle.terms.specs.contracts.is_twelve as is-twelve-fn
use Rattle.terms.proofs.is_twelve.Kinds as is-twelve-kinds
use Rattle.terms.proofs.is_twelve.Reads as is-twelve-reads
use Rattle.terms.specs.contracts.is_two as is-two-fn
use Rattle.terms.proofs.is_two.Kinds as is-two-kinds
use Rattle.terms.proofs.is_two.Reads as is-two-reads
use Rattle.terms.specs.contracts.step as step-fn
use Rattle.terms.proofs.step.Kinds as step-kinds
use Rattle.terms.proofs.step.Reads as step-reads
use Rattle.terms.specs.contracts.term_at as term-at-fn
use Rattle.terms.proofs.term_at.Kinds as term-at-kinds
use Rattle.terms.proofs.term_at.Reads as term-at-reads
use Rattle.terms.specs.contracts.lexical as lexical-fn
use Rattle.terms.proofs.lexical.Kinds as lexical-kinds
use Rattle.terms.proofs.lexical.Reads as lexical-reads
use Rattle.terms.specs.contracts.has_bare as has-bare-fn
use Rattle.terms.proofs.has_bare.Kinds as has-bare-kinds
use Rattle.terms.proofs.has_bare.Reads as has-bare-reads
use Rattle.terms.specs.contracts.has_quote as has-quote-fn
use Rattle.terms.proofs.has_quote.Kinds as has-quote-kinds
use Rattle.terms.proofs.has_quote.Reads as has-quote-reads
use Rattle.terms.specs.contracts.starts_bare as starts-bare-fn
use Rattle.terms.proofs.starts_bare.Kinds as starts-bare-kinds
use Rattle.terms.proofs.starts_bare.Reads as starts-bare-reads
use Rattle.terms.specs.contracts.meant_len as meant-len-fn
use Rattle.terms.proofs.meant_len.Kinds as meant-len-kinds
use Rattle.terms.proofs.meant_len.Reads as meant-len-reads
use Rattle.terms.specs.contracts.put_meant as put-meant-fn
use Rattle.terms.proofs.put_meant.Kinds as put-meant-kinds
use Rattle.terms.proofs.put_meant.Reads as put-meant-reads
use Rattle.terms.specs.contracts.write_meant as write-meant-fn
use Rattle.terms.proofs.write_meant.Kinds as write-meant-kinds
use Rattle.terms.proofs.write_meant.Reads as write-meant-reads

pub is_twelve_only :
    (κs : Lifetimes.Lfts 0) (a : World.ArgsD is-twelve-fn.signature κs)
    (r r' : World.ResD is-twelve-fn.signature κs)
    (s s' : Clauses.AtExit (Kinds.ended_of 0 is-twelve-kinds.ps is-twelve-kinds.r) κs)
    → is-twelve-reads.Post κs a r s → is-twelve-reads.Post κs a r' s'
    → r ≡ r'
is_twelve_only κs a r r' s s' p q = p ∙ sym q

pub is_two_only :
    (κs : Lifetimes.Lfts 0) (a : World.ArgsD is-two-fn.signature κs)
    (r r' : World.ResD is-two-fn.signature κs)
    (s s' : Clauses.AtExit (Kinds.ended_of 0 is-two-kinds.ps is-two-kinds.r) κs)
    → is-two-reads.Post κs a r s → is-two-reads.Post κs a r' s'
    → r ≡ r'
is_two_only κs a r r' s s' p q = p ∙ sym q

pub step_only :
    (κs : Lifetimes.Lfts 0) (a : World.ArgsD step-fn.signature κs)
    (r r' : World.ResD step-fn.signature κs)
    (s s' : Clauses.AtExit (Kinds.ended_of 0 step-kinds.ps step-kinds.r) κs)
    → step-reads.Post κs a r s → step-reads.Post κs a r' s'
    → r ≡ r'
step_only κs a r r' s s' p q = p ∙ sym q

pub term_at_only :
    (κs : Lifetimes.Lfts 1) (a : World.ArgsD term-at-fn.signature κs)
    (r r' : World.ResD term-at-fn.signature κs)
    (s s' : Clauses.AtExit (Kinds.ended_of 1 term-at-kinds.ps term-at-kinds.r) κs)
    → term-at-reads.Post κs a r s → term-at-reads.Post κs a r' s'
    → r ≡ r'
term_at_only κs a r r' s s' p q = p ∙ sym q

pub lexical_only :
    (κs : Lifetimes.Lfts 1) (a : World.ArgsD lexical-fn.signature κs)
    (r r' : World.ResD lexical-fn.signature κs)
    (s s' : Clauses.AtExit (Kinds.ended_of 1 lexical-kinds.ps lexical-kinds.r) κs)
    → lexical-reads.Post κs a r s → lexical-reads.Post κs a r' s'
    → r ≡ r'
lexical_only κs a r r' s s' p q = p ∙ sym q

pub has_bare_only :
    (κs : Lifetimes.Lfts 1) (a : World.ArgsD has-bare-fn.signature κs)
    (r r' : World.ResD has-bare-fn.signature κs)
    (s s' : Clauses.AtExit (Kinds.ended_of 1 has-bare-kinds.ps has-bare-kinds.r) κs)
    → has-bare-reads.Post κs a r s → has-bare-reads.Post κs a r' s'
    → r ≡ r'
has_bare_only κs a r r' s s' p q = p ∙ sym q

pub has_quote_only :
    (κs : Lifetimes.Lfts 1) (a : World.ArgsD has-quote-fn.signature κs)
    (r r' : World.ResD has-quote-fn.signature κs)
    (s s' : Clauses.AtExit (Kinds.ended_of 1 has-quote-kinds.ps has-quote-kinds.r) κs)
    → has-quote-reads.Post κs a r s → has-quote-reads.Post κs a r' s'
    → r ≡ r'
has_quote_only κs a r r' s s' p q = p ∙ sym q

pub starts_bare_only :
    (κs : Lifetimes.Lfts 1) (a : World.ArgsD starts-bare-fn.signature κs)
    (r r' : World.ResD starts-bare-fn.signature κs)
    (s s' : Clauses.AtExit (Kinds.ended_of 1 starts-bare-kinds.ps starts-bare-kinds.r) κs)
    → starts-bare-reads.Post κs a r s → starts-bare-reads.Post κs a r' s'
    → r ≡ r'
starts_bare_only κs a r r' s s' p q = p ∙ sym q

pub meant_len_only :
    (κs : Lifetimes.Lfts 1) (a : World.ArgsD meant-len-fn.signature κs)
    (r r' : World.ResD meant-len-fn.signature κs)
    (s s' : Clauses.AtExit (Kinds.ended_of 1 meant-len-kinds.ps meant-len-kinds.r) κs)
    → meant-len-reads.Post κs a r s → meant-len-reads.Post κs a r' s'
    → r ≡ r'
meant_len_only κs a r r' s s' p q = p ∙ sym q

pub put_meant_only :
    (κs : Lifetimes.Lfts 2) (a : World.ArgsD put-meant-fn.signature κs)
    (r r' : World.ResD put-meant-fn.signature κs)
    (s s' : Clauses.AtExit (Kinds.ended_of 2 put-meant-kinds.ps put-meant-kinds.r) κs)
    → put-meant-reads.Post κs a r s → put-meant-reads.Post κs a r' s'
    → (r ≡ r') × (s.0.now ≡ s'.0.now)
put_meant_only κs a r r' s s' p q = (p.0 ∙ sym q.0, p.1 ∙ sym q.1)

pub write_meant_only :
    (κs : Lifetimes.Lfts 2) (a : World.ArgsD write-meant-fn.signature κs)
    (r r' : World.ResD write-meant-fn.signature κs)
    (s s' : Clauses.AtExit (Kinds.ended_of 2 write-meant-kinds.ps write-meant-kinds.r) κs)
    → write-meant-reads.Post κs a r s → write-meant-reads.Post κs a r' s'
    → (r ≡ r') × (s.1.0.now ≡ s'.1.0.now)
write_meant_only κs a r r' s s' p q = (p.0 ∙ sym q.0, p.1 ∙ sym q.1)
