-- No second result of an exported function fits its contract: answers, and lent memory at exit, are determined by what went in.
-- Stated on each contract's own reading, so that it cannot drift from the source.
use mathlib.Core.Path.{◌≡◌, sym, ◌∙◌}
use contract.Lifetimes
use borrow.Fn.World
use borrow.Fn.Kinds
use denote.Triple.Clauses
use Rattle.clp.specs.contracts.clp_join as clp-join-fn
use Rattle.clp.proofs.clp_join.Kinds as clp-join-kinds
use Rattle.clp.proofs.clp_join.Reads as clp-join-reads
use Rattle.clp.specs.contracts.clp_end as clp-end-fn
use Rattle.clp.proofs.clp_end.Kinds as clp-end-kinds
use Rattle.clp.proofs.clp_end.Reads as clp-end-reads
use Rattle.clp.specs.contracts.clp_next_term as clp-next-term-fn
use Rattle.clp.proofs.clp_next_term.Kinds as clp-next-term-kinds
use Rattle.clp.proofs.clp_next_term.Reads as clp-next-term-reads
use Rattle.clp.specs.contracts.clp_check_tree as clp-check-tree-fn
use Rattle.clp.proofs.clp_check_tree.Kinds as clp-check-tree-kinds
use Rattle.clp.proofs.clp_check_tree.Reads as clp-check-tree-reads
use Rattle.clp.specs.contracts.clp_full_path as clp-full-path-fn
use Rattle.clp.proofs.clp_full_path.Kinds as clp-full-path-kinds
use Rattle.clp.proofs.clp_full_path.Reads as clp-full-path-reads
use Rattle.clp.specs.contracts.clp_resolve as clp-resolve-fn
use Rattle.clp.proofs.clp_resolve.Kinds as clp-resolve-kinds
use Rattle.clp.proofs.clp_resolve.Reads as clp-resolve-reads
use Rattle.clp.specs.contracts.clp_records_text as clp-records-text-fn
use Rattle.clp.proofs.clp_records_text.Kinds as clp-records-text-kinds
use Rattle.clp.proofs.clp_records_text.Reads as clp-records-text-reads
use Rattle.clp.specs.contracts.clp_read as clp-read-fn
use Rattle.clp.proofs.clp_read.Kinds as clp-read-kinds
use Rattle.clp.proofs.clp_read.Reads as clp-read-reads
use Rattle.clp.specs.contracts.clp_target as clp-target-fn
use Rattle.clp.proofs.clp_target.Kinds as clp-target-kinds
use Rattle.clp.proofs.clp_target.Reads as clp-target-reads
use Rattle.clp.specs.contracts.clp_canonical as clp-canonical-fn
use Rattle.clp.proofs.clp_canonical.Kinds as clp-canonical-kinds
use Rattle.clp.proofs.clp_canonical.Reads as clp-canonical-reads
use Rattle.clp.specs.contracts.clp_meant as clp-meant-fn
use Rattle.clp.proofs.clp_meant.Kinds as clp-meant-kinds
use Rattle.clp.proofs.clp_meant.Reads as clp-meant-reads
use Rattle.clp.specs.contracts.clp_list as clp-list-fn
use Rattle.clp.proofs.clp_list.Kinds as clp-list-kinds
use Rattle.clp.proofs.clp_list.Reads as clp-list-reads
use Rattle.clp.specs.contracts.clp_list_end as clp-list-end-fn
use Rattle.clp.proofs.clp_list_end.Kinds as clp-list-end-kinds
use Rattle.clp.proofs.clp_list_end.Reads as clp-list-end-reads
use Rattle.clp.specs.contracts.clp_read_reply as clp-read-reply-fn
use Rattle.clp.proofs.clp_read_reply.Kinds as clp-read-reply-kinds
use Rattle.clp.proofs.clp_read_reply.Reads as clp-read-reply-reads
use Rattle.clp.specs.contracts.clp_write_reply as clp-write-reply-fn
use Rattle.clp.proofs.clp_write_reply.Kinds as clp-write-reply-kinds
use Rattle.clp.proofs.clp_write_reply.Reads as clp-write-reply-reads
use Rattle.clp.specs.contracts.clp_reply_value as clp-reply-value-fn
use Rattle.clp.proofs.clp_reply_value.Kinds as clp-reply-value-kinds
use Rattle.clp.proofs.clp_reply_value.Reads as clp-reply-value-reads

pub clp_join_only :
    (κs : Lifetimes.Lfts 2) (a : World.ArgsD clp-join-fn.signature κs)
    (r r' : World.ResD clp-join-fn.signature κs)
    (s s' : Clauses.AtExit (Kinds.ended_of 2 clp-join-kinds.ps clp-join-kinds.r) κs)
    → clp-join-reads.Post κs a r s → clp-join-reads.Post κs a r' s'
    → (r ≡ r') × (s.1.0.now ≡ s'.1.0.now)
clp_join_only κs a r r' s s' p q = (p.0 ∙ sym q.0, p.1 ∙ sym q.1)

pub clp_end_only :
    (κs : Lifetimes.Lfts 0) (a : World.ArgsD clp-end-fn.signature κs)
    (r r' : World.ResD clp-end-fn.signature κs)
    (s s' : Clauses.AtExit (Kinds.ended_of 0 clp-end-kinds.ps clp-end-kinds.r) κs)
    → clp-end-reads.Post κs a r s → clp-end-reads.Post κs a r' s'
    → r ≡ r'
clp_end_only κs a r r' s s' p q = p ∙ sym q

pub clp_next_term_only :
    (κs : Lifetimes.Lfts 1) (a : World.ArgsD clp-next-term-fn.signature κs)
    (r r' : World.ResD clp-next-term-fn.signature κs)
    (s s' : Clauses.AtExit (Kinds.ended_of 1 clp-next-term-kinds.ps clp-next-term-kinds.r) κs)
    → clp-next-term-reads.Post κs a r s → clp-next-term-reads.Post κs a r' s'
    → r ≡ r'
clp_next_term_only κs a r r' s s' p q = p ∙ sym q

pub clp_check_tree_only :
    (κs : Lifetimes.Lfts 1) (a : World.ArgsD clp-check-tree-fn.signature κs)
    (r r' : World.ResD clp-check-tree-fn.signature κs)
    (s s' : Clauses.AtExit (Kinds.ended_of 1 clp-check-tree-kinds.ps clp-check-tree-kinds.r) κs)
    → clp-check-tree-reads.Post κs a r s → clp-check-tree-reads.Post κs a r' s'
    → r ≡ r'
clp_check_tree_only κs a r r' s s' p q = p ∙ sym q

pub clp_full_path_only :
    (κs : Lifetimes.Lfts 2) (a : World.ArgsD clp-full-path-fn.signature κs)
    (r r' : World.ResD clp-full-path-fn.signature κs)
    (s s' : Clauses.AtExit (Kinds.ended_of 2 clp-full-path-kinds.ps clp-full-path-kinds.r) κs)
    → clp-full-path-reads.Post κs a r s → clp-full-path-reads.Post κs a r' s'
    → (r ≡ r') × (s.1.1.0.now ≡ s'.1.1.0.now)
clp_full_path_only κs a r r' s s' p q = (p.0 ∙ sym q.0, p.1 ∙ sym q.1)

pub clp_resolve_only :
    (κs : Lifetimes.Lfts 3) (a : World.ArgsD clp-resolve-fn.signature κs)
    (r r' : World.ResD clp-resolve-fn.signature κs)
    (s s' : Clauses.AtExit (Kinds.ended_of 3 clp-resolve-kinds.ps clp-resolve-kinds.r) κs)
    → clp-resolve-reads.Post κs a r s → clp-resolve-reads.Post κs a r' s'
    → (r ≡ r') × (s.1.1.1.0.now ≡ s'.1.1.1.0.now)
clp_resolve_only κs a r r' s s' p q = (p.0 ∙ sym q.0, p.1 ∙ sym q.1)

pub clp_records_text_only :
    (κs : Lifetimes.Lfts 2) (a : World.ArgsD clp-records-text-fn.signature κs)
    (r r' : World.ResD clp-records-text-fn.signature κs)
    (s s' : Clauses.AtExit (Kinds.ended_of 2 clp-records-text-kinds.ps clp-records-text-kinds.r) κs)
    → clp-records-text-reads.Post κs a r s → clp-records-text-reads.Post κs a r' s'
    → (r ≡ r') × (s.1.0.now ≡ s'.1.0.now)
clp_records_text_only κs a r r' s s' p q = (p.0 ∙ sym q.0, p.1 ∙ sym q.1)

pub clp_read_only :
    (κs : Lifetimes.Lfts 2) (a : World.ArgsD clp-read-fn.signature κs)
    (r r' : World.ResD clp-read-fn.signature κs)
    (s s' : Clauses.AtExit (Kinds.ended_of 2 clp-read-kinds.ps clp-read-kinds.r) κs)
    → clp-read-reads.Post κs a r s → clp-read-reads.Post κs a r' s'
    → (r ≡ r') × (s.1.0.now ≡ s'.1.0.now)
clp_read_only κs a r r' s s' p q = (p.0 ∙ sym q.0, p.1 ∙ sym q.1)

pub clp_target_only :
    (κs : Lifetimes.Lfts 1) (a : World.ArgsD clp-target-fn.signature κs)
    (r r' : World.ResD clp-target-fn.signature κs)
    (s s' : Clauses.AtExit (Kinds.ended_of 1 clp-target-kinds.ps clp-target-kinds.r) κs)
    → clp-target-reads.Post κs a r s → clp-target-reads.Post κs a r' s'
    → r ≡ r'
clp_target_only κs a r r' s s' p q = p ∙ sym q

pub clp_canonical_only :
    (κs : Lifetimes.Lfts 2) (a : World.ArgsD clp-canonical-fn.signature κs)
    (r r' : World.ResD clp-canonical-fn.signature κs)
    (s s' : Clauses.AtExit (Kinds.ended_of 2 clp-canonical-kinds.ps clp-canonical-kinds.r) κs)
    → clp-canonical-reads.Post κs a r s → clp-canonical-reads.Post κs a r' s'
    → (r ≡ r') × (s.1.0.now ≡ s'.1.0.now)
clp_canonical_only κs a r r' s s' p q = (p.0 ∙ sym q.0, p.1 ∙ sym q.1)

pub clp_meant_only :
    (κs : Lifetimes.Lfts 2) (a : World.ArgsD clp-meant-fn.signature κs)
    (r r' : World.ResD clp-meant-fn.signature κs)
    (s s' : Clauses.AtExit (Kinds.ended_of 2 clp-meant-kinds.ps clp-meant-kinds.r) κs)
    → clp-meant-reads.Post κs a r s → clp-meant-reads.Post κs a r' s'
    → (r ≡ r') × (s.1.0.now ≡ s'.1.0.now)
clp_meant_only κs a r r' s s' p q = (p.0 ∙ sym q.0, p.1 ∙ sym q.1)

pub clp_list_only :
    (κs : Lifetimes.Lfts 3) (a : World.ArgsD clp-list-fn.signature κs)
    (r r' : World.ResD clp-list-fn.signature κs)
    (s s' : Clauses.AtExit (Kinds.ended_of 3 clp-list-kinds.ps clp-list-kinds.r) κs)
    → clp-list-reads.Post κs a r s → clp-list-reads.Post κs a r' s'
    → (r ≡ r') × (s.1.0.now ≡ s'.1.0.now) × (s.1.1.1.0.now ≡ s'.1.1.1.0.now)
clp_list_only κs a r r' s s' p q = (p.0 ∙ sym q.0, p.1.0 ∙ sym q.1.0, p.1.1 ∙ sym q.1.1)

pub clp_list_end_only :
    (κs : Lifetimes.Lfts 1) (a : World.ArgsD clp-list-end-fn.signature κs)
    (r r' : World.ResD clp-list-end-fn.signature κs)
    (s s' : Clauses.AtExit (Kinds.ended_of 1 clp-list-end-kinds.ps clp-list-end-kinds.r) κs)
    → clp-list-end-reads.Post κs a r s → clp-list-end-reads.Post κs a r' s'
    → (r ≡ r') × (s.1.0.now ≡ s'.1.0.now)
clp_list_end_only κs a r r' s s' p q = (p.0 ∙ sym q.0, p.1 ∙ sym q.1)

pub clp_read_reply_only :
    (κs : Lifetimes.Lfts 2) (a : World.ArgsD clp-read-reply-fn.signature κs)
    (r r' : World.ResD clp-read-reply-fn.signature κs)
    (s s' : Clauses.AtExit (Kinds.ended_of 2 clp-read-reply-kinds.ps clp-read-reply-kinds.r) κs)
    → clp-read-reply-reads.Post κs a r s → clp-read-reply-reads.Post κs a r' s'
    → (r ≡ r') × (s.1.0.now ≡ s'.1.0.now)
clp_read_reply_only κs a r r' s s' p q = (p.0 ∙ sym q.0, p.1 ∙ sym q.1)

pub clp_write_reply_only :
    (κs : Lifetimes.Lfts 3) (a : World.ArgsD clp-write-reply-fn.signature κs)
    (r r' : World.ResD clp-write-reply-fn.signature κs)
    (s s' : Clauses.AtExit (Kinds.ended_of 3 clp-write-reply-kinds.ps clp-write-reply-kinds.r) κs)
    → clp-write-reply-reads.Post κs a r s → clp-write-reply-reads.Post κs a r' s'
    → (r ≡ r') × (s.1.1.0.now ≡ s'.1.1.0.now)
clp_write_reply_only κs a r r' s s' p q = (p.0 ∙ sym q.0, p.1 ∙ sym q.1)

pub clp_reply_value_only :
    (κs : Lifetimes.Lfts 2) (a : World.ArgsD clp-reply-value-fn.signature κs)
    (r r' : World.ResD clp-reply-value-fn.signature κs)
    (s s' : Clauses.AtExit (Kinds.ended_of 2 clp-reply-value-kinds.ps clp-reply-value-kinds.r) κs)
    → clp-reply-value-reads.Post κs a r s → clp-reply-value-reads.Post κs a r' s'
    → (r ≡ r') × (s.1.0.now ≡ s'.1.0.now)
clp_reply_value_only κs a r r' s s' p q = (p.0 ∙ sym q.0, p.1 ∙ sym q.1)
