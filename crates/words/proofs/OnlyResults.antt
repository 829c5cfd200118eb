-- No second result of a public function fits its contract: answers, and the room at exit, are determined by what went in.
-- Stated on each contract's own reading, so that it cannot drift from the source.
use mathlib.Core.Path.{◌≡◌, sym, ◌∙◌}
use contract.Lifetimes
use borrow.Fn.World
use borrow.Fn.Kinds
use denote.Triple.Clauses
use Rattle.words.specs.contracts.verb as verb-fn
use Rattle.words.proofs.verb.Kinds as verb-kinds
use Rattle.words.proofs.verb.Reads as verb-reads
use Rattle.words.specs.contracts.is_session as is-session-fn
use Rattle.words.proofs.is_session.Kinds as is-session-kinds
use Rattle.words.proofs.is_session.Reads as is-session-reads
use Rattle.words.specs.contracts.is_all as is-all-fn
use Rattle.words.proofs.is_all.Kinds as is-all-kinds
use Rattle.words.proofs.is_all.Reads as is-all-reads
use Rattle.words.specs.contracts.option as option-fn
use Rattle.words.proofs.option.Kinds as option-kinds
use Rattle.words.proofs.option.Reads as option-reads
use Rattle.words.specs.contracts.kind_of as kind-of-fn
use Rattle.words.proofs.kind_of.Kinds as kind-of-kinds
use Rattle.words.proofs.kind_of.Reads as kind-of-reads
use Rattle.words.specs.contracts.put_verb_name as put-verb-name-fn
use Rattle.words.proofs.put_verb_name.Kinds as put-verb-name-kinds
use Rattle.words.proofs.put_verb_name.Reads as put-verb-name-reads
use Rattle.words.specs.contracts.put_option_name as put-option-name-fn
use Rattle.words.proofs.put_option_name.Kinds as put-option-name-kinds
use Rattle.words.proofs.put_option_name.Reads as put-option-name-reads
use Rattle.words.specs.contracts.body_len as body-len-fn
use Rattle.words.proofs.body_len.Kinds as body-len-kinds
use Rattle.words.proofs.body_len.Reads as body-len-reads
use Rattle.words.specs.contracts.record_len as record-len-fn
use Rattle.words.proofs.record_len.Kinds as record-len-kinds
use Rattle.words.proofs.record_len.Reads as record-len-reads
use Rattle.words.specs.contracts.lower as lower-fn
use Rattle.words.proofs.lower.Kinds as lower-kinds
use Rattle.words.proofs.lower.Reads as lower-reads

pub verb_only :
    (κs : Lifetimes.Lfts 1) (a : World.ArgsD verb-fn.signature κs)
    (r r' : World.ResD verb-fn.signature κs)
    (s s' : Clauses.AtExit (Kinds.ended_of 1 verb-kinds.ps verb-kinds.r) κs)
    → verb-reads.Post κs a r s → verb-reads.Post κs a r' s'
    → r ≡ r'
verb_only κs a r r' s s' p q = p ∙ sym q

pub is_session_only :
    (κs : Lifetimes.Lfts 1) (a : World.ArgsD is-session-fn.signature κs)
    (r r' : World.ResD is-session-fn.signature κs)
    (s s' : Clauses.AtExit (Kinds.ended_of 1 is-session-kinds.ps is-session-kinds.r) κs)
    → is-session-reads.Post κs a r s → is-session-reads.Post κs a r' s'
    → r ≡ r'
is_session_only κs a r r' s s' p q = p ∙ sym q

pub is_all_only :
    (κs : Lifetimes.Lfts 1) (a : World.ArgsD is-all-fn.signature κs)
    (r r' : World.ResD is-all-fn.signature κs)
    (s s' : Clauses.AtExit (Kinds.ended_of 1 is-all-kinds.ps is-all-kinds.r) κs)
    → is-all-reads.Post κs a r s → is-all-reads.Post κs a r' s'
    → r ≡ r'
is_all_only κs a r r' s s' p q = p ∙ sym q

pub option_only :
    (κs : Lifetimes.Lfts 1) (a : World.ArgsD option-fn.signature κs)
    (r r' : World.ResD option-fn.signature κs)
    (s s' : Clauses.AtExit (Kinds.ended_of 1 option-kinds.ps option-kinds.r) κs)
    → option-reads.Post κs a r s → option-reads.Post κs a r' s'
    → r ≡ r'
option_only κs a r r' s s' p q = p ∙ sym q

pub kind_of_only :
    (κs : Lifetimes.Lfts 0) (a : World.ArgsD kind-of-fn.signature κs)
    (r r' : World.ResD kind-of-fn.signature κs)
    (s s' : Clauses.AtExit (Kinds.ended_of 0 kind-of-kinds.ps kind-of-kinds.r) κs)
    → kind-of-reads.Post κs a r s → kind-of-reads.Post κs a r' s'
    → r ≡ r'
kind_of_only κs a r r' s s' p q = p ∙ sym q

pub put_verb_name_only :
    (κs : Lifetimes.Lfts 1) (a : World.ArgsD put-verb-name-fn.signature κs)
    (r r' : World.ResD put-verb-name-fn.signature κs)
    (s s' : Clauses.AtExit (Kinds.ended_of 1 put-verb-name-kinds.ps put-verb-name-kinds.r) κs)
    → put-verb-name-reads.Post κs a r s → put-verb-name-reads.Post κs a r' s'
    → (r ≡ r') × (s.0.now ≡ s'.0.now)
put_verb_name_only κs a r r' s s' p q = (p.0 ∙ sym q.0, p.1 ∙ sym q.1)

pub put_option_name_only :
    (κs : Lifetimes.Lfts 1) (a : World.ArgsD put-option-name-fn.signature κs)
    (r r' : World.ResD put-option-name-fn.signature κs)
    (s s' : Clauses.AtExit (Kinds.ended_of 1 put-option-name-kinds.ps put-option-name-kinds.r) κs)
    → put-option-name-reads.Post κs a r s → put-option-name-reads.Post κs a r' s'
    → (r ≡ r') × (s.0.now ≡ s'.0.now)
put_option_name_only κs a r r' s s' p q = (p.0 ∙ sym q.0, p.1 ∙ sym q.1)

pub body_len_only :
    (κs : Lifetimes.Lfts 0) (a : World.ArgsD body-len-fn.signature κs)
    (r r' : World.ResD body-len-fn.signature κs)
    (s s' : Clauses.AtExit (Kinds.ended_of 0 body-len-kinds.ps body-len-kinds.r) κs)
    → body-len-reads.Post κs a r s → body-len-reads.Post κs a r' s'
    → r ≡ r'
body_len_only κs a r r' s s' p q = p ∙ sym q

pub record_len_only :
    (κs : Lifetimes.Lfts 0) (a : World.ArgsD record-len-fn.signature κs)
    (r r' : World.ResD record-len-fn.signature κs)
    (s s' : Clauses.AtExit (Kinds.ended_of 0 record-len-kinds.ps record-len-kinds.r) κs)
    → record-len-reads.Post κs a r s → record-len-reads.Post κs a r' s'
    → r ≡ r'
record_len_only κs a r r' s s' p q = p ∙ sym q

pub lower_only :
    (κs : Lifetimes.Lfts 0) (a : World.ArgsD lower-fn.signature κs)
    (r r' : World.ResD lower-fn.signature κs)
    (s s' : Clauses.AtExit (Kinds.ended_of 0 lower-kinds.ps lower-kinds.r) κs)
    → lower-reads.Post κs a r s → lower-reads.Post κs a r' s'
    → r ≡ r'
lower_only κs a r r' s s' p q = p ∙ sym q
