-- No second result of a public function fits its contract: the answer is determined by what went in.
-- Stated on each contract's own reading, so that it cannot drift from the source.
use mathlib.Core.Path.{◌≡◌, sym, ◌∙◌}
use contract.Lifetimes
use borrow.Fn.World
use borrow.Fn.Kinds
use denote.Triple.Clauses
use Rattle.forms.specs.contracts.segment_at as segment-at-fn
use Rattle.forms.proofs.segment_at.Kinds as segment-at-kinds
use Rattle.forms.proofs.segment_at.Reads as segment-at-reads
use Rattle.forms.specs.contracts.target_of as target-of-fn
use Rattle.forms.proofs.target_of.Kinds as target-of-kinds
use Rattle.forms.proofs.target_of.Reads as target-of-reads
use Rattle.forms.specs.contracts.is_name as is-name-fn
use Rattle.forms.proofs.is_name.Kinds as is-name-kinds
use Rattle.forms.proofs.is_name.Reads as is-name-reads
use Rattle.forms.specs.contracts.is_keep as is-keep-fn
use Rattle.forms.proofs.is_keep.Kinds as is-keep-kinds
use Rattle.forms.proofs.is_keep.Reads as is-keep-reads
use Rattle.forms.specs.contracts.is_level as is-level-fn
use Rattle.forms.proofs.is_level.Kinds as is-level-kinds
use Rattle.forms.proofs.is_level.Reads as is-level-reads
use Rattle.forms.specs.contracts.is_place as is-place-fn
use Rattle.forms.proofs.is_place.Kinds as is-place-kinds
use Rattle.forms.proofs.is_place.Reads as is-place-reads
use Rattle.forms.specs.contracts.is_text as is-text-fn
use Rattle.forms.proofs.is_text.Kinds as is-text-kinds
use Rattle.forms.proofs.is_text.Reads as is-text-reads
use Rattle.forms.specs.contracts.is_list as is-list-fn
use Rattle.forms.proofs.is_list.Kinds as is-list-kinds
use Rattle.forms.proofs.is_list.Reads as is-list-reads
use Rattle.forms.specs.contracts.is_value as is-value-fn
use Rattle.forms.proofs.is_value.Kinds as is-value-kinds
use Rattle.forms.proofs.is_value.Reads as is-value-reads
use Rattle.forms.specs.contracts.property_of as property-of-fn
use Rattle.forms.proofs.property_of.Kinds as property-of-kinds
use Rattle.forms.proofs.property_of.Reads as property-of-reads
use Rattle.forms.specs.contracts.topic_of as topic-of-fn
use Rattle.forms.proofs.topic_of.Kinds as topic-of-kinds
use Rattle.forms.proofs.topic_of.Reads as topic-of-reads
use Rattle.forms.specs.contracts.entry_len as entry-len-fn
use Rattle.forms.proofs.entry_len.Kinds as entry-len-kinds
use Rattle.forms.proofs.entry_len.Reads as entry-len-reads
use Rattle.forms.specs.contracts.are_entries as are-entries-fn
use Rattle.forms.proofs.are_entries.Kinds as are-entries-kinds
use Rattle.forms.proofs.are_entries.Reads as are-entries-reads
use Rattle.forms.specs.contracts.is_separator as is-separator-fn
use Rattle.forms.proofs.is_separator.Kinds as is-separator-kinds
use Rattle.forms.proofs.is_separator.Reads as is-separator-reads
use Rattle.forms.specs.contracts.at_step as at-step-fn
use Rattle.forms.proofs.at_step.Kinds as at-step-kinds
use Rattle.forms.proofs.at_step.Reads as at-step-reads
use Rattle.forms.specs.contracts.is_whole as is-whole-fn
use Rattle.forms.proofs.is_whole.Kinds as is-whole-kinds
use Rattle.forms.proofs.is_whole.Reads as is-whole-reads
use Rattle.forms.specs.contracts.is_bare as is-bare-fn
use Rattle.forms.proofs.is_bare.Kinds as is-bare-kinds
use Rattle.forms.proofs.is_bare.Reads as is-bare-reads

pub segment_at_only :
    (κs : Lifetimes.Lfts 1) (a : World.ArgsD segment-at-fn.signature κs)
    (r r' : World.ResD segment-at-fn.signature κs)
    (s s' : Clauses.AtExit (Kinds.ended_of 1 segment-at-kinds.ps segment-at-kinds.r) κs)
    → segment-at-reads.Post κs a r s → segment-at-reads.Post κs a r' s'
    → r ≡ r'
segment_at_only κs a r r' s s' p q = p ∙ sym q

pub target_of_only :
    (κs : Lifetimes.Lfts 1) (a : World.ArgsD target-of-fn.signature κs)
    (r r' : World.ResD target-of-fn.signature κs)
    (s s' : Clauses.AtExit (Kinds.ended_of 1 target-of-kinds.ps target-of-kinds.r) κs)
    → target-of-reads.Post κs a r s → target-of-reads.Post κs a r' s'
    → r ≡ r'
target_of_only κs a r r' s s' p q = p ∙ sym q

pub is_name_only :
    (κs : Lifetimes.Lfts 1) (a : World.ArgsD is-name-fn.signature κs)
    (r r' : World.ResD is-name-fn.signature κs)
    (s s' : Clauses.AtExit (Kinds.ended_of 1 is-name-kinds.ps is-name-kinds.r) κs)
    → is-name-reads.Post κs a r s → is-name-reads.Post κs a r' s'
    → r ≡ r'
is_name_only κs a r r' s s' p q = p ∙ sym q

pub is_keep_only :
    (κs : Lifetimes.Lfts 1) (a : World.ArgsD is-keep-fn.signature κs)
    (r r' : World.ResD is-keep-fn.signature κs)
    (s s' : Clauses.AtExit (Kinds.ended_of 1 is-keep-kinds.ps is-keep-kinds.r) κs)
    → is-keep-reads.Post κs a r s → is-keep-reads.Post κs a r' s'
    → r ≡ r'
is_keep_only κs a r r' s s' p q = p ∙ sym q

pub is_level_only :
    (κs : Lifetimes.Lfts 1) (a : World.ArgsD is-level-fn.signature κs)
    (r r' : World.ResD is-level-fn.signature κs)
    (s s' : Clauses.AtExit (Kinds.ended_of 1 is-level-kinds.ps is-level-kinds.r) κs)
    → is-level-reads.Post κs a r s → is-level-reads.Post κs a r' s'
    → r ≡ r'
is_level_only κs a r r' s s' p q = p ∙ sym q

pub is_place_only :
    (κs : Lifetimes.Lfts 1) (a : World.ArgsD is-place-fn.signature κs)
    (r r' : World.ResD is-place-fn.signature κs)
    (s s' : Clauses.AtExit (Kinds.ended_of 1 is-place-kinds.ps is-place-kinds.r) κs)
    → is-place-reads.Post κs a r s → is-place-reads.Post κs a r' s'
    → r ≡ r'
is_place_only κs a r r' s s' p q = p ∙ sym q

pub is_text_only :
    (κs : Lifetimes.Lfts 1) (a : World.ArgsD is-text-fn.signature κs)
    (r r' : World.ResD is-text-fn.signature κs)
    (s s' : Clauses.AtExit (Kinds.ended_of 1 is-text-kinds.ps is-text-kinds.r) κs)
    → is-text-reads.Post κs a r s → is-text-reads.Post κs a r' s'
    → r ≡ r'
is_text_only κs a r r' s s' p q = p ∙ sym q

pub is_list_only :
    (κs : Lifetimes.Lfts 1) (a : World.ArgsD is-list-fn.signature κs)
    (r r' : World.ResD is-list-fn.signature κs)
    (s s' : Clauses.AtExit (Kinds.ended_of 1 is-list-kinds.ps is-list-kinds.r) κs)
    → is-list-reads.Post κs a r s → is-list-reads.Post κs a r' s'
    → r ≡ r'
is_list_only κs a r r' s s' p q = p ∙ sym q

pub is_value_only :
    (κs : Lifetimes.Lfts 1) (a : World.ArgsD is-value-fn.signature κs)
    (r r' : World.ResD is-value-fn.signature κs)
    (s s' : Clauses.AtExit (Kinds.ended_of 1 is-value-kinds.ps is-value-kinds.r) κs)
    → is-value-reads.Post κs a r s → is-value-reads.Post κs a r' s'
    → r ≡ r'
is_value_only κs a r r' s s' p q = p ∙ sym q

pub property_of_only :
    (κs : Lifetimes.Lfts 1) (a : World.ArgsD property-of-fn.signature κs)
    (r r' : World.ResD property-of-fn.signature κs)
    (s s' : Clauses.AtExit (Kinds.ended_of 1 property-of-kinds.ps property-of-kinds.r) κs)
    → property-of-reads.Post κs a r s → property-of-reads.Post κs a r' s'
    → r ≡ r'
property_of_only κs a r r' s s' p q = p ∙ sym q

pub topic_of_only :
    (κs : Lifetimes.Lfts 1) (a : World.ArgsD topic-of-fn.signature κs)
    (r r' : World.ResD topic-of-fn.signature κs)
    (s s' : Clauses.AtExit (Kinds.ended_of 1 topic-of-kinds.ps topic-of-kinds.r) κs)
    → topic-of-reads.Post κs a r s → topic-of-reads.Post κs a r' s'
    → r ≡ r'
topic_of_only κs a r r' s s' p q = p ∙ sym q

pub entry_len_only :
    (κs : Lifetimes.Lfts 1) (a : World.ArgsD entry-len-fn.signature κs)
    (r r' : World.ResD entry-len-fn.signature κs)
    (s s' : Clauses.AtExit (Kinds.ended_of 1 entry-len-kinds.ps entry-len-kinds.r) κs)
    → entry-len-reads.Post κs a r s → entry-len-reads.Post κs a r' s'
    → r ≡ r'
entry_len_only κs a r r' s s' p q = p ∙ sym q

pub are_entries_only :
    (κs : Lifetimes.Lfts 1) (a : World.ArgsD are-entries-fn.signature κs)
    (r r' : World.ResD are-entries-fn.signature κs)
    (s s' : Clauses.AtExit (Kinds.ended_of 1 are-entries-kinds.ps are-entries-kinds.r) κs)
    → are-entries-reads.Post κs a r s → are-entries-reads.Post κs a r' s'
    → r ≡ r'
are_entries_only κs a r r' s s' p q = p ∙ sym q

pub is_separator_only :
    (κs : Lifetimes.Lfts 0) (a : World.ArgsD is-separator-fn.signature κs)
    (r r' : World.ResD is-separator-fn.signature κs)
    (s s' : Clauses.AtExit (Kinds.ended_of 0 is-separator-kinds.ps is-separator-kinds.r) κs)
    → is-separator-reads.Post κs a r s → is-separator-reads.Post κs a r' s'
    → r ≡ r'
is_separator_only κs a r r' s s' p q = p ∙ sym q

pub at_step_only :
    (κs : Lifetimes.Lfts 0) (a : World.ArgsD at-step-fn.signature κs)
    (r r' : World.ResD at-step-fn.signature κs)
    (s s' : Clauses.AtExit (Kinds.ended_of 0 at-step-kinds.ps at-step-kinds.r) κs)
    → at-step-reads.Post κs a r s → at-step-reads.Post κs a r' s'
    → r ≡ r'
at_step_only κs a r r' s s' p q = p ∙ sym q

pub is_whole_only :
    (κs : Lifetimes.Lfts 0) (a : World.ArgsD is-whole-fn.signature κs)
    (r r' : World.ResD is-whole-fn.signature κs)
    (s s' : Clauses.AtExit (Kinds.ended_of 0 is-whole-kinds.ps is-whole-kinds.r) κs)
    → is-whole-reads.Post κs a r s → is-whole-reads.Post κs a r' s'
    → r ≡ r'
is_whole_only κs a r r' s s' p q = p ∙ sym q

pub is_bare_only :
    (κs : Lifetimes.Lfts 0) (a : World.ArgsD is-bare-fn.signature κs)
    (r r' : World.ResD is-bare-fn.signature κs)
    (s s' : Clauses.AtExit (Kinds.ended_of 0 is-bare-kinds.ps is-bare-kinds.r) κs)
    → is-bare-reads.Post κs a r s → is-bare-reads.Post κs a r' s'
    → r ≡ r'
is_bare_only κs a r r' s s' p q = p ∙ sym q
