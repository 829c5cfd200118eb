-- No second result of a public function fits its contract: answers, and the room at exit, are determined by what went in.
-- Stated on each contract's own reading, so that it cannot drift from the source.
use mathlib.Core.Path.{◌≡◌, sym, ◌∙◌}
use contract.Lifetimes
use borrow.Fn.World
use borrow.Fn.Kinds
use denote.Triple.Clauses
use Rattle.text.specs.contracts.is_letter as is-letter-fn
use Rattle.text.proofs.is_letter.Kinds as is-letter-kinds
use Rattle.text.proofs.is_letter.Reads as is-letter-reads
use Rattle.text.specs.contracts.is_digit as is-digit-fn
use Rattle.text.proofs.is_digit.Kinds as is-digit-kinds
use Rattle.text.proofs.is_digit.Reads as is-digit-reads
use Rattle.text.specs.contracts.is_word as is-word-fn
use Rattle.text.proofs.is_word.Kinds as is-word-kinds
use Rattle.text.proofs.is_word.Reads as is-word-reads
use Rattle.text.specs.contracts.is_printable as is-printable-fn
use Rattle.text.proofs.is_printable.Kinds as is-printable-kinds
use Rattle.text.proofs.is_printable.Reads as is-printable-reads
use Rattle.text.specs.contracts.same as same_fn
use Rattle.text.proofs.same.Kinds as same-kinds
use Rattle.text.proofs.same.Reads as same_Reads
use Rattle.text.specs.contracts.letters_len as letters-len-fn
use Rattle.text.proofs.letters_len.Kinds as letters-len-kinds
use Rattle.text.proofs.letters_len.Reads as letters-len-reads
use Rattle.text.specs.contracts.words_len as words-len-fn
use Rattle.text.proofs.words_len.Kinds as words-len-kinds
use Rattle.text.proofs.words_len.Reads as words-len-reads
use Rattle.text.specs.contracts.printable_len as printable-len-fn
use Rattle.text.proofs.printable_len.Kinds as printable-len-kinds
use Rattle.text.proofs.printable_len.Reads as printable-len-reads
use Rattle.text.specs.contracts.decimal as decimal-fn
use Rattle.text.proofs.decimal.Kinds as decimal-kinds
use Rattle.text.proofs.decimal.Reads as decimal-reads
use Rattle.text.specs.contracts.pair as pair-fn
use Rattle.text.proofs.pair.Kinds as pair-kinds
use Rattle.text.proofs.pair.Reads as Pair-reads
use Rattle.text.specs.contracts.high_low as high-low-fn
use Rattle.text.proofs.high_low.Kinds as high-low-kinds
use Rattle.text.proofs.high_low.Reads as high-low-reads
use Rattle.text.specs.contracts.put as put-fn
use Rattle.text.proofs.put.Kinds as put-kinds
use Rattle.text.proofs.put.Reads as put_reads
use Rattle.text.specs.contracts.copy as copy_fn
use Rattle.text.proofs.copy.Kinds as copy-kinds
use Rattle.text.proofs.copy.Reads as copy-reads
use Rattle.text.specs.contracts.width as width-fn
use Rattle.text.proofs.width.Kinds as width-kinds
use Rattle.text.proofs.width.Reads as width-reads
use Rattle.text.specs.contracts.put_decimal as put-decimal-fn
use Rattle.text.proofs.put_decimal.Kinds as put-decimal-kinds
use Rattle.text.proofs.put_decimal.Reads as put-decimal-reads

pub is_letter_only :
    (κs : Lifetimes.Lfts 0) (a : World.ArgsD is-letter-fn.signature κs)
    (r r' : World.ResD is-letter-fn.signature κs)
    (s s' : Clauses.AtExit (Kinds.ended_of 0 is-letter-kinds.ps is-letter-kinds.r) κs)
    → is-letter-reads.Post κs a r s → is-letter-reads.Post κs a r' s'
    → r ≡ r'
is_letter_only κs a r r' s s' p q = p ∙ sym q

pub is_digit_only :
    (κs : Lifetimes.Lfts 0) (a : World.ArgsD is-digit-fn.signature κs)
    (r r' : World.ResD is-digit-fn.signature κs)
    (s s' : Clauses.AtExit (Kinds.ended_of 0 is-digit-kinds.ps is-digit-kinds.r) κs)
    → is-digit-reads.Post κs a r s → is-digit-reads.Post κs a r' s'
    → r ≡ r'
is_digit_only κs a r r' s s' p q = p ∙ sym q

pub is_word_only :
    (κs : Lifetimes.Lfts 0) (a : World.ArgsD is-word-fn.signature κs)
    (r r' : World.ResD is-word-fn.signature κs)
    (s s' : Clauses.AtExit (Kinds.ended_of 0 is-word-kinds.ps is-word-kinds.r) κs)
    → is-word-reads.Post κs a r s → is-word-reads.Post κs a r' s'
    → r ≡ r'
is_word_only κs a r r' s s' p q = p ∙ sym q

pub is_printable_only :
    (κs : Lifetimes.Lfts 0) (a : World.ArgsD is-printable-fn.signature κs)
    (r r' : World.ResD is-printable-fn.signature κs)
    (s s' : Clauses.AtExit (Kinds.ended_of 0 is-printable-kinds.ps is-printable-kinds.r) κs)
    → is-printable-reads.Post κs a r s → is-printable-reads.Post κs a r' s'
    → r ≡ r'
is_printable_only κs a r r' s s' p q = p ∙ sym q

pub same_only :
    (κs : Lifetimes.Lfts 2) (a : World.ArgsD same_fn.signature κs)
    (r r' : World.ResD same_fn.signature κs)
    (s s' : Clauses.AtExit (Kinds.ended_of 2 same-kinds.ps same-kinds.r) κs)
    → same_Reads.Post κs a r s → same_Reads.Post κs a r' s'
    → r ≡ r'
same_only κs a r r' s s' p q = p ∙ sym q

pub letters_len_only :
    (κs : Lifetimes.Lfts 1) (a : World.ArgsD letters-len-fn.signature κs)
    (r r' : World.ResD letters-len-fn.signature κs)
    (s s' : Clauses.AtExit (Kinds.ended_of 1 letters-len-kinds.ps letters-len-kinds.r) κs)
    → letters-len-reads.Post κs a r s → letters-len-reads.Post κs a r' s'
    → r ≡ r'
letters_len_only κs a r r' s s' p q = p ∙ sym q

pub words_len_only :
    (κs : Lifetimes.Lfts 1) (a : World.ArgsD words-len-fn.signature κs)
    (r r' : World.ResD words-len-fn.signature κs)
    (s s' : Clauses.AtExit (Kinds.ended_of 1 words-len-kinds.ps words-len-kinds.r) κs)
    → words-len-reads.Post κs a r s → words-len-reads.Post κs a r' s'
    → r ≡ r'
words_len_only κs a r r' s s' p q = p ∙ sym q

pub printable_len_only :
    (κs : Lifetimes.Lfts 1) (a : World.ArgsD printable-len-fn.signature κs)
    (r r' : World.ResD printable-len-fn.signature κs)
    (s s' : Clauses.AtExit (Kinds.ended_of 1 printable-len-kinds.ps printable-len-kinds.r) κs)
    → printable-len-reads.Post κs a r s → printable-len-reads.Post κs a r' s'
    → r ≡ r'
printable_len_only κs a r r' s s' p q = p ∙ sym q

pub decimal_only :
    (κs : Lifetimes.Lfts 1) (a : World.ArgsD decimal-fn.signature κs)
    (r r' : World.ResD decimal-fn.signature κs)
    (s s' : Clauses.AtExit (Kinds.ended_of 1 decimal-kinds.ps decimal-kinds.r) κs)
    → decimal-reads.Post κs a r s → decimal-reads.Post κs a r' s'
    → r ≡ r'
decimal_only κs a r r' s s' p q = p ∙ sym q

pub pair_only :
    (κs : Lifetimes.Lfts 0) (a : World.ArgsD pair-fn.signature κs)
    (r r' : World.ResD pair-fn.signature κs)
    (s s' : Clauses.AtExit (Kinds.ended_of 0 pair-kinds.ps pair-kinds.r) κs)
    → Pair-reads.Post κs a r s → Pair-reads.Post κs a r' s'
    → r ≡ r'
pair_only κs a r r' s s' p q = p ∙ sym q

pub high_low_only :
    (κs : Lifetimes.Lfts 0) (a : World.ArgsD high-low-fn.signature κs)
    (r r' : World.ResD high-low-fn.signature κs)
    (s s' : Clauses.AtExit (Kinds.ended_of 0 high-low-kinds.ps high-low-kinds.r) κs)
    → high-low-reads.Post κs a r s → high-low-reads.Post κs a r' s'
    → r ≡ r'
high_low_only κs a r r' s s' p q = p ∙ sym q

pub put_only :
    (κs : Lifetimes.Lfts 1) (a : World.ArgsD put-fn.signature κs)
    (r r' : World.ResD put-fn.signature κs)
    (s s' : Clauses.AtExit (Kinds.ended_of 1 put-kinds.ps put-kinds.r) κs)
    → put_reads.Post κs a r s → put_reads.Post κs a r' s'
    → s.0.now ≡ s'.0.now
put_only κs a r r' s s' p q = p ∙ sym q

pub copy_only :
    (κs : Lifetimes.Lfts 2) (a : World.ArgsD copy_fn.signature κs)
    (r r' : World.ResD copy_fn.signature κs)
    (s s' : Clauses.AtExit (Kinds.ended_of 2 copy-kinds.ps copy-kinds.r) κs)
    → copy-reads.Post κs a r s → copy-reads.Post κs a r' s'
    → s.0.now ≡ s'.0.now
copy_only κs a r r' s s' p q = p ∙ sym q

pub width_only :
    (κs : Lifetimes.Lfts 0) (a : World.ArgsD width-fn.signature κs)
    (r r' : World.ResD width-fn.signature κs)
    (s s' : Clauses.AtExit (Kinds.ended_of 0 width-kinds.ps width-kinds.r) κs)
    → width-reads.Post κs a r s → width-reads.Post κs a r' s'
    → r ≡ r'
width_only κs a r r' s s' p q = p ∙ sym q

pub put_decimal_only :
    (κs : Lifetimes.Lfts 1) (a : World.ArgsD put-decimal-fn.signature κs)
    (r r' : World.ResD put-decimal-fn.signature κs)
    (s s' : Clauses.AtExit (Kinds.ended_of 1 put-decimal-kinds.ps put-decimal-kinds.r) κs)
    → put-decimal-reads.Post κs a r s → put-decimal-reads.Post κs a r' s'
    → (r ≡ r') × (s.0.now ≡ s'.0.now)
put_decimal_only κs a r r' s s' p q = (p.0 ∙ sym q.0, p.1 ∙ sym q.1)
