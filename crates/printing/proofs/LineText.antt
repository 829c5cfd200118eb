-- The text of the records of a line: no longer than the most, and the records of a reading are never bad. Assumes nothing.
use Prim.Native.Nat.{ℕ, zero, suc, ◌+◌, ◌≤◌}
use native.Mathlib.Omega.{arith}
use mathlib.Core.Path.{◌≡◌, refl, ap, ◌∙◌}
use mathlib.Core.List.{List, [], ◌∷◌, ◌++◌}
use mathlib.Core.Bool.{Bool, cond}
use mathlib.Core.Option.{Option, some}
use lib.ListN.{length, take, drop}
use lib.Dec.{ltb}
use borrow.Author.Tests.{le-ltb}
use Rattle.joiner.specs.Lines.{Given, line, refused}
use Rattle.words.specs.declared.Kind.{Kind}
use Rattle.words.specs.declared.Kind.TheVariants.{Mere, Keep, Level, Place, Entries}
use Rattle.words.specs.Words.{kind_of}
use Rattle.reading.specs.declared.Shown.{Shown}
use Rattle.reading.specs.declared.Shown.TheVariants as shown
use Rattle.reading.specs.Command.{shown_of}
use Rattle.reading.specs.Reading.{Part, Reading, refusal, read, reading_of}
use Rattle.reading.specs.Records.{record_of, records_of, read_records, refusal_record, listed_in, bytes_of, option_fields}
use Rattle.reading.proofs.Room.{at_most_399}
use Rattle.wording.specs.Words.{Worded, worded, unworded, Form, forms, form_of, total, record_text, then, on_form, wording_from, wording_of}
use Rattle.wording.specs.Steps.{flaw_in, worded_text}
use Rattle.wording.proofs.WordingLaws.{text_of_six, flaw_then}
use Rattle.lister.specs.Lister.{records_by}
use Rattle.printing.specs.Printing.{longest, outcome_text}
use Rattle.printing.specs.Prints.{given_records}
use Rattle.std.proofs.Common.{Ok}
use Rattle.std.proofs.Common.{Result, Err, Some, None}
use Rattle.std.proofs.Common as std
use Rattle.text.specs.declared.Refusal.{Refusal}

-- ---- how long they are

listed_most : (t : List ℕ) → length (listed_in (reading_of t)) ≤ 399
listed_most t = go (reading_of t) refl
  where
    go : (r : Reading) → reading_of t ≡ r → length (listed_in r) ≤ 399
    go (refusal n p) e = omega arith
    go (read ps) e = at_most_399 t ps e

pub records_most : (o : Result (std.Option ℕ) Refusal) (b : List ℕ) → length (records_by o b) ≤ 399
records_most (Ok None) b = omega arith
records_most (Ok (Some n)) b = listed_most (take n b)
records_most (Err e) b = omega arith

-- NO LINE'S TEXT IS LONGER: six times as much as 399
pub text_fits : (o : Result (std.Option ℕ) Refusal) (b : List ℕ) → length (outcome_text o b) ≤ longest
unfolding outcome_text
text_fits o b = omega (arith, text_of_six (records_by o b), records_most o b)

-- ---- the records of a reading are never bad

-- how many bytes the body of a kind has
record Wide (k w : ℕ) : Type 0 where
  what : Form
  is : form_of k ≡ some what
  len : total what.fields ≡ w

verb_wide : Wide 1 1
unfolding form_of forms total
verb_wide = record { what = _; is = refl; len = refl }

option_wide : Wide 2 5
unfolding form_of forms total
option_wide = record { what = _; is = refl; len = refl }

target_wide : Wide 3 4
unfolding form_of forms total
target_wide = record { what = _; is = refl; len = refl }

property_wide : Wide 4 9
unfolding form_of forms total
property_wide = record { what = _; is = refl; len = refl }

refusal_wide : Wide 5 3
unfolding form_of forms total
refusal_wide = record { what = _; is = refl; len = refl }

blank_wide : Wide 6 0
unfolding form_of forms total
blank_wide = record { what = _; is = refl; len = refl }

-- a record of which all is there, before records that are good
on_fine : {k w : ℕ} (d : Wide k w) (p : ℕ) (s : List ℕ) (f : ℕ → List ℕ → Worded) → w ≤ length s → flaw_in (f (p + 1 + w) (drop w s)) ≡ Ok tt
    → flaw_in (on_form (form_of k) p s f) ≡ Ok tt
on_fine {k} {w} d p s f l h =
    let g = d.what in
    ap (λ (o : Option Form). flaw_in (on_form o p s f)) d.is
    ∙ ap (λ (v : ℕ). flaw_in (cond (ltb (length s) v) (unworded 15 p) (then (record_text g s) (f (p + 1 + v) (drop v s))))) d.len
    ∙ ap (λ (t : Bool). flaw_in (cond t (unworded 15 p) (then (record_text g s) (f (p + 1 + w) (drop w s))))) (le-ltb (length s) w l)
    ∙ flaw_then (record_text g s) (f (p + 1 + w) (drop w s))
    ∙ h

-- what is good whatever the count of records and the place are
abbrev Good : List ℕ → Type 0
Good rs = (n p : ℕ) → flaw_in (wording_from n p rs) ≡ Ok tt

good_none : Good []
unfolding wording_from
good_none zero p = refl
good_none (suc n) p = refl

good_option : (k e : ℕ) (d : Kind) (rs : List ℕ) → Good rs → Good (bytes_of (option_fields k d e) ++ rs)
unfolding wording_from
good_option k e Mere rs h zero p = refl
good_option k e Mere rs h (suc n) p = on_fine option_wide p _ (wording_from n) (omega arith) (h n (p + 1 + 5))
good_option k e Keep rs h n p = h n p
good_option k e Level rs h n p = h n p
good_option k e Place rs h n p = h n p
good_option k e Entries rs h n p = h n p

good_part : (x : Shown) (a m : ℕ) (rs : List ℕ) → Good rs → Good (record_of x a m ++ rs)
unfolding wording_from
good_part (shown.Option k) a m rs h n p = good_option k (a + m) (kind_of k) rs h n p
good_part (shown.Verb k) a m rs h zero p = refl
good_part (shown.Verb k) a m rs h (suc n) p = on_fine verb_wide p _ (wording_from n) (omega arith) (h n (p + 1 + 1))
good_part (shown.Argument k) a m rs h zero p = refl
good_part (shown.Argument k) a m rs h (suc n) p = on_fine option_wide p _ (wording_from n) (omega arith) (h n (p + 1 + 5))
good_part shown.Target a m rs h zero p = refl
good_part shown.Target a m rs h (suc n) p = on_fine target_wide p _ (wording_from n) (omega arith) (h n (p + 1 + 4))
good_part (shown.Property j o) a m rs h zero p = refl
good_part (shown.Property j o) a m rs h (suc n) p = on_fine property_wide p _ (wording_from n) (omega arith) (h n (p + 1 + 9))

good_parts : (ps : List Part) → Good (records_of ps)
unfolding records_of
good_parts [] = good_none
good_parts (q ∷ ps) = good_part (shown_of q.item) q.start q.len (records_of ps) (good_parts ps)

good_refusal : (k p : ℕ) → Good (refusal_record k p)
unfolding wording_from
good_refusal k a zero p = refl
good_refusal k a (suc n) p = on_fine refusal_wide p _ (wording_from n) (omega arith) (good_none n (p + 1 + 3))

good_read : (ps : List Part) → Good (read_records ps)
unfolding wording_from
good_read [] zero p = refl
good_read [] (suc n) p = on_fine blank_wide p _ (wording_from n) (omega arith) (good_none n (p + 1 + 0))
good_read (q ∷ ps) n p = good_parts (q ∷ ps) n p

good_listed : (r : Reading) → Good (listed_in r)
good_listed (refusal k a) = good_refusal k a
good_listed (read ps) = good_read ps

good_by : (o : Result (std.Option ℕ) Refusal) (b : List ℕ) → Good (records_by o b)
good_by (Ok None) b = good_none
good_by (Ok (Some n)) b = good_listed (reading_of (take n b))
good_by (Err e) b = good_refusal e.number e.place

fine_worded : (u : Worded) → flaw_in u ≡ Ok tt → u ≡ worded (worded_text u)
fine_worded (worded t) e = refl
fine_worded (unworded n p) e = let z : ◌≡◌ {A = ℕ} 0 1 = cc in absurd (omega arith)

-- THE RECORDS OF EVERY LINE ARE WORDED
pub line_worded : (o : Result (std.Option ℕ) Refusal) (b : List ℕ) → wording_of (records_by o b) ≡ worded (outcome_text o b)
unfolding outcome_text wording_of
line_worded o b = fine_worded (wording_of (records_by o b)) (good_by o b (length (records_by o b)) 0)

-- so no line of a capture is left out of its text
pub given_worded : (g : Given) → wording_of (given_records g) ≡ worded (worded_text (wording_of (given_records g)))
unfolding wording_of
given_worded (line t) = fine_worded (wording_of (listed_in (reading_of t))) (good_listed (reading_of t) (length (listed_in (reading_of t))) 0)
given_worded (refused k n t) = fine_worded (wording_of (refusal_record k n)) (good_refusal k n (length (refusal_record k n)) 0)
