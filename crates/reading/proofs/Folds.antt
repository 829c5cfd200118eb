-- What a caller makes of a reading, step by step: its size, its records, its target. And a whole line from its first term on. Assumes nothing.
use Prim.Native.Nat.{ℕ, ◌+◌, ◌<◌, ◌≤◌}
use mathlib.Core.Path.{◌≡◌, refl, sym, ap, ◌∙◌}
use mathlib.Core.List.{List, [], ◌∷◌, ◌++◌}
use mathlib.Core.Bool.{true, false, cond}
use native.Mathlib.Omega.{arith}
use lib.ListN.{length, length-append}
use lib.Seq.{sets}
use Rattle.text.specs.Lists.{is_nil}
use Rattle.text.proofs.Tests.{no_case}
use Rattle.text.proofs.Writes.{fitted_room, fitted_none, filled_none, filled_sets}
use Rattle.terms.specs.Terms.{Term, terms_of}
use Rattle.terms.specs.Rows.{lexical_of}
use Rattle.reading.specs.declared.State.{State}
use Rattle.reading.specs.declared.Cursor.{Cursor}
use Rattle.reading.specs.declared.Shown.{Shown}
use Rattle.reading.specs.Command.{Item, verb, option, argument, target, prop, shown_of}
use Rattle.reading.specs.Reading.{Decision, refuses, takes, decide, next, begin, Part, Reading, refusal, read, adding, place_of, going, part_of, walk_terms, reading_of}
use Rattle.terms.specs.Scan.{span}
use Rattle.reading.specs.Records.{record_of, records_of, read_records, answer_in, room_in, target_span, target_in}
use Rattle.reading.specs.Cursor.{left, first_cursor}
use Rattle.reading.specs.Shown.{verdict_in, needed_in, records_in, total_from, bytes_in, is_target}
use Rattle.reading.proofs.Steps.{Stepped}
use Rattle.terms.proofs.RowLaws.{no_row}
use Rattle.terms.proofs.ScanLaws.{long_line}
use Rattle.std.proofs.Common.{Result, Ok, Err}
use Rattle.text.specs.declared.Refusal.{Refusal}
use Rattle.text.proofs.Refusals.{same_number, same_place}
use Rattle.text.specs.Room.{refusal_at}

-- ---- one part more

module _ (x : Shown) (a n : ℕ) (i : Item) (shows : shown_of i ≡ x) where
  record_is : record_of (shown_of i) a n ≡ record_of x a n
  record_is = ap (λ (y : Shown). record_of y a n) shows

  add_total : (k : ℕ) (r : Reading) → total_from k (adding (record { start = a; len = n; item = i }) r) ≡ total_from (k + length (record_of x a n)) r
  unfolding records_of
  add_total k (refusal j p) = refl
  add_total k (read ps) =
      let l = length-append (record_of (shown_of i) a n) (records_of ps) in
      let m = ap length record_is in
      ap Ok (omega arith)

  add_records : (r : Reading) → verdict_in r ≡ Ok tt → records_in (adding (record { start = a; len = n; item = i }) r) ≡ record_of x a n ++ records_in r
  unfolding records_of
  add_records (refusal j p) e = let z : ◌≡◌ {A = ℕ} 0 1 = cc in absurd (omega arith)
  add_records (read ps) e = ap (λ (t : List ℕ). t ++ records_of ps) record_is

  add_verdict : (r : Reading) → verdict_in (adding (record { start = a; len = n; item = i }) r) ≡ verdict_in r
  add_verdict (refusal j p) = refl
  add_verdict (read ps) = refl

  add_target : (r : Reading) → verdict_in r ≡ Ok tt → target_in (adding (record { start = a; len = n; item = i }) r) ≡ cond (is_target x) (span a n) (target_in r)
  unfolding target_span
  add_target (refusal j p) e = let z : ◌≡◌ {A = ℕ} 0 1 = cc in absurd (omega arith)
  add_target (read ps) e = go i shows
    where
      go : (j : Item) → shown_of j ≡ x → target_span (record { start = a; len = n; item = j } ∷ ps) ≡ cond (is_target x) (span a n) (target_span ps)
      go (verb k) h = rw (← h)
      go (option k) h = rw (← h)
      go (argument k y) h = rw (← h)
      go (target y) h = rw (← h)
      go (prop y) h = rw (← h)

module _ (line : List ℕ) (c : Cursor) (x : Shown) (a n : ℕ) (after : Cursor) (s : Stepped line c x a n after) where
  pub total_part : (k : ℕ) → total_from k (left line c) ≡ total_from (k + length (record_of x a n)) (left line after)
  total_part k = ap (total_from k) s.leaves ∙ add_total x a n s.item s.shows k (left line after)

  pub verdict_part : verdict_in (left line c) ≡ verdict_in (left line after)
  verdict_part = ap verdict_in s.leaves ∙ add_verdict x a n s.item s.shows (left line after)

  pub records_part : verdict_in (left line c) ≡ Ok tt → records_in (left line c) ≡ record_of x a n ++ records_in (left line after)
  records_part e = ap records_in s.leaves ∙ add_records x a n s.item s.shows (left line after) (sym verdict_part ∙ e)

  pub target_part_lem : verdict_in (left line c) ≡ Ok tt → target_in (left line c) ≡ cond (is_target x) (span a n) (target_in (left line after))
  target_part_lem e = ap target_in s.leaves ∙ add_target x a n s.item s.shows (left line after) (sym verdict_part ∙ e)

-- a refusal is no reading that is fine
pub refused_fine : {P : Type 0} (r : Reading) (k p : ℕ) → r ≡ refusal k p → verdict_in r ≡ Ok tt → P
refused_fine r k p e f = absurd (let z : ◌≡◌ {A = ℕ} 0 1 = cc (ap verdict_in e) in omega arith)

-- ---- a whole line

module _ (line : List ℕ) where
  pub fine_left : lexical_of line ≡ Ok tt → reading_of line ≡ left line first_cursor
  unfolding reading_of left terms_of
  fine_left e = rw e

  pub flawed_left : (k p : ℕ) → lexical_of line ≡ Err (refusal_at k p) → reading_of line ≡ refusal k p
  unfolding reading_of
  flawed_left k p e = rw e

  pub fine_lexical : verdict_in (reading_of line) ≡ Ok tt → lexical_of line ≡ Ok tt
  unfolding reading_of
  fine_lexical e = go (lexical_of line) refl
    where
      go : (v : Result Unit Refusal) → lexical_of line ≡ v → v ≡ Ok tt
      go (Ok u) h = refl
      go (Err r) h = rw h at e

  pub fine_short : lexical_of line ≡ Ok tt → length line ≤ 1024
  fine_short e = ((no_row line).1 e).short

  -- a line over 1,024 bytes is refused as 1, whatever its text
  pub long_left : 1024 < length line → reading_of line ≡ refusal 1 1024
  long_left h = flawed_left 1 1024 (long_line line h)

  pub blank_left : is_nil (terms_of line) ≡ true → left line first_cursor ≡ read []
  unfolding left terms_of walk_terms
  blank_left e = go (terms_of line) refl
    where
      go : (ts : List Term) → terms_of line ≡ ts → walk_terms (length line) begin ts ≡ read []
      go [] h = refl
      go (t ∷ ts) h = no_case (sym e ∙ ap is_nil h)

-- a line that has a term, if it is not refused, has a part
some_part : (n : ℕ) (s : State) (ts : List Term) → is_nil ts ≡ false → (P : Reading → Type 0) → ((k p : ℕ) → P (refusal k p)) → ((p : Part) (ps : List Part) → P (read (p ∷ ps))) → P (walk_terms n s ts)
unfolding walk_terms
some_part n s [] e P f g = no_case e
some_part n s (t ∷ ts) e P f g = go (decide s t.text)
  where
    put : (p : Part) (r : Reading) → P (adding p r)
    put p (refusal k a) = f k a
    put p (read ps) = g p ps

    go : (d : Decision) → P (going d (place_of s t) (λ i. adding (part_of t i) (walk_terms n (next s i) ts)))
    go (refuses k) = f k (place_of s t k)
    go (takes i) = put (part_of t i) (walk_terms n (next s i) ts)

module _ (line : List ℕ) (e : is_nil (terms_of line) ≡ false) where
  pub total_needed : total_from 0 (left line first_cursor) ≡ needed_in (left line first_cursor)
  unfolding left terms_of
  total_needed =
      some_part (length line) begin (terms_of line) e (λ r. total_from 0 r ≡ needed_in r) (λ k p. refl)
      (λ p ps. ap Ok (omega arith))

  pub bytes_records : records_in (left line first_cursor) ≡ bytes_in (left line first_cursor)
  unfolding left terms_of
  bytes_records = some_part (length line) begin (terms_of line) e (λ r. records_in r ≡ bytes_in r) (λ k p. refl) (λ p ps. refl)

-- ---- what a line needs, and what is answered

pub needed_refused : (r : Reading) (k p : ℕ) → Err (refusal_at k p) ≡ needed_in r → r ≡ refusal k p
needed_refused (refusal j q) k p e = sym (rw (same_number e, same_place e))
needed_refused (read ps) k p e = let z : ◌≡◌ {A = ℕ} 0 1 = cc in absurd (omega arith)

pub needed_fine : (r : Reading) (n : ℕ) → Ok n ≡ needed_in r → verdict_in r ≡ Ok tt
needed_fine (refusal j q) n e = let z : ◌≡◌ {A = ℕ} 0 1 = cc in absurd (omega arith)
needed_fine (read ps) n e = refl

pub needed_length : (r : Reading) (n : ℕ) → Ok n ≡ needed_in r → n ≡ length (bytes_in r)
needed_length (refusal j q) n e = let z : ◌≡◌ {A = ℕ} 0 1 = cc in absurd (omega arith)
needed_length (read ps) n e = cc

module _ (r : Reading) (n : ℕ) (room : List ℕ) (e : Ok n ≡ needed_in r) where
  pub read_none : length room < n → (Err (refusal_at 19 0) ≡ answer_in (length room) r) × (room ≡ room_in room r)
  read_none h = go r e
    where
      go : (q : Reading) → Ok n ≡ needed_in q → (Err (refusal_at 19 0) ≡ answer_in (length room) q) × (room ≡ room_in room q)
      go (refusal j p) f = let z : ◌≡◌ {A = ℕ} 0 1 = cc in absurd (omega arith)
      go (read ps) f =
          let m : n ≡ length (read_records ps) = cc in
          (sym (fitted_none (length room) (read_records ps) (omega arith)), sym (filled_none room (read_records ps) (omega arith)))

  pub read_all : n ≤ length room → (now : List ℕ) → now ≡ sets room 0 (bytes_in r) → (Ok n ≡ answer_in (length room) r) × (now ≡ room_in room r)
  read_all h now w = go r e w
    where
      go : (q : Reading) → Ok n ≡ needed_in q → now ≡ sets room 0 (bytes_in q) → (Ok n ≡ answer_in (length room) q) × (now ≡ room_in room q)
      go (refusal j p) f v = let z : ◌≡◌ {A = ℕ} 0 1 = cc in absurd (omega arith)
      go (read ps) f v =
          let m : n ≡ length (read_records ps) = cc in
          (ap Ok m ∙ sym (fitted_room (length room) (read_records ps) (omega arith)), v ∙ filled_sets room (read_records ps) (omega arith))

pub verdict_refused : (r : Reading) (k p : ℕ) → Err (refusal_at k p) ≡ verdict_in r → r ≡ refusal k p
verdict_refused (refusal j q) k p e = sym (rw (same_number e, same_place e))
verdict_refused (read ps) k p e = let z : ◌≡◌ {A = ℕ} 0 1 = cc in absurd (omega arith)
