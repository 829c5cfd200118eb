-- A line told part by part: what one step of the cursor adds, and what the whole text is. Assumes nothing.
use Prim.Native.Nat.{ℕ}
use mathlib.Core.Path.{◌≡◌, refl, sym, ap, ◌∙◌}
use mathlib.Core.List.{List, [], ◌∷◌, ◌++◌}
use mathlib.Core.Bool.{true, false}
use native.Mathlib.Omega.{arith}
use lib.ListN.{take, drop}
use Rattle.reading.specs.declared.Shown.{Shown}
use Rattle.reading.specs.declared.Cursor.{Cursor}
use Rattle.reading.specs.Cursor.{Step}
use Rattle.reading.specs.Reading.{Part, Reading, refusal, read, adding, reading_of}
use Rattle.reading.specs.Cursor.{step_of, left, first_cursor, offered}
use Rattle.reading.specs.Shown.{verdict_in}
use Rattle.reading.proofs.Steps.{Stepped, step_part, step_refused, step_end}
use Rattle.reading.proofs.Folds.{fine_left, fine_lexical, refused_fine}
use Rattle.explaining.specs.Explained.{visible, newline, part_text, parts_text, refused_text, blank_text, explained_in, explained_of}
use Rattle.explaining.specs.Steps.{is_blank, parts_in}
use Rattle.std.proofs.Common.{Ok, Err, Some, None}
use Rattle.text.specs.Room.{refusal_at}
use Rattle.text.specs.declared.Refusal.{Refusal}

-- ---- one step that gave a part

module _ (line : List ℕ) (c after : Cursor) (x : Shown) (a n : ℕ) (t : Stepped line c x a n after) where
  pub step_parts : verdict_in (left line after) ≡ Ok tt → parts_in line (left line c) ≡ part_text x (take n (drop a line)) ++ parts_in line (left line after)
  unfolding parts_text
  step_parts e = ap (parts_in line) t.leaves ∙ go (left line after) e
    where
      go : (r : Reading) → verdict_in r ≡ Ok tt → parts_in line (adding (record { start = a; len = n; item = t.item }) r) ≡ part_text x (take n (drop a line)) ++ parts_in line r
      go (refusal k p) h = absurd (let z : ◌≡◌ {A = ℕ} 0 1 = cc in omega arith)
      go (read ps) h = ap (λ (y : Shown). part_text y (take n (drop a line)) ++ parts_text line ps) t.shows

-- the end
pub end_parts : (line : List ℕ) (r : Reading) → r ≡ read [] → parts_in line r ≡ []
unfolding parts_text
end_parts line r e = ap (parts_in line) e

-- the end of a line that is not refused: nothing is left, and what is left is not refused
pub done_parts : (line : List ℕ) (c : Cursor) (s : Step) → s ≡ step_of line c → s.offer ≡ Ok None → parts_in line (left line c) ≡ []
done_parts line c s is q = end_parts line (left line c) (step_end line c s is q)

pub never_parts : {P : Type 0} (line : List ℕ) (c : Cursor) (s : Step) → s ≡ step_of line c → verdict_in (left line c) ≡ Ok tt → (r : Refusal) → s.offer ≡ Err r → P
never_parts line c s is fine r q = refused_fine (left line c) r.number r.place (step_refused line c s is r.number r.place q) fine

-- ---- a line with no part

module _ (line : List ℕ) (c : Cursor) (s : Step) (first : c ≡ first_cursor) (is : s ≡ step_of line c) where
  pub blank_end : s.offer ≡ Ok None → true ≡ is_blank (left line first_cursor)
  blank_end q = sym (ap (λ (d : Cursor). is_blank (left line d)) (sym first) ∙ ap is_blank (step_end line c s is q))

  pub blank_refused : (k p : ℕ) → s.offer ≡ Err (refusal_at k p) → false ≡ is_blank (left line first_cursor)
  blank_refused k p q = sym (ap (λ (d : Cursor). is_blank (left line d)) (sym first) ∙ ap is_blank (step_refused line c s is k p q))

  pub blank_part : (x : Shown) (a n : ℕ) → s.offer ≡ Ok (Some (offered x a n)) → false ≡ is_blank (left line first_cursor)
  blank_part x a n q =
      let t = step_part line c s is x a n q in
      sym (ap (λ (d : Cursor). is_blank (left line d)) (sym first) ∙ ap is_blank t.leaves ∙ added _ (left line s.next))
    where
      added : (p : Part) (r : Reading) → is_blank (adding p r) ≡ false
      added p (refusal k b) = refl
      added p (read ps) = refl

-- ---- the whole line

pub blank_whole : (line : List ℕ) → verdict_in (reading_of line) ≡ Ok tt → is_blank (left line first_cursor) ≡ true → explained_of line ≡ blank_text
unfolding explained_of
blank_whole line f b = ap (explained_in line) (fine_left line (fine_lexical line f)) ∙ go (left line first_cursor) b
  where
    go : (r : Reading) → is_blank r ≡ true → explained_in line r ≡ blank_text
    go (refusal k p) h = absurd (let z : ◌≡◌ {A = ℕ} 0 1 = cc in omega arith)
    go (read []) h = refl
    go (read (p ∷ ps)) h = absurd (let z : ◌≡◌ {A = ℕ} 0 1 = cc in omega arith)

pub parts_whole : (line : List ℕ) → verdict_in (reading_of line) ≡ Ok tt → is_blank (left line first_cursor) ≡ false
    → explained_of line ≡ visible line ++ (newline ++ parts_in line (left line first_cursor))
unfolding explained_of
parts_whole line f b =
    ap (explained_in line) (fine_left line (fine_lexical line f))
    ∙ go (left line first_cursor) b (ap verdict_in (sym (fine_left line (fine_lexical line f))) ∙ f)
  where
    go : (r : Reading) → is_blank r ≡ false → verdict_in r ≡ Ok tt → explained_in line r ≡ visible line ++ (newline ++ parts_in line r)
    go (refusal k p) h g = absurd (let z : ◌≡◌ {A = ℕ} 0 1 = cc in omega arith)
    go (read []) h g = absurd (let z : ◌≡◌ {A = ℕ} 0 1 = cc in omega arith)
    go (read (p ∷ ps)) h g = refl

pub refused_whole : (line : List ℕ) (k p : ℕ) → reading_of line ≡ refusal k p → explained_of line ≡ refused_text line k p
unfolding explained_of
refused_whole line k p e = ap (explained_in line) e
