-- A line written term by term: what one step of the cursor adds, and what the whole writing answers. Assumes nothing.
use Prim.Native.Nat.{ℕ, ◌+◌, ◌<◌, ◌≤◌}
use mathlib.Core.Path.{◌≡◌, refl, sym, ap, ◌∙◌}
use mathlib.Core.List.{List, [], ◌∷◌, ◌++◌, map, append_assoc}
use mathlib.Core.Bool.{Bool, true, false}
use native.Mathlib.Omega.{arith}
use lib.ListN.{length, take, drop, length-append}
use lib.Seq.{sets}
use Rattle.text.specs.Lists.{each, between}
use Rattle.text.proofs.Writes.{fitted_room, fitted_none, filled_none, filled_sets}
use Rattle.terms.specs.Signs.{bare, raws}
use Rattle.terms.proofs.SignBytes.{raws_append}
use Rattle.reading.specs.declared.Shown.{Shown}
use Rattle.reading.specs.declared.Cursor.{Cursor}
use Rattle.reading.specs.Command.{Item}
use Rattle.reading.specs.Reading.{Reading, refusal, read, adding}
use Rattle.reading.specs.Cursor.{left}
use Rattle.reading.specs.Shown.{verdict_in}
use Rattle.reading.proofs.Steps.{Stepped}
use Rattle.canonical.specs.Canonical.{write_item, writing, items_of, writing_answer, writing_room}
use Rattle.canonical.specs.Written.{written, gap, rest_of, written_in, written_from}
use Rattle.canonical.proofs.TermWriting.{term_written}
use Rattle.std.proofs.Common.{Ok, Err}
use Rattle.text.specs.Room.{refusal_at}

-- ---- one step that gave a part

-- how the part is written
step_writes : (line : List ℕ) (c after : Cursor) (x : Shown) (a n : ℕ) (t : Stepped line c x a n after) → raws (write_item t.item) ≡ written x (take n (drop a line))
step_writes line c after x a n t =
    term_written (take n (drop a line)) t.item c.state t.taken ∙ ap (λ (y : Shown). written y (take n (drop a line))) t.shows

pub gap_short : (first : Bool) → length (gap first) ≤ 1
gap_short true = omega arith
gap_short false = omega arith

-- ---- what is written of it, and what is left

rest_cons : (first : Bool) (i : Item) (is : List Item) → rest_of first (i ∷ is) ≡ gap first ++ (raws (write_item i) ++ rest_of false is)
unfolding rest_of between each raws
rest_cons true i is = raws_append (write_item i) (each (bare 32) (map write_item is))
rest_cons false i is = ap (λ (z : List ℕ). 32 ∷ z) (raws_append (write_item i) (each (bare 32) (map write_item is)))

rest_nil : (first : Bool) → rest_of first [] ≡ []
unfolding rest_of between each raws
rest_nil true = refl
rest_nil false = refl

module _ (line : List ℕ) (c after : Cursor) (x : Shown) (a n : ℕ) (t : Stepped line c x a n after) (first : Bool) where
  -- the bytes of this step
  abbrev pub stepped : List ℕ
  stepped = gap first ++ written x (take n (drop a line))

  pub step_written : verdict_in (left line after) ≡ Ok tt → written_in first (left line c) ≡ stepped ++ written_in false (left line after)
  step_written e = ap (written_in first) t.leaves ∙ go (left line after) e
    where
      go : (r : Reading) → verdict_in r ≡ Ok tt → written_in first (adding (record { start = a; len = n; item = t.item }) r) ≡ stepped ++ written_in false r
      go (refusal k p) h = absurd (let z : ◌≡◌ {A = ℕ} 0 1 = cc in omega arith)
      go (read ps) h =
          rest_cons first t.item (items_of ps)
          ∙ ap (λ (z : List ℕ). gap first ++ (z ++ rest_of false (items_of ps))) (step_writes line c after x a n t)
          ∙ sym (append_assoc (gap first) (written x (take n (drop a line))) (rest_of false (items_of ps)))

  pub step_total : (w : ℕ) → written_from w first (left line c) ≡ written_from (w + length stepped) false (left line after)
  step_total w = ap (written_from w first) t.leaves ∙ go (left line after)
    where
      go : (r : Reading) → written_from w first (adding (record { start = a; len = n; item = t.item }) r) ≡ written_from (w + length stepped) false r
      go (refusal k p) = refl
      go (read ps) =
          let e = rest_cons first t.item (items_of ps) ∙ ap (λ (z : List ℕ). gap first ++ (z ++ rest_of false (items_of ps))) (step_writes line c after x a n t) ∙ sym (append_assoc (gap first) (written x (take n (drop a line))) (rest_of false (items_of ps))) in
          ap Ok (omega (arith, ap length e, length-append stepped (rest_of false (items_of ps))))

-- the end
pub end_total : (w : ℕ) (first : Bool) (r : Reading) → r ≡ read [] → written_from w first r ≡ Ok w
end_total w first r e = ap (written_from w first) e ∙ ap Ok (omega (arith, ap length (rest_nil first)))

pub end_written : (first : Bool) (r : Reading) → r ≡ read [] → written_in first r ≡ []
end_written first r e = ap (written_in first) e ∙ rest_nil first

-- ---- the whole line

first_writing : (is : List Item) → rest_of true is ≡ writing is
unfolding rest_of writing
first_writing is = refl

module _ (r : Reading) (room : List ℕ) where
  pub total_refused : (k p : ℕ) → Err (refusal_at k p) ≡ written_from 0 true r → (Err (refusal_at k p) ≡ writing_answer (length room) r) × (room ≡ writing_room room r)
  total_refused k p e = go r e
    where
      go : (q : Reading) → Err (refusal_at k p) ≡ written_from 0 true q → (Err (refusal_at k p) ≡ writing_answer (length room) q) × (room ≡ writing_room room q)
      go (refusal j a) f = (f, refl)
      go (read ps) f = absurd (let z : ◌≡◌ {A = ℕ} 0 1 = cc in omega arith)

  module _ (n : ℕ) (e : Ok n ≡ written_from 0 true r) where
    pub total_fine : verdict_in r ≡ Ok tt
    total_fine = go r e
      where
        go : (q : Reading) → Ok n ≡ written_from 0 true q → verdict_in q ≡ Ok tt
        go (refusal j a) f = absurd (let z : ◌≡◌ {A = ℕ} 0 1 = cc in omega arith)
        go (read ps) f = refl

    pub total_length : n ≡ length (written_in true r)
    total_length = go r e
      where
        go : (q : Reading) → Ok n ≡ written_from 0 true q → n ≡ length (written_in true q)
        go (refusal j a) f = absurd (let z : ◌≡◌ {A = ℕ} 0 1 = cc in omega arith)
        go (read ps) f = let m : n ≡ 0 + length (rest_of true (items_of ps)) = cc in omega arith

    pub total_none : length room < n → (Err (refusal_at 19 0) ≡ writing_answer (length room) r) × (room ≡ writing_room room r)
    total_none h = go r e
      where
        go : (q : Reading) → Ok n ≡ written_from 0 true q → (Err (refusal_at 19 0) ≡ writing_answer (length room) q) × (room ≡ writing_room room q)
        go (refusal j a) f = absurd (let z : ◌≡◌ {A = ℕ} 0 1 = cc in omega arith)
        go (read ps) f =
            let m : n ≡ 0 + length (rest_of true (items_of ps)) = cc in
            let l : n ≡ length (writing (items_of ps)) = omega (arith, m, ap length (first_writing (items_of ps))) in
            (sym (fitted_none (length room) (writing (items_of ps)) (omega arith)), sym (filled_none room (writing (items_of ps)) (omega arith)))

    pub total_fits : n ≤ length room → (now : List ℕ) → now ≡ sets room 0 (written_in true r) → (Ok n ≡ writing_answer (length room) r) × (now ≡ writing_room room r)
    total_fits h now w = go r e w
      where
        go : (q : Reading) → Ok n ≡ written_from 0 true q → now ≡ sets room 0 (written_in true q) → (Ok n ≡ writing_answer (length room) q) × (now ≡ writing_room room q)
        go (refusal j a) f v = absurd (let z : ◌≡◌ {A = ℕ} 0 1 = cc in omega arith)
        go (read ps) f v =
            let m : n ≡ 0 + length (rest_of true (items_of ps)) = cc in
            let l : n ≡ length (writing (items_of ps)) = omega (arith, m, ap length (first_writing (items_of ps))) in (
              ap Ok l ∙ sym (fitted_room (length room) (writing (items_of ps)) (omega arith)),
              v ∙ ap (sets room 0) (first_writing (items_of ps)) ∙ filled_sets room (writing (items_of ps)) (omega arith),
            )
