-- Runs of stores into lent room, and the answers of what writes into it. Assumes nothing.
use Prim.Native.Nat.{ℕ, suc, zero, ◌+◌, ◌-◌, ◌<◌, ◌≤◌, min}
use mathlib.Core.Path.{◌≡◌, refl, sym, ap, ◌∙◌}
use mathlib.Core.List.{List, [], ◌∷◌, ◌++◌}
use mathlib.Core.Bool.{Bool, true, false}
use native.Mathlib.Nat.{add-zero}
use native.Mathlib.Numerals.{add-one}
use native.Mathlib.Omega.{arith}
use borrow.Author.Tests.{le-leb, lt-leb}
use lib.Dec.{leb}
use lib.ListN.{length, get_or, take, drop, set, length-set, length-append, length-drop}
use lib.Seq.{sets, sets-eq, set_out, take-nil, take-suc, take_at, length-take-le}
use Rattle.text.specs.Room.{wrote, fitted, filled, refusal_at}
use Rattle.std.proofs.Common.{Ok, Err}

module _ {A : Type 0} where
  -- two runs of stores after one another are one
  pub sets_append : (xs ys l : List A) (i : ℕ) → sets (sets l i xs) (i + length xs) ys ≡ sets l i (xs ++ ys)
  sets_append [] ys l i = ap (λ (n : ℕ). sets l n ys) (add-zero i)
  sets_append (x ∷ xs) ys l i =
      let e : i + suc (length xs) ≡ suc i + length xs = omega arith in
      ap (λ (n : ℕ). sets (sets (set l i x) (suc i) xs) n ys) e ∙ sets_append xs ys (set l i x) (suc i)

  -- stores at or past the end change nothing
  pub sets_past : (xs l : List A) (i : ℕ) → length l ≤ i → sets l i xs ≡ l
  sets_past [] l i h = refl
  sets_past (x ∷ xs) l i h = ap (λ (m : List A). sets m (suc i) xs) (set_out l i x h) ∙ sets_past xs l (suc i) (omega arith)

  -- of a text only what has room is stored
  pub sets_cut : (xs l : List A) (i n : ℕ) → min (length l - i) (length xs) ≤ n → sets l i (take n xs) ≡ sets l i xs
  sets_cut [] l i n h = ap (λ (m : List A). sets l i m) (take-nil n)
  sets_cut (x ∷ xs) l i zero h = sym (sets_past (x ∷ xs) l i (omega arith))
  sets_cut (x ∷ xs) l i (suc n) h = sets_cut xs (set l i x) (suc i) n (omega (arith, length-set l i x))

  -- what is left to write, where b holds t from the place `at` on
  pub sets_rest : (o t b : List A) (at w : ℕ) → b ≡ sets o at t → w ≡ at + length t → (s : List A) → sets b w s ≡ sets o at (t ++ s)
  sets_rest o t b at w held place s = rw (held, place) (sets_append t s o at)

  -- a writer's next step: b holds t from the place `at` on, b' more
  module _ (o t b b' : List A) (at w : ℕ) (held : b ≡ sets o at t) (place : w ≡ at + length t) where
    pub then_sets : (s : List A) → b' ≡ sets b w s → b' ≡ sets o at (t ++ s)
    then_sets s e = e ∙ sets_rest o t b at w held place s

    pub then_set : (x : A) → b' ≡ set b w x → b' ≡ sets o at (t ++ (x ∷ []))
    then_set x e = then_sets (x ∷ []) e

  -- one more of a copy
  pub copy_more : (s l : List A) (at i : ℕ) (d : A) → i < length s → set (sets l at (take i s)) (at + i) (get_or s i d) ≡ sets l at (take (i + 1) s)
  copy_more s l at i d h =
      let e : at + i ≡ at + length (take i s) = omega (arith, length-take-le i s (omega arith)) in
      ap (λ (n : ℕ). set (sets l at (take i s)) n (get_or s i d)) e
      ∙ sets_append (take i s) (get_or s i d ∷ []) l at
      ∙ ap (sets l at) (sym (take-suc s i d h))
      ∙ ap (λ (n : ℕ). sets l at (take n s)) (sym (add-one i))

-- a text that has room fills the room's start
pub sets_fill : (room t : List ℕ) → length t ≤ length room → sets room 0 t ≡ wrote room t
unfolding wrote
sets_fill room t h = let e : 0 + length t ≡ length t = omega arith in sets-eq t room 0 (omega arith) ∙ ap (λ (k : ℕ). t ++ drop k room) e

-- such a room has its size, and begins with the text
pub length_wrote : (room t : List ℕ) → length t ≤ length room → length (wrote room t) ≡ length room
unfolding wrote
length_wrote room t h = omega (arith, length-append t (drop (length t) room), length-drop (length t) room)

pub take_wrote : (room t : List ℕ) → take (length t) (wrote room t) ≡ t
unfolding wrote
take_wrote room t = take_at t (drop (length t) room) (length t) refl

-- what was stored in a room that holds it
pub held_is : (room held s : List ℕ) (n : ℕ) → held ≡ sets room 0 s → n ≡ length s → length s ≤ length room → take n held ≡ s
held_is room held s n e p h = ap (take n) (e ∙ sets_fill room s h) ∙ ap (λ (k : ℕ). take k (wrote room s)) p ∙ take_wrote room s

-- the answer and the room, where the text has room and where it has none
pub fitted_room : (n : ℕ) (t : List ℕ) → length t ≤ n → fitted n t ≡ Ok (length t)
unfolding fitted
fitted_room n t h = rw (le-leb (length t) n h)

pub fitted_none : (n : ℕ) (t : List ℕ) → n < length t → fitted n t ≡ Err (refusal_at 19 0)
unfolding fitted
fitted_none n t h = rw (lt-leb (length t) n h)

pub filled_room : (room t : List ℕ) → length t ≤ length room → filled room t ≡ wrote room t
unfolding filled
filled_room room t h = rw (le-leb (length t) (length room) h)

pub filled_none : (room t : List ℕ) → length room < length t → filled room t ≡ room
unfolding filled
filled_none room t h = rw (lt-leb (length t) (length room) h)

-- what a writer that tested the room leaves
pub filled_sets : (room t : List ℕ) → length t ≤ length room → sets room 0 t ≡ filled room t
filled_sets room t h = sets_fill room t h ∙ sym (filled_room room t h)

wrote_refused : {P : Type 0} {n k p : ℕ} → Ok n ≡ Err (refusal_at k p) → P
wrote_refused e = let z : ◌≡◌ {A = ℕ} 0 1 = cc in absurd (omega arith)

-- text that does not fit is not written at all
pub filled_kept : (room t : List ℕ) (k p : ℕ) → fitted (length room) t ≡ Err (refusal_at k p) → filled room t ≡ room
unfolding fitted filled
filled_kept room t k p e = go (leb (length t) (length room)) refl
  where
    go : (b : Bool) → leb (length t) (length room) ≡ b → filled room t ≡ room
    go true h = wrote_refused (rw h at e)
    go false h = rw h
