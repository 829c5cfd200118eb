-- What the writers write, one after another; and how long their texts are at most. Assumes nothing.
use Prim.Native.Nat.{ℕ, zero, suc, ◌+◌, ◌*◌, ◌/◌, ◌%◌, ◌<◌, ◌≤◌, min}
use mathlib.Core.Path.{◌≡◌, refl, sym, ap, ◌∙◌}
use mathlib.Core.List.{List, [], ◌∷◌, ◌++◌}
use mathlib.Core.Bool.{Bool, true, false}
use native.Mathlib.Omega.{arith}
use lib.ListN.{length, take, drop, get_or, replicate, length-append, drop_of_length-le, replicate-append-replicate, get_or-eq_default}
use lib.Dec.{leb, eqb}
use borrow.Author.Tests.{leb-true, leb-false, eqb-true, eqb-false}
use Rattle.std.proofs.lemmas.List.{take_min}
use Rattle.text.specs.Bytes.{bytes, printable}
use Rattle.text.specs.Lists.{all_of}
use Rattle.text.proofs.Tests.{and_l, and_r}
use Rattle.text.proofs.Scans.{drop_step}
use Rattle.text.specs.Room.{fitted, filled}
use Rattle.text.proofs.Writes.{fitted_room, fitted_none, filled_none, filled_sets}
use Rattle.words.specs.Pens.{Puts}
use Rattle.explaining.specs.Words.{refusal_words, words_of}
use Rattle.explaining.specs.Explained.{hex_digit, visible_byte, visible}
use Rattle.explaining.specs.Steps.{PutsFirst}
use Rattle.words.specs.declared.Pen.{Pen}
use Rattle.std.proofs.Common.{Ok, Err}
use Rattle.text.specs.Room.{refusal_at}

-- ---- writers

-- a room that a pen wrote in from the start on
pub put_first : {p q : Pen} {room t out : List ℕ} → p.at ≡ 0 → p.out.now ≡ room → Puts p t q → out ≡ q.out.now → PutsFirst room t out q.at
put_first {p} {q} {room} {t} {out} z e a h =
    record { ends = omega (arith, a.ends); holds = h ∙ rw (← e, ← z) a.holds; within = rw (← e) a.within }

-- a text that was measured in no room, and then written where it fits
pub none_answer : {none left : List ℕ} {n : ℕ} (room t : List ℕ) → PutsFirst none t left n → length room < n → (Err (refusal_at 19 0) ≡ fitted (length room) t) × (room ≡ filled room t)
none_answer room t p h = (sym (fitted_none (length room) t (omega (arith, p.ends))), sym (filled_none room t (omega (arith, p.ends))))

pub fits_answer : {none left out : List ℕ} {n m : ℕ} (room t : List ℕ) → PutsFirst none t left n → n ≤ length room → PutsFirst room t out m
    → (Ok n ≡ fitted (length room) t) × (out ≡ filled room t)
fits_answer {none} {left} {out} {n} room t p h q =
    let l : n ≡ length t = omega (arith, p.ends, q.within) in
    (ap Ok l ∙ sym (fitted_room (length room) t (omega arith)), q.holds ∙ filled_sets room t (omega arith))

-- ---- bytes as shown

pub byte_plain : (b : ℕ) → printable b ≡ true → visible_byte b ≡ b ∷ []
unfolding visible_byte
byte_plain b e = rw e

pub byte_hex : (b : ℕ) → printable b ≡ false → visible_byte b ≡ 92 ∷ 120 ∷ hex_digit (b / 16) ∷ hex_digit (b % 16) ∷ []
unfolding visible_byte
byte_hex b e = rw e

pub byte_short : (b : ℕ) → length (visible_byte b) ≤ 4
byte_short b = go (printable b) refl
  where
    go : (x : Bool) → printable b ≡ x → length (visible_byte b) ≤ 4
    go true e = omega (arith, ap length (byte_plain b e))
    go false e = omega (arith, ap length (byte_hex b e))

pub visible_on : (l : List ℕ) (i : ℕ) → i < length l → visible (drop i l) ≡ visible_byte (get_or l i 0) ++ visible (drop (i + 1) l)
unfolding visible
visible_on l i h = rw (drop_step l i h)

pub visible_past : (l : List ℕ) (i : ℕ) → length l ≤ i → visible (drop i l) ≡ []
unfolding visible
visible_past l i h = rw (drop_of_length-le l h)

pub visible_short : (s : List ℕ) → length (visible s) ≤ 4 * length s
unfolding visible
visible_short [] = omega arith
visible_short (b ∷ s) = let ih = visible_short s in omega (arith, byte_short b, length-append (visible_byte b) (visible s))

-- ---- columns

pub columns_on : (l : List ℕ) (i : ℕ) → i < length l
    → replicate {A = ℕ} (length (visible (drop i l))) 32 ≡ replicate {A = ℕ} (length (visible_byte (get_or l i 0))) 32 ++ replicate {A = ℕ} (length (visible (drop (i + 1) l))) 32
columns_on l i h =
    let b = visible_byte (get_or l i 0) in
    let t = visible (drop (i + 1) l) in
    ap (λ (k : ℕ). replicate {A = ℕ} k 32) (ap length (visible_on l i h) ∙ length-append b t) ∙ sym (replicate-append-replicate {A = ℕ} (length b) (length t) 32)

pub columns_past : (l : List ℕ) (i : ℕ) → length l ≤ i → replicate {A = ℕ} (length (visible (drop i l))) 32 ≡ []
columns_past l i h = ap (λ (t : List ℕ). replicate {A = ℕ} (length t) 32) (visible_past l i h)

-- ---- the first bytes, and the rest

module _ (t : List ℕ) (m n : ℕ) (e : n ≡ min (length t) m) where
  pub take_least : take n t ≡ take m t
  take_least = let l : n ≡ min m (length t) = omega (arith, e) in ap (λ (k : ℕ). take k t) l ∙ take_min m t

  pub drop_least : drop n t ≡ drop m t
  drop_least = go (leb m (length t)) refl
    where
      go : (x : Bool) → leb m (length t) ≡ x → drop n t ≡ drop m t
      go true h = let l : n ≡ m = omega (arith, e, leb-true m (length t) h) in ap (λ (k : ℕ). drop k t) l
      go false h =
          let a : length t ≤ n = omega (arith, e, leb-false m (length t) h) in
          let b : length t ≤ m = omega (arith, leb-false m (length t) h) in
          drop_of_length-le t a ∙ sym (drop_of_length-le t b)

-- ---- words

-- where every row is short, each is
short_row : (most : ℕ) (rows : List (List ℕ)) (n : ℕ) → all_of (λ x. leb (length x) most) rows ≡ true → length (get_or rows n []) ≤ most
unfolding all_of
short_row most [] n h = omega arith
short_row most (x ∷ rows) zero h = leb-true (length x) most (and_l (leb (length x) most) (all_of (λ y. leb (length y) most) rows) h)
short_row most (x ∷ rows) (suc n) h = short_row most rows n (and_r (leb (length x) most) (all_of (λ y. leb (length y) most) rows) h)

pub words_short : (n : ℕ) → length (words_of n) ≤ 255
unfolding words_of refusal_words bytes all_of
words_short n = short_row 255 ([] ∷ refusal_words) n refl

-- another number has none
pub unworded : (n : ℕ) → (1 ≤ n → n ≤ 20 → ⊥) → words_of n ≡ []
unfolding words_of
unworded n h = go (leb n 0) refl (leb n 20) refl
  where
    rows : length refusal_words ≡ 20
    rows = unfold refusal_words in refl

    go : (x : Bool) → leb n 0 ≡ x → (y : Bool) → leb n 20 ≡ y → get_or ([] ∷ refusal_words) n [] ≡ []
    go true e y f = let z : n ≡ 0 = omega (arith, leb-true n 0 e) in rw z refl
    go false e true f = absurd (h (omega (arith, leb-false n 0 e)) (leb-true n 20 f))
    go false e false f = let l : suc (length refusal_words) ≤ n = omega (arith, rows, leb-false n 20 f) in get_or-eq_default ([] ∷ refusal_words) [] l

-- no number from 1 to k
abbrev pub Others : ℕ → ℕ → Type 0
Others zero n = Unit {0}
Others (suc k) n = Others k n × (n ≡ suc k → ⊥)

pub others_none : (k n : ℕ) → Others k n → 1 ≤ n → n ≤ k → ⊥
others_none zero n h a b = omega arith
others_none (suc k) n h a b = go (eqb n (suc k)) refl (others_none k n h.0 a)
  where
    go : (x : Bool) → eqb n (suc k) ≡ x → (n ≤ k → ⊥) → ⊥
    go true e f = h.1 (eqb-true n (suc k) e)
    go false e f = let d = eqb-false n (suc k) e in f (omega arith)
