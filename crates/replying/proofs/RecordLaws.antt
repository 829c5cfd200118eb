-- Laws of records: what one tells by its kind and its fields, and the records from a place on. Assumes nothing.
use Prim.Native.Nat.{ℕ, zero, suc, ◌+◌, ◌-◌, ◌<◌, ◌≤◌}
use mathlib.Core.Path.{◌≡◌, refl, sym, ap, ◌∙◌}
use mathlib.Core.List.{List, [], ◌∷◌}
use mathlib.Core.Bool.{Bool, true, false, cond}
use mathlib.Core.Option.{Option, none, some}
use native.Mathlib.Omega.{arith}
use lib.ListN.{length, get_or, take, drop, length-drop, drop_of_length-le}
use lib.Seq.{drop-drop, get_or-drop}
use lib.Dec.{eqb, leb}
use borrow.Author.Tests.{eqb-true, leb-true}
use Rattle.text.proofs.Scans.{drop_step}
use Rattle.text.proofs.Slices.{part_from}
use Rattle.text.proofs.Tests.{no_case}
use Rattle.words.specs.Words.{reply_record_len}
use Rattle.replies.specs.Items.{Told}
use Rattle.replying.specs.declared.Cue.{Cue}
use Rattle.replying.specs.declared.Cue.TheVariants.{Item, Group, Close, End}
use Rattle.replying.specs.Steps.{told_by_cue}
use Rattle.replying.specs.Records.{told_by_kind, record_told, is_final, Asked, asked_from}

-- ---- one record

-- one that is not the last is of a kind with a length, and is not cut
final_len : (t r : List ℕ) (k : ℕ) → is_final (told_by_kind t r k) ≡ false → 1 ≤ reply_record_len k
final_len t r k e = go (eqb k 64) (eqb k 65) (eqb k 66) (eqb k 67) refl refl refl refl
  where
    by : (n : ℕ) → eqb k n ≡ true → 1 ≤ reply_record_len n → 1 ≤ reply_record_len k
    by n p h = rw (eqb-true k n p) h

    go : (a b c d : Bool) → eqb k 64 ≡ a → eqb k 65 ≡ b → eqb k 66 ≡ c → eqb k 67 ≡ d → 1 ≤ reply_record_len k
    go true b c d p q u v = by 64 p (omega arith)
    go false true c d p q u v = by 65 q (omega arith)
    go false false true d p q u v = by 66 u (omega arith)
    go false false false true p q u v = by 67 v (omega arith)
    go false false false false p q u v = no_case (rw (p, q, u, v) at e)

record_within : (t r : List ℕ) → is_final (record_told t r) ≡ false → (1 ≤ reply_record_len (get_or r 0 0)) × (reply_record_len (get_or r 0 0) ≤ length r)
unfolding record_told
record_within t r e = go (leb (reply_record_len (get_or r 0 0)) (length r)) refl e
  where
    go : (b : Bool) → leb (reply_record_len (get_or r 0 0)) (length r) ≡ b → is_final (cond b (told_by_kind t r (get_or r 0 0)) none) ≡ false
        → (1 ≤ reply_record_len (get_or r 0 0)) × (reply_record_len (get_or r 0 0) ≤ length r)
    go true p q = (final_len t r (get_or r 0 0) q, leb-true (reply_record_len (get_or r 0 0)) (length r) p)
    go false p q = no_case q

-- ---- the records from a place on

asked_skip : (k p : ℕ) (t r : List ℕ) → asked_from k p t r ≡ asked_from 0 (p + k) t (drop k r)
unfolding asked_from
asked_skip zero p t r = let e : p ≡ p + 0 = omega arith in ap (λ (n : ℕ). asked_from 0 n t r) e
asked_skip (suc k) p t [] = refl
asked_skip (suc k) p t (b ∷ r) = let e : suc p + k ≡ p + suc k = omega arith in asked_skip k (suc p) t r ∙ ap (λ (n : ℕ). asked_from 0 n t (drop k r)) e

abbrev pub asked : ℕ → Option Told → Asked
asked p o = record { place = p; told = o }

-- the record at a place, which tells o, and those after it
module _ (r t : List ℕ) (at : ℕ) (h : at < length r) (o : Option Told) (e : o ≡ record_told t (take (length r - at) (drop at r))) where
  told_is : record_told t (drop at r) ≡ o
  told_is = sym (e ∙ ap (record_told t) (part_from r at))

  pub asked_front : asked_from 0 at t (drop at r) ≡ asked at o ∷ cond (is_final o) [] (asked_from (reply_record_len (get_or r at 0) - 1) (suc at) t (drop (at + 1) r))
  unfolding asked_from
  asked_front =
      let s = drop_step r at h in
      let x : record_told t (get_or r at 0 ∷ drop (at + 1) r) ≡ o = sym (ap (record_told t) s) ∙ told_is in
      ap (asked_from 0 at t) s
      ∙ ap (λ (z : Option Told). asked at z ∷ cond (is_final z) [] (asked_from (reply_record_len (get_or r at 0) - 1) (suc at) t (drop (at + 1) r))) x

  pub asked_last : is_final o ≡ true → asked_from 0 at t (drop at r) ≡ asked at o ∷ []
  asked_last f = asked_front ∙ ap (λ (b : Bool). asked at o ∷ cond b [] (asked_from (reply_record_len (get_or r at 0) - 1) (suc at) t (drop (at + 1) r))) f

  module _ (n : ℕ) (l : n ≡ reply_record_len (get_or r at 0)) (f : is_final o ≡ false) where
    pub asked_within : (1 ≤ n) × (at + n ≤ length r)
    asked_within =
        let w = record_within t (drop at r) (ap is_final told_is ∙ f) in
        let g : reply_record_len (get_or (drop at r) 0 0) ≡ n = ap reply_record_len (get_or-drop at r 0 0 ∙ (let z : at + 0 ≡ at = omega arith in ap (λ (i : ℕ). get_or r i 0) z)) ∙ sym l in
        (omega (arith, w.0), omega (arith, w.1, length-drop at r))

    pub asked_next : asked_from 0 at t (drop at r) ≡ asked at o ∷ asked_from 0 (at + n) t (drop (at + n) r)
    asked_next =
        let w = asked_within.0 in
        let p : suc at + (n - 1) ≡ at + n = omega arith in
        let q : at + 1 + (n - 1) ≡ at + n = omega arith in
        asked_front
        ∙ ap (λ (b : Bool). asked at o ∷ cond b [] (asked_from (reply_record_len (get_or r at 0) - 1) (suc at) t (drop (at + 1) r))) f
        ∙ ap (λ (m : ℕ). asked at o ∷ asked_from (m - 1) (suc at) t (drop (at + 1) r)) (sym l)
        ∙ ap (λ (z : List Asked). asked at o ∷ z) (asked_skip (n - 1) (suc at) t (drop (at + 1) r))
        ∙ ap (λ (m : ℕ). asked at o ∷ asked_from 0 m t (drop (n - 1) (drop (at + 1) r))) p
        ∙ ap (λ (z : List ℕ). asked at o ∷ asked_from 0 (at + n) t z) (drop-drop (n - 1) (at + 1) r ∙ ap (λ (m : ℕ). drop m r) q)

-- past the end there is none
pub asked_past : (r t : List ℕ) (at : ℕ) → length r ≤ at → asked_from 0 at t (drop at r) ≡ []
unfolding asked_from
asked_past r t at h = ap (asked_from 0 at t) (drop_of_length-le r h)

-- any but the reply's end is followed by more
pub goes_on_cue : (c : Cue) → (c ≡ End → ⊥) → is_final (some (told_by_cue c)) ≡ false
goes_on_cue (Item k v) h = refl
goes_on_cue (Group n) h = refl
goes_on_cue Close h = refl
goes_on_cue End h = absurd (h refl)
