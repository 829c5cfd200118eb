-- What the loops do with the byte at a place, in each mode, and at a text's end. Assumes nothing.
use Prim.Native.Nat.{ℕ, zero, suc, ◌+◌, ◌-◌, ◌<◌, ◌≤◌}
use mathlib.Core.Path.{◌≡◌, refl, sym, ap, ◌∙◌}
use mathlib.Core.List.{List, ◌∷◌}
use mathlib.Core.Bool.{Bool, true, false}
use native.Mathlib.Omega.{arith}
use native.Mathlib.Nat.{add-sub_cancel_left}
use lib.ListN.{length, get_or, drop, drop_of_length-le, length-append}
use lib.Seq.{sets}
use borrow.Author.Tests.{eq-eqb, ne_eqb, lt-ltb}
use Rattle.text.specs.Lists.{any_of, walk}
use Rattle.text.proofs.Scans.{drop_step}
use Rattle.text.proofs.Writes.{sets_rest}
use Rattle.terms.specs.declared.Mode.{Mode}
use Rattle.terms.specs.declared.Mode.TheVariants.{Out}
use Rattle.terms.specs.Signs.{Sign, after, gives, at_end, signs, stands, meant}
use Rattle.terms.specs.Marks.{is_mark}
use Rattle.terms.specs.Terms.{Term}
use Rattle.terms.specs.Rows.{long_flaw, end_mode, opens, opened_at, end_flaw, open_flaw, many_from, lexical_of}
use Rattle.terms.specs.Scan.{gap_byte, term_len, found, start_at, term_at}
use Rattle.terms.proofs.SignBytes.{pend, stands_on, stands_past, meant_length}
use Rattle.text.proofs.AllAny.{any_over}
use Rattle.terms.proofs.ByteCases.{gives_case, end_case}
use Rattle.std.proofs.Common.{Err, Some, None}
use Rattle.text.specs.Room.{refusal_at}
use Rattle.terms.specs.Scan.{span}

-- ---- the term at a place

-- m' is the mode after the byte at i
pub term_ends : (m : Mode) (l : List ℕ) (i : ℕ) → i < length l → gap_byte m (get_or l i 0) ≡ true → term_len m (drop i l) ≡ 0
unfolding term_len
term_ends m l i h e = rw (drop_step l i h, e)

pub term_on : (m m' : Mode) (l : List ℕ) (i : ℕ) → i < length l → m' ≡ after m (get_or l i 0) → gap_byte m (get_or l i 0) ≡ false
    → term_len m (drop i l) ≡ suc (term_len m' (drop (i + 1) l))
unfolding term_len
term_on m m' l i h s e = rw (s, drop_step l i h, e)

pub term_past : (m : Mode) (l : List ℕ) (i : ℕ) → length l ≤ i → term_len m (drop i l) ≡ 0
unfolding term_len
term_past m l i h = rw (drop_of_length-le l h)

-- start and end as the two scans give them
pub term_at_is : (l : List ℕ) (at start end : ℕ) → start ≡ start_at l at → end ≡ start + term_len Out (drop start l) → term_at l at ≡ found start (end - start)
unfolding term_at
term_at_is l at start end p q = rw (q, add-sub_cancel_left, p)

pub found_term_lem : (at n : ℕ) → (n ≡ 0 → ⊥) → found at n ≡ Some (span at n)
unfolding found
found_term_lem at zero h = absurd (h refl)
found_term_lem at (suc n) h = refl

pub found_none : (at n : ℕ) → n ≡ 0 → found at n ≡ None
unfolding found
found_none at n h = rw h

-- ---- where a line ends

pub opened_on : (l : List ℕ) (i : ℕ) (m m' : Mode) (q q' : ℕ) → i < length l → m' ≡ after m (get_or l i 0) → q' ≡ opens m (get_or l i 0) i q
    → opened_at m' (i + 1) q' (drop (i + 1) l) ≡ opened_at m i q (drop i l)
unfolding opened_at
opened_on l i m m' q q' h e f = rw (f, e, drop_step l i h)

pub open_is : (l : List ℕ) (i : ℕ) (m : Mode) (q : ℕ) → length l ≤ i → i ≤ length l → end_mode m (drop i l) ≡ end_mode Out l → opened_at m i q (drop i l) ≡ opened_at Out 0 0 l
    → end_flaw m i q ≡ open_flaw l
unfolding open_flaw
open_is l i m q h k e f =
    let z : i ≡ length l = omega arith in
    let d = drop_of_length-le l h in
    let p : m ≡ end_mode Out l = sym (ap (end_mode m) d ∙ unfold end_mode walk in refl) ∙ e in
    let r : q ≡ opened_at Out 0 0 l = sym (ap (opened_at m i q) d ∙ unfold opened_at in refl) ∙ f in
    ap (λ (x : Mode). end_flaw x i q) p ∙ ap (λ (x : ℕ). end_flaw (end_mode Out l) x q) z ∙ ap (λ (x : ℕ). end_flaw (end_mode Out l) (length l) x) r

-- ---- rows 1 and 5, where the tests are

pub long_line : (l : List ℕ) → 1024 < length l → lexical_of l ≡ Err (refusal_at 1 1024)
unfolding lexical_of long_flaw
long_line l h = rw (lt-ltb 1024 (length l) h)

pub many_ends : (k : ℕ) (t : Term) (ts : List Term) → k ≡ 64 → many_from k (t ∷ ts) ≡ Err (refusal_at 5 t.start)
unfolding many_from
many_ends k t ts e = rw (eq-eqb k 64 e)

pub many_on : (k : ℕ) (t : Term) (ts : List Term) → (k ≡ 64 → ⊥) → many_from k (t ∷ ts) ≡ many_from (k + 1) ts
unfolding many_from
many_on k t ts h = rw (ne_eqb k 64 h)

-- ---- tests on signs

module _ (f : Sign → Bool) where
  pub some_on : (s : List ℕ) (i : ℕ) (m m' : Mode) → i < length s → m' ≡ after m (get_or s i 0) → any_of f (gives m (get_or s i 0)) ≡ false
      → any_of f (signs m' (drop (i + 1) s)) ≡ any_of f (signs m (drop i s))
  unfolding signs
  some_on s i m m' h e g =
      sym (ap (λ (z : List ℕ). any_of f (signs m z)) (drop_step s i h)
      ∙ any_over f (gives m (get_or s i 0)) (signs (after m (get_or s i 0)) (drop (i + 1) s))
      ∙ rw (g, e))

  pub some_stops : (s : List ℕ) (i : ℕ) (m : Mode) → i < length s → any_of f (gives m (get_or s i 0)) ≡ true → any_of f (signs m (drop i s)) ≡ true
  unfolding signs
  some_stops s i m h g =
      ap (λ (z : List ℕ). any_of f (signs m z)) (drop_step s i h) ∙ any_over f (gives m (get_or s i 0)) (signs (after m (get_or s i 0)) (drop (i + 1) s)) ∙ rw g

  pub some_past : (s : List ℕ) (i : ℕ) (m : Mode) → length s ≤ i → any_of f (signs m (drop i s)) ≡ any_of f (at_end m)
  unfolding signs
  some_past s i m h = ap (λ (z : List ℕ). any_of f (signs m z)) (drop_of_length-le s h)

-- a text's end is no quote mark
pub end_no_mark : (m : Mode) → any_of is_mark (at_end m) ≡ false
unfolding any_of
end_no_mark = end_case (λ m z. any_of is_mark z ≡ false) refl refl refl refl

-- ---- the bytes that a byte stands for

-- a waiting GRAVE apart, a byte stands for at most one more
pub stands_width : (m : Mode) (b : ℕ) → length (stands (gives m b)) + pend (after m b) ≤ pend m + 1
unfolding stands
stands_width m b =
    gives_case (λ k g n. length (stands g) + pend n ≤ pend k + 1) b (λ _. omega arith) (λ _ _. omega arith) (λ _ _. omega arith) (λ _. omega arith) (λ _. omega arith)
    (λ _. omega arith) (λ _ _. omega arith) (λ _ _. omega arith) (λ _. omega arith) (λ _. omega arith) m

pub width_on : (m m' : Mode) (b w d i : ℕ) → m' ≡ after m b → d ≡ length (stands (gives m b)) → w + pend m ≤ i → w + d + pend m' ≤ i + 1
width_on m m' b w d i e f h = let z = stands_width m b in let k : pend m' ≡ pend (after m b) = ap pend e in omega arith

-- ---- the bytes that are left to write

-- how many they are: one byte of the text more, with what the calls gave
pub left_on : (s : List ℕ) (i n d : ℕ) (m m' : Mode) → i < length s → m' ≡ after m (get_or s i 0) → d ≡ length (stands (gives m (get_or s i 0)))
    → n + length (stands (signs m (drop i s))) ≡ length (meant s) → n + d + length (stands (signs m' (drop (i + 1) s))) ≡ length (meant s)
left_on s i n d m m' h e f k =
    let g = ap length (stands_on s i m h) in
    let l = length-append (stands (gives m (get_or s i 0))) (stands (signs (after m (get_or s i 0)) (drop (i + 1) s))) in
    let r : length (stands (signs m' (drop (i + 1) s))) ≡ length (stands (signs (after m (get_or s i 0)) (drop (i + 1) s))) = ap (λ (x : Mode). length (stands (signs x (drop (i + 1) s)))) e in
    omega arith

-- no more than the text has bytes, so that they can be counted
pub left_fits : (s : List ℕ) (i n d : ℕ) (m : Mode) → i < length s → d ≡ length (stands (gives m (get_or s i 0)))
    → n + length (stands (signs m (drop i s))) ≡ length (meant s) → n + d ≤ length s
left_fits s i n d m h f k =
    let g = ap length (stands_on s i m h) in
    let l = length-append (stands (gives m (get_or s i 0))) (stands (signs (after m (get_or s i 0)) (drop (i + 1) s))) in
    let b = meant_length s in
    omega arith

pub left_end : (s : List ℕ) (i n d : ℕ) (m : Mode) → length s ≤ i → d ≡ length (stands (at_end m)) → n + length (stands (signs m (drop i s))) ≡ length (meant s)
    → n + d ≡ length (meant s)
left_end s i n d m h f k = let g = ap length (stands_past s i m h) in omega arith

-- what they are, stored from w places after at
pub stored_on : (s out out' : List ℕ) (at w d i : ℕ) (m m' : Mode) → i < length s → m' ≡ after m (get_or s i 0) → d ≡ length (stands (gives m (get_or s i 0)))
    → out' ≡ sets out (at + w) (stands (gives m (get_or s i 0)))
    → sets out' (at + (w + d)) (stands (signs m' (drop (i + 1) s))) ≡ sets out (at + w) (stands (signs m (drop i s)))
stored_on s out out' at w d i m m' h e f g =
    let v = stands (gives m (get_or s i 0)) in
    let r = stands (signs (after m (get_or s i 0)) (drop (i + 1) s)) in
    ap (λ (x : Mode). sets out' (at + (w + d)) (stands (signs x (drop (i + 1) s)))) e
    ∙ sets_rest out v out' (at + w) (at + (w + d)) g (omega arith) r
    ∙ ap (sets out (at + w)) (sym (stands_on s i m h))

pub stored_end : (s out out' : List ℕ) (at w i : ℕ) (m : Mode) → length s ≤ i → out' ≡ sets out (at + w) (stands (at_end m)) → out' ≡ sets out (at + w) (stands (signs m (drop i s)))
stored_end s out out' at w i m h e = e ∙ ap (sets out (at + w)) (sym (stands_past s i m h))
