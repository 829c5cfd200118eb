-- A path's segments, one at a time, by their bytes. Assumes nothing.
use Prim.Native.Nat.{ℕ, suc, ◌+◌, ◌-◌, ◌<◌, ◌≤◌}
use mathlib.Core.Path.{◌≡◌, refl, sym, ap, ◌∙◌}
use mathlib.Core.List.{List, [], ◌∷◌, ◌++◌}
use mathlib.Core.Bool.{Bool, true, false, cond, not, ◌&&◌, ◌||◌, and-false, and-true}
use mathlib.Core.Option.{none, some}
use native.Mathlib.Omega.{arith}
use native.Mathlib.Numerals.{add-one}
use borrow.Author.Tests.{le-leb, lt-leb}
use Rattle.std.proofs.lemmas.Bool.{ltb-true, ltb-false}
use lib.ListN.{length, get_or, take, drop, length-drop, drop_of_length-le, take-append-drop}
use lib.Seq.{length-take-le, get_or-drop, drop-drop, drop-cons, take_all}
use lib.Dec.{eqb, leb, ltb}
use Rattle.text.specs.Bytes.{bytes, same_bytes, is_letter}
use Rattle.text.specs.Lists.{any_of, up_to, parts, run_len, is_nil}
use Rattle.text.specs.Decimal.{value_from, is_decimal, decimal_of}
use Rattle.text.proofs.Tests.{and_l, no_case}
use Rattle.text.proofs.Parts.{parts_at, parts_none, parts_some}
use Rattle.text.proofs.Slices.{part_from, part_between, length_between}
use Rattle.text.proofs.Decimals.{value_most, told_is, told_no}
use Rattle.text.proofs.Scans.{run_within}
use Rattle.words.specs.Words.{session_name}
use Rattle.forms.specs.declared.Piece.{Piece}
use Rattle.forms.specs.declared.Piece.TheVariants as piece
use Rattle.forms.specs.declared.Where.TheVariants as where'
use Rattle.forms.specs.Targets.{is_separator, tag_len, is_tag_len, is_number, is_numbered, is_starred, is_segment, are_segments, segment_of, path, segments_of, path_of, target_of}
use Rattle.forms.specs.Answers.{piece_of, segment_text, segment_at, where_of, where_in}
use Rattle.forms.specs.Steps.{number_of, after_tag, is_inner, is_last, path_from}
use Rattle.forms.proofs.Lists.{up_take, up_within, up_none, up_next}
use Rattle.std.proofs.Common.{Some, None, Option}

-- ---- one segment's text

tag_length : (s : List ℕ) → length (take (tag_len s) s) ≡ tag_len s
unfolding tag_len
tag_length s = length-take-le (run_len is_letter s) s (run_within is_letter s)

-- a segment as its tag and what follows the tag say
piece_by : (n : ℕ) (s : List ℕ) → piece_of n (segment_of s)
    ≡ cond (same_bytes s (bytes ".")) (Some (piece.Here n))
    (cond (same_bytes s (bytes "..")) (Some (piece.Above n))
    (cond (is_tag_len (tag_len s)) (after_tag n (tag_len s) (drop (tag_len s) s)) None))
unfolding segment_of after_tag is_starred is_numbered
piece_by n s = go (same_bytes s (bytes ".")) (same_bytes s (bytes "..")) (is_tag_len (tag_len s)) (is_number (drop (tag_len s) s)) (same_bytes (drop (tag_len s) s) (bytes "*")) refl refl refl refl refl
  where
    go : (a b c d e : Bool) → same_bytes s (bytes ".") ≡ a → same_bytes s (bytes "..") ≡ b → is_tag_len (tag_len s) ≡ c → is_number (drop (tag_len s) s) ≡ d
        → same_bytes (drop (tag_len s) s) (bytes "*") ≡ e
        → piece_of n (segment_of s)
        ≡ cond (same_bytes s (bytes ".")) (Some (piece.Here n))
        (cond (same_bytes s (bytes "..")) (Some (piece.Above n))
        (cond (is_tag_len (tag_len s)) (after_tag n (tag_len s) (drop (tag_len s) s)) None))
    go true b c d e p q r t u = simp p
    go false true c d e p q r t u = simp (p, q)
    go false false false d e p q r t u = simp (p, q, r)
    go false false true true e p q r t u = simp (p, q, r, t, tag_length s)
    go false false true false true p q r t u = simp (p, q, r, t, u, tag_length s)
    go false false true false false p q r t u = simp (p, q, r, t, u)

module _ (n : ℕ) (s : List ℕ) where
  pub piece_here : same_bytes s (bytes ".") ≡ true → Some (piece.Here n) ≡ piece_of n (segment_of s)
  piece_here p = sym (piece_by n s ∙ rw p)

  pub piece_above : same_bytes s (bytes ".") ≡ false → same_bytes s (bytes "..") ≡ true → Some (piece.Above n) ≡ piece_of n (segment_of s)
  piece_above p q = sym (piece_by n s ∙ rw (p, q))

  -- k letters begin it; r is what the rest, a part of its own, makes of it
  pub piece_tag : (k : ℕ) (r : Option Piece) → same_bytes s (bytes ".") ≡ false → same_bytes s (bytes "..") ≡ false → k ≡ run_len is_letter s → is_tag_len k ≡ true
      → r ≡ after_tag n k (take (length s - k) (drop k s)) → r ≡ piece_of n (segment_of s)
  unfolding tag_len
  piece_tag k r p q e i h =
      let z : is_tag_len (run_len is_letter s) ≡ true = ap is_tag_len (sym e) ∙ i in
      h ∙ ap (after_tag n k) (part_from s k) ∙ ap (λ (j : ℕ). after_tag n j (drop j s)) e ∙ sym (piece_by n s ∙ rw (p, q, z))

  pub piece_none : (k : ℕ) → same_bytes s (bytes ".") ≡ false → same_bytes s (bytes "..") ≡ false → k ≡ run_len is_letter s → is_tag_len k ≡ false
      → None ≡ piece_of n (segment_of s)
  unfolding tag_len
  piece_none k p q e i = let z : is_tag_len (run_len is_letter s) ≡ false = ap is_tag_len (sym e) ∙ i in sym (piece_by n s ∙ rw (p, q, z))

pub inner_by : (n : ℕ) (s : List ℕ) → is_inner (piece_of n (segment_of s)) ≡ is_segment s
unfolding segment_of is_segment
inner_by n s = go (same_bytes s (bytes ".")) (same_bytes s (bytes "..")) (is_numbered s) (is_starred s) refl refl refl refl
  where
    go : (a b c d : Bool) → same_bytes s (bytes ".") ≡ a → same_bytes s (bytes "..") ≡ b → is_numbered s ≡ c → is_starred s ≡ d
        → is_inner (piece_of n (segment_of s)) ≡ is_segment s
    go true b c d p q r t = simp p
    go false true c d p q r t = simp (p, q)
    go false false true d p q r t = simp (p, q, r)
    go false false false true p q r t = simp (p, q, r, t)
    go false false false false p q r t = simp (p, q, r, t)

pub last_by : (n : ℕ) (s : List ℕ) → is_last (piece_of n (segment_of s)) ≡ is_segment s || is_starred s
unfolding segment_of is_segment
last_by n s = go (same_bytes s (bytes ".")) (same_bytes s (bytes "..")) (is_numbered s) (is_starred s) refl refl refl refl
  where
    go : (a b c d : Bool) → same_bytes s (bytes ".") ≡ a → same_bytes s (bytes "..") ≡ b → is_numbered s ≡ c → is_starred s ≡ d
        → is_last (piece_of n (segment_of s)) ≡ is_segment s || is_starred s
    go true b c d p q r t = simp p
    go false true c d p q r t = simp (p, q)
    go false false true d p q r t = simp (p, q, r)
    go false false false true p q r t = simp (p, q, r, t)
    go false false false false p q r t = simp (p, q, r, t)

-- ---- what follows a tag

module _ (d : List ℕ) where
  pub number_zero : eqb (get_or d 0 0) 48 ≡ true → None ≡ number_of d
  unfolding number_of
  number_zero e = sym (rw e (ap (λ (b : Bool). cond b (Some (value_from 0 d)) None) (and-false (is_decimal 65535 d))))

  pub number_plain : eqb (get_or d 0 0) 48 ≡ false → decimal_of 65535 d ≡ number_of d
  unfolding number_of decimal_of
  number_plain e = sym (rw e (ap (λ (b : Bool). cond b (Some (value_from 0 d)) None) (and-true (is_decimal 65535 d))))

  number_is : (v : ℕ) → Some v ≡ number_of d → (is_number d ≡ true) × (v ≡ value_from 0 d)
  unfolding number_of
  number_is v e = told_is (is_number d) v (value_from 0 d) e

  number_no : None ≡ number_of d → is_number d ≡ false
  unfolding number_of
  number_no e = told_no (is_number d) (value_from 0 d) e

  pub number_most : (v : ℕ) → Some v ≡ number_of d → v ≤ 65535
  number_most v e =
      let i = number_is v e in
      let m = value_most 65535 d (and_l (is_decimal 65535 d) (not (eqb (get_or d 0 0) 48)) i.0) in
      omega (arith, i.1)

  pub tag_number : (n k v : ℕ) → Some v ≡ number_of d → Some (piece.Child n k v) ≡ after_tag n k d
  unfolding after_tag
  tag_number n k v e = let i = number_is v e in sym (rw (i.0, ← i.1))

  pub tag_star : (n k : ℕ) → None ≡ number_of d → same_bytes d (bytes "*") ≡ true → Some (piece.Children n k) ≡ after_tag n k d
  unfolding after_tag
  tag_star n k e s = sym (rw (number_no e, s))

  pub tag_none : (n k : ℕ) → None ≡ number_of d → same_bytes d (bytes "*") ≡ false → None ≡ after_tag n k d
  unfolding after_tag
  tag_none n k e s = sym (rw (number_no e, s))

-- no segment stands at or past a text's end
pub piece_past : (t : List ℕ) (at : ℕ) → length t ≤ at → segment_at t at ≡ None
unfolding segment_at segment_text up_to segment_of same_bytes bytes is_numbered is_starred tag_len run_len
piece_past t at h = rw (drop_of_length-le t h)

-- ---- a segment before others

pub segments_cons : (a : List ℕ) (ps : List (List ℕ)) → is_nil ps ≡ false → are_segments (a ∷ ps) ≡ is_segment a && are_segments ps
unfolding are_segments
segments_cons a [] e = no_case e
segments_cons a (p ∷ ps) e = refl

-- ---- n bytes from a place on are the segment there

module _ (t : List ℕ) (at n : ℕ) (e : n ≡ length (segment_text t at)) where
  pub segment_text_lem : take n (drop at t) ≡ segment_text t at
  unfolding segment_text
  segment_text_lem = ap (λ (k : ℕ). take k (drop at t)) e ∙ up_take is_separator (drop at t)

  pub segment_solid : any_of is_separator (take n (drop at t)) ≡ false
  unfolding segment_text
  segment_solid = ap (any_of is_separator) segment_text_lem ∙ up_none is_separator (drop at t)

  pub segment_within : at ≤ length t → at + n ≤ length t
  unfolding segment_text
  segment_within h = let w = up_within is_separator (drop at t) in let d = length-drop at t in omega arith

  -- what stands there
  pub segment_piece : piece_of n (segment_of (take n (drop at t))) ≡ segment_at t at
  unfolding segment_at
  segment_piece = ap (λ (a : List ℕ). piece_of n (segment_of a)) segment_text_lem ∙ ap (λ (k : ℕ). piece_of k (segment_of (segment_text t at))) e

  -- it is the last
  pub parts_last : at + n ≡ length t → parts is_separator (drop at t) ≡ take n (drop at t) ∷ []
  parts_last h =
      let d = length-drop at t in
      let a : take n (drop at t) ≡ drop at t = take_all n (drop at t) (omega arith) in
      ap (parts is_separator) (sym a) ∙ parts_none is_separator (take n (drop at t)) segment_solid

  -- a separator and more follow it
  pub separator_next : at + n < length t → is_separator (get_or t (at + n) 0) ≡ true
  unfolding segment_text
  separator_next h =
      let d = length-drop at t in
      ap (λ (b : ℕ). is_separator b) (sym (get_or-drop at t n 0) ∙ ap (λ (k : ℕ). get_or (drop at t) k 0) e) ∙ up_next is_separator (drop at t) 0 (omega arith)

  pub parts_more : at + n < length t → parts is_separator (drop at t) ≡ take n (drop at t) ∷ parts is_separator (drop (at + n + 1) t)
  parts_more h =
      let a : drop at t ≡ take n (drop at t) ++ (get_or t (at + n) 0 ∷ drop (at + n + 1) t)
      = sym (take-append-drop n (drop at t)) ∙ ap (λ (r : List ℕ). take n (drop at t) ++ r) (drop-drop n at t ∙ rw (add-one, drop-cons t (at + n) 0)) in
      ap (parts is_separator) a ∙ parts_at is_separator (take n (drop at t)) (get_or t (at + n) 0) (drop (at + n + 1) t) segment_solid (separator_next h)

-- the part `&t[at..at + n]` is that segment
pub part_piece : (t : List ℕ) (at n : ℕ) (p : Option Piece) → at + n ≤ length t
    → p ≡ piece_of (length (take (at + n - at) (drop at t))) (segment_of (take (at + n - at) (drop at t))) → p ≡ piece_of n (segment_of (take n (drop at t)))
part_piece t at n p h j =
    j ∙ ap (λ (a : List ℕ). piece_of (length a) (segment_of a)) (part_between t at n)
    ∙ ap (λ (k : ℕ). piece_of k (segment_of (take n (drop at t)))) (length_between t at n h)

-- ---- a path from a place on, k segments having come before

path_cons : (rooted : Bool) (k : ℕ) (a : List ℕ) (s r : List ℕ) → parts is_separator s ≡ a ∷ parts is_separator r
    → path_from rooted k s ≡ cond (is_segment a) (path_from rooted (k + 1) r) None
unfolding path_from
path_cons rooted k a s r e =
    let q = parts is_separator r in
    let n : k + suc (length q) ≡ k + 1 + length q = omega arith in
    ap (λ (p : List (List ℕ)). cond (are_segments p && leb (k + length p) 16) (Some (where'.Path rooted (k + length p))) None) e
    ∙ ap (λ (b : Bool). cond (b && leb (k + suc (length q)) 16) (Some (where'.Path rooted (k + suc (length q)))) None) (segments_cons a q (parts_some is_separator r))
    ∙ ap (λ (m : ℕ). cond ((is_segment a && are_segments q) && leb m 16) (Some (where'.Path rooted m)) None) n
    ∙ go (is_segment a) (are_segments q) (k + 1 + length q)
  where
    go : (x y : Bool) (m : ℕ) → cond ((x && y) && leb m 16) (Some (where'.Path rooted m)) None ≡ cond x (cond (y && leb m 16) (Some (where'.Path rooted m)) None) None
    go true y m = refl
    go false y m = refl

module _ (rooted : Bool) (k : ℕ) (t : List ℕ) (at n : ℕ) (w : at ≤ length t) (e : n ≡ length (segment_text t at)) (p : Option Piece)
    (r : p ≡ piece_of (length (take (at + n - at) (drop at t))) (segment_of (take (at + n - at) (drop at t)))) where
  j : p ≡ piece_of n (segment_of (take n (drop at t)))
  j = part_piece t at n p (segment_within t at n e w) r

  pub path_more : at + n < length t → is_inner p ≡ true → path_from rooted (k + 1) (drop (at + n + 1) t) ≡ path_from rooted k (drop at t)
  path_more h i =
      let s : is_segment (take n (drop at t)) ≡ true = sym (inner_by n (take n (drop at t))) ∙ ap is_inner (sym j) ∙ i in
      sym (path_cons rooted k (take n (drop at t)) (drop at t) (drop (at + n + 1) t) (parts_more t at n e h) ∙ rw s)

  pub path_stops : at + n < length t → is_inner p ≡ false → path_from rooted k (drop at t) ≡ None
  path_stops h i =
      let s : is_segment (take n (drop at t)) ≡ false = sym (inner_by n (take n (drop at t))) ∙ ap is_inner (sym j) ∙ i in
      path_cons rooted k (take n (drop at t)) (drop at t) (drop (at + n + 1) t) (parts_more t at n e h) ∙ rw s

  path_last : at + n ≡ length t → k < 16 → path_from rooted k (drop at t) ≡ cond (is_last p) (Some (where'.Path rooted (k + 1))) None
  unfolding path_from are_segments
  path_last h l =
      let a = take n (drop at t) in
      let s : are_segments (a ∷ []) ≡ is_last p = sym (last_by n a) ∙ ap is_last (sym j) in
      ap (λ (q : List (List ℕ)). cond (are_segments q && leb (k + length q) 16) (Some (where'.Path rooted (k + length q))) None) (parts_last t at n e h)
      ∙ rw (s, le-leb (k + 1) 16 (omega arith)) (go (is_last p))
    where
      go : (x : Bool) → cond (x && true) (Some (where'.Path rooted (k + 1))) None ≡ cond x (Some (where'.Path rooted (k + 1))) None
      go true = refl
      go false = refl

  pub path_ends : at + n ≡ length t → k < 16 → is_last p ≡ true → path_from rooted k (drop at t) ≡ Some (where'.Path rooted (k + 1))
  path_ends h l i = path_last h l ∙ rw i

  pub path_bad : at + n ≡ length t → k < 16 → is_last p ≡ false → path_from rooted k (drop at t) ≡ None
  path_bad h l i = path_last h l ∙ rw i

-- what stands there is no segment, last or before another
pub path_none : (rooted : Bool) (k : ℕ) (t : List ℕ) (at n : ℕ) → at ≤ length t → n ≡ length (segment_text t at)
    → None ≡ piece_of (length (take (at + n - at) (drop at t))) (segment_of (take (at + n - at) (drop at t))) → k < 16 → path_from rooted k (drop at t) ≡ None
path_none rooted k t at n w e r l = go (ltb (at + n) (length t)) refl
  where
    go : (b : Bool) → ltb (at + n) (length t) ≡ b → path_from rooted k (drop at t) ≡ None
    go true h = path_stops rooted k t at n w e None r (ltb-true _ _ h) refl
    go false h = let i = segment_within t at n e w in path_bad rooted k t at n w e None r (let j = ltb-false _ _ h in omega arith) l refl

-- whatever segment stands last is one
pub last_some : (p : Piece) → is_last (Some p) ≡ true
last_some (piece.Here n) = refl
last_some (piece.Above n) = refl
last_some (piece.Child n k v) = refl
last_some (piece.Children n k) = refl

-- 16 segments and one more
pub path_full : (rooted : Bool) (k : ℕ) (s : List ℕ) → 16 ≤ k → path_from rooted k s ≡ None
unfolding path_from
path_full rooted k s h = go (parts is_separator s) (parts_some is_separator s)
  where
    go : (p : List (List ℕ)) → is_nil p ≡ false → cond (are_segments p && leb (k + length p) 16) (Some (where'.Path rooted (k + length p))) None ≡ None
    go [] e = no_case e
    go (a ∷ p) e = rw (lt-leb (k + suc (length p)) 16 (omega arith), and-false (are_segments (a ∷ p)))

-- a target by its first byte
pub target_session : (t : List ℕ) → same_bytes t session_name ≡ true → Some where'.Session ≡ where_in t
unfolding where_in target_of
target_session t e = sym (rw e)

pub target_empty : (t : List ℕ) → same_bytes t session_name ≡ false → length t ≡ 0 → None ≡ where_in t
unfolding where_in target_of path_of
target_empty [] e h = sym (rw e)
target_empty (b ∷ t) e h = absurd (omega arith)

pub target_path : (t : List ℕ) → same_bytes t session_name ≡ false → (length t ≡ 0 → ⊥) → is_separator (get_or t 0 0) ≡ false → where_of (segments_of false (drop 0 t)) ≡ where_in t
unfolding where_in target_of path_of
target_path [] e h s = absurd (h refl)
target_path (b ∷ t) e h s = sym (rw (e, s))

pub target_root : (t : List ℕ) → same_bytes t session_name ≡ false → is_separator (get_or t 0 0) ≡ true → length t ≡ 1 → Some (where'.Path true 0) ≡ where_in t
unfolding where_in target_of path_of
target_root [] e s h = absurd (omega arith)
target_root (b ∷ []) e s h = sym (rw (e, s))
target_root (b ∷ d ∷ t) e s h = absurd (omega arith)

pub target_rooted : (t : List ℕ) → same_bytes t session_name ≡ false → is_separator (get_or t 0 0) ≡ true → (length t ≡ 0 → ⊥) → (length t ≡ 1 → ⊥)
    → where_of (segments_of true (drop 1 t)) ≡ where_in t
unfolding where_in target_of path_of
target_rooted [] e s h k = absurd (h refl)
target_rooted (b ∷ []) e s h k = absurd (k refl)
target_rooted (b ∷ d ∷ t) e s h k = sym (rw (e, s))

-- a path from its first segment on
pub path_from_lem : (rooted : Bool) (s : List ℕ) → path_from rooted 0 s ≡ where_of (segments_of rooted s)
unfolding path_from segments_of
path_from_lem rooted s =
    let p = parts is_separator s in
    let e : 0 + length p ≡ length p = omega arith in
    ap (λ (m : ℕ). cond (are_segments p && leb m 16) (Some (where'.Path rooted m)) None) e ∙ go (are_segments p && leb (length p) 16)
  where
    go : (x : Bool) → cond x (Some (where'.Path rooted (length (parts is_separator s)))) None ≡ where_of (cond x (some (path rooted (parts is_separator s))) none)
    go true = refl
    go false = refl
