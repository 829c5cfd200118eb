-- A record as its 22 bytes: the definitions say of them what they say of the bytes from its start on. Assumes nothing.
use mathlib.Core.Path.{◌≡◌, refl, ap, sym, ◌∙◌}
use Prim.Native.Nat.{ℕ, zero, suc, ◌+◌, ◌-◌, ◌*◌, ◌/◌, ◌<◌, ◌≤◌}
use mathlib.Core.List.{List, [], ◌∷◌}
use mathlib.Core.Bool.{Bool, true, ◌||◌}
use native.Mathlib.Omega.{arith}
use borrow.Author.Tests.{le-ltb, ltb-true, ltb-false}
use lib.Dec.{ltb}
use lib.ListN.{length, get_or, take, drop, length-drop}
use lib.Seq.{drop-drop, take-take, length-take-le}
use Rattle.std.specs.List.{list_any}
use Rattle.std.specs.Simd.{first_chunks}
use Rattle.text.specs.Bytes.{same_bytes}
use Rattle.text.proofs.Tests.{either}
use Rattle.text.proofs.Scans.{same_length}
use Rattle.text.proofs.Slices.{drop_take}
use Rattle.tree.specs.Tree.{parent_in, tag_len_in, tag_in, padding_in, number_in, same_node, twin_in, bad_form, record_at}
use Rattle.tree.specs.Resolve.{tagged_in, named_in}
use Rattle.tree.proofs.CheckLaws.{cut_byte, lengths, bad_long_tag}

-- ---- the first 22 bytes

module _ (s : List ℕ) where
  pub parent_cut : parent_in (take 22 s) ≡ parent_in s
  parent_cut = omega (arith, cut_byte 22 s (omega arith) 1 (omega arith), cut_byte 22 s (omega arith) 2 (omega arith))

  pub number_cut : number_in (take 22 s) ≡ number_in s
  number_cut = omega (arith, cut_byte 22 s (omega arith) 20 (omega arith), cut_byte 22 s (omega arith) 21 (omega arith))

  pub tag_len_cut : tag_len_in (take 22 s) ≡ tag_len_in s
  tag_len_cut = cut_byte 22 s (omega arith) 3 (omega arith)

  module _ (short : tag_len_in s ≤ 16) where
    pub tag_cut : tag_in (take 22 s) ≡ tag_in s
    unfolding tag_in
    tag_cut =
        ap (λ (n : ℕ). take n (drop 4 (take 22 s))) tag_len_cut
        ∙ ap (take (tag_len_in s)) (drop_take 4 22 s)
        ∙ take-take (tag_len_in s) 18 (drop 4 s) (omega arith)

    pub padding_cut : padding_in (take 22 s) ≡ padding_in s
    unfolding padding_in
    padding_cut =
        ap (λ (n : ℕ). take (16 - n) (drop (4 + n) (take 22 s))) tag_len_cut
        ∙ ap (take (16 - tag_len_in s)) (drop_take (4 + tag_len_in s) 22 s)
        ∙ take-take (16 - tag_len_in s) (22 - (4 + tag_len_in s)) (drop (4 + tag_len_in s) s) (omega arith)

    pub tagged_cut : (n : ℕ) (a : List ℕ) → tagged_in (take 22 s) n a ≡ tagged_in s n a
    unfolding tagged_in
    tagged_cut n a = let p = parent_cut in let t = tag_cut in cc

    pub named_cut : (n : ℕ) (a : List ℕ) (i : ℕ) → named_in (take 22 s) n a i ≡ named_in s n a i
    unfolding named_in
    named_cut n a i = let m = number_cut in let t = tagged_cut n a in cc

  short_form : (k : ℕ) → 22 ≤ length s → tag_len_in s ≤ 16 → bad_form (take 22 s) k ≡ bad_form s k
  unfolding bad_form
  short_form k h l =
      let w = length-take-le 22 s h in
      let a = cut_byte 22 s (omega arith) 0 (omega arith) in
      let b = parent_cut in
      let c = tag_len_cut in
      let d = number_cut in
      let t = tag_cut l in
      let p = padding_cut l in
      let e : ltb (length (take 22 s)) 22 ≡ ltb (length s) 22 = le-ltb (length (take 22 s)) 22 (omega arith) ∙ sym (le-ltb (length s) 22 h) in
      cc

  -- a record is as bad as its bytes
  pub form_cut : (k : ℕ) → 22 ≤ length s → bad_form (take 22 s) k ≡ bad_form s k
  form_cut k h = either (ltb 16 (tag_len_in s)) long (λ e. short_form k h (ltb-false 16 (tag_len_in s) e))
    where
      long : ltb 16 (tag_len_in s) ≡ true → bad_form (take 22 s) k ≡ bad_form s k
      long e = let l = ltb-true 16 (tag_len_in s) e in sym (bad_long_tag (take 22 s) k (omega (arith, tag_len_cut))) ∙ bad_long_tag s k l

-- ---- the same node

module _ (a b : List ℕ) (h : 22 ≤ length a) (k : 22 ≤ length b) (short : tag_len_in b ≤ 16) where
  tags_cut : same_bytes (tag_in (take 22 a)) (tag_in (take 22 b)) ≡ same_bytes (tag_in a) (tag_in b)
  tags_cut = ap (same_bytes (tag_in (take 22 a))) (tag_cut b short) ∙ either (ltb 16 (tag_len_in a)) long (λ e. ap (λ (l : List ℕ). same_bytes l (tag_in b)) (tag_cut a (ltb-false 16 (tag_len_in a) e)))
    where
      long : ltb 16 (tag_len_in a) ≡ true → same_bytes (tag_in (take 22 a)) (tag_in b) ≡ same_bytes (tag_in a) (tag_in b)
      long e =
          let l = ltb-true 16 (tag_len_in a) e in
          let w = length-take-le 22 a h in
          let c = lengths (take 22 a) b (omega arith) k short in
          let d = lengths a b h k short in
          let m = tag_len_cut a in
          same_length (tag_in (take 22 a)) (tag_in b) (λ z. absurd (omega arith)) ∙ sym (same_length (tag_in a) (tag_in b) (λ z. absurd (omega arith)))

  pub same_cut : same_node (take 22 a) (take 22 b) ≡ same_node a b
  unfolding same_node
  same_cut =
      let p = parent_cut a in
      let q = parent_cut b in
      let m = number_cut a in
      let n = number_cut b in
      let t = tags_cut in
      cc

-- ---- all records of a tree

pub length_chunks : (k : ℕ) (s : List ℕ) → length (first_chunks 22 k s) ≡ k
length_chunks zero s = refl
length_chunks (suc k) s = ap suc (length_chunks k (drop 22 s))

-- the one after i others
pub chunk_at : (k i : ℕ) (s : List ℕ) → i < k → get_or (first_chunks 22 k s) i [] ≡ take 22 (drop (22 * i) s)
chunk_at zero i s h = absurd (omega arith)
chunk_at (suc k) zero s h = refl
chunk_at (suc k) (suc i) s h =
    let z : 22 + 22 * i ≡ 22 * suc i = omega arith in
    chunk_at k i (drop 22 s) (omega arith) ∙ ap (take 22) (drop-drop (22 * i) 22 s ∙ ap (λ (n : ℕ). drop n s) z)

-- the record of a node
pub node_bytes : (t : List ℕ) (rs : List (List ℕ)) (k : ℕ) → rs ≡ first_chunks 22 (length t / 22) t → 1 ≤ k → k ≤ length t / 22 → get_or rs (k - 1) [] ≡ take 22 (record_at t k)
unfolding record_at
node_bytes t rs k e one h = ap (λ (l : List (List ℕ)). get_or l (k - 1) []) e ∙ chunk_at (length t / 22) (k - 1) t (omega arith)

-- the same, by its place
pub next_bytes : (t : List ℕ) (rs : List (List ℕ)) (k : ℕ) → rs ≡ first_chunks 22 (length t / 22) t → k < length t / 22 → get_or rs k [] ≡ take 22 (record_at t (suc k))
next_bytes t rs k e h =
    let z : suc k - 1 ≡ k = omega arith in
    ap (λ (i : ℕ). get_or rs i []) (sym z) ∙ node_bytes t rs (suc k) e (omega arith) (omega arith)

pub chunks_before : (n k : ℕ) (s : List ℕ) → k ≤ n → take k (first_chunks 22 n s) ≡ first_chunks 22 k s
chunks_before n zero s h = refl
chunks_before zero (suc k) s h = absurd (omega arith)
chunks_before (suc n) (suc k) s h = ap (λ (l : List (List ℕ)). take 22 s ∷ l) (chunks_before n k (drop 22 s) (omega arith))

-- one of the first k is the same node
pub any_twin : (k : ℕ) (s b : List ℕ) → 22 * k ≤ length s → 22 ≤ length b → tag_len_in b ≤ 16
    → list_any (λ (a : List ℕ). same_node a (take 22 b)) (first_chunks 22 k s) ≡ twin_in k (take (22 * k) s) b
unfolding twin_in
any_twin zero s b h l short = refl
any_twin (suc k) s b h l short =
    let w = length-take-le (22 * suc k) s h in
    let here = ap (λ (a : List ℕ). same_node a (take 22 b)) (sym (take-take 22 (22 * suc k) s (omega arith))) ∙ same_cut (take (22 * suc k) s) b (omega arith) l short in
    let z : 22 * suc k - 22 ≡ 22 * k = omega arith in
    let rest = any_twin k (drop 22 s) b (omega (arith, length-drop 22 s)) l short ∙ ap (λ (a : List ℕ). twin_in k a b) (sym (drop_take 22 (22 * suc k) s ∙ ap (λ (i : ℕ). take i (drop 22 s)) z)) in
    ap (λ (x : Bool). x || list_any (λ (a : List ℕ). same_node a (take 22 b)) (first_chunks 22 k (drop 22 s))) here
    ∙ ap (λ (x : Bool). same_node (take (22 * suc k) s) b || x) rest
