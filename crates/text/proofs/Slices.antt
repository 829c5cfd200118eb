-- What a part of a slice holds. Assumes nothing.
use Prim.Native.Nat.{ℕ, suc, zero, ◌+◌, ◌-◌, ◌<◌, ◌≤◌}
use mathlib.Core.Path.{◌≡◌, sym, ap, ◌∙◌}
use mathlib.Core.List.{List, [], ◌∷◌, ◌++◌}
use native.Mathlib.Omega.{arith}
use lib.ListN.{length, get_or, take, drop, length-drop, take-append-drop}
use lib.Seq.{take_all, length-take-le, take-nil, drop-drop, get_or-take, get_or-drop}

-- what is left of the front of a list
pub drop_take : {A : Type 0} (a n : ℕ) (l : List A) → drop a (take n l) ≡ take (n - a) (drop a l)
drop_take zero n l = let e : n - 0 ≡ n = omega arith in ap (λ (k : ℕ). take k l) (sym e)
drop_take (suc a) zero l = let e : 0 - suc a ≡ 0 = omega arith in ap (λ (k : ℕ). take k (drop (suc a) l)) (sym e)
drop_take (suc a) (suc n) [] = sym (take-nil (suc n - suc a))
drop_take (suc a) (suc n) (x ∷ l) = let e : suc n - suc a ≡ n - a = omega arith in drop_take a n l ∙ ap (λ (k : ℕ). take k (drop a l)) (sym e)

module _ {A : Type 0} (l : List A) where
  -- the part `&l[a..]`, and its length
  pub part_from : (a : ℕ) → take (length l - a) (drop a l) ≡ drop a l
  part_from a = let e = length-drop a l in take_all (length l - a) (drop a l) (omega arith)

  pub length_from : (a : ℕ) → length (take (length l - a) (drop a l)) ≡ length l - a
  length_from a = ap length (part_from a) ∙ length-drop a l

  -- the part `&l[a..a + n]`, and its length
  pub part_between : (a n : ℕ) → take (a + n - a) (drop a l) ≡ take n (drop a l)
  part_between a n = let e : a + n - a ≡ n = omega arith in ap (λ (k : ℕ). take k (drop a l)) e

  pub length_between : (a n : ℕ) → a + n ≤ length l → length (take n (drop a l)) ≡ n
  length_between a n h = let e = length-drop a l in length-take-le n (drop a l) (omega arith)

  pub length_part : (a n : ℕ) → a + n ≤ length l → length (take (a + n - a) (drop a l)) ≡ n
  length_part a n h = ap length (part_between a n) ∙ length_between a n h

  -- a part and what follows it are the rest of the list
  pub part_rest : (a n : ℕ) → take n (drop a l) ++ drop (a + n) l ≡ drop a l
  part_rest a n = ap (λ (r : List A). take n (drop a l) ++ r) (sym (drop-drop n a l)) ∙ take-append-drop n (drop a l)

  -- what stands at a place of a part
  pub get_d_part : (a n i : ℕ) (d : A) → i < n → get_or (take n (drop a l)) i d ≡ get_or l (a + i) d
  get_d_part a n i d h = get_or-take n (drop a l) i d h ∙ get_or-drop a l i d
