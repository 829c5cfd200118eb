-- What chains of iterators and `==` on slices answer, in the words of specs/: std's `list_all` is `all_of`, `list_any` is `any_of`, and so on.
-- Assumes nothing.
use Rattle.std.proofs.Common.{ℕ, suc, ◌+◌, ◌≤◌, map, sym, List, [], ◌∷◌, length, Bool, true, false, cond, not, eqb, ltb, ◌&&◌, ◌||◌, ◌≡◌, ◌∙◌, refl, ap, arith, bytes_eq, Option, Some, None}
use Rattle.std.specs.Option.{unwrap_or}
use Rattle.std.specs.List.{list_all, list_any, position_or_len, position}
use Rattle.std.specs.Array.{IsMapOf}
use Rattle.std.specs.Fn.{Called}
use Rattle.std.proofs.lemmas.Grind.{common_steps}
use Rattle.std.proofs.lemmas.List.{same_lists, length-map, get_or-map}
use denote.Param.Members.{Mut}
use Rattle.text.specs.Lists.{all_of, any_of, run_len, up_to}
use Rattle.text.specs.Bytes.{same_bytes}
use Rattle.text.proofs.Scans.{run_within}

module _ {A : Type 0} (f : A → Bool) where
  pub all_listed : (xs : List A) → list_all f xs ≡ all_of f xs
  unfolding all_of
  all_listed [] = refl
  all_listed (x ∷ xs) = ap (λ b. f x && b) (all_listed xs)

  pub any_listed : (xs : List A) → list_any f xs ≡ any_of f xs
  unfolding any_of
  any_listed [] = refl
  any_listed (x ∷ xs) = ap (λ b. f x || b) (any_listed xs)

  not_twice : (b : Bool) → not (not b) ≡ b
  not_twice true = refl
  not_twice false = refl

  -- the place of the first that fails the test
  pub first_listed : (xs : List A) → position_or_len (λ x. not (f x)) xs ≡ run_len f xs
  unfolding run_len
  first_listed [] = refl
  first_listed (x ∷ xs) = ap (λ n. cond (not (not (f x))) n 0) (let h = first_listed xs in omega (arith, h)) ∙ ap (λ b. cond b (suc (run_len f xs)) 0) (not_twice (f x))

  -- the place of the first that passes the test
  pub up_to_listed : (xs : List A) → position_or_len f xs ≡ length (up_to f xs)
  unfolding up_to
  up_to_listed [] = refl
  up_to_listed (x ∷ xs) = go (f x) (up_to_listed xs)
    where
      go : (t : Bool) → position_or_len f xs ≡ length (up_to f xs) → cond (not t) (1 + position_or_len f xs) 0 ≡ length (cond t [] (x ∷ up_to f xs))
      go true h = refl
      go false h = omega (arith, h)

  -- what `position(..).unwrap_or(n)` gives where n is the length
  found_or_end : (test : A → Bool) (r : Option ℕ) (xs : List A) (n k : ℕ) → n ≡ length xs → r ≡ position test xs → position_or_len test xs ≡ k → k ≤ length xs → unwrap_or r n ≡ k
  found_or_end test r xs n k e h p w = rw (h, e, p) (go (ltb k (length xs)) refl)
    where
      go : (t : Bool) → ltb k (length xs) ≡ t → unwrap_or (cond t (Some k) None) (length xs) ≡ k
      go true q = refl
      go false q = grind (arith, common_steps)

  -- `position` of the first that fails the test, or the length where none does
  pub first_fails : (r : Option ℕ) (n : ℕ) (xs : List A) → n ≡ length xs → r ≡ position (λ x. not (f x)) xs → unwrap_or r n ≡ run_len f xs
  first_fails r n xs e h = found_or_end (λ x. not (f x)) r xs n (run_len f xs) e h (first_listed xs) (run_within f xs)

  up_to_within : (xs : List A) → length (up_to f xs) ≤ length xs
  unfolding up_to
  up_to_within [] = omega arith
  up_to_within (x ∷ xs) = go (f x) (up_to_within xs)
    where
      go : (t : Bool) → length (up_to f xs) ≤ length xs → length (cond t [] (x ∷ up_to f xs)) ≤ suc (length xs)
      go true h = omega arith
      go false h = omega arith

  -- `position` of the first that passes the test, or the length where none does
  pub first_passes : (r : Option ℕ) (n : ℕ) (xs : List A) → n ≡ length xs → r ≡ position f xs → unwrap_or r n ≡ length (up_to f xs)
  first_passes r n xs e h = found_or_end f r xs n (length (up_to f xs)) e h (up_to_listed xs) (up_to_within xs)

-- `==` of two slices of bytes
pub same_listed : (a b : List ℕ) → bytes_eq a b ≡ same_bytes a b
unfolding same_bytes
same_listed [] [] = refl
same_listed [] (y ∷ b) = refl
same_listed (x ∷ a) [] = refl
same_listed (x ∷ a) (y ∷ b) = ap (λ t. eqb x y && t) (same_listed a b)

-- `map` of an array of numbers, where each call gives what h computes
pub map_listed : {F : Type 0} {g : Mut F (ℕ × Unit {0}) ℕ} {f : F} (h : ℕ → ℕ) (xs ys : List ℕ) (n : ℕ) → IsMapOf g f xs ys n → n ≡ length xs → ((p : F) (x y : ℕ) (q : F) → Called g p (x, tt) y q → y ≡ h x) → ys ≡ map h xs
map_listed h xs ys n m e calls =
    same_lists ys (map h xs) (m.long ∙ e ∙ sym (length-map xs h)) (λ k d l. let w = m.at k 0 d (omega (arith, m.long)) in calls w.0 _ _ w.1 w.2 ∙ sym (get_or-map h xs k 0 d (omega (arith, m.long))))
