-- What chains of iterators answer, in the words of specs/. Assumes nothing.
use Rattle.std.proofs.Common.{List, [], ◌∷◌, Bool, true, false, ◌&&◌, ◌≡◌, refl}
use Rattle.std.specs.List.{fold}
use Rattle.text.specs.Lists.{all_of}

module _ {A : Type 0} (f : A → Bool) where
  -- a test of all that goes on to the end
  pub all_folded : (t : Bool) (xs : List A) → fold (λ a x. a && f x) t xs ≡ t && all_of f xs
  unfolding all_of
  all_folded true [] = refl
  all_folded false [] = refl
  all_folded true (x ∷ xs) = all_folded (f x) xs
  all_folded false (x ∷ xs) = all_folded false xs
