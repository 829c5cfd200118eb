-- What iterator chains find, in the words of specs/. Assumes nothing.
use Rattle.std.proofs.Common.{List, [], ◌∷◌, Bool, true, false, ◌||◌, ◌≡◌, refl}
use Rattle.std.specs.List.{fold}
use Rattle.text.specs.Lists.{any_of}

-- a test of any that looks at all
pub any_folded : {A : Type 0} (f : A → Bool) (a : Bool) (xs : List A) → fold (λ a x. a || f x) a xs ≡ a || any_of f xs
unfolding any_of
any_folded f true [] = refl
any_folded f false [] = refl
any_folded f true (x ∷ xs) = any_folded f true xs
any_folded f false (x ∷ xs) = any_folded f (f x) xs
