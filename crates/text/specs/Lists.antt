-- Lists that every layer speaks of: tests of all or some, what stands before and after, parts and what parts them, runs and walks.
use Rattle.std.specs.Prelude.{ℕ, suc, List, [], ◌∷◌, ◌++◌, Bool, true, false, cond, ◌&&◌, ◌||◌}
use Rattle.std.proofs.Math.Option.{Option, none, some}

module _ {A : Type 0} where
  unfoldable pub all_of : (A → Bool) → List A → Bool
  all_of f [] = true
  all_of f (x ∷ xs) = f x && all_of f xs

  unfoldable pub any_of : (A → Bool) → List A → Bool
  any_of f [] = false
  any_of f (x ∷ xs) = f x || any_of f xs

  -- what stands before the first that passes the test, and what stands after it
  unfoldable pub up_to : (A → Bool) → List A → List A
  up_to f [] = []
  up_to f (x ∷ xs) = let more = x ∷ up_to f xs in cond (f x) [] more

  unfoldable pub past : (A → Bool) → List A → List A
  past f [] = []
  past f (x ∷ xs) = let more = past f xs in cond (f x) xs more

  -- how many at the front pass the test
  unfoldable pub run_len : (A → Bool) → List A → ℕ
  run_len f [] = 0
  run_len f (x ∷ xs) = let more = suc (run_len f xs) in cond (f x) more 0

  -- the first part of a list of parts goes on with x
  abbrev pub onto : A → List (List A) → List (List A)
  onto x [] = (x ∷ []) ∷ []
  onto x (p ∷ ps) = (x ∷ p) ∷ ps

  -- the parts of a text, parted by each that passes the test: one more part than there are such
  unfoldable pub parts : (A → Bool) → List A → List (List A)
  parts f [] = [] ∷ []
  parts f (x ∷ xs) = let rest = parts f xs in cond (f x) ([] ∷ rest) (onto x rest)

  -- each part with x before it; and the parts with x between them
  unfoldable pub each : A → List (List A) → List A
  each x [] = []
  each x (w ∷ ws) = x ∷ (w ++ each x ws)

  unfoldable pub between : A → List (List A) → List A
  between x [] = []
  between x (w ∷ ws) = w ++ each x ws

  abbrev pub is_nil : List A → Bool
  is_nil [] = true
  is_nil (x ∷ xs) = false

-- an automaton's state after all of a list
unfoldable pub walk : {S A : Type 0} → (S → A → S) → S → List A → S
walk f v [] = v
walk f v (x ∷ xs) = walk f (f v x) xs

abbrev pub given : {A B : Type 0} → Option A → (A → Option B) → Option B
given none f = none
given (some a) f = f a

-- all of them, or none
unfoldable pub every : {A : Type 0} → List (Option A) → Option (List A)
every [] = some []
every (o ∷ os) = let rest = every os in given o (λ a. given rest (λ as'. some (a ∷ as')))
