-- Laws of options: what an answer was made from, and all of a list of them. Assumes nothing.
use Prim.Native.Nat.{suc}
use mathlib.Core.Path.{◌≡◌, refl, sym, ap}
use mathlib.Core.List.{List, [], ◌∷◌, map}
use mathlib.Core.Bool.{Bool, true, false, cond}
use mathlib.Core.Option.{Option, none, some, some-injective, none-ne-some}
use lib.ListN.{length}
use Rattle.text.specs.Lists.{all_of, is_nil, given, every}
use Rattle.text.proofs.Tests.{and_l, and_r, and_in}

pub none_some : {P B : Type 0} (b : B) → none ≡ some b → P
none_some b e = absurd (none-ne-some b e)

-- what an answer was made from
pub record MadeFrom {A B : Type 0} (o : Option A) (f : A → Option B) (b : B) : Type 0 where
  pub what : A
  pub is : o ≡ some what
  pub gives : f what ≡ some b

pub given_some : {A B : Type 0} (o : Option A) (f : A → Option B) (b : B) → given o f ≡ some b → MadeFrom o f b
given_some none f b e = none_some b e
given_some (some a) f b e = record { what = a; is = refl; gives = e }

pub cond_some : {B : Type 0} (x : Bool) (o : Option B) (b : B) → cond x o none ≡ some b → (x ≡ true) × (o ≡ some b)
cond_some true o b e = (refl, e)
cond_some false o b e = none_some b e

-- what is known of an answer, by what it was made from
pub some_from : {B : Type 0} (P : B → Type 0) (x : Bool) (b : B) → (x ≡ true → P b) → (c : B) → cond x (some b) none ≡ some c → P c
some_from P true b f c e = rw (sym (some-injective b c e)) (f refl)
some_from P false b f c e = none_some c e

pub given_from : {A B : Type 0} (P : B → Type 0) (o : Option A) (f : A → B) → ((a : A) → o ≡ some a → P (f a)) → (c : B) → given o (λ a. some (f a)) ≡ some c → P c
given_from P none f g c e = none_some c e
given_from P (some a) f g c e = rw (sym (some-injective (f a) c e)) (g a refl)

-- all of them made again from what they were written as
module _ {A B : Type 0} (read : B → Option A) (write : A → B) (ok : A → Bool) (again : (a : A) → ok a ≡ true → read (write a) ≡ some a) where
  pub every_again : (s : List A) → all_of ok s ≡ true → every (map read (map write s)) ≡ some s
  unfolding all_of every
  every_again [] k = refl
  every_again (a ∷ s) k = simp (again a (and_l (ok a) (all_of ok s) k), every_again s (and_r (ok a) (all_of ok s) k))

-- what is known of each that was made is known of all of them, and they are as many
module _ {A B : Type 0} (read : B → Option A) (fine : B → Bool) (ok : A → Bool) (good : (b : B) (a : A) → read b ≡ some a → fine b ≡ true → ok a ≡ true) where
  pub every_ok : (s : List B) (r : List A) → every (map read s) ≡ some r → all_of fine s ≡ true → (length r ≡ length s) × (is_nil r ≡ is_nil s) × (all_of ok r ≡ true)
  unfolding every all_of
  every_ok [] r h k = let z : r ≡ [] = cc in rw z (refl, refl, refl)
  every_ok (b ∷ s) r h k =
      let g = given_some (read b) (λ a. given (every (map read s)) (λ q. some (a ∷ q))) r h in
      let t = given_some (every (map read s)) (λ q. some (g.what ∷ q)) r g.gives in
      let z : r ≡ g.what ∷ t.what = cc t.gives in
      let o = good b g.what g.is (and_l (fine b) (all_of fine s) k) in
      let ih = every_ok s t.what t.is (and_r (fine b) (all_of fine s) k) in
      rw z (ap suc ih.0, refl, and_in (ok g.what) (all_of ok t.what) o ih.2)
