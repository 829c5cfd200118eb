-- Laws of tests of all or any of a list, and of what stands before and after the first that passes. Assumes nothing.
use Prim.Native.Nat.{ℕ, zero, suc}
use mathlib.Core.Path.{◌≡◌, refl, sym, ap, ◌∙◌}
use mathlib.Core.List.{List, [], ◌∷◌, ◌++◌, map, append-nil}
use mathlib.Core.Bool.{Bool, true, false, ◌||◌, or_assoc, or-true}
use lib.ListN.{drop}
use Rattle.text.specs.Lists.{all_of, any_of, up_to, past, is_nil}
use Rattle.text.proofs.Tests.{and_l, and_r, or_l, or_r, no_case}

module _ {A : Type 0} (f : A → Bool) where
  pub all_append : (a b : List A) → all_of f a ≡ true → all_of f b ≡ true → all_of f (a ++ b) ≡ true
  unfolding all_of
  all_append [] b p q = q
  all_append (x ∷ a) b p q = simp (and_l (f x) (all_of f a) p, all_append a b (and_r (f x) (all_of f a) p) q)

  pub all_up : (g : A → Bool) (a : List A) → all_of f a ≡ true → all_of f (up_to g a) ≡ true
  unfolding all_of up_to
  all_up g [] p = refl
  all_up g (x ∷ a) p = go (g x) refl (all_up g a (and_r (f x) (all_of f a) p))
    where
      go : (t : Bool) → g x ≡ t → all_of f (up_to g a) ≡ true → all_of f (up_to g (x ∷ a)) ≡ true
      go true e ih = simp e
      go false e ih = simp (e, and_l (f x) (all_of f a) p, ih)

  pub all_past : (g : A → Bool) (a : List A) → all_of f a ≡ true → all_of f (past g a) ≡ true
  unfolding all_of past
  all_past g [] p = refl
  all_past g (x ∷ a) p = go (g x) refl (all_past g a (and_r (f x) (all_of f a) p))
    where
      go : (t : Bool) → g x ≡ t → all_of f (past g a) ≡ true → all_of f (past g (x ∷ a)) ≡ true
      go true e ih = simp e (and_r (f x) (all_of f a) p)
      go false e ih = simp e ih

  -- a text in which nothing passes the test: before any other, before one that passes, and alone
  pub up_over : (a r : List A) → any_of f a ≡ false → up_to f (a ++ r) ≡ a ++ up_to f r
  unfolding any_of up_to
  up_over [] r n = refl
  up_over (y ∷ a) r n = simp (or_l (f y) (any_of f a) n, up_over a r (or_r (f y) (any_of f a) n))

  pub up_at : (a : List A) (x : A) (b : List A) → any_of f a ≡ false → f x ≡ true → up_to f (a ++ (x ∷ b)) ≡ a
  unfolding up_to
  up_at a x b n e = up_over a (x ∷ b) n ∙ rw e (append-nil a)

  pub up_all : (a : List A) → any_of f a ≡ false → up_to f a ≡ a
  unfolding up_to
  up_all a n = ap (up_to f) (sym (append-nil a)) ∙ up_over a [] n ∙ append-nil a

  pub past_at_lem : (a : List A) (x : A) (b : List A) → any_of f a ≡ false → f x ≡ true → past f (a ++ (x ∷ b)) ≡ b
  unfolding any_of past
  past_at_lem [] x b n e = simp e
  past_at_lem (y ∷ a) x b n e = simp (or_l (f y) (any_of f a) n, past_at_lem a x b (or_r (f y) (any_of f a) n) e)

  -- a test of any of two lists after one another
  pub any_over : (a r : List A) → any_of f (a ++ r) ≡ any_of f a || any_of f r
  unfolding any_of
  any_over [] r = refl
  any_over (x ∷ a) r = ap (λ (t : Bool). f x || t) (any_over a r) ∙ sym (or_assoc (f x) (any_of f a) (any_of f r))

  pub any_at : (a : List A) (x : A) (b : List A) → f x ≡ true → any_of f (a ++ (x ∷ b)) ≡ true
  unfolding any_of
  any_at a x b e = any_over a (x ∷ b) ∙ rw e (or-true (any_of f a))

  pub any_append : (a b : List A) → any_of f a ≡ false → any_of f b ≡ false → any_of f (a ++ b) ≡ false
  any_append a b p q = any_over a b ∙ simp (p, q)

  -- where one passes the test: what stands before it, it, and what stands after it
  pub any_split : (s : List A) → any_of f s ≡ true → (x : A) × (f x ≡ true) × (s ≡ up_to f s ++ (x ∷ past f s))
  unfolding any_of up_to past
  any_split [] e = no_case (sym e)
  any_split (y ∷ s) e = go (f y) refl (any_split s)
    where
      go : (t : Bool) → f y ≡ t → (any_of f s ≡ true → (x : A) × (f x ≡ true) × (s ≡ up_to f s ++ (x ∷ past f s)))
          → (x : A) × (f x ≡ true) × (y ∷ s ≡ up_to f (y ∷ s) ++ (x ∷ past f (y ∷ s)))
      go true p ih = (y, p, rw p refl)
      go false p ih = let r = ih (rw p at e) in (r.0, r.1, rw p (ap (λ (z : List A). y ∷ z) r.2))

  -- what is known of all is known of a part
  pub all_drop : (n : ℕ) (a : List A) → all_of f a ≡ true → all_of f (drop n a) ≡ true
  unfolding all_of
  all_drop zero a p = p
  all_drop (suc n) [] p = refl
  all_drop (suc n) (x ∷ a) p = all_drop n a (and_r (f x) (all_of f a) p)

  pub all_right : (a b : List A) → all_of f (a ++ b) ≡ true → all_of f b ≡ true
  unfolding all_of
  all_right [] b p = p
  all_right (x ∷ a) b p = all_right a b (and_r (f x) (all_of f (a ++ b)) p)

  -- what holds of all holds of what holds less often
  pub all_mono : (g : A → Bool) → ((x : A) → f x ≡ true → g x ≡ true) → (s : List A) → all_of f s ≡ true → all_of g s ≡ true
  unfolding all_of
  all_mono g m [] e = refl
  all_mono g m (x ∷ s) e = simp (m x (and_l (f x) (all_of f s) e), all_mono g m s (and_r (f x) (all_of f s) e))

  -- what holds of all keeps what it rules out away
  pub all_none : (g : A → Bool) → ((x : A) → f x ≡ true → g x ≡ false) → (s : List A) → all_of f s ≡ true → any_of g s ≡ false
  unfolding all_of any_of
  all_none g m [] e = refl
  all_none g m (x ∷ s) e = simp (m x (and_l (f x) (all_of f s) e), all_none g m s (and_r (f x) (all_of f s) e))

-- a list that is empty, and one that a function makes of one that is not
pub nil_is : {A : Type 0} (s : List A) → is_nil s ≡ true → s ≡ []
nil_is [] e = refl
nil_is (x ∷ s) e = no_case (sym e)

pub map_some : {A B : Type 0} (f : A → B) (s : List A) → is_nil s ≡ false → is_nil (map f s) ≡ false
map_some f [] e = e
map_some f (x ∷ s) e = refl
