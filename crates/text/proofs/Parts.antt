-- Laws of the parts of a list and of what parts them. Assumes nothing.
use mathlib.Core.Path.{◌≡◌, refl, sym, ap, ◌∙◌}
use mathlib.Core.List.{List, [], ◌∷◌, ◌++◌, append-nil}
use mathlib.Core.Bool.{Bool, true, false, cond, not}
use borrow.Author.Tests.{not-true}
use Rattle.text.specs.Lists.{all_of, any_of, onto, parts, each, between, is_nil}
use Rattle.text.proofs.Tests.{and_l, and_r, or_l, or_r, no_case}
use Rattle.text.proofs.AllAny.{all_append, any_append}

module _ {A : Type 0} (f : A → Bool) where
  -- the parts of a text that begins with one in which nothing parts
  pub parts_none : (a : List A) → any_of f a ≡ false → parts f a ≡ a ∷ []
  unfolding any_of parts
  parts_none [] n = refl
  parts_none (y ∷ a) n = simp (or_l (f y) (any_of f a) n, parts_none a (or_r (f y) (any_of f a) n))

  pub parts_at : (a : List A) (x : A) (b : List A) → any_of f a ≡ false → f x ≡ true → parts f (a ++ (x ∷ b)) ≡ a ∷ parts f b
  unfolding any_of parts
  parts_at [] x b n e = simp e
  parts_at (y ∷ a) x b n e = simp (or_l (f y) (any_of f a) n, parts_at a x b (or_r (f y) (any_of f a) n) e)

  -- what stands between separators is the parts
  parts_each : (x : A) (a : List A) (ws : List (List A)) → f x ≡ true → any_of f a ≡ false → all_of (λ w. not (any_of f w)) ws ≡ true
      → parts f (a ++ each x ws) ≡ a ∷ ws
  unfolding each all_of
  parts_each x a [] e n h = rw append-nil (parts_none a n)
  parts_each x a (w ∷ ws) e n h =
      let l = and_l (not (any_of f w)) (all_of (λ v. not (any_of f v)) ws) h in
      let r = and_r (not (any_of f w)) (all_of (λ v. not (any_of f v)) ws) h in
      parts_at a x (w ++ each x ws) n e ∙ ap (λ z. a ∷ z) (parts_each x w ws e (not-true (any_of f w) l) r)

  pub parts_between : (x : A) (a : List A) (ws : List (List A)) → f x ≡ true → all_of (λ w. not (any_of f w)) (a ∷ ws) ≡ true
      → parts f (between x (a ∷ ws)) ≡ a ∷ ws
  unfolding between all_of
  parts_between x a ws e h =
      parts_each x a ws e (not-true (any_of f a) (and_l (not (any_of f a)) (all_of (λ v. not (any_of f v)) ws) h)) (and_r (not (any_of f a)) (all_of (λ v. not (any_of f v)) ws) h)

  -- each part of a text passes a test that each of its elements passes
  pub parts_all : (g : A → Bool) (a : List A) → all_of f a ≡ true → all_of (all_of f) (parts g a) ≡ true
  unfolding all_of parts
  parts_all g [] p = refl
  parts_all g (x ∷ a) p = go (g x) refl (parts g a) (parts_all g a (and_r (f x) (all_of f a) p))
    where
      put : (ws : List (List A)) → all_of (all_of f) ws ≡ true → all_of (all_of f) (onto x ws) ≡ true
      put [] h = simp (and_l (f x) (all_of f a) p)
      put (w ∷ ws) h = simp (and_l (f x) (all_of f a) p) h

      go : (t : Bool) → g x ≡ t → (ws : List (List A)) → all_of (all_of f) ws ≡ true → all_of (all_of f) (cond (g x) ([] ∷ ws) (onto x ws)) ≡ true
      go true e ws ih = simp e ih
      go false e ws ih = simp e (put ws ih)

  -- the parts of a text: at least one, and nothing in them parts
  pub parts_some : (a : List A) → is_nil (parts f a) ≡ false
  unfolding parts
  parts_some [] = refl
  parts_some (x ∷ a) = go (f x) refl (parts f a)
    where
      go : (t : Bool) → f x ≡ t → (ps : List (List A)) → is_nil (cond (f x) ([] ∷ ps) (onto x ps)) ≡ false
      go true e ps = rw e
      go false e [] = rw e
      go false e (p ∷ ps) = rw e

  pub parts_solid : (a : List A) → all_of (λ w. not (any_of f w)) (parts f a) ≡ true
  unfolding parts all_of any_of
  parts_solid [] = refl
  parts_solid (x ∷ a) = go (f x) refl (parts f a) (parts_solid a)
    where
      put : f x ≡ false → (ps : List (List A)) → all_of (λ w. not (any_of f w)) ps ≡ true → all_of (λ w. not (any_of f w)) (onto x ps) ≡ true
      put e [] h = simp e
      put e (p ∷ ps) h = simp e h

      go : (t : Bool) → f x ≡ t → (ps : List (List A)) → all_of (λ w. not (any_of f w)) ps ≡ true → all_of (λ w. not (any_of f w)) (cond (f x) ([] ∷ ps) (onto x ps)) ≡ true
      go true e ps h = simp e h
      go false e ps h = simp e (put e ps h)

  -- the parts with what parts them between them are the text, where only x parts
  pub between_parts : (x : A) → ((y : A) → f y ≡ true → y ≡ x) → (a : List A) → between x (parts f a) ≡ a
  unfolding parts between each
  between_parts x u [] = refl
  between_parts x u (y ∷ a) = go (f y) refl (parts f a) (parts_some a) (between_parts x u a)
    where
      go : (t : Bool) → f y ≡ t → (ps : List (List A)) → is_nil ps ≡ false → between x ps ≡ a → between x (cond (f y) ([] ∷ ps) (onto y ps)) ≡ y ∷ a
      go t e [] h ih = no_case h
      go true e (p ∷ ps) h ih = rw e (ap (λ (z : A). z ∷ (p ++ each x ps)) (sym (u y e)) ∙ ap (λ (z : List A). y ∷ z) ih)
      go false e (p ∷ ps) h ih = rw e (ap (λ (z : List A). y ∷ z) ih)

  -- nothing in the parts, nor in what stands between them
  pub any_each : (x : A) (ws : List (List A)) → f x ≡ false → all_of (λ w. not (any_of f w)) ws ≡ true → any_of f (each x ws) ≡ false
  unfolding all_of each any_of
  any_each x [] e k = refl
  any_each x (w ∷ ws) e k =
      let l = not-true (any_of f w) (and_l (not (any_of f w)) (all_of (λ v. not (any_of f v)) ws) k) in
      simp e (any_append f w (each x ws) l (any_each x ws e (and_r (not (any_of f w)) (all_of (λ v. not (any_of f v)) ws) k)))

  pub any_between : (x : A) (ws : List (List A)) → f x ≡ false → all_of (λ w. not (any_of f w)) ws ≡ true → any_of f (between x ws) ≡ false
  unfolding between any_of each
  any_between x [] e k = refl
  any_between x (w ∷ ws) e k = or_r (f x) (any_of f (w ++ each x ws)) (any_each x (w ∷ ws) e k)

  -- all of the parts, and what stands between them
  pub all_each : (x : A) (ws : List (List A)) → f x ≡ true → all_of (all_of f) ws ≡ true → all_of f (each x ws) ≡ true
  unfolding all_of each
  all_each x [] e k = refl
  all_each x (w ∷ ws) e k =
      simp e (all_append f w (each x ws) (and_l (all_of f w) (all_of (all_of f) ws) k) (all_each x ws e (and_r (all_of f w) (all_of (all_of f) ws) k)))

  pub all_between : (x : A) (ws : List (List A)) → f x ≡ true → all_of (all_of f) ws ≡ true → all_of f (between x ws) ≡ true
  unfolding between all_of each
  all_between x [] e k = refl
  all_between x (w ∷ ws) e k = and_r (f x) (all_of f (w ++ each x ws)) (all_each x (w ∷ ws) e k)
