-- How many terms a line has at most, by its bytes and by its spaces. Assumes nothing.
use Prim.Native.Nat.{ℕ, suc, ◌+◌, ◌<◌, ◌≤◌}
use mathlib.Core.Path.{◌≡◌, refl, sym, ap, ◌∙◌}
use mathlib.Core.List.{List, [], ◌∷◌, ◌++◌}
use mathlib.Core.Bool.{Bool, true, false, cond, not, ◌&&◌}
use native.Mathlib.Omega.{arith}
use lib.ListN.{length}
use Rattle.std.specs.List.{count_by}
use Rattle.std.proofs.lemmas.List.Sums.{sum_by-cons}
use borrow.Author.Tests.{eqb-true}
use Rattle.text.specs.Lists.{any_of, onto, parts, is_nil}
use Rattle.text.proofs.Tests.{or_l, or_r, no_case}
use Rattle.text.proofs.Parts.{parts_some}
use Rattle.terms.specs.declared.Mode.{Mode}
use Rattle.terms.specs.declared.Mode.TheVariants.{Out, OutGrave, In, InGrave}
use Rattle.terms.specs.Signs.{Sign, bare, after, gives, at_end, signs, raw}
use Rattle.terms.specs.Terms.{is_gap, Term, terms_from, terms_of}
use Rattle.terms.specs.Scan.{is_space, gap_byte}
use Rattle.terms.proofs.SignBytes.{signs_length}
use Rattle.terms.proofs.NextTerm.{gives_solid}
use Rattle.terms.proofs.ByteCases.{end_case}

-- ---- by bytes: between two terms stands a gap, so each but the last takes two signs at least

terms_count : (i : ℕ) (g : Bool) (xs : List Sign) → length (terms_from i g xs) + length (terms_from i g xs) ≤ length xs + cond g 1 0
unfolding terms_from
terms_count i g [] = omega arith
terms_count i g (x ∷ xs) = go g (is_gap x) _ _ (terms_count (i + length (raw x)) (is_gap x) xs)
  where
    go : (h k : Bool) (t : Term) (ts : List Term) → length ts + length ts ≤ length xs + cond k 1 0
        → length (cond (h && not k) (t ∷ ts) ts) + length (cond (h && not k) (t ∷ ts) ts) ≤ suc (length xs) + cond h 1 0
    go true true t ts ih = omega arith
    go true false t ts ih = omega arith
    go false true t ts ih = omega arith
    go false false t ts ih = omega arith

pub short_few : (line : List ℕ) → length line < 129 → length (terms_of line) ≤ 64
unfolding terms_of
short_few line h = let n = terms_count 0 true (signs Out line) in let s = signs_length line in omega arith

-- ---- by spaces: they part a line into at least as many parts as it has terms

module _ {A : Type 0} (f : A → Bool) where
  -- one more that parts is one more part
  parts_count : (x : A) (s : List A) → length (parts f (x ∷ s)) ≡ cond (f x) 1 0 + length (parts f s)
  unfolding parts
  parts_count x s = go (f x) (parts f s) (parts_some f s)
    where
      go : (t : Bool) (ps : List (List A)) → is_nil ps ≡ false → length (cond t ([] ∷ ps) (onto x ps)) ≡ cond t 1 0 + length ps
      go t [] e = no_case e
      go true (p ∷ ps) e = omega arith
      go false (p ∷ ps) e = omega arith

  parts_over : (a r : List A) → any_of f a ≡ false → length (parts f (a ++ r)) ≡ length (parts f r)
  unfolding any_of
  parts_over [] r e = refl
  parts_over (x ∷ a) r e =
      let c : length (parts f (x ∷ (a ++ r))) ≡ 0 + length (parts f (a ++ r)) = parts_count x (a ++ r) ∙ ap (λ (t : Bool). cond t 1 0 + length (parts f (a ++ r))) (or_l (f x) (any_of f a) e) in
      let ih = parts_over a r (or_r (f x) (any_of f a) e) in
      omega arith

-- a text has one part more than spaces
pub spaces_counted : (s : List ℕ) → length (parts is_space s) ≡ count_by is_space s + 1
spaces_counted [] = unfold parts in refl
spaces_counted (b ∷ s) = omega (arith, parts_count is_space b s, spaces_counted s, sum_by-cons (λ x. cond (is_space x) 1 0) b s)

-- each term takes a part of its own
terms_parts : (i : ℕ) (g : Bool) (xs : List Sign) → length (terms_from i g xs) + 1 ≤ length (parts is_gap xs) + cond g 1 0
unfolding terms_from
terms_parts i g [] = unfold parts in omega arith
terms_parts i g (x ∷ xs) = go g (is_gap x) _ _ _ _ (parts_count is_gap x xs) (terms_parts (i + length (raw x)) (is_gap x) xs)
  where
    go : (h k : Bool) (t : Term) (ts : List Term) (p n : ℕ) → p ≡ cond k 1 0 + n → length ts + 1 ≤ n + cond k 1 0
        → length (cond (h && not k) (t ∷ ts) ts) + 1 ≤ p + cond h 1 0
    go true true t ts p n e ih = omega arith
    go true false t ts p n e ih = omega arith
    go false true t ts p n e ih = omega arith
    go false false t ts p n e ih = omega arith

-- a byte that is no space gives no gap, and a space at most one
gives_parts : (m : Mode) (b : ℕ) (r : List Sign) → length (parts is_gap (gives m b ++ r)) ≤ cond (is_space b) 1 0 + length (parts is_gap r)
gives_parts m b r = go (gap_byte m b) refl
  where
    solid : gap_byte m b ≡ false → length (parts is_gap (gives m b ++ r)) ≤ cond (is_space b) 1 0 + length (parts is_gap r)
    solid e = let z = parts_over is_gap (gives m b) r (gives_solid m b e) in omega arith

    space : (m : Mode) → gap_byte m b ≡ true → length (parts is_gap (gives m b ++ r)) ≤ cond (is_space b) 1 0 + length (parts is_gap r)
    space Out e = rw (eqb-true b 32 e) (unfold gives in (let z = parts_count is_gap (bare 32) r in omega arith))
    space OutGrave e = no_case (sym e)
    space In e = no_case (sym e)
    space InGrave e = no_case (sym e)

    go : (t : Bool) → gap_byte m b ≡ t → length (parts is_gap (gives m b ++ r)) ≤ cond (is_space b) 1 0 + length (parts is_gap r)
    go true e = space m e
    go false e = solid e

end_parts : (m : Mode) → length (parts is_gap (at_end m)) ≡ 1
unfolding parts
end_parts = end_case (λ m z. length (parts is_gap z) ≡ 1) refl refl refl refl

-- so the gaps part the signs into no more parts than the spaces part the bytes
signs_parts : (m : Mode) (s : List ℕ) → length (parts is_gap (signs m s)) ≤ length (parts is_space s)
unfolding signs
signs_parts m [] = let e = end_parts m in unfold parts in omega arith
signs_parts m (b ∷ s) =
    let h = gives_parts m b (signs (after m b) s) in
    let k = parts_count is_space b s in
    let ih = signs_parts (after m b) s in
    omega arith

pub spaces_few : (line : List ℕ) (n : ℕ) → n + 1 ≡ length (parts is_space line) → n < 64 → length (terms_of line) ≤ 64
unfolding terms_of
spaces_few line n e h = let t = terms_parts 0 true (signs Out line) in let p = signs_parts Out line in omega arith
