-- Laws of lines: which values are quoted, the bytes in quotes, and stores of the parts of a line one after another. Assumes nothing.
use Prim.Native.Nat.{ℕ, suc, ◌+◌, ◌<◌, ◌≤◌}
use mathlib.Core.Path.{◌≡◌, refl, ap, ◌∙◌}
use mathlib.Core.List.{List, [], ◌∷◌, ◌++◌}
use mathlib.Core.Bool.{Bool, true, false, cond, ◌||◌}
use native.Mathlib.Numerals.{add-one}
use native.Mathlib.Omega.{arith}
use lib.ListN.{length, get_or, drop, set, length-append, drop_of_length-le}
use lib.Seq.{sets, set-set, set_comm}
use lib.Dec.{eqb}
use Rattle.std.specs.List.{count_by}
use Rattle.std.proofs.lemmas.List.Sums.{sum_by-cons}
use borrow.Author.Tests.{ne_eqb}
use Rattle.text.specs.Bytes.{bytes, one_of}
use Rattle.text.specs.Lists.{any_of}
use Rattle.text.proofs.Scans.{drop_step}
use Rattle.text.proofs.Writes.{sets_rest}
use Rattle.terms.specs.Signs.{two, raw, raws, quoted, quoted_escaped}
use Rattle.terms.specs.Quotes.{in_quotes, closing}
use Rattle.replies.specs.Lines.{begins, is_end, is_quote}
use Rattle.replies.specs.Items.{item, group, endgroup, endoutput}
use Rattle.replying.specs.Writing.{value_line, line_of}

-- ---- which values are quoted

-- how a value is written
module _ (v : List ℕ) where
  pub value_quoted : any_of is_end v || begins is_quote v ≡ true → value_line v ≡ 34 ∷ raws (closing v)
  unfolding value_line raws
  value_quoted e = rw e

  pub value_bare : any_of is_end v || begins is_quote v ≡ false → value_line v ≡ v
  unfolding value_line
  value_bare e = rw e

  -- as the code finds it
  pub quoted_test : (x y : Bool) → x ≡ any_of is_end v → y ≡ begins is_quote v → any_of is_end v || begins is_quote v ≡ x || y
  quoted_test x y e q = rw (e, q)

-- ---- bytes in quotes

pub grave_in : (b : ℕ) → b ≡ 96 → raw (in_quotes b) ≡ 96 ∷ 96 ∷ []
unfolding in_quotes two one_of bytes
grave_in b e = rw e

pub quote_in : (b : ℕ) → b ≡ 34 → raw (in_quotes b) ≡ 96 ∷ 34 ∷ []
unfolding in_quotes two one_of bytes
quote_in b e = rw e

pub other_in : (b : ℕ) → (b ≡ 96 → ⊥) → (b ≡ 34 → ⊥) → raw (in_quotes b) ≡ b ∷ []
unfolding in_quotes two one_of bytes
other_in b g q = rw (ne_eqb b 96 g, ne_eqb b 34 q)

pub closing_on : (s : List ℕ) (i : ℕ) → i < length s → raws (closing (drop i s)) ≡ raw (in_quotes (get_or s i 0)) ++ raws (closing (drop (i + 1) s))
unfolding closing raws
closing_on s i h = rw (drop_step s i h)

pub closing_past : (s : List ℕ) (i : ℕ) → length s ≤ i → raws (closing (drop i s)) ≡ 34 ∷ []
unfolding closing raws
closing_past s i h = rw (drop_of_length-le s h)

-- a byte that has a GRAVE before it in quotes
abbrev pub is_graved : ℕ → Bool
is_graved b = eqb b 96 || eqb b 34

raw_length : (b : ℕ) → length (raw (in_quotes b)) ≡ 1 + cond (is_graved b) 1 0
unfolding in_quotes two one_of bytes
raw_length b = go (eqb b 96) (eqb b 34)
  where
    go : (x y : Bool) → length (raw (cond (x || (y || false)) (quoted_escaped b) (quoted b))) ≡ 1 + cond (x || y) 1 0
    go true true = refl
    go true false = refl
    go false true = refl
    go false false = refl

pub closing_length : (s : List ℕ) → length s + count_by is_graved s + 1 ≡ length (raws (closing s))
unfolding closing raws
closing_length [] = refl
closing_length (b ∷ s) =
    let h = closing_length s in
    let n = sum_by-cons (λ x. cond (is_graved x) 1 0) b s in
    omega (arith, length-append (raw (in_quotes b)) (raws (closing s)), raw_length b)

-- ---- stores

-- a byte and then a text
pub after_byte : (o o₁ o₂ s : List ℕ) (at x : ℕ) → o₁ ≡ set o at x → o₂ ≡ sets o₁ (at + 1) s → o₂ ≡ sets o at (x ∷ s)
after_byte o o₁ o₂ s at x e f = rw (f, e, add-one)

-- a text p, which ends at w, another one s, which ends at e, and LF
pub line_ends_lem : (p s : List ℕ) (at w e : ℕ) → w ≡ at + length p → e ≡ w + length s → e + 1 ≡ at + length (p ++ (s ++ (10 ∷ [])))
line_ends_lem p s at w e k₁ k₂ = omega (arith, length-append p (s ++ (10 ∷ [])), length-append s (10 ∷ []))

pub line_stored : (o o₁ o₂ o₃ p s : List ℕ) (at w e : ℕ) → w ≡ at + length p → e ≡ w + length s → o₁ ≡ sets o at p → o₂ ≡ sets o₁ w s → o₃ ≡ set o₂ e 10
    → o₃ ≡ sets o at (p ++ (s ++ (10 ∷ [])))
line_stored o o₁ o₂ o₃ p s at w e k₁ k₂ h₁ h₂ h₃ = h₃ ∙ sets_rest o₁ s o₂ w e h₂ k₂ (10 ∷ []) ∙ sets_rest o p o₁ at w h₁ k₁ (s ++ (10 ∷ []))

-- a keyword, `=`, a value and LF
pub item_ends : (k v : List ℕ) (at w e : ℕ) → w ≡ at + length k → e ≡ w + 1 + length v → e + 1 ≡ at + length (k ++ (61 ∷ (v ++ (10 ∷ []))))
item_ends k v at w e k₁ k₂ = omega (arith, length-append k (61 ∷ (v ++ (10 ∷ []))), length-append v (10 ∷ []))

pub item_stored : (o o₁ o₂ o₃ o₄ k v : List ℕ) (at w e : ℕ) → w ≡ at + length k → e ≡ w + 1 + length v → o₁ ≡ sets o at k → o₂ ≡ set o₁ w 61 → o₃ ≡ sets o₂ (w + 1) v → o₄ ≡ set o₃ e 10
    → o₄ ≡ sets o at (k ++ (61 ∷ (v ++ (10 ∷ []))))
item_stored o o₁ o₂ o₃ o₄ k v at w e k₁ k₂ h₁ h₂ h₃ h₄ =
    h₄
    ∙ sets_rest o₂ v o₃ (w + 1) e h₃ k₂ (10 ∷ [])
    ∙ after_byte o₁ o₂ (sets o₂ (w + 1) (v ++ (10 ∷ []))) (v ++ (10 ∷ [])) w 61 h₂ refl
    ∙ sets_rest o k o₁ at w h₁ k₁ (61 ∷ (v ++ (10 ∷ [])))

-- ---- a value that is written bare, and then in quotes over that

-- stores from the next place on leave a place free
set_under : (l xs : List ℕ) (i j y : ℕ) → i < j → set (sets l j xs) i y ≡ sets (set l i y) j xs
set_under l [] i j y h = refl
set_under l (x ∷ xs) i j y h = set_under (set l j x) xs i (suc j) y (omega arith) ∙ ap (λ (m : List ℕ). sets m (suc j) xs) (set_comm l j i x y (λ e. absurd (omega arith)))

-- what is stored over something no longer leaves nothing of it
pub sets_over : (l xs ys : List ℕ) (i : ℕ) → length xs ≤ length ys → sets (sets l i xs) i ys ≡ sets l i ys
sets_over l [] ys i h = refl
sets_over l (x ∷ xs) [] i h = absurd (omega arith)
sets_over l (x ∷ xs) (y ∷ ys) i h =
    ap (λ (m : List ℕ). sets m (suc i) ys) (set_under (set l i x) xs i (suc i) y (omega arith) ∙ ap (λ (m : List ℕ). sets m (suc i) xs) (set-set l i x y))
    ∙ sets_over (set l i y) xs ys (suc i) (omega arith)

-- in quotes a text has at least its own bytes
pub closing_long : (v : List ℕ) → length v ≤ length (raws (closing v))
unfolding closing raws in_quotes one_of
closing_long [] = omega arith
closing_long (b ∷ v) = let h = closing_long v in let k = in_quotes_some b in omega (arith, length-append (raw (in_quotes b)) (raws (closing v)))
  where
    in_quotes_some : (b : ℕ) → 0 < length (raw (in_quotes b))
    in_quotes_some b = go (one_of two b)
      where
        go : (t : Bool) → 0 < length (raw (cond t (quoted_escaped b) (quoted b)))
        go true = omega arith
        go false = omega arith

-- ---- how long lines are

pub item_length : (k v : List ℕ) → length (line_of (item k v)) ≡ length k + 2 + length (value_line v)
unfolding line_of
item_length k v = omega (arith, length-append k (61 ∷ (value_line v ++ (10 ∷ []))), length-append (value_line v) (10 ∷ []))

pub group_length : (n : List ℕ) → length (line_of (group n)) ≡ length n + 12
unfolding line_of bytes
group_length n = omega (arith, length-append n (10 ∷ []))

pub ends_length : (length (line_of endgroup) ≡ 9) × (length (line_of endoutput) ≡ 10)
unfolding line_of bytes
ends_length = (refl, refl)
