-- What a scan does with the element at a place: the list from a place on is that element and the list from the next place on.
-- Assumes nothing.
use Prim.Native.Nat.{ℕ, suc, zero, ◌+◌, ◌-◌, ◌<◌, ◌≤◌}
use mathlib.Core.Path.{◌≡◌, refl, sym, ap, ◌∙◌}
use mathlib.Core.List.{List, [], ◌∷◌, ◌++◌}
use mathlib.Core.Bool.{Bool, true, false, cond, ◌&&◌, ◌||◌, and-false}
use native.Mathlib.Numerals.{add-one}
use native.Mathlib.Omega.{arith}
use lib.ListN.{length, get_or, take, drop, take-append-drop, drop_of_length-le}
use lib.Seq.{drop-cons, length-take-le}
use lib.Dec.{eqb}
use borrow.Author.Tests.{eq-eqb, ne_eqb}
use Rattle.text.specs.Lists.{all_of, any_of, run_len, up_to, walk}
use Rattle.text.specs.Bytes.{same_bytes}
use Rattle.text.proofs.Slices.{part_between, length_between, part_rest}
use Rattle.text.proofs.Tests.{and_l, and_r}

-- a list from a place on, for any default
pub step_of_lem : {A : Type 0} (l : List A) (i : ℕ) (d : A) → i < length l → drop i l ≡ get_or l i d ∷ drop (i + 1) l
step_of_lem l i d h = rw (add-one, drop-cons l i d)

-- a text from a place on
pub drop_step : (l : List ℕ) (i : ℕ) → i < length l → drop i l ≡ get_or l i 0 ∷ drop (i + 1) l
drop_step l i h = step_of_lem l i 0 h

-- a run of bytes that pass a test: it goes on, it ends, it is past the text
module _ (f : ℕ → Bool) (l : List ℕ) (i : ℕ) where
  pub run_on : i < length l → f (get_or l i 0) ≡ true → run_len f (drop i l) ≡ suc (run_len f (drop (i + 1) l))
  unfolding run_len
  run_on h e = rw (drop_step l i h, e)

  pub run_ends : i < length l → f (get_or l i 0) ≡ false → run_len f (drop i l) ≡ 0
  unfolding run_len
  run_ends h e = rw (drop_step l i h, e)

  pub run_past : length l ≤ i → run_len f (drop i l) ≡ 0
  unfolding run_len
  run_past h = rw (drop_of_length-le l h)

module _ {A : Type 0} (f : A → Bool) where
  -- a run is no longer than its list
  pub run_within : (s : List A) → run_len f s ≤ length s
  unfolding run_len
  run_within [] = omega arith
  run_within (x ∷ s) = go (f x) (run_within s)
    where
      go : (t : Bool) → run_len f s ≤ length s → cond t (suc (run_len f s)) 0 ≤ suc (length s)
      go true h = omega arith
      go false h = omega arith

  -- where all pass the test, the run is the whole list
  pub all_run : (s : List A) → all_of f s ≡ true → run_len f s ≡ length s
  unfolding run_len all_of
  all_run [] e = refl
  all_run (x ∷ s) e = rw (and_l (f x) (all_of f s) e) (ap suc (all_run s (and_r (f x) (all_of f s) e)))

  -- where the run is the whole list, all pass the test
  pub run_all : (s : List A) → run_len f s ≡ length s → all_of f s ≡ true
  unfolding run_len all_of
  run_all [] e = refl
  run_all (x ∷ s) e = go (f x) refl e (run_all s)
    where
      go : (t : Bool) → f x ≡ t → cond t (suc (run_len f s)) 0 ≡ suc (length s) → (run_len f s ≡ length s → all_of f s ≡ true) → f x && all_of f s ≡ true
      go true p h ih = simp (p, ih (omega arith))
      go false p h ih = absurd (omega arith)

  -- all of a run pass the test
  pub take_run : (s : List A) → all_of f (take (run_len f s) s) ≡ true
  unfolding run_len all_of
  take_run [] = refl
  take_run (x ∷ s) = go (f x) refl (take_run s)
    where
      go : (t : Bool) → f x ≡ t → all_of f (take (run_len f s) s) ≡ true → all_of f (take (cond t (suc (run_len f s)) 0) (x ∷ s)) ≡ true
      go true p ih = simp (p, ih)
      go false p ih = refl

  -- a run that ends before its list does ends at one that fails the test; d is any default
  pub run_fails : (s : List A) (d : A) → run_len f s < length s → f (get_or s (run_len f s) d) ≡ false
  unfolding run_len
  run_fails [] d h = absurd (omega arith)
  run_fails (x ∷ s) d h = go (f x) refl h (run_fails s d)
    where
      go : (t : Bool) → f x ≡ t → cond t (suc (run_len f s)) 0 < suc (length s) → (run_len f s < length s → f (get_or s (run_len f s) d) ≡ false)
          → f (get_or (x ∷ s) (cond t (suc (run_len f s)) 0) d) ≡ false
      go true p k ih = ih (omega arith)
      go false p k ih = p

  -- what a test finds in a whole list holds at each place
  pub all_at : (l : List A) (d : A) → all_of f l ≡ true → (i : ℕ) → i < length l → f (get_or l i d) ≡ true
  unfolding all_of
  all_at [] d e i h = absurd (omega arith)
  all_at (x ∷ l) d e zero h = and_l (f x) (all_of f l) e
  all_at (x ∷ l) d e (suc i) h = all_at l d (and_r (f x) (all_of f l) e) i (omega arith)

-- a run goes on after a list that passes the test
pub run_over : {A : Type 0} (f : A → Bool) (a r : List A) → all_of f a ≡ true → run_len f (a ++ r) ≡ length a + run_len f r
unfolding run_len all_of
run_over f [] r e = let z : run_len f r ≡ 0 + run_len f r = omega arith in z
run_over f (x ∷ a) r e = rw (and_l (f x) (all_of f a) e) (let ih = run_over f a r (and_r (f x) (all_of f a) e) in omega arith)

-- a walk goes on after a block that passes the test: rest is what it has left of s, which begins with the block, and more follows
pub run_passed : {A : Type 0} (f : A → Bool) (s rest block more : List A) (n : ℕ) → (block ≡ take n rest) × (more ≡ drop n rest) × (length more + n ≡ length rest) → all_of f block ≡ true
    → (length rest ≤ length s) × (length s - length rest + run_len f rest ≡ run_len f s) → (length more ≤ length s) × (length s - length more + run_len f more ≡ run_len f s)
run_passed f s rest block more n parts all passed =
    let both : rest ≡ block ++ more = sym (take-append-drop n rest) ∙ rw (parts.0, parts.1) refl in
    let r = ap (run_len f) both ∙ run_over f block more all in
    let k = ap length parts.0 ∙ length-take-le n rest (omega arith) in
    (omega arith, omega arith)

-- the same of a part of a text, `&l[i..i + n]`
pub run_part : {A : Type 0} (f : A → Bool) (l : List A) (i n : ℕ) → i + n ≤ length l → all_of f (take (i + n - i) (drop i l)) ≡ true → run_len f (drop i l) ≡ n + run_len f (drop (i + n) l)
run_part f l i n h e =
    let a : all_of f (take n (drop i l)) ≡ true = sym (ap (all_of f) (part_between l i n)) ∙ e in
    let r = run_over f (take n (drop i l)) (drop (i + n) l) a in
    let d = ap (run_len f) (part_rest l i n) in
    let k = length_between l i n h in
    omega arith

-- an automaton goes on after a list as from the state that it leaves
pub walk_over : {S A : Type 0} (f : S → A → S) (v : S) (a r : List A) → walk f v (a ++ r) ≡ walk f (walk f v a) r
unfolding walk
walk_over f v [] r = refl
walk_over f v (x ∷ a) r = walk_over f (f v x) a r

-- any automaton: w is its state after the byte at i
module _ {S : Type 0} (f : S → ℕ → S) (l : List ℕ) (i : ℕ) (v : S) where
  pub walk_on : (w : S) → i < length l → w ≡ f v (get_or l i 0) → walk f w (drop (i + 1) l) ≡ walk f v (drop i l)
  unfolding walk
  walk_on w h e = rw (e, drop_step l i h)

-- a scan that counts bytes until it stops counts no more than there are: v is its state, len what it counts
pub scan_within : {S : Type 0} (stop : S → ℕ → Bool) (next : S → ℕ → S) (len : S → List ℕ → ℕ) → ((v : S) → len v [] ≡ 0)
    → ((v : S) (b : ℕ) (s : List ℕ) → len v (b ∷ s) ≡ cond (stop v b) 0 (suc (len (next v b) s))) → (v : S) (s : List ℕ) → len v s ≤ length s
scan_within stop next len nil more v [] = omega (arith, nil v)
scan_within stop next len nil more v (b ∷ s) = go (stop v b) refl (scan_within stop next len nil more (next v b) s)
  where
    go : (x : Bool) → stop v b ≡ x → len (next v b) s ≤ length s → len v (b ∷ s) ≤ suc (length s)
    go true e h = omega (arith, more v b s ∙ ap (λ (t : Bool). cond t 0 (suc (len (next v b) s))) e)
    go false e h = omega (arith, more v b s ∙ ap (λ (t : Bool). cond t 0 (suc (len (next v b) s))) e)

-- a test of all, or of any, from a place on; d is any default
module _ {A : Type 0} (f : A → Bool) (l : List A) (i : ℕ) (d : A) where
  pub all_on : i < length l → f (get_or l i d) ≡ true → all_of f (drop i l) ≡ all_of f (drop (i + 1) l)
  unfolding all_of
  all_on h e = rw (step_of_lem l i d h, e)

  pub all_stops : i < length l → f (get_or l i d) ≡ false → all_of f (drop i l) ≡ false
  unfolding all_of
  all_stops h e = rw (step_of_lem l i d h, e)

module _ {A : Type 0} (f : A → Bool) (l : List A) (i : ℕ) (h : length l ≤ i) where
  pub all_past_end : all_of f (drop i l) ≡ true
  unfolding all_of
  all_past_end = rw (drop_of_length-le l h)

-- a test of all that goes on to the end: a is what it has found so far, p what it finds at i
pub all_kept : (f : ℕ → Bool) (l : List ℕ) (i : ℕ) (a p : Bool) → i < length l → p ≡ f (get_or l i 0) → (a && p) && all_of f (drop (i + 1) l) ≡ a && all_of f (drop i l)
unfolding all_of
all_kept f l i true p h e = rw (e, drop_step l i h)
all_kept f l i false p h e = refl

pub all_ended : (f : ℕ → Bool) (l : List ℕ) (i : ℕ) (a : Bool) → length l ≤ i → a && all_of f (drop i l) ≡ a
all_ended f l i true h = all_past_end f l i h
all_ended f l i false h = refl

-- a test of any that goes on to the end: a is what it has found so far, p what it finds at i
pub any_kept : (f : ℕ → Bool) (l : List ℕ) (i : ℕ) (a p : Bool) → i < length l → p ≡ f (get_or l i 0) → (a || p) || any_of f (drop (i + 1) l) ≡ a || any_of f (drop i l)
unfolding any_of
any_kept f l i true p h e = refl
any_kept f l i false p h e = rw (e, drop_step l i h)

pub any_ended : (f : ℕ → Bool) (l : List ℕ) (i : ℕ) (a : Bool) → length l ≤ i → a || any_of f (drop i l) ≡ a
unfolding any_of
any_ended f l i true h = refl
any_ended f l i false h = rw (drop_of_length-le l h)

-- what stands before the first byte that passes a test: it goes on, it ends, it is past the text
module _ (f : ℕ → Bool) (s : List ℕ) (i : ℕ) where
  pub up_on : i < length s → f (get_or s i 0) ≡ false → up_to f (drop i s) ≡ get_or s i 0 ∷ up_to f (drop (i + 1) s)
  unfolding up_to
  up_on h e = rw (drop_step s i h, e)

  pub up_stops : i < length s → f (get_or s i 0) ≡ true → up_to f (drop i s) ≡ []
  unfolding up_to
  up_stops h e = rw (drop_step s i h, e)

  pub up_past : length s ≤ i → up_to f (drop i s) ≡ []
  unfolding up_to
  up_past h = rw (drop_of_length-le s h)

pub take_up : (f : ℕ → Bool) (s : List ℕ) → take (length (up_to f s)) s ≡ up_to f s
unfolding up_to
take_up f [] = refl
take_up f (b ∷ s) = go (f b) (take_up f s)
  where
    go : (t : Bool) → take (length (up_to f s)) s ≡ up_to f s → take (length (cond t [] (b ∷ up_to f s))) (b ∷ s) ≡ cond t [] (b ∷ up_to f s)
    go true ih = refl
    go false ih = ap (λ (l : List ℕ). b ∷ l) ih

-- texts of two lengths differ
pub same_length : (a b : List ℕ) → (length a ≡ length b → ⊥) → same_bytes a b ≡ false
unfolding same_bytes
same_length [] [] h = absurd (h refl)
same_length [] (y ∷ b) h = refl
same_length (x ∷ a) [] h = refl
same_length (x ∷ a) (y ∷ b) h = rw (same_length a b (λ e. h (ap suc e))) (and-false (eqb x y))

-- two texts from a place on: the same byte there, another byte there, both past their ends
pub same_on : (a b : List ℕ) (i : ℕ) → i < length a → i < length b → get_or a i 0 ≡ get_or b i 0
    → same_bytes (drop i a) (drop i b) ≡ same_bytes (drop (i + 1) a) (drop (i + 1) b)
unfolding same_bytes
same_on a b i h k e = rw (drop_step a i h, drop_step b i k, eq-eqb _ _ e)

pub same_differs : (a b : List ℕ) (i : ℕ) → i < length a → i < length b → (get_or a i 0 ≡ get_or b i 0 → ⊥) → same_bytes (drop i a) (drop i b) ≡ false
unfolding same_bytes
same_differs a b i h k e = rw (drop_step a i h, drop_step b i k, ne_eqb _ _ e)

pub same_past : (a b : List ℕ) (i : ℕ) → length a ≤ i → length b ≤ i → same_bytes (drop i a) (drop i b) ≡ true
unfolding same_bytes
same_past a b i h k = rw (drop_of_length-le a h, drop_of_length-le b k)

-- the default of a place within a list does not matter
pub get_d_within : {A : Type 0} (l : List A) (i : ℕ) (d e : A) → i < length l → get_or l i d ≡ get_or l i e
get_d_within [] i d e h = absurd (omega arith)
get_d_within (x ∷ l) zero d e h = refl
get_d_within (x ∷ l) (suc i) d e h = get_d_within l i d e (omega arith)
