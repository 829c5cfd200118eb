-- The machine for the arguments of keep and level goes as far as their forms do. Assumes nothing.
use Prim.Native.Nat.{ℕ, zero, suc, ◌+◌, ◌-◌, ◌*◌, ◌<◌, ◌≤◌}
use mathlib.Core.Path.{◌≡◌, refl, sym, ◌∙◌}
use mathlib.Core.List.{List, [], ◌∷◌}
use mathlib.Core.Bool.{Bool, true, false, cond, ◌&&◌, ◌||◌, and-false, or-false}
use native.Mathlib.Omega.{arith}
use lib.ListN.{drop}
use lib.Dec.{eqb, leb}
use borrow.Author.Tests.{ne_eqb, eqb-true, eqb-false, leb-true, leb-false, le-leb, lt-leb}
use Rattle.text.specs.Bytes.{bytes, same_bytes, is_digit}
use Rattle.text.specs.Lists.{all_of, is_nil}
use Rattle.text.specs.Decimal.{value_from, is_decimal}
use Rattle.text.proofs.Tests.{no_case}
use Rattle.text.proofs.Classes.{digit_bounds}
use Rattle.text.proofs.Decimals.{value_grows}
use Rattle.words.specs.Words.{lower, lowered, names, all_name}
use Rattle.forms.specs.Forms.{is_keep, is_level}
use Rattle.reach.specs.declared.Tally.{Tally}
use Rattle.reach.specs.declared.Tally.TheVariants as tally
use Rattle.reach.specs.declared.Form.TheVariants.{Keep, Level}
use Rattle.reach.specs.Forms.{is_of}
use Rattle.reach.specs.Machine.{reach_by}
use Rattle.reach.specs.Numbers.{digit_more, is_all_letter, all_step, number_or, first_step, tally_step, is_off_tally}
use Rattle.reach.proofs.StepLaws.{all_few}
use Rattle.reach.proofs.Far.{Far, far_by, far_same}

-- a keep, or, for level, `all`
abbrev is_tally : Bool → List ℕ → Bool
is_tally level x = is_keep x || (level && names all_name x)

-- what may follow digits of the value v
abbrev digits_from : ℕ → List ℕ → Bool
digits_from v x = all_of is_digit x && leb (value_from v x) 4294967295

-- what may follow the first n letters of `all`
abbrev letters_from : ℕ → List ℕ → Bool
letters_from n x = same_bytes (lowered x) (drop n all_name)

-- what may follow in each state
At : Bool → Tally → (List ℕ → Bool) → Type 0
At level tally.First f = (x : List ℕ) → f x ≡ is_tally level x
At level tally.Zero f = (x : List ℕ) → f x ≡ is_nil x
At level (tally.Number v) f = (v ≤ 4294967295) × ((x : List ℕ) → f x ≡ digits_from v x)
At level (tally.All n) f = (n ≤ 3) × ((x : List ℕ) → f x ≡ letters_from n x)
At level tally.Off f = ⊥

-- ---- one byte

-- a digit more, and the value that is too large
digits_more : (v b : ℕ) (x : List ℕ) → is_digit b ≡ true → digits_from v (b ∷ x) ≡ digits_from (v * 10 + (b - 48)) x
unfolding all_of value_from
digits_more v b x e = rw e

digits_none : (v b : ℕ) (x : List ℕ) → is_digit b ≡ false → digits_from v (b ∷ x) ≡ false
unfolding all_of
digits_none v b x e = rw e

digits_over : (w : ℕ) (x : List ℕ) → 4294967295 < w → digits_from w x ≡ false
digits_over w x h = rw (lt-leb (value_from w x) 4294967295 (omega (arith, value_grows w x))) (and-false (all_of is_digit x))

-- a keep by its first byte
keep_zero : (x : List ℕ) → is_keep (48 ∷ x) ≡ is_nil x
unfolding is_keep is_decimal all_of value_from
keep_zero [] = refl
keep_zero (c ∷ x) = and-false (is_digit c && all_of is_digit x)

keep_first : (b : ℕ) (x : List ℕ) → (b ≡ 48 → ⊥) → is_keep (b ∷ x) ≡ digits_from 0 (b ∷ x)
unfolding is_keep is_decimal
keep_first b x n = rw (ne_eqb b 48 n)

-- `all` by its first byte
all_first : (b : ℕ) (x : List ℕ) → names all_name (b ∷ x) ≡ is_all_letter 0 b && letters_from 1 x
unfolding names lowered all_name bytes same_bytes is_all_letter
all_first b x = refl

-- a digit is no letter of it
digit_other : (b : ℕ) → is_digit b ≡ true → is_all_letter 0 b ≡ false
unfolding is_all_letter lower all_name bytes
digit_other b e = let h = digit_bounds b e in rw (lt-leb 65 b (omega arith)) (ne_eqb b 97 (λ z. omega arith))

-- a letter more; after the last one nothing follows
letters_more : (n b : ℕ) (x : List ℕ) → n ≤ 3 → letters_from n (b ∷ x) ≡ is_all_letter n b && letters_from (n + 1) x
unfolding lowered all_name bytes same_bytes is_all_letter
letters_more zero b x h = refl
letters_more (suc zero) b x h = refl
letters_more (suc (suc zero)) b x h = refl
letters_more (suc (suc (suc zero))) b x h = refl
letters_more (suc (suc (suc (suc n)))) b x h = absurd (omega arith)

-- ---- the machine

module _ (level : Bool) where
  live : (q : Tally) (f : List ℕ → Bool) → At level q f → (e : List ℕ) × (f e ≡ true)
  unfolding At is_keep is_decimal all_of value_from lowered all_name bytes same_bytes lower
  live tally.First f a = (48 ∷ [], a (48 ∷ []))
  live tally.Zero f a = ([], a [])
  live (tally.Number v) f a = ([], a.1 [] ∙ le-leb v 4294967295 a.0)
  live (tally.All n) f a = (drop n all_name, a.1 (drop n all_name) ∙ same n a.0)
    where
      same : (k : ℕ) → k ≤ 3 → letters_from k (drop k all_name) ≡ true
      same zero h = refl
      same (suc zero) h = refl
      same (suc (suc zero)) h = refl
      same (suc (suc (suc zero))) h = refl
      same (suc (suc (suc (suc k)))) h = absurd (omega arith)
  live tally.Off f a = absurd a

  -- a byte that leads from what may follow, f, to a state: it is off exactly where nothing can follow
  abbrev Leads : (List ℕ → Bool) → ℕ → Tally → Type 0
  Leads f b q = (is_off_tally q ≡ false → At level q (λ x. f (b ∷ x))) × (is_off_tally q ≡ true → (x : List ℕ) → f (b ∷ x) ≡ false)

  all_leads : (f : List ℕ → Bool) (n b : ℕ) → n ≤ 3 → ((x : List ℕ) → f (b ∷ x) ≡ (is_all_letter n b && letters_from (n + 1) x)) → Leads f b (all_step n b)
  unfolding all_step At
  all_leads f n b h a = go (is_all_letter n b) refl
    where
      go : (y : Bool) → is_all_letter n b ≡ y → Leads f b (cond (is_all_letter n b) (tally.All (n + 1)) tally.Off)
      go true e = rw e (λ _. (omega (arith, all_few n b e), λ x. a x ∙ rw e refl), λ z. no_case (sym z))
      go false e = rw e (λ z. no_case z, λ _ x. a x ∙ rw e refl)

  number_leads : (f : List ℕ → Bool) (v b : ℕ) (other : Tally) → (is_digit b ≡ true → (x : List ℕ) → f (b ∷ x) ≡ digits_from (v * 10 + (b - 48)) x)
      → (is_digit b ≡ false → Leads f b other) → (is_digit b ≡ true → 4294967295 < v * 10 + (b - 48) → Leads f b other) → Leads f b (number_or other (digit_more 4294967295 v b))
  unfolding digit_more At
  number_leads f v b other a none over = go (is_digit b) (leb (v * 10 + (b - 48)) 4294967295) refl refl
    where
      go : (d s : Bool) → is_digit b ≡ d → leb (v * 10 + (b - 48)) 4294967295 ≡ s → Leads f b (number_or other (digit_more 4294967295 v b))
      go true true e h = rw (e, h) (λ _. (leb-true (v * 10 + (b - 48)) 4294967295 h, a e), λ z. no_case (sym z))
      go true false e h = rw (e, h) (over e (leb-false (v * 10 + (b - 48)) 4294967295 h))
      go false s e h = rw e (none e)

  off_leads : (f : List ℕ → Bool) (b : ℕ) → ((x : List ℕ) → f (b ∷ x) ≡ false) → Leads f b tally.Off
  off_leads f b h = (λ z. no_case z, λ _. h)

  -- after a first byte that is no digit: for level, a letter of `all`
  other_leads : (f : List ℕ → Bool) (b : ℕ) → ((x : List ℕ) → f x ≡ is_tally level x) → (b ≡ 48 → ⊥) → is_digit b ≡ false → Leads f b (cond level (all_step 0 b) tally.Off)
  other_leads f b a n e = go level (λ x. a (b ∷ x) ∙ rw (keep_first b x n, digits_none 0 b x e, all_first b x) refl)
    where
      go : (y : Bool) → ((x : List ℕ) → f (b ∷ x) ≡ (y && (is_all_letter 0 b && letters_from 1 x))) → Leads f b (cond y (all_step 0 b) tally.Off)
      go true h = all_leads f 0 b (omega arith) h
      go false h = off_leads f b h

  -- a first byte that is a digit
  first_digit : (f : List ℕ → Bool) (b : ℕ) → ((x : List ℕ) → f x ≡ is_tally level x) → (b ≡ 48 → ⊥) → is_digit b ≡ true → (x : List ℕ) → f (b ∷ x) ≡ digits_from (0 * 10 + (b - 48)) x
  first_digit f b a n e x = a (b ∷ x) ∙ rw (keep_first b x n, digits_more 0 b x e, all_first b x, digit_other b e, and-false level) (or-false (digits_from (0 * 10 + (b - 48)) x))

  leads : (q : Tally) (f : List ℕ → Bool) (b : ℕ) → At level q f → Leads f b (tally_step level q b)
  unfolding At first_step
  leads tally.First f b a = go (eqb b 48) refl
    where
      zero_leads : b ≡ 48 → Leads f b tally.Zero
      zero_leads e = (λ _ x. a (b ∷ x) ∙ rw (e, keep_zero x, all_first 48 x, digit_other 48 refl, and-false level) (or-false (is_nil x)), λ z. no_case (sym z))

      go : (z : Bool) → eqb b 48 ≡ z → Leads f b (cond (eqb b 48) tally.Zero (number_or (cond level (all_step 0 b) tally.Off) (digit_more 4294967295 0 b)))
      go true e = rw e (zero_leads (eqb-true b 48 e))
      go false e =
          let n = eqb-false b 48 e in
          rw e (number_leads f 0 b (cond level (all_step 0 b) tally.Off) (first_digit f b a n) (other_leads f b a n) (λ d h. absurd (omega (arith, digit_bounds b d))))
  leads tally.Zero f b a = off_leads f b (λ x. a (b ∷ x))
  leads (tally.Number v) f b a =
      number_leads f v b tally.Off (λ e x. a.1 (b ∷ x) ∙ digits_more v b x e) (λ e. off_leads f b (λ x. a.1 (b ∷ x) ∙ digits_none v b x e))
      (λ e h. off_leads f b (λ x. a.1 (b ∷ x) ∙ digits_more v b x e ∙ digits_over (v * 10 + (b - 48)) x h))
  leads (tally.All n) f b a = all_leads f n b a.0 (λ x. a.1 (b ∷ x) ∙ letters_more n b x a.0)
  leads tally.Off f b a = absurd a

  tally_far : (s : List ℕ) → Far (is_tally level) s (reach_by (tally_step level) is_off_tally tally.First s)
  unfolding At
  tally_far s = far_by (tally_step level) is_off_tally (At level) live (λ q f b a. (leads q f b a).0) (λ q f b a. (leads q f b a).1) s tally.First (is_tally level) (λ x. refl)

pub keep_far : (s : List ℕ) → Far (is_of Keep) s (reach_by (tally_step false) is_off_tally tally.First s)
keep_far s = far_same (is_tally false) (is_of Keep) s _ (λ x. or-false (is_keep x)) (tally_far false s)

pub level_far : (s : List ℕ) → Far (is_of Level) s (reach_by (tally_step true) is_off_tally tally.First s)
unfolding is_level
level_far s = tally_far true s
