-- Laws of decimal numbers: reading one digit after another, and writing. Assumes nothing.
use Prim.Native.Nat.{ℕ, suc, ◌+◌, ◌-◌, ◌*◌, ◌/◌, ◌%◌, ◌<◌, ◌≤◌}
use mathlib.Core.Path.{◌≡◌, refl, sym, ap, ◌∙◌}
use mathlib.Core.List.{List, [], ◌∷◌}
use mathlib.Core.Bool.{Bool, true, false, cond, not, ◌&&◌, ◌||◌, and-false}
use mathlib.Core.Logic.{⊎_elim}
use native.Mathlib.Omega.{arith}
use native.Mathlib.Nat.{eq-or-lt_of_le}
use native.Mathlib.Decide.{dec_lt}
use borrow.Author.Tests.{eq-eqb, ne_eqb, le-leb, lt-leb, leb-true, ltb-true, ltb-false, eqb-true}
use lib.ListN.{length, get_or, take, drop, length-drop, drop_of_length-le}
use lib.Seq.{take_all}
use lib.Dec.{eqb, leb, ltb}
use Rattle.text.specs.Lists.{all_of, is_nil}
use Rattle.text.specs.Bytes.{is_digit}
use Rattle.text.specs.Decimal.{value_from, is_decimal, decimal_of, width, five_digits, digits}
use Rattle.text.proofs.Tests.{and_l, and_r, and_in, no_case}
use Rattle.text.proofs.Classes.{digit_bounds, inside}
use Rattle.text.proofs.Scans.{drop_step}
use Rattle.std.proofs.Common.{Option, Some, None}

-- a value that more digits follow does not get less
pub value_grows : (n : ℕ) (s : List ℕ) → n ≤ value_from n s
unfolding value_from
value_grows n [] = omega arith
value_grows n (b ∷ s) = let h = value_grows (n * 10 + (b - 48)) s in omega arith

-- the number that some digits are which follow a value
unfoldable pub read_on : ℕ → ℕ → List ℕ → Option ℕ
read_on most v s = cond (all_of is_digit s && leb (value_from v s) most) (Some (value_from v s)) None

pub read_large : (most v : ℕ) (s : List ℕ) → most < v → read_on most v s ≡ None
unfolding read_on
read_large most v s h =
    let g = value_grows v s in
    rw (lt-leb (value_from v s) most (omega arith), and-false (all_of is_digit s))

module _ (most v : ℕ) (s : List ℕ) (i : ℕ) where
  -- one digit more, no digit, and the end
  pub read_on_lem : i < length s → is_digit (get_or s i 0) ≡ true → read_on most v (drop i s) ≡ read_on most (v * 10 + (get_or s i 0 - 48)) (drop (i + 1) s)
  unfolding read_on all_of value_from
  read_on_lem h e = rw (drop_step s i h, e)

  pub read_no : i < length s → is_digit (get_or s i 0) ≡ false → read_on most v (drop i s) ≡ None
  unfolding read_on all_of
  read_no h e = rw (drop_step s i h, e)

  pub read_past : length s ≤ i → v ≤ most → read_on most v (drop i s) ≡ Some v
  unfolding read_on all_of value_from
  read_past h k = rw (drop_of_length-le s h, le-leb v most k)

-- what decides before the first digit is read
pub no_digits : (most : ℕ) (s : List ℕ) → length s ≡ 0 → decimal_of most s ≡ None
unfolding decimal_of is_decimal
no_digits most [] h = refl
no_digits most (b ∷ s) h = absurd (omega arith)

pub zero_alone : (most : ℕ) (s : List ℕ) → get_or s 0 0 ≡ 48 → length s ≡ 1 → decimal_of most s ≡ Some 0
unfolding decimal_of is_decimal value_from all_of
zero_alone most [] e h = absurd (omega arith)
zero_alone most (b ∷ []) e h = rw (e, le-leb 0 most (omega arith))
zero_alone most (b ∷ x ∷ s) e h = absurd (omega arith)

pub zero_leads : (most : ℕ) (s : List ℕ) → get_or s 0 0 ≡ 48 → (length s ≡ 1 → ⊥) → decimal_of most s ≡ None
unfolding decimal_of is_decimal
zero_leads most [] e h = absurd (omega arith)
zero_leads most (b ∷ []) e h = absurd (h refl)
zero_leads most (b ∷ x ∷ s) e h = rw (e, and-false (all_of is_digit (48 ∷ x ∷ s)))

pub first_digit : (most : ℕ) (s : List ℕ) → (length s ≡ 0 → ⊥) → (get_or s 0 0 ≡ 48 → ⊥) → read_on most 0 s ≡ decimal_of most s
unfolding read_on decimal_of is_decimal
first_digit most [] h e = absurd (h refl)
first_digit most (b ∷ s) h e = rw (ne_eqb b 48 e)

cond_between : (b : Bool) (x y : ℕ) → (1 ≤ x) × (x ≤ 5) → (1 ≤ y) × (y ≤ 5) → (1 ≤ cond b x y) × (cond b x y ≤ 5)
cond_between true x y h k = h
cond_between false x y h k = k

pub width_between : (n : ℕ) → (1 ≤ width n) × (width n ≤ 5)
unfolding width
width_between n =
    cond_between (ltb n 10) _ _ (omega arith)
    (cond_between (ltb n 100) _ _ (omega arith) (cond_between (ltb n 1000) _ _ (omega arith) (cond_between (ltb n 10000) _ _ (omega arith) (omega arith))))

pub length_digits : (n : ℕ) → length (digits n) ≡ width n
unfolding digits
length_digits n = length-drop (5 - width n) (five_digits n) ∙ (let w : (1 ≤ width n) × (width n ≤ 5) = width_between n in omega arith)

-- five digits, each for its power of ten
pub five_digits_lem : (n a b c d e : ℕ) → a ≡ 48 + n / 10000 % 10 → b ≡ 48 + n / 1000 % 10 → c ≡ 48 + n / 100 % 10 → d ≡ 48 + n / 10 % 10 → e ≡ 48 + n % 10
    → a ∷ b ∷ c ∷ d ∷ e ∷ [] ≡ five_digits n
five_digits_lem n a b c d e p q r s t = rw (p, q, r, s, t)

-- the part of the five digits that is written
pub digits_part : (n w : ℕ) (l : List ℕ) → w ≡ width n → l ≡ five_digits n → take (5 - (5 - w)) (drop (5 - w) l) ≡ digits n
unfolding digits
digits_part n w l e p =
    ap (λ (x : List ℕ). take (5 - (5 - w)) (drop (5 - w) x)) p
    ∙ take_all (5 - (5 - w)) (drop (5 - w) (five_digits n)) (omega (arith, length-drop (5 - w) (five_digits n)))
    ∙ ap (λ (x : ℕ). drop (5 - x) (five_digits n)) e

-- ---- what is written is read back

-- each width for itself
pub digits_case : (P : List ℕ → Type 0) (n : ℕ)
    → (n < 10 → P ((48 + n % 10) ∷ []))
    → (10 ≤ n → n < 100 → P ((48 + n / 10 % 10) ∷ (48 + n % 10) ∷ []))
    → (100 ≤ n → n < 1000 → P ((48 + n / 100 % 10) ∷ (48 + n / 10 % 10) ∷ (48 + n % 10) ∷ []))
    → (1000 ≤ n → n < 10000 → P ((48 + n / 1000 % 10) ∷ (48 + n / 100 % 10) ∷ (48 + n / 10 % 10) ∷ (48 + n % 10) ∷ []))
    → (10000 ≤ n → P ((48 + n / 10000 % 10) ∷ (48 + n / 1000 % 10) ∷ (48 + n / 100 % 10) ∷ (48 + n / 10 % 10) ∷ (48 + n % 10) ∷ []))
    → P (digits n)
unfolding digits width
digits_case P n one two three four five = go (ltb n 10) (ltb n 100) (ltb n 1000) (ltb n 10000) refl refl refl refl
  where
    go : (a b c d : Bool) → ltb n 10 ≡ a → ltb n 100 ≡ b → ltb n 1000 ≡ c → ltb n 10000 ≡ d
        → P (drop (5 - cond a 1 (cond b 2 (cond c 3 (cond d 4 5)))) (five_digits n))
    go true b c d p q r s = one (ltb-true n 10 p)
    go false true c d p q r s = two (ltb-false n 10 p) (ltb-true n 100 q)
    go false false true d p q r s = three (ltb-false n 100 q) (ltb-true n 1000 r)
    go false false false true p q r s = four (ltb-false n 1000 r) (ltb-true n 10000 s)
    go false false false false p q r s = five (ltb-false n 10000 s)

digit_of : (d : ℕ) → d < 10 → is_digit (48 + d) ≡ true
digit_of d h = inside 48 57 (48 + d) (omega arith) (omega arith)

pub digits_all : (n : ℕ) → all_of is_digit (digits n) ≡ true
unfolding all_of
digits_all n =
    digits_case (λ s. all_of is_digit s ≡ true) n (λ _. simp (digit_of (n % 10) (omega arith)))
    (λ _ _. simp (digit_of (n / 10 % 10) (omega arith), digit_of (n % 10) (omega arith)))
    (λ _ _. simp (digit_of (n / 100 % 10) (omega arith), digit_of (n / 10 % 10) (omega arith), digit_of (n % 10) (omega arith)))
    (λ _ _. simp (digit_of (n / 1000 % 10) (omega arith), digit_of (n / 100 % 10) (omega arith), digit_of (n / 10 % 10) (omega arith), digit_of (n % 10) (omega arith)))
    (λ _. simp (digit_of (n / 10000 % 10) (omega arith), digit_of (n / 1000 % 10) (omega arith), digit_of (n / 100 % 10) (omega arith), digit_of (n / 10 % 10) (omega arith), digit_of (n % 10) (omega arith)))

pub digits_some : (n : ℕ) → is_nil (digits n) ≡ false
digits_some n = digits_case (λ s. is_nil s ≡ false) n (λ _. refl) (λ _ _. refl) (λ _ _. refl) (λ _ _. refl) (λ _. refl)

-- only 0 begins with a zero
pub digits_first : (n : ℕ) → n < 100000 → get_or (digits n) 0 0 ≡ 48 → n ≡ 0
digits_first n h =
    digits_case (λ s. get_or s 0 0 ≡ 48 → n ≡ 0) n (λ k e. omega arith) (λ j k e. omega arith) (λ j k e. omega arith) (λ j k e. omega arith) (λ j e. omega arith)

pub digits_value : (n : ℕ) → n < 100000 → value_from 0 (digits n) ≡ n
unfolding value_from
digits_value n h =
    let two : n / 100 ≡ n / 10 / 10 = omega arith in
    let three : n / 1000 ≡ n / 100 / 10 = omega arith in
    let four : n / 10000 ≡ n / 1000 / 10 = omega arith in
    let top : n / 10000 % 10 ≡ n / 10000 = omega arith in
    digits_case (λ s. value_from 0 s ≡ n) n (λ k. omega arith) (λ j k. omega arith) (λ j k. omega arith) (λ j k. omega arith) (λ j. omega arith)

-- ---- what a decimal is made of

-- its parts, and back
pub record Digits (most : ℕ) (s : List ℕ) : Type 0 where
  pub all : all_of is_digit s ≡ true
  pub some : is_nil s ≡ false
  pub first : get_or s 0 0 ≡ 48 → length s ≡ 1
  pub small : value_from 0 s ≤ most

pub decimal_made : (most : ℕ) (s : List ℕ) → is_decimal most s ≡ true → Digits most s
unfolding is_decimal
decimal_made most [] e = no_case (sym e)
decimal_made most (b ∷ s) e =
    let p = and_l (all_of is_digit (b ∷ s)) ((not (eqb b 48) || is_nil s) && leb (value_from 0 (b ∷ s)) most) e in
    let q = and_r (all_of is_digit (b ∷ s)) ((not (eqb b 48) || is_nil s) && leb (value_from 0 (b ∷ s)) most) e in
    let f = and_l (not (eqb b 48) || is_nil s) (leb (value_from 0 (b ∷ s)) most) q in
    record {
      all = p;
      some = refl;
      first = λ z. alone s (ap (λ (t : Bool). not t || is_nil s) (sym (eq-eqb b 48 z)) ∙ f);
      small = leb-true (value_from 0 (b ∷ s)) most (and_r (not (eqb b 48) || is_nil s) (leb (value_from 0 (b ∷ s)) most) q);
    }
  where
    alone : (s : List ℕ) → is_nil s ≡ true → suc (length s) ≡ 1
    alone [] e = refl
    alone (c ∷ s) e = no_case (sym e)

pub made_decimal : (most : ℕ) (s : List ℕ) → Digits most s → is_decimal most s ≡ true
unfolding is_decimal
made_decimal most [] d = no_case d.some
made_decimal most (b ∷ s) d =
    and_in (all_of is_digit (b ∷ s)) ((not (eqb b 48) || is_nil s) && leb (value_from 0 (b ∷ s)) most) d.all
    (and_in (not (eqb b 48) || is_nil s) (leb (value_from 0 (b ∷ s)) most) (go (eqb b 48) refl d.first) (le-leb (value_from 0 (b ∷ s)) most d.small))
  where
    nil : (s : List ℕ) → suc (length s) ≡ 1 → is_nil s ≡ true
    nil [] e = refl
    nil (c ∷ s) e = absurd (omega arith)

    go : (t : Bool) → eqb b 48 ≡ t → (b ≡ 48 → suc (length s) ≡ 1) → not t || is_nil s ≡ true
    go true e f = nil s (f (eqb-true b 48 e))
    go false e f = refl

pub value_most : (most : ℕ) (s : List ℕ) → is_decimal most s ≡ true → value_from 0 s ≤ most
value_most most s e = (decimal_made most s e).small

-- what is written is a decimal
pub digits_decimal : (most n : ℕ) → n < 100000 → n ≤ most → is_decimal most (digits n) ≡ true
digits_decimal most n h k =
    made_decimal most (digits n)
    (record { all = digits_all n; some = digits_some n; first = λ z. length_digits n ∙ ap width (digits_first n h z) ∙ (unfold width in refl); small = le_of (digits_value n h) k })
  where
    le_of : value_from 0 (digits n) ≡ n → n ≤ most → value_from 0 (digits n) ≤ most
    le_of e h = omega arith

-- both at the limit of a number of 2 bytes
pub digits_two : (n : ℕ) → n ≤ 65535 → is_decimal 65535 (digits n) ≡ true
digits_two n h = digits_decimal 65535 n (omega arith) h

pub value_two : (n : ℕ) → n ≤ 65535 → value_from 0 (digits n) ≡ n
value_two n h = digits_value n (omega arith)

-- ---- one value, one text

as_long : (n m : ℕ) (s t : List ℕ) → length s ≡ length t → all_of is_digit s ≡ true → all_of is_digit t ≡ true → value_from n s ≡ value_from m t → (n ≡ m) × (s ≡ t)
unfolding value_from all_of
as_long n m [] [] l p q e = (e, refl)
as_long n m [] (c ∷ t) l p q e = absurd (omega arith)
as_long n m (b ∷ s) [] l p q e = absurd (omega arith)
as_long n m (b ∷ s) (c ∷ t) l p q e =
    let x = digit_bounds b (and_l (is_digit b) (all_of is_digit s) p) in
    let y = digit_bounds c (and_l (is_digit c) (all_of is_digit t) q) in
    let ih = as_long (n * 10 + (b - 48)) (m * 10 + (c - 48)) s t (omega arith) (and_r (is_digit b) (all_of is_digit s) p) (and_r (is_digit c) (all_of is_digit t) q) e in
    let k = ih.0 in
    let d : b ≡ c = omega arith in
    let f = ih.1 in
    (omega arith, cc)

longer : (s t : List ℕ) (m : ℕ) → 1 ≤ m → length s ≤ length t → all_of is_digit s ≡ true → all_of is_digit t ≡ true → value_from 0 s ≡ value_from m t → ⊥
unfolding value_from all_of
longer [] [] m h l p q e = omega arith
longer (b ∷ s) [] m h l p q e = omega arith
longer s (c ∷ t) m h l p q e =
    ⊎_elim (λ x. let k = as_long 0 m s (c ∷ t) x p q e in let z = k.0 in omega arith)
    (λ x. longer s t (m * 10 + (c - 48)) (omega arith) (omega arith) p (and_r (is_digit c) (all_of is_digit t) q) e) (eq-or-lt_of_le l)

-- the longer of two has the greater value
not_longer : (most : ℕ) (s t : List ℕ) → is_decimal most s ≡ true → is_decimal most t ≡ true → length s < length t → value_from 0 s ≡ value_from 0 t → ⊥
not_longer most s [] p q l e = omega arith
not_longer most [] (c ∷ t) p q l e = no_case (decimal_made most [] p).some
not_longer most (b ∷ s) (c ∷ t) p q l e =
    let d = decimal_made most (c ∷ t) q in
    let w = digit_bounds c (and_l (is_digit c) (all_of is_digit t) (unfold all_of in d.all)) in
    let z : c ≡ 48 → ⊥ = λ z. let o = d.first z in omega arith in
    longer (b ∷ s) t (0 * 10 + (c - 48)) (omega arith) (omega arith) (decimal_made most (b ∷ s) p).all
    (and_r (is_digit c) (all_of is_digit t) (unfold all_of in d.all)) (unfold value_from in e)

pub decimal_same : (most : ℕ) (s t : List ℕ) → is_decimal most s ≡ true → is_decimal most t ≡ true → value_from 0 s ≡ value_from 0 t → s ≡ t
decimal_same most s t p q e = by (dec_lt (length s) (length t)) (dec_lt (length t) (length s))
  where
    by : Dec (length s < length t) → Dec (length t < length s) → s ≡ t
    by (yes a) b = absurd (not_longer most s t p q a e)
    by (no a) (yes b) = absurd (not_longer most t s q p b (sym e))
    by (no a) (no b) = (as_long 0 0 s t (omega arith) (decimal_made most s p).all (decimal_made most t q).all e).1

-- a decimal below 100,000 is the digits of its value
pub decimal_digits : (most : ℕ) (s : List ℕ) → is_decimal most s ≡ true → value_from 0 s < 100000 → s ≡ digits (value_from 0 s)
decimal_digits most s e h =
    decimal_same most s (digits (value_from 0 s)) e (digits_decimal most (value_from 0 s) h (value_most most s e)) (sym (digits_value (value_from 0 s) h))

-- ---- what a number that was read says

-- b says whether there is a number, and w which
pub told_is : (b : Bool) (v w : ℕ) → Some v ≡ cond b (Some w) None → (b ≡ true) × (v ≡ w)
told_is true v w e = (refl, cc)
told_is false v w e = absurd (let z : ◌≡◌ {A = ℕ} 0 1 = cc in omega arith)

pub told_no : (b : Bool) (w : ℕ) → None ≡ cond b (Some w) None → b ≡ false
told_no true w e = absurd (let z : ◌≡◌ {A = ℕ} 0 1 = cc in omega arith)
told_no false w e = refl

pub is_decimal_lem : (most : ℕ) (s : List ℕ) (v : ℕ) → Some v ≡ decimal_of most s → (is_decimal most s ≡ true) × (v ≡ value_from 0 s)
unfolding decimal_of
is_decimal_lem most s v e = told_is (is_decimal most s) v (value_from 0 s) e

pub no_decimal : (most : ℕ) (s : List ℕ) → None ≡ decimal_of most s → is_decimal most s ≡ false
unfolding decimal_of
no_decimal most s e = told_no (is_decimal most s) (value_from 0 s) e
