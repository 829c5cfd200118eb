-- Verbs and options by name and by number: a number's name, its letters in either case, is recognised as that number, and nothing else is. Assumes nothing.
use Prim.Native.Nat.{ℕ, zero, suc, ◌+◌, ◌-◌, ◌<◌, ◌≤◌}
use mathlib.Core.Path.{◌≡◌, refl, sym, ap, ◌∙◌}
use mathlib.Core.List.{List, [], ◌∷◌}
use mathlib.Core.Bool.{Bool, true, false, cond, not, ◌&&◌, ◌||◌, and-false}
use mathlib.Core.Option.{Option, none, some, some-injective}
use mathlib.Core.Logic.{◌⊎◌, inl, inr, ⊎_elim}
use native.Mathlib.Omega.{arith}
use lib.ListN.{length, get_or, get_or-eq_default}
use lib.Dec.{eqb, leb}
use borrow.Author.Tests.{eq-eqb, ne_eqb, eqb-true, eqb-false, leb-true, leb-false, not-true}
use Rattle.text.specs.Bytes.{bytes, same_bytes, one_of, is_word}
use Rattle.text.specs.Lists.{is_nil, all_of}
use Rattle.text.proofs.Tests.{and_l, and_r, and_in, neg_in, no_case, either, or_case}
use Rattle.text.proofs.Options.{none_some}
use Rattle.text.proofs.SameTexts.{same_eq, same_refl}
use Rattle.text.proofs.Scans.{same_length, all_at}
use Rattle.words.specs.declared.Kind.{Kind}
use Rattle.words.specs.declared.Kind.TheVariants.{Mere, Keep, Level, Place, Entries}
use Rattle.words.specs.Words.{verb_names, long_names, short_names, lowered, names, find, or, verb_of, option_of, verb_name, option_name, short_name, kinds, kind_of}
use Rattle.words.specs.Rows.{find_of}
use Rattle.words.specs.Names.{is_lower, takes_argument, is_mere}
use Rattle.words.proofs.Folding.{lowered_length, lowered_nil, lowered_same}

-- ---- a search among names

-- a name of another length names nothing here
names_length : (name s : List ℕ) → (length s ≡ length name → ⊥) → names name s ≡ false
unfolding names
names_length name s h =
    ap (λ (b : Bool). not (is_nil name) && b) (same_length (lowered s) name (λ e. h (sym (lowered_length s) ∙ e))) ∙ and-false (not (is_nil name))

-- two texts that differ in the case of letters alone are named alike
pub names_either : (n s r : List ℕ) → lowered s ≡ lowered r → names n s ≡ names n r
unfolding names
names_either n s r e = ap (λ (t : List ℕ). not (is_nil n) && same_bytes t n) e

find_either : (k : ℕ) (ns : List (List ℕ)) (s r : List ℕ) → lowered s ≡ lowered r → find k ns s ≡ find k ns r
unfolding find
find_either k [] s r e = refl
find_either k (n ∷ ns) s r e = rw (names_either n s r e, find_either (suc k) ns s r e)

-- a text is one of the names of its own length or none
pub find_of_lem : (n k : ℕ) (ns : List (List ℕ)) (s : List ℕ) → length s ≡ n → find k ns s ≡ find_of n k ns s
unfolding find find_of
find_of_lem n k [] s e = refl
find_of_lem n k (name ∷ ns) s e = go (eqb (length name) n) refl (find_of_lem n (suc k) ns s e)
  where
    go : (t : Bool) → eqb (length name) n ≡ t → find (suc k) ns s ≡ find_of n (suc k) ns s → find k (name ∷ ns) s ≡ find_of n k (name ∷ ns) s
    go true q ih = rw (q, ih)
    go false q ih = let l = eqb-false (length name) n q in simp (q, names_length name s (λ p. l (sym p ∙ e))) ih

-- no verb is shorter than 2 bytes or longer than 7
pub no_verb : (s : List ℕ) → (length s ≡ 2 → ⊥) → (length s ≡ 3 → ⊥) → (length s ≡ 4 → ⊥) → (length s ≡ 5 → ⊥) → (length s ≡ 6 → ⊥) → (length s ≡ 7 → ⊥)
    → verb_of s ≡ none
unfolding verb_of find_of verb_names bytes
no_verb s a b c d e f =
    let out : (n : ℕ) → (length s ≡ n → ⊥) → eqb n (length s) ≡ false = λ n h. ne_eqb n (length s) (λ p. h (sym p)) in
    find_of_lem (length s) 1 verb_names s refl ∙ simp (out 2 a, out 3 b, out 4 c, out 5 d, out 6 e, out 7 f)

-- a name names a text that is the name in lower case, and no other
pub names_told : (n s : List ℕ) → names n s ≡ true → (lowered s ≡ n) × (is_nil n ≡ false)
unfolding names
names_told n s e =
    (same_eq (lowered s) n (and_r (not (is_nil n)) (same_bytes (lowered s) n) e), not-true (is_nil n) (and_l (not (is_nil n)) (same_bytes (lowered s) n) e))

names_lowered : (n s : List ℕ) → is_nil n ≡ false → lowered s ≡ n → names n s ≡ true
unfolding names
names_lowered n s h e = and_in (not (is_nil n)) (same_bytes (lowered s) n) (neg_in (is_nil n) h) (ap (λ (t : List ℕ). same_bytes t n) e ∙ same_refl n)

-- no name, empty ones apart, stands again later
again : List ℕ → List ℕ → Bool
again n m = not (is_nil n) && same_bytes m n

distinct : List (List ℕ) → Bool
distinct [] = true
distinct (n ∷ ns) = all_of (λ m. not (again n m)) ns && distinct ns

there : (ns : List (List ℕ)) (i : ℕ) → is_nil (get_or ns i []) ≡ false → i < length ns
there [] i h = no_case h
there (n ∷ ns) zero h = omega arith
there (n ∷ ns) (suc i) h = let t = there ns i h in omega arith

-- where no two names are the same, a text that is the name at a place in lower case is found there
find_again : (k : ℕ) (ns : List (List ℕ)) (s : List ℕ) → distinct ns ≡ true → (i : ℕ) → is_nil (get_or ns i []) ≡ false → lowered s ≡ get_or ns i [] → find k ns s ≡ some (k + i)
unfolding find distinct again names
find_again k [] s d i h q = no_case h
find_again k (n ∷ ns) s d zero h q = let e : k + 0 ≡ k = omega arith in rw (names_lowered n s h q) (ap some (sym e))
find_again k (n ∷ ns) s d (suc i) h q =
    let e : k + suc i ≡ suc k + i = omega arith in
    let other = all_of (λ m. not (again n m)) ns in
    let o = not-true (again n (get_or ns i [])) (all_at (λ m. not (again n m)) ns [] (and_l other (distinct ns) d) i (there ns i h)) in
    rw (ap (again n) q ∙ o) (find_again (suc k) ns s (and_r other (distinct ns) d) i h q ∙ ap some (sym e))

-- what is found is in lower case the name at its place, which is not empty
find_name : (k : ℕ) (ns : List (List ℕ)) (s : List ℕ) (j : ℕ) → find k ns s ≡ some j
    → (k ≤ j) × (j < k + length ns) × (lowered s ≡ get_or ns (j - k) []) × (is_nil s ≡ false)
unfolding find
find_name k [] s j e = none_some j e
find_name k (n ∷ ns) s j e =
    either (names n s)
    (λ t.
    let q = some-injective k j (rw t at e) in
    let z : j - k ≡ 0 = omega arith in
    let p = names_told n s t in
    (omega arith, omega arith, rw z p.0, sym (lowered_nil s) ∙ ap is_nil p.0 ∙ p.1))
    (λ t.
    let r = find_name (suc k) ns s j (rw t at e) in
    let z : j - k ≡ suc (j - suc k) = omega (arith, r.0) in
    (omega (arith, r.0), omega (arith, r.1), rw z r.2, r.3))

-- ---- what a test over all names says of the name at a number

unfoldable shape : ℕ → List ℕ → Bool
shape most n = not (is_nil n) && (all_of is_lower n && (all_of is_word n && leb (length n) most))

shape_says : (most : ℕ) (n : List ℕ) → shape most n ≡ true → (is_nil n ≡ false) × (all_of is_lower n ≡ true) × (all_of is_word n ≡ true) × (length n ≤ most)
unfolding shape
shape_says most n e =
    let a = and_r (not (is_nil n)) (all_of is_lower n && (all_of is_word n && leb (length n) most)) e in
    let b = and_r (all_of is_lower n) (all_of is_word n && leb (length n) most) a in (
      not-true (is_nil n) (and_l (not (is_nil n)) (all_of is_lower n && (all_of is_word n && leb (length n) most)) e),
      and_l (all_of is_lower n) (all_of is_word n && leb (length n) most) a,
      and_l (all_of is_word n) (leb (length n) most) b,
      leb-true (length n) most (and_r (all_of is_word n) (leb (length n) most) b),
    )

verbs_shape : all_of (shape 7) verb_names ≡ true
unfolding all_of shape is_word verb_names bytes
verbs_shape = refl

verbs_distinct : distinct verb_names ≡ true
unfolding all_of distinct again same_bytes verb_names bytes
verbs_distinct = refl

verbs_many : length verb_names ≡ 13
unfolding verb_names
verbs_many = refl

longs_shape : all_of (shape 11) long_names ≡ true
unfolding all_of shape is_word long_names bytes
longs_shape = refl

longs_distinct : distinct long_names ≡ true
unfolding all_of distinct again same_bytes long_names bytes
longs_distinct = refl

longs_many : length long_names ≡ 12
unfolding long_names
longs_many = refl

shorts_distinct : distinct short_names ≡ true
unfolding all_of distinct again same_bytes short_names bytes
shorts_distinct = refl

shorts_lower : all_of (all_of is_lower) short_names ≡ true
unfolding all_of short_names bytes
shorts_lower = refl

shorts_many : length short_names ≡ 12
unfolding short_names
shorts_many = refl

-- a table of names, numbered from 1
module _ (ns : List (List ℕ)) where
  -- a rule that a test finds in all of them holds of the name at a number
  number_passes : (f : List ℕ → Bool) → all_of f ns ≡ true → (k : ℕ) → 1 ≤ k → k ≤ length ns → f (get_or ([] ∷ ns) k []) ≡ true
  number_passes f e zero a b = absurd (omega arith)
  number_passes f e (suc i) a b = all_at f ns [] e i (omega arith)

  -- what is in lower case the name at a number is found at it, and what is found is that
  number_again : distinct ns ≡ true → (s : List ℕ) (k : ℕ) → is_nil s ≡ false → lowered s ≡ get_or ([] ∷ ns) k [] → find 1 ns s ≡ some k
  number_again d s zero h q = no_case (sym (ap is_nil q) ∙ lowered_nil s ∙ h)
  number_again d s (suc i) h q =
      let e : 1 + i ≡ suc i = omega arith in find_again 1 ns s d i (sym (ap is_nil q) ∙ lowered_nil s ∙ h) q ∙ ap some e

  number_name : (s : List ℕ) (k : ℕ) → find 1 ns s ≡ some k → (1 ≤ k) × (k ≤ length ns) × (lowered s ≡ get_or ([] ∷ ns) k []) × (is_nil s ≡ false)
  number_name s k e =
      let f = find_name 1 ns s k e in
      let z : suc (k - 1) ≡ k = omega (arith, f.0) in
      (f.0, omega (arith, f.1), f.2 ∙ ap (λ (j : ℕ). get_or ([] ∷ ns) j []) z, f.3)

-- whichever number: a table's name is no longer than its longest
short_name_lem : (most : ℕ) (ns : List (List ℕ)) (n : ℕ) → all_of (λ x. leb (length x) most) ns ≡ true → length (get_or ns n []) ≤ most
unfolding all_of
short_name_lem most [] n h = omega arith
short_name_lem most (x ∷ ns) zero h = leb-true (length x) most (and_l (leb (length x) most) (all_of (λ y. leb (length y) most) ns) h)
short_name_lem most (x ∷ ns) (suc n) h = short_name_lem most ns n (and_r (leb (length x) most) (all_of (λ y. leb (length y) most) ns) h)

-- ---- verbs

-- the names are not empty, of lower case letters, and at most 7 bytes long
pub verb_shape : (k : ℕ) → 1 ≤ k → k ≤ 13
    → (is_nil (verb_name k) ≡ false) × (all_of is_lower (verb_name k) ≡ true) × (all_of is_word (verb_name k) ≡ true) × (length (verb_name k) ≤ 7)
unfolding verb_name
verb_shape k a b = shape_says 7 (verb_name k) (number_passes verb_names (shape 7) verbs_shape k a (omega (arith, verbs_many)))

pub verb_out : (n : ℕ) → 13 < n → verb_name n ≡ []
unfolding verb_name verb_names
verb_out n h = get_or-eq_default ([] ∷ verb_names) [] h

pub verb_short : (n : ℕ) → length (verb_name n) ≤ 7
unfolding verb_name verb_names bytes all_of
verb_short n = short_name_lem 7 ([] ∷ verb_names) n refl

-- what is in lower case the name of k is recognised as k
pub verb_by_name : (s : List ℕ) (k : ℕ) → is_nil s ≡ false → lowered s ≡ verb_name k → verb_of s ≡ some k
unfolding verb_of verb_name
verb_by_name s k h e = number_again verb_names verbs_distinct s k h e

pub verb_again : (k : ℕ) → 1 ≤ k → k ≤ 13 → verb_of (verb_name k) ≡ some k
verb_again k a b = let f = verb_shape k a b in verb_by_name (verb_name k) k f.0 (lowered_same (verb_name k) f.1)

-- and nothing else is
pub verb_only_name : (s : List ℕ) (k : ℕ) → verb_of s ≡ some k → (1 ≤ k) × (k ≤ 13) × (lowered s ≡ verb_name k) × (is_nil s ≡ false)
unfolding verb_of verb_name
verb_only_name s k e = let f = number_name verb_names s k e in (f.0, omega (arith, f.1, verbs_many), f.2, f.3)

-- in whichever case
pub verb_either : (s r : List ℕ) → lowered s ≡ lowered r → verb_of s ≡ verb_of r
unfolding verb_of
verb_either s r e = find_either 1 verb_names s r e

-- two numbers have two names
pub verb_names_differ : (j k : ℕ) → 1 ≤ j → j ≤ 13 → 1 ≤ k → k ≤ 13 → verb_name j ≡ verb_name k → j ≡ k
verb_names_differ j k a b c d e = some-injective j k (sym (verb_again j a b) ∙ ap verb_of e ∙ verb_again k c d)

-- ---- options

-- names of other lengths name nothing; nor do short names name a text of another length than 1
none_long : (k : ℕ) (ns : List (List ℕ)) (s : List ℕ) → length s ≡ 1 → all_of (λ n. not (eqb (length n) 1)) ns ≡ true → find k ns s ≡ none
unfolding find all_of
none_long k [] s e a = refl
none_long k (n ∷ ns) s e a =
    let l = and_l (not (eqb (length n) 1)) (all_of (λ n. not (eqb (length n) 1)) ns) a in
    simp (names_length n s (λ p. no_case (sym l ∙ ap not (eq-eqb (length n) 1 (sym p ∙ e)))))
    (none_long (suc k) ns s e (and_r (not (eqb (length n) 1)) (all_of (λ n. not (eqb (length n) 1)) ns) a))

not_short : (n s : List ℕ) → (length s ≡ 1 → ⊥) → length n ≤ 1 → names n s ≡ false
unfolding names
not_short [] s e h = refl
not_short (b ∷ n) s e h = names_length (b ∷ n) s (λ p. e (omega (arith, p)))

none_short : (k : ℕ) (ns : List (List ℕ)) (s : List ℕ) → (length s ≡ 1 → ⊥) → all_of (λ n. leb (length n) 1) ns ≡ true → find k ns s ≡ none
unfolding find all_of
none_short k [] s e a = refl
none_short k (n ∷ ns) s e a =
    simp (not_short n s e (leb-true (length n) 1 (and_l (leb (length n) 1) (all_of (λ n. leb (length n) 1) ns) a)))
    (none_short (suc k) ns s e (and_r (leb (length n) 1) (all_of (λ n. leb (length n) 1) ns) a))

pub options_long : (t : List ℕ) → length t ≡ 1 → find 1 long_names t ≡ none
unfolding all_of long_names bytes
options_long t e = none_long 1 long_names t e refl

pub options_short : (t : List ℕ) → (length t ≡ 1 → ⊥) → find 1 short_names t ≡ none
unfolding all_of short_names bytes
options_short t e = none_short 1 short_names t e refl

pub option_out : (n : ℕ) → 12 < n → option_name n ≡ []
unfolding option_name long_names
option_out n h = get_or-eq_default ([] ∷ long_names) [] h

-- the long names are not empty, of lower case letters, and at most 11 bytes long
pub option_shape : (k : ℕ) → 1 ≤ k → k ≤ 12
    → (is_nil (option_name k) ≡ false) × (all_of is_lower (option_name k) ≡ true) × (all_of is_word (option_name k) ≡ true) × (length (option_name k) ≤ 11)
unfolding option_name
option_shape k a b = shape_says 11 (option_name k) (number_passes long_names (shape 11) longs_shape k a (omega (arith, longs_many)))

pub short_out : (n : ℕ) → 12 < n → short_name n ≡ []
unfolding short_name short_names
short_out n h = get_or-eq_default ([] ∷ short_names) [] h

pub option_short : (n : ℕ) → length (option_name n) ≤ 11
unfolding option_name long_names bytes all_of
option_short n = short_name_lem 11 ([] ∷ long_names) n refl

-- short names have one byte
shorts_length : all_of (λ n. is_nil n || eqb (length n) 1) short_names ≡ true
unfolding all_of short_names bytes
shorts_length = refl

short_length : (i : ℕ) → is_nil (get_or short_names i []) ≡ false → length (get_or short_names i []) ≡ 1
short_length i h =
    let n = get_or short_names i [] in
    let t = all_at (λ n. is_nil n || eqb (length n) 1) short_names [] shorts_length i (there short_names i h) in
    or_case (is_nil n) (eqb (length n) 1) t (λ e. no_case (sym e ∙ h)) (λ e. eqb-true (length n) 1 e)

-- what is in lower case one of the two names of k, and not empty, is recognised as k
pub option_by_name : (s : List ℕ) (k : ℕ) → is_nil s ≡ false → (lowered s ≡ option_name k) ⊎ (lowered s ≡ short_name k) → option_of s ≡ some k
unfolding option_of option_name short_name
option_by_name s k h = ⊎_elim long (short k)
  where
    long : lowered s ≡ option_name k → option_of s ≡ some k
    long e = ap (λ o. or o (find 1 short_names s)) (number_again long_names longs_distinct s k h e)

    short : (k : ℕ) → lowered s ≡ short_name k → option_of s ≡ some k
    short zero e = no_case (sym (ap is_nil e) ∙ lowered_nil s ∙ h)
    short (suc i) e =
        let one = short_length i (sym (ap is_nil e) ∙ lowered_nil s ∙ h) in
        ap (λ o. or o (find 1 short_names s)) (options_long s (sym (lowered_length s) ∙ ap length e ∙ one)) ∙ number_again short_names shorts_distinct s (suc i) h e

pub option_again : (k : ℕ) → 1 ≤ k → k ≤ 12 → option_of (option_name k) ≡ some k
option_again k a b = let f = option_shape k a b in option_by_name (option_name k) k f.0 (inl (lowered_same (option_name k) f.1))

pub option_short_again : (k : ℕ) → is_nil (short_name k) ≡ false → option_of (short_name k) ≡ some k
unfolding short_name
option_short_again zero h = no_case h
option_short_again (suc i) h =
    option_by_name (get_or short_names i []) (suc i) h (inr (lowered_same (get_or short_names i []) (all_at (all_of is_lower) short_names [] shorts_lower i (there short_names i h))))

-- and nothing else is
pub option_only_name : (s : List ℕ) (k : ℕ) → option_of s ≡ some k
    → (1 ≤ k) × (k ≤ 12) × ((lowered s ≡ option_name k) ⊎ (lowered s ≡ short_name k)) × (is_nil s ≡ false)
unfolding option_of
option_only_name s k e = go (find 1 long_names s) refl e
  where
    long : find 1 long_names s ≡ some k → (1 ≤ k) × (k ≤ 12) × ((lowered s ≡ option_name k) ⊎ (lowered s ≡ short_name k)) × (is_nil s ≡ false)
    long f = let r = number_name long_names s k f in (r.0, omega (arith, r.1, longs_many), inl (unfold option_name in r.2), r.3)

    short : find 1 short_names s ≡ some k → (1 ≤ k) × (k ≤ 12) × ((lowered s ≡ option_name k) ⊎ (lowered s ≡ short_name k)) × (is_nil s ≡ false)
    short f = let r = number_name short_names s k f in (r.0, omega (arith, r.1, shorts_many), inr (unfold short_name in r.2), r.3)

    go : (o : Option ℕ) → find 1 long_names s ≡ o → or o (find 1 short_names s) ≡ some k
        → (1 ≤ k) × (k ≤ 12) × ((lowered s ≡ option_name k) ⊎ (lowered s ≡ short_name k)) × (is_nil s ≡ false)
    go none q f = short f
    go (some j) q f = long (q ∙ f)

-- in whichever case
pub option_either : (s r : List ℕ) → lowered s ≡ lowered r → option_of s ≡ option_of r
unfolding option_of
option_either s r e = rw (find_either 1 long_names s r e, find_either 1 short_names s r e)

-- no text names two options
pub option_one : (s : List ℕ) (j k : ℕ) → is_nil s ≡ false → (lowered s ≡ option_name j) ⊎ (lowered s ≡ short_name j)
    → (lowered s ≡ option_name k) ⊎ (lowered s ≡ short_name k) → j ≡ k
option_one s j k h p q = some-injective j k (sym (option_by_name s j h p) ∙ option_by_name s k h q)

-- ---- arguments

-- a test passed by each number below n
unfoldable pub below : (ℕ → Bool) → ℕ → Bool
below f zero = true
below f (suc n) = f n && below f n

pub below_at : (f : ℕ → Bool) (n : ℕ) → below f n ≡ true → (i : ℕ) → i < n → f i ≡ true
unfolding below
below_at f zero e i h = absurd (omega arith)
below_at f (suc n) e i h =
    either (eqb i n) (λ t. ap f (eqb-true i n t) ∙ and_l (f n) (below f n) e)
    (λ t. let d = eqb-false i n t in below_at f n (and_r (f n) (below f n) e) i (omega (arith, d)))

-- numbers that are no option's take no argument
pub kind_out : (n : ℕ) → 12 < n → kind_of n ≡ Mere
unfolding kind_of kinds
kind_out n h = get_or-eq_default kinds Mere h

-- two tests that say the same
unfoldable pub alike : Bool → Bool → Bool
alike a b = cond a b (not b)

pub alike_eq : (a b : Bool) → alike a b ≡ true → a ≡ b
unfolding alike
alike_eq true b e = sym e
alike_eq false b e = sym (not-true b e)

kinds_right : below (λ k. alike (is_mere (kind_of k)) (not (takes_argument k))) 13 ≡ true
unfolding below alike kind_of kinds takes_argument one_of
kinds_right = refl

-- past the last option nothing takes an argument
takes_none : (k : ℕ) → 12 < k → takes_argument k ≡ false
unfolding takes_argument one_of
takes_none k h =
    let out : (n : ℕ) → n < k → eqb k n ≡ false = λ n l. ne_eqb k n (λ e. absurd (omega arith)) in
    simp (out 2 (omega arith), out 3 (omega arith), out 7 (omega arith), out 8 (omega arith), out 9 (omega arith), out 10 (omega arith))

-- an option's kind is Mere exactly where it takes no argument
pub kind_takes : (k : ℕ) → is_mere (kind_of k) ≡ not (takes_argument k)
kind_takes k =
    either (leb k 12)
    (λ t.
    let h = leb-true k 12 t in
    alike_eq (is_mere (kind_of k)) (not (takes_argument k)) (below_at (λ k. alike (is_mere (kind_of k)) (not (takes_argument k))) 13 kinds_right k (omega arith)))
    (λ t. let h = leb-false k 12 t in ap is_mere (kind_out k h) ∙ sym (ap not (takes_none k h)))

-- the same, both ways
pub kind_mere : (k : ℕ) → takes_argument k ≡ false → kind_of k ≡ Mere
kind_mere k e = mere (kind_of k) (kind_takes k ∙ ap not e)
  where
    mere : (a : Kind) → is_mere a ≡ true → a ≡ Mere
    mere Mere e = refl
    mere Keep e = no_case (sym e)
    mere Level e = no_case (sym e)
    mere Place e = no_case (sym e)
    mere Entries e = no_case (sym e)

pub mere_takes : (k : ℕ) → kind_of k ≡ Mere → takes_argument k ≡ false
mere_takes k e = not-true (takes_argument k) (sym (kind_takes k) ∙ ap is_mere e)
