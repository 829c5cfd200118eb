-- The tables: their rows are those of the numbers, computed over the whole table; what a row says; and a search among rows. Assumes nothing.
use Prim.Native.Nat.{ℕ, zero, suc, ◌+◌, ◌-◌, ◌<◌, ◌≤◌}
use mathlib.Core.Path.{◌≡◌, refl, sym, ap, ◌∙◌}
use mathlib.Core.List.{List, [], ◌∷◌, ◌++◌, append_assoc, map}
use mathlib.Core.Bool.{Bool, true, false, cond, not, ◌&&◌, ◌||◌, and-true}
use mathlib.Core.Option.{Option, none, some, some-injective}
use mathlib.Core.Logic.{⊎_elim}
use native.Mathlib.Omega.{arith}
use lib.ListN.{length, get_or, take, drop, replicate, length-append, length-replicate, get_or-map, get_or-eq_default, length-drop}
use lib.Seq.{length-take-le, take-append_seam}
use lib.Dec.{eqb}
use borrow.Author.Tests.{eq-eqb, ne_eqb, eqb-true, eqb-false}
use Rattle.std.proofs.lemmas.Bool.{cases_lt}
use Rattle.text.specs.Bytes.{bytes, same_bytes}
use Rattle.text.specs.Lists.{is_nil}
use Rattle.text.proofs.Tests.{either, or_case, no_case}
use Rattle.text.proofs.Scans.{get_d_within}
use Rattle.words.specs.declared.Kind.{Kind}
use Rattle.words.specs.declared.Kind.TheVariants.{Mere, Keep, Level, Place, Entries}
use Rattle.words.specs.declared.TheConstants.{KINDS, BODIES, NODE_LEN}
use Rattle.words.specs.Tables.{known}
use Rattle.words.specs.Words.{long_names, short_names, lower, lowered, names, find, or, verb_of, option_of, kinds, kind_of, verb_name, option_name, short_name, bodies, body_of, len_with, record_len}
use Rattle.words.specs.Rows.{padded, verb_row, option_row, kind_number, kind_bytes, kind_at, row_name, row_names, candidate_of, row_number, body_bytes, body_at}
use Rattle.words.proofs.Folding.{lowered_length, lowered_nil, lowered_at}
use Rattle.words.proofs.WordLaws.{verb_by_name, verb_only_name, verb_short, verb_out, option_shape, option_short, option_out, option_only_name, short_out, options_long, options_short, below, below_at}
use Rattle.std.proofs.Common.{Some, None}

-- ---- the tables

-- the rows of m numbers from k on
unfoldable pub rows_from : (ℕ → List ℕ) → ℕ → ℕ → List (List ℕ)
rows_from row k zero = []
rows_from row k (suc m) = row k ∷ rows_from row (suc k) m

rows_length : (row : ℕ → List ℕ) (k m : ℕ) → length (rows_from row k m) ≡ m
unfolding rows_from
rows_length row k zero = refl
rows_length row k (suc m) = ap suc (rows_length row (suc k) m)

rows_from_lem : (row : ℕ → List ℕ) (k m i : ℕ) (d : List ℕ) → i < m → get_or (rows_from row k m) i d ≡ row (k + i)
unfolding rows_from
rows_from_lem row k zero i d h = absurd (omega arith)
rows_from_lem row k (suc m) zero d h = let e : k ≡ k + 0 = omega arith in ap row e
rows_from_lem row k (suc m) (suc i) d h = let e : suc k + i ≡ k + suc i = omega arith in rows_from_lem row (suc k) m i d (omega arith) ∙ ap row e

-- the row at a number is the row of that number, where those past the table have the row that stands for none
pub rows_at : (row : ℕ → List ℕ) (m n : ℕ) (d : List ℕ) → (m ≤ n → d ≡ row n) → get_or (rows_from row 0 m) n d ≡ row n
rows_at row m n d no_row = ⊎_elim within past (cases_lt n m)
  where
    past : m ≤ n → get_or (rows_from row 0 m) n d ≡ row n
    past h = get_or-eq_default (rows_from row 0 m) d (omega (arith, rows_length row 0 m)) ∙ no_row h

    within : n < m → get_or (rows_from row 0 m) n d ≡ row n
    within h = let e : 0 + n ≡ n = omega arith in rows_from_lem row 0 m n d h ∙ ap row e

-- where no verb, no option has the number, it is all zeros
pub verb_zeros : (n : ℕ) → 13 < n → replicate 8 0 ≡ verb_row n
unfolding verb_row
verb_zeros n h = rw (verb_out n h)

pub option_zeros : (n : ℕ) → 12 < n → replicate 16 0 ≡ option_row n
unfolding option_row
option_zeros n h = rw (option_out n h, short_out n h)

-- ---- what a row says

padded_length : (n : ℕ) (name : List ℕ) → length name ≤ n → length (padded n name) ≡ n
padded_length n name h = omega (arith, length-append name (replicate (n - length name) 0), length-replicate {A = ℕ} (n - length name) 0)

-- its name, which is shorter than it
pub verb_row_name : (n : ℕ) → row_name (verb_row n) ≡ verb_name n
unfolding verb_row
verb_row_name n = take-append_seam (verb_name n) (replicate (7 - length (verb_name n)) 0)

pub verb_row_fits : (n : ℕ) → get_or (verb_row n) 0 0 < length (verb_row n)
unfolding verb_row
verb_row_fits n = omega (arith, verb_short n, padded_length 7 (verb_name n) (verb_short n))

pub option_row_name : (n : ℕ) → row_name (option_row n) ≡ option_name n
unfolding option_row
option_row_name n =
    let long = option_name n in
    let zeros : List ℕ = replicate (11 - length long) 0 in
    let rest : List ℕ = get_or (short_name n) 0 0 ∷ 0 ∷ 0 ∷ 0 ∷ [] in
    ap (take (length long)) (append_assoc long zeros rest) ∙ take-append_seam long (zeros ++ rest)

pub option_row_fits : (n : ℕ) → get_or (option_row n) 0 0 < length (option_row n)
unfolding option_row
option_row_fits n =
    let long = option_name n in
    let rest : List ℕ = get_or (short_name n) 0 0 ∷ 0 ∷ 0 ∷ 0 ∷ [] in
    omega (arith, option_short n, padded_length 11 long (option_short n), length-append (padded 11 long) rest)

some_bytes : (s : List ℕ) → is_nil s ≡ false → 0 < length s
some_bytes [] e = no_case e
some_bytes (x ∷ s) e = omega arith

-- an option has a name of 1 to 11 bytes
pub option_row_long : (n : ℕ) → 1 ≤ n → n ≤ 12 → (0 < get_or (option_row n) 0 0) × (get_or (option_row n) 0 0 ≤ 11)
unfolding option_row
option_row_long n a b = (some_bytes (option_name n) (option_shape n a b).0, option_short n)

-- a row's first byte is how long its name is
pub row_length : (row : List ℕ) → get_or row 0 0 < length row → get_or row 0 0 ≡ length (row_name row)
row_length row h = sym (length-take-le (get_or row 0 0) (drop 1 row) (omega (arith, length-drop 1 row)))

-- the two forms of the verbs joined: the strings recognise a text as a number exactly where it is in lower case the name in that number's row
pub verb_forms : (t : List ℕ) (k : ℕ) → is_nil t ≡ false
    → (verb_of t ≡ some k → lowered t ≡ row_name (verb_row k)) × (lowered t ≡ row_name (verb_row k) → verb_of t ≡ some k)
verb_forms t k h = let e = verb_row_name k in (λ f. (verb_only_name t k f).2 ∙ sym e, λ f. verb_by_name t k h (f ∙ e))

-- ---- kinds of argument

-- the kind of an option's argument is the one that the number in its table stands for
pub kind_number_lem : (n : ℕ) → kind_at (get_or kind_bytes n 0) ≡ kind_of n
unfolding kind_bytes kind_of kind_at
kind_number_lem n = ap kind_at (get_or-map kind_number kinds n Mere) ∙ again (get_or kinds n Mere)
  where
    again : (k : Kind) → kind_at (kind_number k) ≡ k
    again Mere = refl
    again Keep = refl
    again Level = refl
    again Place = refl
    again Entries = refl

-- the code's table has the kinds themselves: those that the numbers in kind_bytes stand for
pub kinds_listed : map kind_number KINDS ≡ kind_bytes
unfolding kind_bytes kinds
kinds_listed = refl

pub kind_listed : (n : ℕ) → kind_at (get_or (map kind_number KINDS) n 0) ≡ kind_of n
kind_listed n = ap (λ (t : List ℕ). kind_at (get_or t n 0)) kinds_listed ∙ kind_number_lem n

-- ---- a search among the options' rows

-- what a row's test comes to, for the text of one byte and for the others
pub row_short_lem : (row t : List ℕ) → length t ≡ 1 → (get_or row 12 0 ≡ 0 → ⊥) → row_names row t ≡ eqb (lower (get_or t 0 0)) (get_or row 12 0)
unfolding row_names names lowered same_bytes
row_short_lem row [] e h = absurd (omega arith)
row_short_lem row (b ∷ []) e h = simp (ne_eqb (get_or row 12 0) 0 h) (and-true (eqb (lower b) (get_or row 12 0)))
row_short_lem row (b ∷ c ∷ t) e h = absurd (omega arith)

pub row_no_short : (row t : List ℕ) → length t ≡ 1 → get_or row 12 0 ≡ 0 → row_names row t ≡ false
unfolding row_names names
row_no_short row t e h = simp (eq-eqb (length t) 1 e, eq-eqb (get_or row 12 0) 0 h)

pub row_long : (row t : List ℕ) → (length t ≡ 1 → ⊥) → 0 < get_or row 0 0 → 1 < length row → row_names row t ≡ same_bytes (lowered t) (row_name row)
unfolding row_names names
row_long row t e p q = rw (ne_eqb (length t) 1 e) (go (get_or row 0 0) p row q)
  where
    go : (n : ℕ) → 0 < n → (row : List ℕ) → 1 < length row → not (is_nil (take n (drop 1 row))) && same_bytes (lowered t) (take n (drop 1 row)) ≡ same_bytes (lowered t) (take n (drop 1 row))
    go zero p row q = absurd (omega arith)
    go (suc n) p [] q = absurd (omega arith)
    go (suc n) p (x ∷ []) q = absurd (omega arith)
    go (suc n) p (x ∷ y ∷ row) q = refl

-- the first of m numbers from k on whose row names a text
unfoldable pub find_row : ℕ → ℕ → List ℕ → Option ℕ
find_row zero k t = none
find_row (suc m) k t = let more = find_row m (suc k) t in cond (row_names (option_row k) t) (some k) more

-- the rows name what the short names do where the text has one byte, and what the long names do elsewhere
options_one : (t : List ℕ) → eqb (length t) 1 ≡ true → find_row 12 1 t ≡ find 1 short_names t
unfolding find_row row_names find option_row option_name short_name long_names short_names bytes
options_one t e = simp e

options_many : (t : List ℕ) → eqb (length t) 1 ≡ false → find_row 12 1 t ≡ find 1 long_names t
unfolding find_row row_names find option_row option_name short_name long_names short_names bytes
options_many t e = simp e

-- the search over the rows, both names at once, is the search over the long names and then over the short ones
pub find_options : (t : List ℕ) → find_row 12 1 t ≡ option_of t
unfolding option_of
find_options t = go (eqb (length t) 1) t refl
  where
    no_more : (o : Option ℕ) → o ≡ or o none
    no_more none = refl
    no_more (some k) = refl

    go : (b : Bool) → (t : List ℕ) → eqb (length t) 1 ≡ b → find_row 12 1 t ≡ or (find 1 long_names t) (find 1 short_names t)
    go true t e = options_one t e ∙ ap (λ o. or o (find 1 short_names t)) (sym (options_long t (eqb-true (length t) 1 e)))
    go false t e = options_many t e ∙ no_more (find 1 long_names t) ∙ ap (or (find 1 long_names t)) (sym (options_short t (eqb-false (length t) 1 e)))

-- what is found is named by its row, and what a row names is found
found_named : (m k j : ℕ) (t : List ℕ) → find_row m k t ≡ some j → row_names (option_row j) t ≡ true
unfolding find_row
found_named zero k j t e = let z : ◌≡◌ {A = ℕ} 0 1 = cc in absurd (omega arith)
found_named (suc m) k j t e = go (row_names (option_row k) t) refl e (λ f. found_named m (suc k) j t f)
  where
    go : (b : Bool) → row_names (option_row k) t ≡ b → cond b (some k) (find_row m (suc k) t) ≡ some j
        → (find_row m (suc k) t ≡ some j → row_names (option_row j) t ≡ true) → row_names (option_row j) t ≡ true
    go true q f more = ap (λ i. row_names (option_row i) t) (sym (some-injective k j f)) ∙ q
    go false q f more = more f

named_found : (m k n : ℕ) (t : List ℕ) → k ≤ n → n < k + m → row_names (option_row n) t ≡ true → find_row m k t ≡ none → ⊥
unfolding find_row
named_found zero k n t a b q e = omega arith
named_found (suc m) k n t a b q e = go (row_names (option_row k) t) refl e (λ h f. named_found m (suc k) n t h (omega arith) q f)
  where
    go : (w : Bool) → row_names (option_row k) t ≡ w → cond w (some k) (find_row m (suc k) t) ≡ none → (suc k ≤ n → find_row m (suc k) t ≡ none → ⊥) → ⊥
    go true r f more = let z : ◌≡◌ {A = ℕ} 0 1 = cc in omega arith
    go false r f more =
        either (eqb k n) (λ i. no_case (sym q ∙ ap (λ h. row_names (option_row h) t) (sym (eqb-true k n i)) ∙ r))
        (λ i. let d = eqb-false k n i in more (omega (arith, d)) f)

-- an option's names have it as their candidate
candidates : below (λ k. eqb (candidate_of (get_or (option_name (suc k)) 0 0) (length (option_name (suc k)))) (suc k)) 12 ≡ true
unfolding below candidate_of option_name long_names bytes
candidates = refl

short_candidates : below (λ k. is_nil (short_name (suc k)) || eqb (candidate_of (get_or (short_name (suc k)) 0 0) (length (short_name (suc k)))) (suc k)) 12 ≡ true
unfolding below candidate_of short_name short_names bytes
short_candidates = refl

long_candidate : (k : ℕ) → 1 ≤ k → k ≤ 12 → candidate_of (get_or (option_name k) 0 0) (length (option_name k)) ≡ k
long_candidate zero a b = absurd (omega arith)
long_candidate (suc k) a b =
    eqb-true (candidate_of (get_or (option_name (suc k)) 0 0) (length (option_name (suc k)))) (suc k)
    (below_at (λ k. eqb (candidate_of (get_or (option_name (suc k)) 0 0) (length (option_name (suc k)))) (suc k)) 12 candidates k (omega arith))

short_candidate : (k : ℕ) → 1 ≤ k → k ≤ 12 → is_nil (short_name k) ≡ false → candidate_of (get_or (short_name k) 0 0) (length (short_name k)) ≡ k
short_candidate zero a b h = absurd (omega arith)
short_candidate (suc k) a b h =
    let c = eqb (candidate_of (get_or (short_name (suc k)) 0 0) (length (short_name (suc k)))) (suc k) in
    or_case (is_nil (short_name (suc k))) c
    (below_at (λ k. is_nil (short_name (suc k)) || eqb (candidate_of (get_or (short_name (suc k)) 0 0) (length (short_name (suc k)))) (suc k)) 12 short_candidates k (omega arith))
    (λ e. no_case (sym e ∙ h)) (λ e. eqb-true (candidate_of (get_or (short_name (suc k)) 0 0) (length (short_name (suc k)))) (suc k) e)

candidate_is : (t : List ℕ) (k : ℕ) → option_of t ≡ some k → (1 ≤ k) × (candidate_of (lower (get_or t 0 0)) (length t) ≡ k)
candidate_is t k e =
    let r = option_only_name t k e in
    let p : candidate_of (lower (get_or t 0 0)) (length t) ≡ candidate_of (get_or (lowered t) 0 0) (length (lowered t)) = rw (lowered_at t 0, lowered_length t) in (
      r.0,
      p
          ∙ ⊎_elim (λ q. ap (λ s. candidate_of (get_or s 0 0) (length s)) q ∙ long_candidate k r.0 r.1)
          (λ q. ap (λ s. candidate_of (get_or s 0 0) (length s)) q ∙ short_candidate k r.0 r.1 (sym (ap is_nil q) ∙ lowered_nil t ∙ r.3)) r.2,
    )

-- it is an option's number, or 0
pub candidate_most : (x n : ℕ) → candidate_of x n ≤ 12
unfolding candidate_of
candidate_most x n =
    if (eqb x 97) (omega arith) (if (eqb x 100) (if (eqb n 11) (omega arith) (omega arith)) (if (eqb x 101) (omega arith) (if (eqb x 120) (omega arith)
    (if (eqb x 102) (omega arith) (if (eqb x 104) (omega arith) (if (eqb x 107) (omega arith) (if (eqb x 108) (omega arith) (if (eqb x 111) (omega arith)
    (if (eqb x 115) (omega arith) (if (eqb x 118) (omega arith) (if (eqb x 119) (omega arith) (omega arith))))))))))))
  where
    if : {p q : ℕ} (b : Bool) → p ≤ 12 → q ≤ 12 → cond b p q ≤ 12
    if true h k = h
    if false h k = k

-- a row that there is
pub row_some : (m n : ℕ) → Some n ≡ row_number m → (n ≡ m) × (n ≡ 0 → ⊥)
row_some zero n e = let z : ◌≡◌ {A = ℕ} 0 1 = cc in absurd (omega arith)
row_some (suc k) n e = let w : n ≡ suc k = cc in (w, λ z. omega (arith, w, z))

row_none : (m : ℕ) → None ≡ row_number m → m ≡ 0
row_none zero e = refl
row_none (suc k) e = let z : ◌≡◌ {A = ℕ} 0 1 = cc in absurd (omega arith)

-- so the option that a text names is its candidate, if that row names it
module _ (t : List ℕ) where
  pub no_option : (o : Option ℕ) → option_of t ≡ o → ((k : ℕ) → o ≡ some k → ⊥) → None ≡ known (option_of t)
  no_option none e h = ap known (sym e)
  no_option (some k) e h = absurd (h k refl)

  pub empty_none : length t ≡ 0 → None ≡ known (option_of t)
  empty_none h = no_option (option_of t) refl (λ k e. omega (arith, h, some_bytes t (option_only_name t k e).3))

  pub candidate_none : None ≡ row_number (candidate_of (lower (get_or t 0 0)) (length t)) → None ≡ known (option_of t)
  candidate_none h = no_option (option_of t) refl (λ k e. let r = candidate_is t k e in omega (arith, row_none (candidate_of (lower (get_or t 0 0)) (length t)) h, r.0, r.1))

  module _ (n : ℕ) (is : n ≡ candidate_of (lower (get_or t 0 0)) (length t)) where
    pub row_hit : (n ≡ 0 → ⊥) → row_names (option_row n) t ≡ true → Some n ≡ known (option_of t)
    row_hit h e = go (option_of t) refl
      where
        go : (o : Option ℕ) → option_of t ≡ o → Some n ≡ known (option_of t)
        go none q = absurd (named_found 12 1 n t (omega arith) (omega (arith, candidate_most (lower (get_or t 0 0)) (length t))) e (find_options t ∙ q))
        go (some k) q = ap known (ap some (is ∙ (candidate_is t k q).1) ∙ sym q)

    pub row_miss : row_names (option_row n) t ≡ false → None ≡ known (option_of t)
    row_miss e =
        no_option (option_of t) refl
        (λ k q. no_case (sym (found_named 12 1 k t (find_options t ∙ q)) ∙ ap (λ j. row_names (option_row j) t) (sym (is ∙ (candidate_is t k q).1)) ∙ e))

-- ---- bodies

pub body_out : (k : ℕ) → 16 < k → body_of k ≡ none
unfolding body_of bodies
body_out k h = get_or-eq_default bodies none h

pub body_at_lem : (k : ℕ) → k ≤ 16 → body_at (get_or body_bytes k 0) ≡ body_of k
unfolding body_of body_bytes bodies
body_at_lem k h = ap body_at (get_d_within body_bytes k 0 255 (omega arith)) ∙ sym (get_or-map body_at body_bytes k 255)

-- the code's table has the lengths themselves: those that the bytes in body_bytes stand for
pub bodies_listed : BODIES ≡ map (λ (b : ℕ). known (body_at b)) body_bytes
unfolding body_bytes bodies
bodies_listed = refl

-- what the table says of a kind
pub body_listed : (k : ℕ) → get_or BODIES k None ≡ known (body_of k)
unfolding body_of bodies
body_listed k = get_or-map known bodies k none

-- ---- whole records

pub len_is : (k n : ℕ) → Some n ≡ known (body_of k) → 1 + n ≡ record_len k
unfolding record_len
len_is k n = go (body_of k)
  where
    go : (o : Option ℕ) → Some n ≡ known o → 1 + n ≡ len_with o
    go none e = cc
    go (some m) e = cc

pub len_unknown : (k : ℕ) → None ≡ known (body_of k) → 0 ≡ record_len k
unfolding record_len
len_unknown k = go (body_of k)
  where
    go : (o : Option ℕ) → None ≡ known o → 0 ≡ len_with o
    go none e = refl
    go (some m) e = cc

-- a node's record is as long as the constant says of which the table is made
pub node_length : NODE_LEN ≡ record_len 16
unfolding record_len body_of bodies
node_length = refl

-- by kind: 1 verb, 2 option, 3 target, 4 property, 5 refusal, 6 blank, 7 cut, 16 node
pub lengths : (record_len 1 ≡ 2) × (record_len 2 ≡ 6) × (record_len 3 ≡ 5) × (record_len 4 ≡ 10) × (record_len 5 ≡ 4) × (record_len 6 ≡ 1) × (record_len 7 ≡ 1) × (record_len 16 ≡ 22)
unfolding record_len body_of bodies
lengths = (refl, refl, refl, refl, refl, refl, refl, refl)
