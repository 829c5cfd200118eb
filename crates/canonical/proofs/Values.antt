-- Written names, texts and values. Assumes nothing.
use Prim.Native.Nat.{ℕ, suc, ◌<◌, ◌≤◌}
use mathlib.Core.Path.{◌≡◌, refl, sym, ap, ◌∙◌}
use mathlib.Core.List.{List, [], ◌∷◌, ◌++◌, map, append_assoc}
use mathlib.Core.Bool.{Bool, true, false, not, ◌&&◌, ◌||◌}
use mathlib.Core.Option.{some}
use native.Mathlib.Omega.{arith}
use lib.ListN.{length, drop, length-map}
use lib.Dec.{eqb, leb}
use borrow.Author.Tests.{eqb-true, ne_eqb, le-leb, leb-true, not-true}
use Rattle.canonical.specs.Canonical.{closing, in_quotes, is_plain, quotes, write_text, write_texts, write_value}
use Rattle.forms.specs.Forms.{Value, ends_quote, is_list, is_plain_sign, is_text, items_in, list_of, many, one, starts, text_of, value_of}
use Rattle.terms.specs.Signs.{Sign, bare, is_bare, stands, stands_for, two, bares, quoted, quoted_escaped}
use Rattle.text.specs.Bytes.{bytes, is_digit, is_letter, is_word, one_of, printable}
use Rattle.text.specs.Lists.{all_of, any_of, between, each, is_nil, parts, past, up_to}
use Rattle.text.proofs.Tests.{and_l, and_r, or_l, no_case, or_case, or_r}
use Rattle.text.proofs.AllAny.{all_append, all_up, up_at, past_at_lem, any_at, all_mono, map_some, all_drop}
use Rattle.text.proofs.Parts.{parts_all, parts_between, any_between}
use Rattle.canonical.proofs.Lexing.{ok_bare, ok_sign, good}
use Rattle.canonical.proofs.Frame.{clean_sign}
use Rattle.text.proofs.Classes.{within_low, within_high}
use Rattle.terms.specs.RowWords.{turns}
use Rattle.terms.proofs.Bares.{stands_bares, none_bares}
use Rattle.forms.proofs.FormCases.{value_from_lem}
use Rattle.forms.proofs.TextLaws.{items_some}

-- ---- classes of bytes

-- what is known of a letter, digit or underscore
pub record WordByte (b : ℕ) : Type 0 where
  pub low : 48 ≤ b
  pub high : b ≤ 122
  pub no_grave : b ≡ 96 → ⊥
  pub no_back : b ≡ 92 → ⊥
  pub no_eq : b ≡ 61 → ⊥

pub in_range : (lo hi b : ℕ) → leb lo b && leb b hi ≡ true → 48 ≤ lo → hi ≤ 122 → ((lo ≤ 96 → hi < 96) × (lo ≤ 92 → hi < 92) × (lo ≤ 61 → hi < 61)) → WordByte b
in_range lo hi b e l h x =
    let p = within_low lo hi b e in
    let q = within_high lo hi b e in
    record {
      low = omega arith;
      high = omega arith;
      no_grave = λ z. absurd (let y = x.0 (omega arith) in omega arith);
      no_back = λ z. absurd (let y = x.1 (omega arith) in omega arith);
      no_eq = λ z. absurd (let y = x.2 (omega arith) in omega arith);
    }

pub letter_byte : (b : ℕ) → is_letter b ≡ true → WordByte b
letter_byte b e =
    or_case (leb 65 b && leb b 90) (leb 97 b && leb b 122) e
    (λ l. in_range 65 90 b l (omega arith) (omega arith) ((λ z. omega arith), (λ z. omega arith), (λ z. absurd (omega arith))))
    (λ l. in_range 97 122 b l (omega arith) (omega arith) ((λ z. absurd (omega arith)), (λ z. absurd (omega arith)), (λ z. absurd (omega arith))))

pub digit_byte : (b : ℕ) → is_digit b ≡ true → WordByte b
digit_byte b e = in_range 48 57 b e (omega arith) (omega arith) ((λ z. omega arith), (λ z. omega arith), (λ z. omega arith))

pub word_byte : (b : ℕ) → is_word b ≡ true → WordByte b
unfolding is_word
word_byte b e =
    or_case (is_letter b) (is_digit b || eqb b 95) e (letter_byte b)
    (λ r. or_case (is_digit b) (eqb b 95) r (digit_byte b)
    (λ x. let y = eqb-true b 95 x in record { low = omega arith; high = omega arith; no_grave = λ z. omega arith; no_back = λ z. omega arith; no_eq = λ z. omega arith }))

pub byte_ok : (b : ℕ) → WordByte b → ok_bare b ≡ true
byte_ok b w =
    let l = w.low in
    let h = w.high in
    simp (ne_eqb b 32 (λ z. omega arith), ne_eqb b 96 w.no_grave, ne_eqb b 34 (λ z. omega arith), le-leb 32 b (omega arith), le-leb b 126 (omega arith))

pub word_ok : (b : ℕ) → is_word b ≡ true → ok_bare b ≡ true
word_ok b e = byte_ok b (word_byte b e)

-- ---- bare bytes

pub good_bares : (s : List ℕ) (w : List Sign) → all_of ok_bare s ≡ true → good false (bares s ++ w) ≡ good false w
unfolding all_of good
good_bares [] w e = refl
good_bares (b ∷ s) w e = simp (and_l (ok_bare b) (all_of ok_bare s) e, good_bares s w (and_r (ok_bare b) (all_of ok_bare s) e))

-- ---- texts

-- the sign of a byte in quotes
pub quotes_case : (P : Sign → Type 0) (b : ℕ) → (one_of two b ≡ true → P (quoted_escaped b)) → (one_of two b ≡ false → P (quoted b)) → P (in_quotes b)
unfolding in_quotes
quotes_case P b pair other = go (one_of two b) refl
  where
    go : (x : Bool) → one_of two b ≡ x → P (in_quotes b)
    go true p = rw p (pair p)
    go false p = rw p (other p)

quoted_ok : (b : ℕ) → printable b ≡ true → ok_sign true (in_quotes b) ≡ true
unfolding two one_of bytes
quoted_ok b e =
    quotes_case (λ x. ok_sign true x ≡ true) b (λ p. simp (p, e)) (λ p. simp (or_l (eqb b 96) (eqb b 34 || false) p, or_l (eqb b 34) false (or_r (eqb b 96) (eqb b 34 || false) p), e))

quoted_stays : (b : ℕ) → turns true (in_quotes b) ≡ true
quoted_stays b = quotes_case (λ x. turns true x ≡ true) b (λ _. refl) (λ _. refl)

quoted_stands : (b : ℕ) → stands_for (in_quotes b) ≡ b ∷ []
quoted_stands b = quotes_case (λ x. stands_for x ≡ b ∷ []) b (λ _. refl) (λ _. refl)

quoted_bare : (k b : ℕ) → is_bare k (in_quotes b) ≡ false
quoted_bare k b = quotes_case (λ x. is_bare k x ≡ false) b (λ _. refl) (λ _. refl)

closing_good : (s : List ℕ) (w : List Sign) → all_of printable s ≡ true → good true (closing s ++ w) ≡ good false w
unfolding all_of closing good
closing_good [] w e = refl
closing_good (b ∷ s) w e =
    simp (quoted_ok b (and_l (printable b) (all_of printable s) e), quoted_stays b, closing_good s w (and_r (printable b) (all_of printable s) e))

closing_ends : (s : List ℕ) → ends_quote (closing s) ≡ true
unfolding closing ends_quote
closing_ends [] = refl
closing_ends (b ∷ s) = quotes_case (λ x. ends_quote (x ∷ closing s) ≡ true) b (λ _. closing_ends s) (λ _. closing_ends s)

closing_stands : (s : List ℕ) → stands (closing s) ≡ s
unfolding closing stands
closing_stands [] = refl
closing_stands (b ∷ s) = simp (quoted_stands b, closing_stands s)

closing_none : (k : ℕ) → eqb 34 k ≡ false → (s : List ℕ) → any_of (is_bare k) (closing s) ≡ false
unfolding closing any_of
closing_none k q [] = simp q
closing_none k q (b ∷ s) = simp (quoted_bare k b, closing_none k q s)

-- by the two ways of writing
text_case : (P : List Sign → Type 0) (s : List ℕ) → (is_nil s ≡ false → all_of is_word s ≡ true → P (bares s)) → P (quotes s) → P (write_text s)
unfolding write_text is_plain
text_case P s f g = go (is_plain s) refl
  where
    go : (x : Bool) → is_plain s ≡ x → P (write_text s)
    go true p = rw p (f (not-true (is_nil s) (and_l (not (is_nil s)) (all_of is_word s) p)) (and_r (not (is_nil s)) (all_of is_word s) p))
    go false p = rw p g

pub text_good : (s : List ℕ) (w : List Sign) → all_of printable s ≡ true → good false (write_text s ++ w) ≡ good false w
unfolding good
text_good s w e =
    text_case (λ z. good false (z ++ w) ≡ good false w) s (λ n a. good_bares s w (all_mono is_word ok_bare word_ok s a)) (closing_good s w e)

word_plain : (b : ℕ) → is_word b ≡ true → is_plain_sign (bare b) ≡ true
unfolding is_plain_sign one_of bytes
word_plain b e =
    let w = word_byte b e in
    let l = w.low in
    simp (ne_eqb b 34 (λ z. omega arith), ne_eqb b 44 (λ z. omega arith), ne_eqb b 40 (λ z. omega arith), ne_eqb b 41 (λ z. omega arith), ne_eqb b 61 w.no_eq)

plain_bares : (s : List ℕ) → all_of is_word s ≡ true → all_of is_plain_sign (bares s) ≡ true
unfolding all_of
plain_bares [] e = refl
plain_bares (b ∷ s) e = simp (word_plain b (and_l (is_word b) (all_of is_word s) e), plain_bares s (and_r (is_word b) (all_of is_word s) e))

bares_text : (s : List ℕ) → is_nil s ≡ false → all_of is_word s ≡ true → is_text (bares s) ≡ true
unfolding is_text
bares_text [] n e = no_case n
bares_text (b ∷ s) n e = plain_bares (b ∷ s) e

pub text_is : (s : List ℕ) → is_text (write_text s) ≡ true
unfolding is_text
text_is s = text_case (λ z. is_text z ≡ true) s (bares_text s) (closing_ends s)

pub text_stands : (s : List ℕ) → stands (write_text s) ≡ s
unfolding stands
text_stands s = text_case (λ z. stands z ≡ s) s (λ n e. stands_bares s) (closing_stands s)

-- no byte but letters, digits, underscores and quote marks stands in it bare
pub text_none : (k : ℕ) → eqb 34 k ≡ false → is_word k ≡ false → (s : List ℕ) → any_of (is_bare k) (write_text s) ≡ false
unfolding any_of
text_none k q n s = text_case (λ z. any_of (is_bare k) z ≡ false) s (λ _ e. none_bares is_word k n s e) (simp q (closing_none k q s))

pub starts_none : (k : ℕ) (t : List Sign) → any_of (is_bare k) t ≡ false → starts k t ≡ false
unfolding any_of
starts_none k [] e = refl
starts_none k (x ∷ t) e = or_l (is_bare k x) (any_of (is_bare k) t) e

-- ---- values

-- what is known of a value that was read
pub ok_value : Value → Bool
ok_value (one s) = all_of printable s
ok_value (many ss) = not (is_nil ss) && (leb (length ss) 16 && all_of (all_of printable) ss)

texts_all : (ss : List (List ℕ)) → all_of is_text (write_texts ss) ≡ true
unfolding all_of write_texts
texts_all [] = refl
texts_all (s ∷ ss) = simp (text_is s, texts_all ss)

texts_stand : (ss : List (List ℕ)) → map stands (write_texts ss) ≡ ss
unfolding write_texts
texts_stand [] = refl
texts_stand (s ∷ ss) = simp (text_stands s, texts_stand ss)

texts_length : (ss : List (List ℕ)) → length (write_texts ss) ≡ length ss
unfolding write_texts
texts_length [] = refl
texts_length (s ∷ ss) = ap suc (texts_length ss)

pub texts_none : (k : ℕ) → eqb 34 k ≡ false → is_word k ≡ false → (ss : List (List ℕ)) → all_of (λ w. not (any_of (is_bare k) w)) (write_texts ss) ≡ true
unfolding all_of write_texts
texts_none k q n [] = refl
texts_none k q n (s ∷ ss) = simp (text_none k q n s, texts_none k q n ss)

pub no_word_41 : is_word 41 ≡ false
unfolding is_word
no_word_41 = refl

pub no_word_44 : is_word 44 ≡ false
unfolding is_word
no_word_44 = refl

pub no_word_40 : is_word 40 ≡ false
unfolding is_word
no_word_40 = refl

pub no_word_61 : is_word 61 ≡ false
unfolding is_word
no_word_61 = refl

items_back : (s : List ℕ) (ss : List (List ℕ)) → items_in (between (bare 44) (write_texts (s ∷ ss)) ++ (bare 41 ∷ [])) ≡ write_texts (s ∷ ss)
unfolding items_in
items_back s ss =
    let n = any_between (is_bare 41) (bare 44) (write_texts (s ∷ ss)) refl (texts_none 41 refl no_word_41 (s ∷ ss)) in
    ap (parts (is_bare 44)) (up_at (is_bare 41) (between (bare 44) (write_texts (s ∷ ss))) (bare 41) [] n refl)
    ∙ split
  where
    split : parts (is_bare 44) (between (bare 44) (write_texts (s ∷ ss))) ≡ write_texts (s ∷ ss)
    split = unfold write_texts in parts_between (is_bare 44) (bare 44) (write_text s) (write_texts ss) refl (texts_none 44 refl no_word_44 (s ∷ ss))

list_again : (s : List ℕ) (ss : List (List ℕ)) → length (s ∷ ss) ≤ 16
    → list_of (between (bare 44) (write_texts (s ∷ ss)) ++ (bare 41 ∷ [])) ≡ some (many (s ∷ ss))
unfolding list_of is_list
list_again s ss h =
    let body = between (bare 44) (write_texts (s ∷ ss)) in
    let n = any_between (is_bare 41) (bare 44) (write_texts (s ∷ ss)) refl (texts_none 41 refl no_word_41 (s ∷ ss)) in
    let e = texts_length (s ∷ ss) in
    simp (
      any_at (is_bare 41) body (bare 41) [] refl,
      past_at_lem (is_bare 41) body (bare 41) [] n refl,
      items_back s ss,
      texts_all (s ∷ ss),
      e,
      le-leb (suc (length ss)) 16 h,
      texts_stand (s ∷ ss),
    )

pub value_again : (v : Value) → ok_value v ≡ true → value_of (write_value v) ≡ some v
unfolding value_of write_value ok_value text_of
value_again (one s) k = simp (starts_none 40 (write_text s) (text_none 40 refl no_word_40 s), text_is s, text_stands s)
value_again (many []) k = no_case (sym k)
value_again (many (s ∷ ss)) k = list_again s ss (leb-true (length (s ∷ ss)) 16 (and_l (leb (length (s ∷ ss)) 16) (all_of (all_of printable) (s ∷ ss)) k))

each_good : (ss : List (List ℕ)) (w : List Sign) → all_of (all_of printable) ss ≡ true → good false (each (bare 44) (write_texts ss) ++ w) ≡ good false w
unfolding each write_texts all_of good
each_good [] w k = refl
each_good (s ∷ ss) w k =
    ap (good false) (append_assoc (write_text s) (each (bare 44) (write_texts ss)) w)
    ∙ text_good s (each (bare 44) (write_texts ss) ++ w) (and_l (all_of printable s) (all_of (all_of printable) ss) k)
    ∙ each_good ss w (and_r (all_of printable s) (all_of (all_of printable) ss) k)

pub value_good : (v : Value) (w : List Sign) → ok_value v ≡ true → good false (write_value v ++ w) ≡ good false w
unfolding write_value ok_value between write_texts good all_of
value_good (one s) w k = text_good s w k
value_good (many []) w k = no_case (sym k)
value_good (many (s ∷ ss)) w k =
    let a = and_r (leb (length (s ∷ ss)) 16) (all_of (all_of printable) (s ∷ ss)) k in
    ap (good false) (append_assoc (write_text s ++ each (bare 44) (write_texts ss)) (bare 41 ∷ []) w ∙ append_assoc (write_text s) (each (bare 44) (write_texts ss)) (bare 41 ∷ w))
    ∙ text_good s (each (bare 44) (write_texts ss) ++ (bare 41 ∷ w)) (and_l (all_of printable s) (all_of (all_of printable) ss) a)
    ∙ each_good ss (bare 41 ∷ w) (and_r (all_of printable s) (all_of (all_of printable) ss) a)

pub value_no_eq : (v : Value) → ok_value v ≡ true → starts 61 (write_value v) ≡ false
unfolding write_value
value_no_eq (one s) k = starts_none 61 (write_text s) (text_none 61 refl no_word_61 s)
value_no_eq (many ss) k = refl

-- ---- what is known of a value that was read

pub stands_clean : (t : List Sign) → all_of clean_sign t ≡ true → all_of printable (stands t) ≡ true
unfolding all_of stands
stands_clean [] e = refl
stands_clean (x ∷ t) e =
    all_append printable (stands_for x) (stands t) (and_l (clean_sign x) (all_of clean_sign t) e) (stands_clean t (and_r (clean_sign x) (all_of clean_sign t) e))

stands_all : (ts : List (List Sign)) → all_of (all_of clean_sign) ts ≡ true → all_of (all_of printable) (map stands ts) ≡ true
unfolding all_of
stands_all [] e = refl
stands_all (t ∷ ts) e =
    simp (stands_clean t (and_l (all_of clean_sign t) (all_of (all_of clean_sign) ts) e), stands_all ts (and_r (all_of clean_sign t) (all_of (all_of clean_sign) ts) e))

list_ok : (t : List Sign) → is_list t ≡ true → all_of clean_sign t ≡ true → ok_value (many (map stands (items_in t))) ≡ true
unfolding is_list ok_value
list_ok t p e =
    let q = and_r (is_nil (past (is_bare 41) t)) (all_of is_text (items_in t) && leb (length (items_in t)) 16) (and_r (any_of (is_bare 41) t) (is_nil (past (is_bare 41) t) && (all_of is_text (items_in t) && leb (length (items_in t)) 16)) p) in
    let r = and_r (all_of is_text (items_in t)) (leb (length (items_in t)) 16) q in
    let s = map_some stands (items_in t) (items_some t) in
    let l : length (map stands (items_in t)) ≡ length (items_in t) = length-map (items_in t) stands in
    let a = stands_all (items_in t) (unfold items_in in parts_all clean_sign (is_bare 44) (up_to (is_bare 41) t) (all_up clean_sign (is_bare 41) t e)) in
    simp (s, l, r, a)

pub value_ok : (t : List Sign) (v : Value) → value_of t ≡ some v → all_of clean_sign t ≡ true → ok_value v ≡ true
unfolding ok_value
value_ok t v h e = value_from_lem (λ w. ok_value w ≡ true) t (λ p l. list_ok (drop 1 t) l (all_drop clean_sign 1 t e)) (λ p l. stands_clean t e) v h
