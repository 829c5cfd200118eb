-- What a line is by the word that it begins with: what specs/Lines says of whole lines, as the code finds it from left to right. Assumes nothing.
use Prim.Native.Nat.{ℕ}
use mathlib.Core.Path.{◌≡◌, refl, sym, ap, ◌∙◌}
use mathlib.Core.List.{List, [], ◌∷◌, ◌++◌, append-nil}
use mathlib.Core.Bool.{Bool, true, false, cond, not, ◌&&◌, ◌||◌, and-false}
use lib.ListN.{length}
use lib.Dec.{eqb, leb}
use native.Mathlib.Omega.{arith}
use Rattle.std.proofs.lemmas.Grind.{common_steps}
use Rattle.text.specs.Bytes.{bytes, same_bytes, is_letter, is_word}
use Rattle.text.specs.Lists.{all_of, any_of, up_to, is_nil}
use Rattle.text.proofs.Tests.{and_l, and_r, no_case, either}
use Rattle.text.proofs.AllAny.{up_over, up_at, past_at_lem, any_at, all_none}
use Rattle.text.proofs.Classes.{other_byte, letter_word}
use Rattle.text.proofs.SameTexts.{same_eq}
use Rattle.forms.specs.Forms.{is_name}
use Rattle.replies.specs.declared.Form.TheVariants.{Nothing, Wrong}
use Rattle.replies.specs.Lines.{begins, is_end, is_equals, line_ends, begin_word, close_word, end_word, is_keyword, form_of}
use Rattle.replies.specs.Steps.{whole_form, keyed_form}

-- a byte of a name ends no line, and is no `=` and no `#`
module _ (b : ℕ) (h : is_word b ≡ true) where
  pub word_no_end : is_end b ≡ false
  unfolding is_word
  word_no_end = simp (other_byte is_word 13 b true refl h, other_byte is_word 10 b true refl h)

  pub word_no_equals : is_equals b ≡ false
  unfolding is_word
  word_no_equals = other_byte is_word 61 b true refl h

  word_no_hash : eqb b 35 ≡ false
  unfolding is_word
  word_no_hash = other_byte is_word 35 b true refl h

-- a text with a byte that no name has is no name, and none of the three words
odd : (w : List ℕ) (x : ℕ) (r : List ℕ) → is_word x ≡ false → all_of is_word (w ++ (x ∷ r)) ≡ false
unfolding all_of
odd [] x r e = rw e
odd (b ∷ w) x r e = rw (odd w x r e) (and-false (is_word b))

odd_word : (w : List ℕ) (x : ℕ) (r t : List ℕ) → is_word x ≡ false → all_of is_word t ≡ true → same_bytes (w ++ (x ∷ r)) t ≡ false
odd_word w x r t e h =
    either (same_bytes (w ++ (x ∷ r)) t) (λ q. no_case (sym h ∙ sym (ap (all_of is_word) (same_eq (w ++ (x ∷ r)) t q)) ∙ odd w x r e)) (λ q. q)

odd_name : (w : List ℕ) (x : ℕ) (r : List ℕ) → is_word x ≡ false → is_name (w ++ (x ∷ r)) ≡ false
unfolding is_name
odd_name [] x r e = either (is_letter x) (λ q. no_case (sym (letter_word x q) ∙ e)) (λ q. rw q)
odd_name (b ∷ w) x r e = rw (odd w x r e) (and-false (is_letter b))

-- such a text is no keyword
no_keyword : (w : List ℕ) (x : ℕ) (r : List ℕ) → is_word x ≡ false → is_keyword (w ++ (x ∷ r)) ≡ false
unfolding is_keyword
no_keyword w x r o = rw (odd_name w x r o)

-- what a line begins with
first : (w : List ℕ) (x : ℕ) (r : List ℕ) → all_of is_word w ≡ true → eqb x 35 ≡ false → is_nil (w ++ (x ∷ r)) || begins (λ b. eqb b 35) (w ++ (x ∷ r)) ≡ false
unfolding all_of
first [] x r h e = e
first (b ∷ w) x r h e = word_no_hash b (and_l (is_word b) (all_of is_word w) h)

-- a word and `=`
pub keyed_form_lem : (w v : List ℕ) → all_of is_word w ≡ true → form_of (w ++ (61 ∷ v)) ≡ keyed_form (length w) w v
unfolding form_of is_word up_to all_of bytes
keyed_form_lem w v h =
    let row : up_to is_end (w ++ (61 ∷ v)) ≡ w ++ (61 ∷ up_to is_end v) = up_over is_end w (61 ∷ v) (all_none is_word is_end word_no_end w h) in
    let none = all_none is_word is_equals word_no_equals w h in
    simp (
      row,
      first w 61 (up_to is_end v) h refl,
      odd_word w 61 (up_to is_end v) end_word refl refl,
      odd_word w 61 (up_to is_end v) close_word refl refl,
      any_at is_equals w 61 (up_to is_end v) refl,
      up_at is_equals w 61 (up_to is_end v) none refl,
      past_at_lem is_equals w 61 (up_to is_end v) none refl,
      past_at_lem is_equals w 61 v none refl,
    )

-- where a line ends it has nothing more
pub up_ended : (r : List ℕ) → line_ends r ≡ true → up_to is_end r ≡ []
unfolding up_to
up_ended [] e = refl
up_ended (b ∷ r) e = rw e

-- a word that is the whole line
pub whole_form_lem : (w r : List ℕ) → all_of is_word w ≡ true → line_ends r ≡ true → form_of (w ++ r) ≡ cond (is_nil w) (Nothing 0) (whole_form w)
unfolding form_of up_to all_of bytes is_word
whole_form_lem w r h e =
    let none = all_none is_word is_equals word_no_equals w h in
    go w h ((up_over is_end w r (all_none is_word is_end word_no_end w h) ∙ ap (λ (l : List ℕ). w ++ l) (up_ended r e)) ∙ append-nil w) none
  where
    go : (w : List ℕ) → all_of is_word w ≡ true → up_to is_end (w ++ r) ≡ w → any_of is_equals w ≡ false → form_of (w ++ r) ≡ cond (is_nil w) (Nothing 0) (whole_form w)
    go [] a row none = simp (row)
    go (b ∷ w) a row none = simp (row, word_no_hash b (and_l (is_word b) (all_of is_word w) a), none)

-- a word and a byte that is of no name, no `=` and no end of line
pub odd_form : (w : List ℕ) (x : ℕ) (r : List ℕ) → all_of is_word w ≡ true → is_word x ≡ false → is_end x ≡ false → is_equals x ≡ false → (is_nil w ≡ true → eqb x 35 ≡ false)
    → form_of (w ++ (x ∷ r)) ≡ Wrong
unfolding form_of up_to all_of bytes is_word
odd_form w x r h o e q n =
    let row : up_to is_end (w ++ (x ∷ r)) ≡ w ++ (x ∷ up_to is_end r) = up_over is_end w (x ∷ r) (all_none is_word is_end word_no_end w h) ∙ rw e in
    let key : up_to is_equals (w ++ (x ∷ up_to is_end r)) ≡ w ++ (x ∷ up_to is_equals (up_to is_end r)) = up_over is_equals w (x ∷ up_to is_end r) (all_none is_word is_equals word_no_equals w h) ∙ rw q in
    let rest = up_to is_equals (up_to is_end r) in
    simp (
      row,
      fore w h n,
      odd_word w x (up_to is_end r) end_word o refl,
      odd_word w x (up_to is_end r) close_word o refl,
      key,
      odd_word w x rest begin_word o refl,
      no_keyword w x rest o,
    ) (same (not (any_of is_equals (w ++ (x ∷ up_to is_end r)))))
  where
    fore : (w : List ℕ) → all_of is_word w ≡ true → (is_nil w ≡ true → eqb x 35 ≡ false) → is_nil (w ++ (x ∷ up_to is_end r)) || begins (λ b. eqb b 35) (w ++ (x ∷ up_to is_end r)) ≡ false
    fore [] h n = n refl
    fore (b ∷ w) h n = first (b ∷ w) 0 [] h refl

    same : (t : Bool) → cond t Wrong Wrong ≡ Wrong
    same true = refl
    same false = refl

-- a word is a name by its length and its first byte
name_of_word : (w : List ℕ) → all_of is_word w ≡ true → is_name w ≡ leb (length w) 64 && begins is_letter w
unfolding is_name all_of
name_of_word [] e = refl
name_of_word (b ∷ s) e = rw (and_r (is_word b) (all_of is_word s) e) (go (leb (length s) 63) (leb (length (b ∷ s)) 64) refl refl)
  where
    go : (x y : Bool) → leb (length s) 63 ≡ x → leb (length (b ∷ s)) 64 ≡ y → is_letter b && (true && x) ≡ y && is_letter b
    go true true p q = go' (is_letter b)
      where
        go' : (z : Bool) → z && (true && true) ≡ true && z
        go' true = refl
        go' false = refl
    go false false p q = and-false (is_letter b)
    go true false p q = absurd (grind (arith, common_steps))
    go false true p q = absurd (grind (arith, common_steps))

pub keyword_of_word : (w : List ℕ) → all_of is_word w ≡ true
    → is_keyword w ≡ (leb (length w) 64 && begins is_letter w) && not (same_bytes w begin_word || (same_bytes w close_word || same_bytes w end_word))
unfolding is_keyword
keyword_of_word w e = ap (λ (b : Bool). b && not (same_bytes w begin_word || (same_bytes w close_word || same_bytes w end_word))) (name_of_word w e)
