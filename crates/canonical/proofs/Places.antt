-- Written arguments: numbers and places. And written names. Assumes nothing.
use Prim.Native.Nat.{ℕ}
use mathlib.Core.Path.{◌≡◌, refl, sym, ap, ◌∙◌, subst}
use mathlib.Core.List.{List, [], ◌∷◌, append-nil}
use mathlib.Core.Bool.{Bool, true, false, not, ◌&&◌, ◌||◌}
use mathlib.Core.Option.{some}
use lib.ListN.{length}
use lib.Dec.{eqb}
use borrow.Author.Tests.{eqb-true}
use Rattle.canonical.specs.Canonical.{three, escapes, write_more, write_place}
use Rattle.canonical.specs.Written.{level_in}
use Rattle.forms.specs.Forms.{has_eq, is_keep, is_level, is_mark, is_place, starts}
use Rattle.forms.specs.Targets.{is_separator}
use Rattle.terms.specs.Signs.{Sign, bare, escaped, is_bare, quote, quoted, quoted_escaped, stands, stands_for, twelve, bares}
use Rattle.text.specs.Bytes.{bytes, is_digit, is_word, one_of, printable}
use Rattle.text.specs.Decimal.{is_decimal}
use Rattle.text.specs.Lists.{all_of, any_of, is_nil}
use Rattle.words.specs.Words.{lowered, names, option_name, option_of, verb_name, verb_of, all_name}
use Rattle.canonical.proofs.Lexing.{ok_bare, ok_sign, good}
use Rattle.canonical.proofs.Values.{good_bares, starts_none, word_byte}
use Rattle.canonical.proofs.Targets.{ok_written, digit_segment, byte_segment}
use Rattle.text.proofs.Tests.{and_l, and_r, and_in, or_l, or_r, no_case, either, or_case}
use Rattle.text.proofs.AllAny.{all_mono}
use Rattle.terms.proofs.Bares.{none_bares}
use Rattle.text.proofs.Decimals.{decimal_made}
use Rattle.words.proofs.Folding.{lowered_length, lowered_digits}
use Rattle.words.proofs.WordLaws.{names_told, verb_again, verb_shape, verb_only_name, option_again, option_shape, option_only_name}
use Rattle.terms.specs.RowWords.{turns}

-- ---- bare texts

pub written_good : (s : List ℕ) → all_of ok_written s ≡ true → good false (bares s) ≡ true
unfolding good
written_good s e =
    ap (good false) (sym (append-nil (bares s))) ∙ good_bares s [] (all_mono ok_written ok_bare (λ b h. and_l (ok_bare b) (not (eqb b 61) && not (eqb b 45)) h) s e)

pub written_eq : (s : List ℕ) → all_of ok_written s ≡ true → has_eq (bares s) ≡ false
written_eq s e = none_bares ok_written 61 refl s e

pub written_dash : (s : List ℕ) → all_of ok_written s ≡ true → starts 45 (bares s) ≡ false
written_dash s e = starts_none 45 (bares s) (none_bares ok_written 45 refl s e)

-- ---- numbers

keep_written : (s : List ℕ) → is_keep s ≡ true → all_of ok_written s ≡ true
unfolding is_keep
keep_written s e =
    all_mono is_digit ok_written (λ b h. and_l (ok_written b) (not (is_separator b)) (digit_segment b h)) s (decimal_made 4294967295 s e).all

keep_some : (s : List ℕ) → is_keep s ≡ true → is_nil s ≡ false
unfolding is_keep is_decimal
keep_some [] e = sym e
keep_some (b ∷ s) e = refl

pub record NumberOk (s : List ℕ) : Type 0 where
  pub bytes_ok : all_of ok_written s ≡ true
  pub is_some : is_nil s ≡ false

all_ok : NumberOk all_name
unfolding all_of bytes all_name
all_ok = record { bytes_ok = refl; is_some = refl }

pub keep_ok : (s : List ℕ) → is_keep s ≡ true → NumberOk s
keep_ok s e = record { bytes_ok = keep_written s e; is_some = keep_some s e }

-- ---- levels: in lower case, `all` or the number as it is

pub all_length : (s : List ℕ) → names all_name s ≡ true → length s ≡ 3
unfolding all_name bytes
all_length s e = sym (lowered_length s) ∙ ap length (names_told all_name s e).0

keep_lowered : (s : List ℕ) → is_keep s ≡ true → lowered s ≡ s
unfolding is_keep
keep_lowered s e = lowered_digits s (decimal_made 4294967295 s e).all

pub level_told : (s : List ℕ) → is_level s ≡ true → lowered s ≡ level_in s
unfolding is_level level_in
level_told s e =
    either (names all_name s) (λ n. rw n (names_told all_name s n).0)
    (λ n. rw n (or_case (is_keep s) (names all_name s) e (keep_lowered s) (λ m. no_case (sym m ∙ n))))

pub level_ok : (s : List ℕ) → is_level s ≡ true → NumberOk (lowered s)
unfolding is_level
level_ok s e =
    or_case (is_keep s) (names all_name s) e (λ k. subst NumberOk (sym (keep_lowered s k)) (keep_ok s k)) (λ n. subst NumberOk (sym (names_told all_name s n).0) all_ok)

-- ---- places

escape_twelve : (l : Bool) (b : ℕ) → (one_of three b || (l && eqb b 45)) ≡ true → one_of twelve b ≡ true
unfolding one_of twelve bytes
escape_twelve l b e =
    or_case (eqb b 32 || (eqb b 96 || (eqb b 34 || false))) (l && eqb b 45) e
    (λ p. or_case (eqb b 32) (eqb b 96 || (eqb b 34 || false)) p (λ q. ap (one_of twelve) (eqb-true b 32 q))
    (λ q. or_case (eqb b 96) (eqb b 34 || false) q (λ r. ap (one_of twelve) (eqb-true b 96 r))
    (λ r. or_case (eqb b 34) false r (λ u. ap (one_of twelve) (eqb-true b 34 u)) (λ u. no_case (sym u)))))
    (λ p. ap (one_of twelve) (eqb-true b 45 (and_r l (eqb b 45) p)))

-- one byte of it
record Escaped (l : Bool) (b : ℕ) : Type 0 where
  ok : ok_sign false (escapes l b) ≡ true
  stays : turns false (escapes l b) ≡ false
  means : stands_for (escapes l b) ≡ b ∷ []
  mark : is_mark (escapes l b) ≡ false
  dash : l ≡ true → is_bare 45 (escapes l b) ≡ false

escaped_ok : (l : Bool) (b : ℕ) → printable b ≡ true → Escaped l b
unfolding escapes
escaped_ok l b e = go (one_of three b || (l && eqb b 45)) refl
  where
    go : (x : Bool) → (one_of three b || (l && eqb b 45)) ≡ x → Escaped l b
    go true p =
        record { ok = rw p (and_in (one_of twelve b) (printable b) (escape_twelve l b p) e); stays = rw p; means = rw p; mark = rw p; dash = λ _. rw p }
    go false p =
        let q : (eqb b 32 || (eqb b 96 || (eqb b 34 || false))) ≡ false = unfold one_of bytes in or_l (one_of three b) (l && eqb b 45) p in
        let r = or_r (eqb b 32) (eqb b 96 || (eqb b 34 || false)) q in
        let u = or_r (one_of three b) (l && eqb b 45) p in
        record {
          ok = rw p (simp (or_l (eqb b 32) (eqb b 96 || (eqb b 34 || false)) q, or_l (eqb b 96) (eqb b 34 || false) r, or_l (eqb b 34) false (or_r (eqb b 96) (eqb b 34 || false) r), e));
          stays = rw p;
          means = rw p;
          mark = rw p;
          dash = λ t. rw p (rw t at u);
        }

more_good : (s : List ℕ) → all_of printable s ≡ true → good false (write_more s) ≡ true
unfolding good write_more all_of
more_good [] e = refl
more_good (b ∷ s) e =
    let o = escaped_ok false b (and_l (printable b) (all_of printable s) e) in
    simp (o.ok, o.stays, more_good s (and_r (printable b) (all_of printable s) e))

more_stands : (s : List ℕ) → all_of printable s ≡ true → stands (write_more s) ≡ s
unfolding stands write_more all_of
more_stands [] e = refl
more_stands (b ∷ s) e =
    let o = escaped_ok false b (and_l (printable b) (all_of printable s) e) in
    simp (o.means, more_stands s (and_r (printable b) (all_of printable s) e))

more_marks : (s : List ℕ) → all_of printable s ≡ true → any_of is_mark (write_more s) ≡ false
unfolding any_of write_more all_of
more_marks [] e = refl
more_marks (b ∷ s) e =
    let o = escaped_ok false b (and_l (printable b) (all_of printable s) e) in
    simp (o.mark, more_marks s (and_r (printable b) (all_of printable s) e))

pub record PlaceOk (s : List ℕ) : Type 0 where
  pub is_one : is_place (write_place s) ≡ true
  pub means : stands (write_place s) ≡ s
  pub is_good : good false (write_place s) ≡ true
  pub dash : starts 45 (write_place s) ≡ false
  pub is_some : is_nil (write_place s) ≡ false

pub place_ok : (s : List ℕ) → is_nil s ≡ false → all_of printable s ≡ true → PlaceOk s
unfolding is_place stands good write_place any_of all_of
place_ok [] n e = no_case n
place_ok (b ∷ s) n e =
    let o = escaped_ok true b (and_l (printable b) (all_of printable s) e) in
    let r = and_r (printable b) (all_of printable s) e in
    record {
      is_one = simp (o.mark, more_marks s r);
      means = simp (o.means, more_stands s r);
      is_good = simp (o.ok, o.stays, more_good s r);
      dash = o.dash refl;
      is_some = refl;
    }

-- a text that is not empty and has no quote mark stands for something
pub stands_some : (t : List Sign) → is_nil t ≡ false → is_place t ≡ true → is_nil (stands t) ≡ false
unfolding stands is_place any_of
stands_some [] n e = n
stands_some (bare b ∷ t) n e = refl
stands_some (escaped b ∷ t) n e = refl
stands_some (quote ∷ t) n e = no_case (sym e)
stands_some (quoted b ∷ t) n e = refl
stands_some (quoted_escaped b ∷ t) n e = refl

-- ---- the names of the tables

word_written : (b : ℕ) → is_word b ≡ true → ok_written b ≡ true
word_written b e = and_l (ok_written b) (not (is_separator b)) (byte_segment b (word_byte b e))

pub record VerbOk (n : ℕ) : Type 0 where
  pub again : verb_of (verb_name n) ≡ some n
  pub bytes_ok : all_of ok_written (verb_name n) ≡ true
  pub is_some : is_nil (verb_name n) ≡ false

pub verb_ok : (s : List ℕ) (n : ℕ) → verb_of s ≡ some n → VerbOk n
verb_ok s n h =
    let o = verb_only_name s n h in
    let f = verb_shape n o.0 o.1 in
    record { again = verb_again n o.0 o.1; bytes_ok = all_mono is_word ok_written word_written (verb_name n) f.2; is_some = f.0 }

pub record OptionOk (n : ℕ) : Type 0 where
  pub again : option_of (option_name n) ≡ some n
  pub bytes_ok : all_of ok_written (option_name n) ≡ true

pub option_ok : (s : List ℕ) (n : ℕ) → option_of s ≡ some n → OptionOk n
option_ok s n h =
    let o = option_only_name s n h in
    record { again = option_again n o.0 o.1; bytes_ok = all_mono is_word ok_written word_written (option_name n) (option_shape n o.0 o.1).2 }
