-- A segment that is of its form has no bytes but letters, digits, `.` and `*`. Assumes nothing.
use Prim.Native.Nat.{ℕ}
use mathlib.Core.Path.{◌≡◌, refl, sym, ap, ◌∙◌}
use mathlib.Core.List.{List, []}
use mathlib.Core.Bool.{Bool, true, false, not, ◌&&◌, ◌||◌}
use lib.ListN.{take, drop, get_or, take-append-drop}
use lib.Dec.{eqb}
use Rattle.text.specs.Bytes.{bytes, same_bytes, is_letter, is_digit}
use Rattle.text.specs.Lists.{all_of, run_len}
use Rattle.text.specs.Decimal.{is_decimal}
use Rattle.text.proofs.Tests.{and_l, and_r, or_in_l, or_in_r, or_case}
use Rattle.text.proofs.SameTexts.{same_eq}
use Rattle.text.proofs.AllAny.{all_append, all_mono}
use Rattle.text.proofs.Scans.{take_run}
use Rattle.text.proofs.Decimals.{decimal_made}
use Rattle.forms.specs.Targets.{tag_len, is_tag_len, is_numbered, is_starred, is_segment}

-- the bytes of a segment
abbrev pub is_segment_byte : ℕ → Bool
is_segment_byte b = is_letter b || (is_digit b || (eqb b 46 || eqb b 42))

letter_in : (b : ℕ) → is_letter b ≡ true → is_segment_byte b ≡ true
letter_in b e = or_in_l (is_letter b) (is_digit b || (eqb b 46 || eqb b 42)) e

digit_in : (b : ℕ) → is_digit b ≡ true → is_segment_byte b ≡ true
digit_in b e = or_in_r (is_letter b) (is_digit b || (eqb b 46 || eqb b 42)) (or_in_l (is_digit b) (eqb b 46 || eqb b 42) e)

-- a tag and what follows it
tag_bytes : (s : List ℕ) → all_of is_segment_byte (drop (tag_len s) s) ≡ true → all_of is_segment_byte s ≡ true
unfolding tag_len
tag_bytes s e =
    let k = run_len is_letter s in
    ap (all_of is_segment_byte) (sym (take-append-drop k s))
    ∙ all_append is_segment_byte (take k s) (drop k s) (all_mono is_letter is_segment_byte letter_in (take k s) (take_run is_letter s)) e

numbered_bytes : (s : List ℕ) → is_numbered s ≡ true → all_of is_segment_byte s ≡ true
unfolding is_numbered
numbered_bytes s e =
    let d = drop (tag_len s) s in
    let z = not (eqb (get_or d 0 0) 48) in
    let p = and_l (is_decimal 65535 d) z (and_r (is_tag_len (tag_len s)) (is_decimal 65535 d && z) e) in
    tag_bytes s (all_mono is_digit is_segment_byte digit_in d (decimal_made 65535 d p).all)

pub starred_bytes : (s : List ℕ) → is_starred s ≡ true → all_of is_segment_byte s ≡ true
unfolding is_starred
starred_bytes s e =
    let p = same_eq (drop (tag_len s) s) (bytes "*") (and_r (is_tag_len (tag_len s)) (same_bytes (drop (tag_len s) s) (bytes "*")) e) in
    tag_bytes s (ap (all_of is_segment_byte) p ∙ unfold all_of bytes in refl)

-- the empty text is no segment
pub nil_segment : is_segment [] ≡ false
unfolding is_segment is_numbered same_bytes tag_len run_len bytes
nil_segment = refl

pub nil_starred : is_starred [] ≡ false
unfolding is_starred tag_len run_len
nil_starred = refl

pub segment_bytes : (s : List ℕ) → is_segment s ≡ true → all_of is_segment_byte s ≡ true
unfolding is_segment
segment_bytes s e =
    or_case (same_bytes s (bytes ".")) (same_bytes s (bytes "..") || is_numbered s) e
    (λ p. ap (all_of is_segment_byte) (same_eq s (bytes ".") p) ∙ unfold all_of bytes in refl)
    (λ q. or_case (same_bytes s (bytes "..")) (is_numbered s) q
    (λ p. ap (all_of is_segment_byte) (same_eq s (bytes "..") p) ∙ unfold all_of bytes in refl)
    (numbered_bytes s))
