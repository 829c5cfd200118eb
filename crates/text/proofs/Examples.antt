-- Worked examples, computed: bytes at the edges of their classes, runs, texts that are the same or not, numbers in decimal, stores. Assumes nothing.
use Prim.Native.Nat.{ℕ}
use Prim.Native.String.{String}
use mathlib.Core.Path.{◌≡◌, refl}
use mathlib.Core.List.{List, [], ◌∷◌, map}
use mathlib.Core.Bool.{Bool, true, false}
use lib.ListN.{set}
use lib.Seq.{sets}
use Rattle.text.specs.Lists.{all_of, run_len}
use Rattle.text.specs.Bytes.{bytes, same_bytes, is_letter, is_digit, is_word, printable}
use Rattle.text.specs.Decimal.{value_from, is_decimal, decimal_of, width, digits}
use Rattle.text.specs.Room.{be16, high_low}
use Rattle.std.proofs.Common.{Option, Some, None}

-- of each byte of a text: is it a letter, a digit, a byte of a word, printable?
abbrev Classed : Type 0
Classed = ℕ × Bool × Bool × Bool × Bool

abbrev pub classed : List Classed
classed =
    -- the last before the space, and the space
    (31, false, false, false, false) ∷
    (32, false, false, false, true) ∷
    -- `-`, `/`, `0`, `9`, `:`
    (45, false, false, false, true) ∷
    (47, false, false, false, true) ∷
    (48, false, true, true, true) ∷
    (57, false, true, true, true) ∷
    (58, false, false, false, true) ∷
    -- `@`, `A`, `Z`, `[`, `_`, GRAVE, `a`, `z`, `{`
    (64, false, false, false, true) ∷
    (65, true, false, true, true) ∷
    (90, true, false, true, true) ∷
    (91, false, false, false, true) ∷
    (95, false, false, true, true) ∷
    (96, false, false, false, true) ∷
    (97, true, false, true, true) ∷
    (122, true, false, true, true) ∷
    (123, false, false, false, true) ∷
    -- `~` and DEL
    (126, false, false, false, true) ∷
    (127, false, false, false, false) ∷
    []

pub bytes_classed : map {B = Classed} (λ (e : Classed). (e.0, is_letter e.0, is_digit e.0, is_word e.0, printable e.0)) classed ≡ classed
unfolding is_word
bytes_classed = refl

-- how many letters, how many bytes of a word and how many printable bytes a text begins with
abbrev Run : Type 0
Run = List ℕ × ℕ × ℕ × ℕ

abbrev pub runs : List Run
runs =
    (bytes "ab_1-c", 2, 4, 6) ∷
    (bytes "1a", 0, 2, 2) ∷
    (97 ∷ 9 ∷ 97 ∷ [], 1, 1, 1) ∷
    (bytes "abc", 3, 3, 3) ∷
    ([], 0, 0, 0) ∷
    []

pub runs_counted : map {B = Run} (λ (e : Run). (e.0, run_len is_letter e.0, run_len is_word e.0, run_len printable e.0)) runs ≡ runs
unfolding bytes is_word run_len
runs_counted = refl

-- a text is not the same as its start, nor as one with another first or last byte
abbrev Pair : Type 0
Pair = String × String × Bool

abbrev pub texts : List Pair
texts = ("show", "show", true) ∷ ("show", "sho", false) ∷ ("sho", "show", false) ∷ ("show", "Show", false) ∷ ("show", "shop", false) ∷ ("", "", true) ∷ []

pub texts_same : map {B = Pair} (λ (e : Pair). (e.0, e.1, same_bytes (bytes e.0) (bytes e.1))) texts ≡ texts
unfolding bytes same_bytes
texts_same = refl

-- at most 255 is read: no sign, no leading zero, no byte that is no digit, nothing larger
abbrev Read : Type 0
Read = String × Option ℕ

abbrev pub read : List Read
read =
    ("0", Some 0) ∷ ("7", Some 7) ∷ ("255", Some 255) ∷ ("256", None) ∷ ("01", None) ∷ ("00", None) ∷ ("", None) ∷ ("1x", None) ∷ (":", None) ∷ ("-1", None) ∷ []

pub numbers_read : map {B = Read} (λ (e : Read). (e.0, decimal_of 255 (bytes e.0))) read ≡ read
unfolding bytes all_of value_from is_decimal decimal_of
numbers_read = refl

-- a number, how many digits it has, and these
abbrev Written : Type 0
Written = ℕ × ℕ × List ℕ

abbrev pub written : List Written
written =
    (0, 1, bytes "0") ∷ (9, 1, bytes "9") ∷ (10, 2, bytes "10") ∷ (100, 3, bytes "100") ∷ (1023, 4, bytes "1023") ∷ (65535, 5, bytes "65535") ∷ []

pub numbers_written : map {B = Written} (λ (e : Written). (e.0, width e.0, digits e.0)) written ≡ written
unfolding bytes width digits
numbers_written = refl

-- of two bytes the first is the high one, read and made
pub two_bytes : be16 1 2 ≡ 258
two_bytes = refl

pub number_in_bytes : high_low 258 ≡ 1 ∷ 2 ∷ []
number_in_bytes = refl

-- a store changes no other byte, and past the room's end nothing is stored; of a text as much is stored as there is room for
pub stored : (set {A = ℕ} (1 ∷ 2 ∷ 3 ∷ []) 1 9 ≡ 1 ∷ 9 ∷ 3 ∷ []) × (set {A = ℕ} (1 ∷ 2 ∷ 3 ∷ []) 3 9 ≡ 1 ∷ 2 ∷ 3 ∷ [])
stored = (refl, refl)

pub copied : (sets {A = ℕ} (1 ∷ 2 ∷ 3 ∷ []) 1 (8 ∷ 9 ∷ []) ≡ 1 ∷ 8 ∷ 9 ∷ []) × (sets {A = ℕ} (1 ∷ 2 ∷ 3 ∷ []) 2 (8 ∷ 9 ∷ []) ≡ 1 ∷ 2 ∷ 8 ∷ [])
copied = (refl, refl)
