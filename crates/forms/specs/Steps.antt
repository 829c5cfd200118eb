-- What the code's own steps answer, one test at a time. proofs/ has it that together they are the forms of specs/Forms and specs/Targets.
use Rattle.std.specs.Prelude.{ℕ, ◌+◌, List, Bool, true, false, cond, ◌&&◌, length, get_or, take, eqb, leb, ltb, Option, Some, None}
use Rattle.text.specs.Bytes.{bytes, same_bytes, is_letter, is_word}
use Rattle.text.specs.Lists.{parts, run_len}
use Rattle.text.specs.Decimal.{value_from}
use Rattle.terms.specs.declared.Mode.{Mode}
use Rattle.terms.specs.declared.Mode.TheVariants.{Out, OutGrave, In, InGrave}
use Rattle.terms.specs.Signs.{signs, gives}
use Rattle.forms.specs.declared.At.{At}
use Rattle.forms.specs.declared.At.TheVariants.{Start, Dead}
use Rattle.forms.specs.declared.Shape.{Shape}
use Rattle.forms.specs.declared.Piece.{Piece}
use Rattle.forms.specs.declared.Piece.TheVariants as piece
use Rattle.forms.specs.declared.Where.{Where}
use Rattle.forms.specs.declared.Where.TheVariants as where'
use Rattle.forms.specs.Forms.{entry_of}
use Rattle.forms.specs.Targets.{is_separator, is_number, are_segments}
use Rattle.forms.specs.Automata.{whole, text_over}
use Rattle.forms.specs.Answers.{is_some, shape}

-- ---- segments

-- a tag's number
unfoldable pub number_of : List ℕ → Option ℕ
number_of d = cond (is_number d) (Some (value_from 0 d)) None

-- what follows a tag of k bytes in a segment of n
unfoldable pub after_tag : ℕ → ℕ → List ℕ → Option Piece
after_tag n k d = cond (is_number d) (Some (piece.Child n k (value_from 0 d))) (cond (same_bytes d (bytes "*")) (Some (piece.Children n k)) None)

-- may it stand before another segment? may it stand last?
abbrev pub is_inner : Option Piece → Bool
is_inner (Some (piece.Here n)) = true
is_inner (Some (piece.Above n)) = true
is_inner (Some (piece.Child n k v)) = true
is_inner (Some (piece.Children n k)) = false
is_inner None = false

abbrev pub is_last : Option Piece → Bool
is_last (Some (piece.Here n)) = true
is_last (Some (piece.Above n)) = true
is_last (Some (piece.Child n k v)) = true
is_last (Some (piece.Children n k)) = true
is_last None = false

-- the path of k segments and those of a text
unfoldable pub path_from : Bool → ℕ → List ℕ → Option Where
path_from rooted k s =
    let p = parts is_separator s in
    cond (are_segments p && leb (k + length p) 16) (Some (where'.Path rooted (k + length p))) None

-- ---- names

-- how many bytes the name has that a text begins with, the whole run of letters, digits and underscores: 0 where that run is no name
unfoldable pub name_len : List ℕ → ℕ
name_len t =
    let k = run_len is_word t in
    cond (is_letter (get_or t 0 0) && leb k 64) k 0

-- does `=` stand at a place of a text?
abbrev pub equal_at : List ℕ → ℕ → Bool
equal_at t v = ltb v (length t) && eqb (get_or t v 0) 61

-- a property of this name and operator, where its value is one
abbrev pub shape_if : Bool → ℕ → ℕ → Option Shape
shape_if good name operator = cond good (Some (shape name operator)) None

-- is the text of one item of display or output of its form?
unfoldable pub is_entry_in : List ℕ → ℕ → Bool
is_entry_in s n = is_some (entry_of (signs Out (take n s)))

-- ---- a scan's byte

-- is it this byte, bare? Of a byte that GRAVE can escape: outside quotes and after no GRAVE.
abbrev pub bare_at : ℕ → Mode → ℕ → Bool
bare_at k Out b = eqb b k
bare_at k OutGrave b = false
bare_at k In b = false
bare_at k InGrave b = false

-- ---- lists

-- before the next item, where this one is whole
abbrev pub next_item : At → At
next_item q = cond (whole q) Start Dead

unfoldable pub list_step : At → Mode → ℕ → At
list_step q m b = cond (bare_at 44 m b) (next_item q) (text_over q (gives m b))

-- how many items came before
unfoldable pub items_after : ℕ → Mode → ℕ → ℕ
items_after k m b = cond (bare_at 44 m b) (k + 1) k
