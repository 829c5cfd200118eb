-- Worked examples, by computation: for each kind of answer one statement about one list. Assumes nothing.
use Prim.Native.Nat.{ℕ}
use Prim.Native.String.{String}
use mathlib.Core.Path.{◌≡◌, refl}
use mathlib.Core.List.{List, [], ◌∷◌, ◌++◌, map}
use mathlib.Core.Bool.{Bool, true, false}
use lib.ListN.{length, replicate}
use Rattle.text.specs.Bytes.{bytes, one_of, same_bytes, is_word}
use Rattle.text.specs.Lists.{all_of, any_of, up_to, past, run_len, parts, every}
use Rattle.text.specs.Decimal.{value_from, is_decimal}
use Rattle.terms.specs.declared.Mode.TheVariants.{Out}
use Rattle.terms.specs.Signs.{twelve, two, after, gives, signs, raws, stands}
use Rattle.words.specs.Words.{lower, lowered, names, all_name, session_name}
use Rattle.forms.specs.declared.Shape.{Shape}
use Rattle.forms.specs.declared.Where.{Where}
use Rattle.forms.specs.declared.Where.TheVariants as where'
use Rattle.forms.specs.declared.Piece.{Piece}
use Rattle.forms.specs.declared.Piece.TheVariants as piece
use Rattle.forms.specs.Forms.{is_name, is_keep, is_level, is_place, is_plain_sign, ends_quote, is_text, items_in, is_list, list_of, text_of, value_of, entry_of, entry_parts, entries_of, said_of, property_of, topic_of}
use Rattle.forms.specs.Targets.{tag_len, is_numbered, is_starred, is_segment, are_segments, segment_of, segments_of, path_of, target_of}
use Rattle.forms.specs.Automata.{entry_len}
use Rattle.forms.specs.Answers.{property_in, topic_in, is_value_in, are_entries_in, where_in, segment_text, segment_at, shape}
use Rattle.std.proofs.Common.{Option, Some, None}

-- a text; is it a name, a keep, a level, a place, a value, the items of display or output?
abbrev Judged : Type 0
Judged = String × Bool × Bool × Bool × Bool × Bool × Bool

abbrev pub judges : String → List ℕ → Judged
judges s t = (s, is_name t, is_keep t, is_level t, is_place (signs Out t), is_value_in t (length t), are_entries_in t (length t))

abbrev pub judged : List Judged
judged =
    ("", false, false, false, true, false, false)
    ∷ ("a", true, false, false, true, true, true)
    ∷ ("1a", false, false, false, true, true, false)
    ∷ ("_a", false, false, false, true, true, false)
    ∷ ("0", false, true, true, true, true, false)
    ∷ ("007", false, false, false, true, true, false)
    ∷ ("4294967295", false, true, true, true, true, false)
    ∷ ("4294967296", false, false, false, true, true, false)
    ∷ ("all", true, false, true, true, true, true)
    ∷ ("al", true, false, false, true, true, true)
    ∷ ("ALL", true, false, true, true, true, true)
    ∷ ("AL", true, false, false, true, true, true)
    ∷ ("\"ALL\"", false, false, false, false, true, false)
    ∷ ("a`\"b", false, false, false, true, true, false)
    ∷ ("\"a\"b", false, false, false, false, false, false)
    ∷ ("(a)", false, false, false, true, true, false)
    ∷ ("()", false, false, false, true, false, false)
    ∷ ("(a)b", false, false, false, true, false, false)
    ∷ ("((a))", false, false, false, true, false, false)
    ∷ ("a=b", false, false, false, true, false, true)
    ∷ ("a==b", false, false, false, true, false, false)
    ∷ ("a=b=c", false, false, false, true, false, false)
    ∷ ("a,b", false, false, false, true, false, true)
    ∷ ("a=(b,c),d", false, false, false, true, false, true)
    ∷ ("a,,b", false, false, false, true, false, false)
    ∷ ("a,", false, false, false, true, false, false)
    ∷ []

pub texts_judged : map (λ (e : Judged). judges e.0 (bytes e.0)) judged ≡ judged
unfolding bytes one_of same_bytes is_word all_of any_of up_to past run_len parts every value_from is_decimal twelve two after gives signs raws stands names lowered lower all_name is_name is_keep is_level is_place is_plain_sign ends_quote is_text items_in is_list list_of text_of value_of entry_of entry_parts entries_of is_value_in are_entries_in
texts_judged = refl

-- a text; the property that it is, the help topic that it is, how many bytes its first item of display or output has
abbrev Shaped : Type 0
Shaped = String × Option Shape × Option Shape × ℕ

abbrev pub shapes : String → List ℕ → Shaped
shapes s t = (s, property_in t (length t), topic_in t, entry_len Out false t)

abbrev pub shaped : List Shaped
shaped =
    ("", None, None, 0)
    ∷ ("a", Some (shape 1 0), Some (shape 1 0), 1)
    ∷ ("a=b", Some (shape 1 1), None, 3)
    ∷ ("a==b", Some (shape 1 2), None, 4)
    ∷ ("a=b=c", None, None, 5)
    ∷ ("a=", None, None, 2)
    ∷ ("a,b", None, None, 1)
    ∷ ("a=(b,c),d", None, None, 7)
    ∷ ("a=\"b,c\",d", None, None, 7)
    ∷ ("a`,b,c", None, None, 4)
    ∷ []

pub texts_shaped : map (λ (e : Shaped). shapes e.0 (bytes e.0)) shaped ≡ shaped
unfolding bytes one_of is_word all_of any_of up_to past parts twelve two after gives signs raws stands is_name is_plain_sign ends_quote is_text items_in is_list list_of text_of value_of said_of property_of topic_of entry_len property_in topic_in
texts_shaped = refl

-- a text; the target that it is, and the segment that it begins with
abbrev Placed : Type 0
Placed = String × Option Where × Option Piece

abbrev pub places : String → List ℕ → Placed
places s t = (s, where_in t, segment_at t 0)

abbrev pub placed : List Placed
placed =
    ("", None, None)
    ∷ ("SESSION", Some where'.Session, None)
    ∷ ("session", None, None)
    ∷ ("/", Some (where'.Path true 0), None)
    ∷ ("/system1\\cpu4", Some (where'.Path true 2), None)
    ∷ ("/system1/", None, None)
    ∷ ("//a1", None, None)
    ∷ (".", Some (where'.Path false 1), Some (piece.Here 1))
    ∷ ("../..", Some (where'.Path false 2), Some (piece.Above 2))
    ∷ ("cpu4/a1", Some (where'.Path false 2), Some (piece.Child 4 3 4))
    ∷ ("cpu*", Some (where'.Path false 1), Some (piece.Children 4 3))
    ∷ ("cpu*/a1", None, Some (piece.Children 4 3))
    ∷ ("*", None, None)
    ∷ ("cpu", None, None)
    ∷ ("cpu0", None, None)
    ∷ ("cpu04", None, None)
    ∷ ("cpu65535", Some (where'.Path false 1), Some (piece.Child 8 3 65535))
    ∷ ("cpu65536", None, None)
    ∷ ("abcdefghijklmnop1", Some (where'.Path false 1), Some (piece.Child 17 16 1))
    ∷ ("abcdefghijklmnopq1", None, None)
    ∷ []

pub texts_placed : map (λ (e : Placed). places e.0 (bytes e.0)) placed ≡ placed
unfolding bytes same_bytes all_of up_to run_len parts value_from is_decimal session_name tag_len is_numbered is_starred is_segment are_segments segment_of segments_of path_of target_of where_in segment_text segment_at
texts_placed = refl

-- a name of 64 bytes is one, and of 65 none, alone and before `=`; a list of 16 items is a value, and of 17 none; a path of 16 segments is a target, and of 17 none
pub limits :
    (is_name (replicate 64 97) ≡ true) × (is_name (replicate 65 97) ≡ false)
    × (property_in (replicate 64 97 ++ bytes "=b") 66 ≡ Some (shape 64 1)) × (property_in (replicate 65 97 ++ bytes "=b") 67 ≡ None)
    × (is_value_in (bytes "(a,a,a,a,a,a,a,a,a,a,a,a,a,a,a,a)") 33 ≡ true) × (is_value_in (bytes "(a,a,a,a,a,a,a,a,a,a,a,a,a,a,a,a,a)") 35 ≡ false)
    × (where_in (bytes "/a1/a1/a1/a1/a1/a1/a1/a1/a1/a1/a1/a1/a1/a1/a1/a1") ≡ Some (where'.Path true 16))
    × (where_in (bytes "/a1/a1/a1/a1/a1/a1/a1/a1/a1/a1/a1/a1/a1/a1/a1/a1/a1") ≡ None)
unfolding bytes one_of same_bytes is_word all_of any_of up_to past run_len parts every value_from is_decimal twelve two after gives signs raws stands is_name is_plain_sign ends_quote is_text items_in is_list list_of text_of value_of said_of property_of is_value_in property_in session_name tag_len is_numbered is_starred is_segment are_segments segment_of segments_of path_of target_of where_in
limits = (refl, refl, refl, refl, refl, refl, refl, refl)
