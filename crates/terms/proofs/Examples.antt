-- The terms of some lines, each with its start, its bytes and the bytes that it stands for; and the refusals of some lines: one statement about one list each, computed.
-- Assumes nothing.
use Prim.Native.Nat.{ℕ, zero, suc}
use Prim.Native.String.{String}
use mathlib.Core.Path.{◌≡◌, refl}
use mathlib.Core.List.{List, [], ◌∷◌, map}
use mathlib.Core.Bool.{Bool, true, false}
use lib.ListN.{replicate}
use Rattle.text.specs.Bytes.{bytes, one_of}
use Rattle.text.specs.Lists.{any_of, up_to, run_len, walk}
use Rattle.terms.specs.declared.Mode.TheVariants.{Out}
use Rattle.terms.specs.Signs.{Sign, twelve, two, after, gives, signs, raws, stands, is_bare, has_bare}
use Rattle.terms.specs.Marks.{has_mark, starts_bare}
use Rattle.terms.specs.Terms.{Term, terms_from, terms_of}
use Rattle.terms.specs.Rows.{long_flaw, odd_flaw, end_mode, opened_at, open_flaw, many_from, many_flaw, lexical_of}
use Rattle.std.proofs.Common.{Result, Ok, Err}
use Rattle.text.specs.Room.{refusal_at}
use Rattle.text.specs.declared.Refusal.{Refusal}

-- a term: where it starts, its bytes, and the bytes that it stands for
abbrev Shown : Type 0
Shown = ℕ × List ℕ × List ℕ

abbrev shown : Term → Shown
shown t = (t.start, raws t.text, stands t.text)

abbrev term : ℕ → String → String → Shown
term at raw means = (at, bytes raw, bytes means)

abbrev Example : Type 0
Example = String × List Shown

abbrev pub examples : List Example
examples =
    -- an escaped space parts nothing
    ("set Name=a` b", term 0 "set" "set" ∷ term 4 "Name=a` b" "Name=a b" ∷ []) ∷
    -- a quote in the middle of a term
    ("a\"b c\"d", term 0 "a\"b c\"d" "ab cd" ∷ []) ∷
    -- spaces only
    ("   ", []) ∷
    -- nothing
    ("", []) ∷
    -- GRAVE GRAVE at the end
    ("show ``", term 0 "show" "show" ∷ term 5 "``" "`" ∷ []) ∷
    -- GRAVE before a letter is itself
    ("a`b", term 0 "a`b" "a`b" ∷ []) ∷
    -- quotes with an escaped quote inside
    ("x \"a`\"b\" y", term 0 "x" "x" ∷ term 2 "\"a`\"b\"" "a\"b" ∷ term 9 "y" "y" ∷ []) ∷
    -- spaces at either end count for nothing
    ("  cd   /system1 ", term 2 "cd" "cd" ∷ term 7 "/system1" "/system1" ∷ []) ∷
    -- an empty quote is a term
    ("\"\"", term 0 "\"\"" "" ∷ []) ∷
    -- two escaped spaces
    ("a` ` b", term 0 "a` ` b" "a  b" ∷ []) ∷
    -- in quotes a GRAVE escapes no space
    ("\"a`b` c\" d", term 0 "\"a`b` c\"" "a`b` c" ∷ term 9 "d" "d" ∷ []) ∷
    -- an open quote reaches the end
    ("reset \"os1 x", term 0 "reset" "reset" ∷ term 6 "\"os1 x" "os1 x" ∷ []) ∷
    -- a lone last GRAVE is itself
    ("a`", term 0 "a`" "a`" ∷ []) ∷
    -- pairs run from the left
    ("```\"x y", term 0 "```\"x" "`\"x" ∷ term 6 "y" "y" ∷ []) ∷
    -- each of the twelve
    ("` ```\"`,`=`-`/`\\`.`(`)`*", term 0 "` ```\"`,`=`-`/`\\`.`(`)`*" " `\",=-/\\.()*" ∷ []) ∷
    []

pub lines_terms : map {B = Example} (λ (e : Example). (e.0, map shown (terms_of (bytes e.0)))) examples ≡ examples
unfolding bytes one_of up_to twelve two after gives signs raws stands terms_from terms_of
lines_terms = refl

-- a line's bytes, and what rows 1 to 5 say of it
abbrev Judged : Type 0
Judged = List ℕ × Result Unit Refusal

-- k terms of one byte, each with a space after it
unfoldable pub pairs : ℕ → List ℕ
pairs zero = []
pairs (suc k) = 97 ∷ 32 ∷ pairs k

abbrev pub judged : List Judged
judged =
    -- 1,024 bytes, and one more
    (replicate 1024 97, Ok tt) ∷
    (replicate 1025 97, Err (refusal_at 1 1024)) ∷
    -- a long line is refused as 1, whatever it holds
    (replicate 1025 9, Err (refusal_at 1 1024)) ∷
    -- a byte outside 20h to 7Eh, at the first such
    (bytes "ab\tc\td", Err (refusal_at 2 2)) ∷
    (127 ∷ [], Err (refusal_at 2 0)) ∷
    -- before a quote that is open
    (bytes "\"\t", Err (refusal_at 2 1)) ∷
    -- a lone last GRAVE; one that a GRAVE escapes; three of them
    (bytes "a`", Err (refusal_at 3 1)) ∷
    (bytes "a``", Ok tt) ∷
    (bytes "a```", Err (refusal_at 3 3)) ∷
    -- in a quote 3 goes before 4
    (bytes "x \"a`", Err (refusal_at 3 4)) ∷
    -- the quote that is left open, not the first
    (bytes "\"a\" \"b", Err (refusal_at 4 4)) ∷
    -- a quote that an escaped quote does not close
    (bytes "reset \"os1`\"", Err (refusal_at 4 6)) ∷
    (bytes "reset \"os1", Err (refusal_at 4 6)) ∷
    -- 64 terms, and one more
    (pairs 64, Ok tt) ∷
    (pairs 65, Err (refusal_at 5 128)) ∷
    []

pub lines_judged : map {B = Judged} (λ (e : Judged). (e.0, lexical_of e.0)) judged ≡ judged
unfolding bytes one_of up_to run_len walk twelve two after gives signs terms_from terms_of long_flaw odd_flaw end_mode opened_at open_flaw many_from many_flaw lexical_of pairs
lines_judged = refl

-- a text: has it a bare `=`, has it a quote mark, is its first sign a bare `-`, and a bare GRAVE?
abbrev Tested : Type 0
Tested = String × Bool × Bool × Bool × Bool

abbrev pub tested : List Tested
tested =
    ("a=b", true, false, false, false) ∷
    ("a`=b", false, false, false, false) ∷
    ("\"a=b\"", false, true, false, false) ∷
    ("a`\"b", false, false, false, false) ∷
    ("-f", false, false, true, false) ∷
    ("`-f", false, false, false, false) ∷
    ("\"-f\"", false, true, false, false) ∷
    ("`x", false, false, false, true) ∷
    ("`", false, false, false, true) ∷
    ("``", false, false, false, false) ∷
    ("-", false, false, true, false) ∷
    ("", false, false, false, false) ∷
    []

pub texts_tested : map {B = Tested} (λ (e : Tested). (e.0, has_bare 61 (bytes e.0), has_mark (bytes e.0), starts_bare 45 (bytes e.0), starts_bare 96 (bytes e.0))) tested ≡ tested
unfolding bytes one_of any_of twelve two after gives signs has_bare has_mark starts_bare
texts_tested = refl

-- a text: has it a bare `"`, and is its first sign one? A quote mark is one; an escaped `"`, in quotes or not, is none
abbrev Marked : Type 0
Marked = String × Bool × Bool

abbrev pub marked : List Marked
marked =
    ("\"a\"", true, true) ∷
    ("a\"", true, false) ∷
    ("a`\"b", false, false) ∷
    ("`\"", false, false) ∷
    ("a", false, false) ∷
    []

pub texts_marked : map {B = Marked} (λ (e : Marked). (e.0, has_bare 34 (bytes e.0), starts_bare 34 (bytes e.0))) marked ≡ marked
unfolding bytes one_of any_of twelve two after gives signs has_bare starts_bare
texts_marked = refl

-- in a quote, an escaped `"` is not bare: all that is bare in `"`"` is its first byte
pub escaped_in_quote : map (λ (x : Sign). is_bare 34 x) (signs Out (bytes "\"`\"")) ≡ true ∷ false ∷ []
unfolding bytes one_of two after gives signs
escaped_in_quote = refl
