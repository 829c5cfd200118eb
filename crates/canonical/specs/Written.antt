-- What the code writes of a term, by the term's own bytes. proofs/TermWriting has it that this is the canonical writing of the part that the term is.
use Rattle.std.specs.Prelude.{ℕ, suc, ◌+◌, List, [], ◌∷◌, ◌++◌, map, Bool, true, false, cond, ◌||◌, length, take, eqb, Result, Ok, Err}
use Rattle.text.specs.Bytes.{bytes, one_of, same_bytes}
use Rattle.text.specs.Lists.{each, between, is_nil}
use Rattle.terms.specs.declared.Mode.{Mode}
use Rattle.terms.specs.declared.Mode.TheVariants.{Out, OutGrave, In, InGrave}
use Rattle.terms.specs.Signs.{Sign, bare, is_bare, two, after, signs, raws, stands, meant}
use Rattle.words.specs.declared.Kind.{Kind}
use Rattle.words.specs.declared.Kind.TheVariants.{Mere, Keep, Level, Place, Entries}
use Rattle.words.specs.Words.{names, verb_name, option_name, kind_of, all_name}
use Rattle.reading.specs.declared.Shown.{Shown}
use Rattle.reading.specs.declared.Shown.TheVariants as shown
use Rattle.reading.specs.Command.{Item}
use Rattle.reading.specs.Reading.{Reading, refusal, read}
use Rattle.canonical.specs.Canonical.{three, write_text, write_item, items_of}
use Rattle.text.specs.declared.Refusal.{Refusal}
use Rattle.text.specs.Room.{refusal_at}

-- ---- bytes with GRAVEs

-- GRAVE comes before GRAVE and `"`, and outside quotes before a space too
abbrev pub graves : Bool → ℕ → Bool
graves true b = one_of two b
graves false b = one_of three b

unfoldable pub graved : Bool → ℕ → List ℕ
graved q b = cond (graves q b) (96 ∷ b ∷ []) (b ∷ [])

unfoldable pub graved_all : Bool → List ℕ → List ℕ
graved_all q [] = []
graved_all q (b ∷ s) = graved q b ++ graved_all q s

-- ---- the texts of a property, or of the items of display and output, with what parts them

-- a bare `(` `)` `,` or `=`
unfoldable pub parting : Sign → Bool
parting x = is_bare 40 x || (is_bare 41 x || (is_bare 44 x || is_bare 61 x))

-- a text as a value or list item is written; nothing where there is none
unfoldable pub text_signs : List Sign → List Sign
text_signs [] = []
text_signs (x ∷ t) = write_text (stands (x ∷ t))

-- each text written so, and what parts them as given; held is the text so far
unfoldable pub rewrite_from : List Sign → List Sign → List Sign
rewrite_from held [] = text_signs held
rewrite_from held (x ∷ t) =
    let more = rewrite_from (held ++ (x ∷ [])) t in
    let parted = text_signs held ++ (x ∷ rewrite_from [] t) in
    cond (parting x) parted more

unfoldable pub rewritten : List Sign → List Sign
rewritten t = rewrite_from [] t

-- the same by bytes: a text, and a whole term
unfoldable pub text_written : List ℕ → List ℕ
text_written s = cond (is_nil s) [] (raws (write_text (meant s)))

unfoldable pub texts_in : List ℕ → List ℕ
texts_in s = raws (rewritten (signs Out s))

-- a byte that parts texts, and how many bytes stand before the next one
abbrev pub is_parting : Mode → ℕ → Bool
is_parting Out b = one_of (bytes "(),=") b
is_parting OutGrave b = false
is_parting In b = false
is_parting InGrave b = false

unfoldable pub text_len : Mode → List ℕ → ℕ
text_len m [] = 0
text_len m (b ∷ s) = let more = suc (text_len (after m b) s) in cond (is_parting m b) 0 more

-- ---- a source or destination; a target

-- it begins with an escaped `-`
unfoldable pub leads_dash : List ℕ → Bool
leads_dash s = same_bytes (take 2 s) (bytes "`-")

abbrev pub dash_grave : Bool → List ℕ
dash_grave x = cond x (96 ∷ []) []

unfoldable pub place_in : List ℕ → List ℕ
place_in s = dash_grave (leads_dash s) ++ graved_all false (meant s)

unfoldable pub slash : ℕ → ℕ
slash b = cond (eqb b 92) 47 b

unfoldable pub slashed : List ℕ → List ℕ
slashed s = map slash s

-- ---- a term

-- a level: `all` in lower case, a number as it is
unfoldable pub level_in : List ℕ → List ℕ
level_in s = cond (names all_name s) all_name s

abbrev pub argument_in : Kind → List ℕ → List ℕ
argument_in Mere s = s
argument_in Keep s = s
argument_in Level s = level_in s
argument_in Place s = place_in s
argument_in Entries s = texts_in s

abbrev pub written : Shown → List ℕ → List ℕ
written (shown.Verb n) s = verb_name n
written (shown.Option n) s = 45 ∷ option_name n
written (shown.Argument n) s = argument_in (kind_of n) s
written shown.Target s = slashed s
written (shown.Property n o) s = texts_in s

-- ---- a line: a space before each term but the first

abbrev pub gap : Bool → List ℕ
gap first = cond first [] (32 ∷ [])

-- what is written of the parts that are left
unfoldable pub rest_of : Bool → List Item → List ℕ
rest_of first is = raws (cond first (between (bare 32) (map write_item is)) (each (bare 32) (map write_item is)))

abbrev pub written_in : Bool → Reading → List ℕ
written_in first (refusal n p) = []
written_in first (read ps) = rest_of first (items_of ps)

-- how many bytes a reading's writing has, w bytes before it, or its refusal
abbrev pub written_from : ℕ → Bool → Reading → Result ℕ Refusal
written_from w first (refusal n p) = Err (refusal_at n p)
written_from w first (read ps) = Ok (w + length (rest_of first (items_of ps)))
