-- Canonical writing: a function of the command alone. It says of each byte whether it is written bare, escaped or quoted; `raws` gives the bytes.
use Rattle.std.specs.Prelude.{ℕ, List, [], ◌∷◌, ◌++◌, map, Bool, true, false, cond, not, ◌&&◌, ◌||◌, eqb, Result, Err}
use Rattle.std.proofs.Math.Option.{Option, none, some}
use Rattle.text.specs.Bytes.{bytes, one_of, is_word}
use Rattle.text.specs.Lists.{all_of, between, is_nil}
use Rattle.text.specs.Room.{fitted, filled, refusal_at}
use Rattle.terms.specs.Signs.{Sign, bare, escaped, bares, raws}
unfoldable pub use Rattle.terms.specs.Quotes.{in_quotes, closing}
pub use Rattle.terms.specs.Quotes.{quotes}
use Rattle.words.specs.Words.{verb_name, option_name, session_name}
use Rattle.forms.specs.Forms.{Value, one, many, Entry, Said, alone, equals, matches, Property}
use Rattle.forms.specs.Targets.{Target, session, path}
use Rattle.reading.specs.Command.{Argument, numeral, text, items, Item, verb, option, argument, target, prop}
use Rattle.reading.specs.Reading.{Part, Reading, refusal, read}
use Rattle.text.specs.declared.Refusal.{Refusal}

-- one or more letters, digits and underscores
unfoldable pub is_plain : List ℕ → Bool
is_plain s = not (is_nil s) && all_of is_word s

-- a value or list item of such bytes plain, any other quoted
unfoldable pub write_text : List ℕ → List Sign
write_text s = cond (is_plain s) (bares s) (quotes s)

unfoldable pub write_texts : List (List ℕ) → List (List Sign)
write_texts [] = []
write_texts (s ∷ ss) = write_text s ∷ write_texts ss

unfoldable pub write_value : Value → List Sign
write_value (one s) = write_text s
write_value (many ss) = bare 40 ∷ (between (bare 44) (write_texts ss) ++ (bare 41 ∷ []))

abbrev pub write_optional : Option Value → List Sign
write_optional none = []
write_optional (some v) = bare 61 ∷ write_value v

unfoldable pub write_entry : Entry → List Sign
write_entry e = bares e.name ++ write_optional e.value

abbrev pub write_said : Said → List Sign
write_said alone = []
write_said (equals v) = bare 61 ∷ write_value v
write_said (matches v) = bare 61 ∷ bare 61 ∷ write_value v

unfoldable pub write_property : Property → List Sign
write_property p = bares p.name ++ write_said p.said

-- a source or destination with GRAVE before space, GRAVE, `"` and a leading `-`
abbrev pub three : List ℕ
three = bytes " `\""

unfoldable pub escapes : Bool → ℕ → Sign
escapes leading b = cond (one_of three b || (leading && eqb b 45)) (escaped b) (bare b)

unfoldable pub write_more : List ℕ → List Sign
write_more [] = []
write_more (b ∷ s) = escapes false b ∷ write_more s

unfoldable pub write_place : List ℕ → List Sign
write_place [] = []
write_place (b ∷ s) = escapes true b ∷ write_more s

abbrev pub write_argument : Argument → List Sign
write_argument (numeral s) = bares s
write_argument (text s) = write_place s
write_argument (items es) = between (bare 44) (map write_entry es)

-- `/` as separator; segments as given
abbrev pub lead : Bool → List ℕ
lead true = 47 ∷ []
lead false = []

abbrev pub write_target : Target → List ℕ
write_target session = session_name
write_target (path rooted ss) = lead rooted ++ between 47 ss

-- long option names in the order given
abbrev pub write_item : Item → List Sign
write_item (verb n) = bares (verb_name n)
write_item (option n) = bare 45 ∷ bares (option_name n)
write_item (argument n a) = write_argument a
write_item (target t) = bares (write_target t)
write_item (prop p) = write_property p

-- Terms parted by one space; blank writes nothing.
unfoldable pub writing : List Item → List ℕ
writing c = raws (between (bare 32) (map write_item c))

-- ---- what the writing of a line into lent room answers, and what the room then holds: the line's refusal, or 19 exactly when it doesn't fit

abbrev pub items_of : List Part → List Item
items_of ps = map (λ (p : Part). p.item) ps

abbrev pub writing_answer : ℕ → Reading → Result ℕ Refusal
writing_answer room (refusal n p) = Err (refusal_at n p)
writing_answer room (read ps) = fitted room (writing (items_of ps))

abbrev pub writing_room : List ℕ → Reading → List ℕ
writing_room room (refusal n p) = room
writing_room room (read ps) = filled room (writing (items_of ps))
