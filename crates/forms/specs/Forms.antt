-- The command: the forms of names, numbers, arguments, values and properties, on a text's bytes where the paper speaks of raw bytes and on its signs
-- where it speaks of bare ones; and the bytes that their parts stand for.
use Rattle.std.specs.Prelude.{ℕ, List, [], ◌∷◌, map, Bool, true, false, cond, not, ◌&&◌, ◌||◌, length, drop, leb}
use Rattle.std.proofs.Math.Option.{Option, none, some}
use Rattle.text.specs.Bytes.{bytes, one_of, is_letter, is_word}
use Rattle.text.specs.Lists.{all_of, any_of, up_to, past, onto, parts, is_nil, given, every}
use Rattle.text.specs.Decimal.{is_decimal}
use Rattle.terms.specs.Signs.{Sign, bare, escaped, quote, quoted, quoted_escaped, raws, stands, is_bare}
pub use Rattle.terms.specs.Marks.{is_mark, first_bare as starts}
use Rattle.words.specs.Words.{names, all_name}

-- A name is a letter, then letters, digits or underscores, 1 to 64 bytes.
unfoldable pub is_name : List ℕ → Bool
is_name [] = false
is_name (b ∷ s) = is_letter b && (all_of is_word s && leb (length s) 63)

-- keep: decimal 0 to 4,294,967,295, no leading zero but `0` itself
unfoldable pub is_keep : List ℕ → Bool
is_keep s = is_decimal 4294967295 s

-- level: the same, or `all`, its letters in either case
unfoldable pub is_level : List ℕ → Bool
is_level s = is_keep s || names all_name s

-- source, destination: any term without an unescaped `"`
unfoldable pub is_place : List Sign → Bool
is_place t = not (any_of is_mark t)

-- ---- values

-- plain: one or more bytes with no bare `"` `,` `(` `)` `=`
unfoldable pub is_plain_sign : Sign → Bool
is_plain_sign (bare b) = not (one_of (bytes "\",()=") b)
is_plain_sign (escaped b) = true
is_plain_sign quote = false
is_plain_sign (quoted b) = false
is_plain_sign (quoted_escaped b) = false

-- a quoted string, possibly empty, after its opening quote: after a closing quote only the value's end may follow
unfoldable pub ends_quote : List Sign → Bool
ends_quote [] = false
ends_quote (bare b ∷ t) = false
ends_quote (escaped b ∷ t) = false
ends_quote (quote ∷ t) = is_nil t
ends_quote (quoted b ∷ t) = ends_quote t
ends_quote (quoted_escaped b ∷ t) = ends_quote t

-- a quoted string, or plain
unfoldable pub is_text : List Sign → Bool
is_text [] = false
is_text (bare b ∷ t) = all_of is_plain_sign (bare b ∷ t)
is_text (escaped b ∷ t) = all_of is_plain_sign (escaped b ∷ t)
is_text (quote ∷ t) = ends_quote t
is_text (quoted b ∷ t) = false
is_text (quoted_escaped b ∷ t) = false

-- what a value stands for: one text, or a list of them; `a` and `(a)` differ
pub data Value : Type 0 where
  one : List ℕ → Value
  many : List (List ℕ) → Value

-- the items of a list, in what stands after its opening parenthesis: parted by bare commas, up to the closing parenthesis
unfoldable pub items_in : List Sign → List (List Sign)
items_in t = parts (is_bare 44) (up_to (is_bare 41) t)

-- a list of 1 to 16 quoted or plain items in parentheses, lists not nested: what stands after the opening parenthesis
unfoldable pub is_list : List Sign → Bool
is_list t = any_of (is_bare 41) t && (is_nil (past (is_bare 41) t) && (all_of is_text (items_in t) && leb (length (items_in t)) 16))

unfoldable pub list_of : List Sign → Option Value
list_of t = cond (is_list t) (some (many (map stands (items_in t)))) none

unfoldable pub text_of : List Sign → Option Value
text_of t = cond (is_text t) (some (one (stands t))) none

-- a list where it begins with a bare `(`, otherwise quoted or plain
unfoldable pub value_of : List Sign → Option Value
value_of t = cond (starts 40 t) (list_of (drop 1 t)) (text_of t)

-- ---- the items of display and output

-- each a name, or a name, `=` and a value
pub record Entry : Type 0 where
  pub name : List ℕ
  pub value : Option Value

abbrev pub entry : List ℕ → Option Value → Entry
entry n v = record { name = n; value = v }

-- has it a bare `=`?
abbrev pub has_eq : List Sign → Bool
has_eq t = any_of (is_bare 61) t

unfoldable pub entry_of : List Sign → Option Entry
entry_of t =
    let n = raws (up_to (is_bare 61) t) in
    let with_value = cond (is_name n) (given (value_of (past (is_bare 61) t)) (λ v. some (entry n (some v)))) none in
    cond (has_eq t) with_value (cond (is_name (raws t)) (some (entry (raws t) none)) none)

-- parted by bare commas that stand in no list: l says whether a parenthesis is open
unfoldable pub entry_parts : Bool → List Sign → List (List Sign)
entry_parts l [] = [] ∷ []
entry_parts l (x ∷ xs) =
    let rest = entry_parts (cond (is_bare 40 x) true (cond (is_bare 41 x) false l)) xs in
    cond (not l && is_bare 44 x) ([] ∷ rest) (onto x rest)

-- display, output: one or more items
unfoldable pub entries_of : List Sign → Option (List Entry)
entries_of t = every (map entry_of (entry_parts false t))

-- ---- properties

-- what follows a property's name: nothing, `=` and a value, or `==` and a value
pub data Said : Type 0 where
  alone : Said
  equals : Value → Said
  matches : Value → Said

pub record Property : Type 0 where
  pub name : List ℕ
  pub said : Said

abbrev pub property : List ℕ → Said → Property
property n s = record { name = n; said = s }

unfoldable pub said_of : List Sign → Option Said
said_of t = cond (starts 61 t) (given (value_of (drop 1 t)) (λ v. some (matches v))) (given (value_of t) (λ v. some (equals v)))

-- A name; or name `=` value; or name `==` value.
unfoldable pub property_of : List Sign → Option Property
property_of t =
    let n = raws (up_to (is_bare 61) t) in
    let with_value = cond (is_name n) (given (said_of (past (is_bare 61) t)) (λ s. some (property n s))) none in
    cond (has_eq t) with_value (cond (is_name (raws t)) (some (property (raws t) alone)) none)

-- With help every term after the options is a topic, read as a bare name by the same rule.
unfoldable pub topic_of : List Sign → Option Property
topic_of t = cond (is_name (raws t)) (some (property (raws t) alone)) none
