-- The text of one line for a person: the line as shown, then a line for each of its parts, or a mark under the place of its refusal and what to look at there.
use Rattle.std.specs.Prelude.{ℕ, ◌+◌, ◌/◌, ◌%◌, List, [], ◌∷◌, ◌++◌, cond, length, take, drop, replicate, eqb, ltb}
use Rattle.text.specs.Bytes.{bytes, printable}
use Rattle.text.specs.Decimal.{digits}
use Rattle.words.specs.declared.Kind.{Kind}
use Rattle.words.specs.declared.Kind.TheVariants.{Mere, Keep, Level, Place, Entries}
use Rattle.words.specs.Words.{verb_name, option_name, kind_of}
use Rattle.reading.specs.declared.Shown.{Shown}
use Rattle.reading.specs.declared.Shown.TheVariants as item
use Rattle.reading.specs.Command.{shown_of}
use Rattle.reading.specs.Reading.{Part, Reading, refusal, read, reading_of}
use Rattle.explaining.specs.Words.{words_of}

-- ---- bytes as shown

-- a hexadecimal digit, A to F in capitals
abbrev pub hex_digit : ℕ → ℕ
hex_digit n = cond (ltb n 10) (48 + n) (55 + n)

-- a byte from 20h to 7Eh as it is, any other as `\xNN`
unfoldable pub visible_byte : ℕ → List ℕ
visible_byte b = cond (printable b) (b ∷ []) (92 ∷ 120 ∷ hex_digit (b / 16) ∷ hex_digit (b % 16) ∷ [])

unfoldable pub visible : List ℕ → List ℕ
visible [] = []
visible (b ∷ s) = visible_byte b ++ visible s

-- the end of a line of text
abbrev pub newline : List ℕ
newline = 10 ∷ []

-- ---- the parts, two spaces before each

-- an option by its long name
abbrev pub option_label : ℕ → List ℕ
option_label n = bytes "  option " ++ option_name n

-- one that takes no argument; one that takes an argument is told with it
abbrev pub option_text : ℕ → Kind → List ℕ
option_text n Mere = option_label n ++ newline
option_text n Keep = []
option_text n Level = []
option_text n Place = []
option_text n Entries = []

abbrev pub argument_text : ℕ → List ℕ → List ℕ
argument_text n t = option_label n ++ (bytes ": " ++ (visible t ++ newline))

abbrev pub verb_text : ℕ → List ℕ
verb_text n = bytes "  verb " ++ (verb_name n ++ newline)

abbrev pub target_text : List ℕ → List ℕ
target_text t = bytes "  target " ++ (visible t ++ newline)

-- an operator by its number, 1 or 2
abbrev pub operator_text : ℕ → List ℕ
operator_text o = cond (eqb o 1) (bytes " = ") (bytes " == ")

-- with the value that follows it; 0 is no operator, and then there is no value
abbrev pub value_text : ℕ → List ℕ → List ℕ
value_text o v = cond (eqb o 0) [] (operator_text o ++ visible v)

abbrev pub property_text : List ℕ → ℕ → List ℕ → List ℕ
property_text name o v = bytes "  property " ++ (visible name ++ (value_text o v ++ newline))

-- a part by its numbers and the bytes of its term; a property's name has m bytes, its operator as many as its number says, and its value is the rest
abbrev pub part_text : Shown → List ℕ → List ℕ
part_text (item.Verb n) t = verb_text n
part_text (item.Option n) t = option_text n (kind_of n)
part_text (item.Argument n) t = argument_text n t
part_text item.Target t = target_text t
part_text (item.Property m o) t = property_text (take m t) o (drop (m + o) t)

unfoldable pub parts_text : List ℕ → List Part → List ℕ
parts_text line [] = []
parts_text line (p ∷ ps) = part_text (shown_of p.item) (take p.len (drop p.start line)) ++ parts_text line ps

-- ---- a refusal

-- the mark, under the first column of a byte: as many spaces before it as the bytes before that one take columns
abbrev pub mark_text : List ℕ → List ℕ
mark_text before = replicate (length (visible before)) 32 ++ (94 ∷ newline)

abbrev pub where_text : ℕ → ℕ → List ℕ
where_text n p = bytes "  refused as " ++ (digits n ++ (bytes " at " ++ (digits p ++ bytes ": ")))

abbrev pub reason_text : ℕ → ℕ → List ℕ
reason_text n p = where_text n p ++ (words_of n ++ newline)

abbrev pub kept_text : List ℕ → ℕ → ℕ → List ℕ
kept_text kept n p = visible kept ++ (newline ++ (mark_text (take p kept) ++ reason_text n p))

-- a line of over 1,024 bytes is shown by its first 1,024
unfoldable pub refused_text : List ℕ → ℕ → ℕ → List ℕ
refused_text line n p = kept_text (take 1024 line) n p

-- ---- a line by its reading; and the end of a capture inside a line

unfoldable pub blank_text : List ℕ
blank_text = bytes "  blank" ++ newline

abbrev pub explained_in : List ℕ → Reading → List ℕ
explained_in line (refusal n p) = refused_text line n p
explained_in line (read []) = blank_text
explained_in line (read (p ∷ ps)) = visible line ++ (newline ++ parts_text line (p ∷ ps))

unfoldable pub explained_of : List ℕ → List ℕ
explained_of line = explained_in line (reading_of line)

unfoldable pub cut_text : List ℕ
cut_text = bytes "  cut: the capture ends inside a line" ++ newline
