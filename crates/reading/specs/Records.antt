-- Records of a reading, and what a read into lent room answers.
use Rattle.std.specs.Prelude.{ℕ, ◌+◌, ◌-◌, List, [], ◌∷◌, ◌++◌, cond, take, drop, eqb, Result, Err}
use Rattle.text.specs.Room.{high_low, fitted, filled, refusal_at}
use Rattle.words.specs.declared.Kind.{Kind}
use Rattle.words.specs.declared.Kind.TheVariants.{Mere, Keep, Level, Place, Entries}
use Rattle.words.specs.Words.{kind_of}
use Rattle.terms.specs.declared.Span.{Span}
use Rattle.reading.specs.declared.Shown.{Shown}
use Rattle.reading.specs.declared.Shown.TheVariants as shown
use Rattle.reading.specs.Command.{Item, verb, option, argument, target, prop, shown_of}
use Rattle.reading.specs.Reading.{Part, Reading, refusal, read, reading_of}
use Rattle.text.specs.declared.Refusal.{Refusal}
use Rattle.terms.specs.Scan.{span}

-- a field of a record: a number of one byte, or a part of the line by its position and length, 2 bytes each, high first
pub data Field : Type 0 where
  byte : ℕ → Field
  part : Span → Field

abbrev pub field_bytes : Field → List ℕ
field_bytes (byte b) = b ∷ []
field_bytes (part s) = high_low s.at ++ high_low s.len

abbrev pub bytes_of : List Field → List ℕ
bytes_of [] = []
bytes_of (f ∷ fs) = field_bytes f ++ bytes_of fs

-- An absent argument has length 0 and the position after its term, here e; a given argument's record is written at the argument.
abbrev pub option_fields : ℕ → Kind → ℕ → List Field
option_fields n Mere e = byte 2 ∷ byte n ∷ part (span e 0) ∷ []
option_fields n Keep e = []
option_fields n Level e = []
option_fields n Place e = []
option_fields n Entries e = []

-- the value in what stands after a name, n bytes from a on: after its operator (0 none, 1 `=`, 2 `==`), which has as many bytes as its number says;
-- an absent one has length 0 and the position after its term
abbrev pub value_span : ℕ → ℕ → ℕ → Span
value_span o a n = cond (eqb o 0) (span (a + n) 0) (span (a + o) (n - o))

-- Kind 1 verb: number. 2 option: number, argument position, length. 3 target: position, length. 4 property: name position, length, operator, value
-- position, length. The part begins at a and has n bytes.
abbrev pub fields_of : Shown → ℕ → ℕ → List Field
fields_of (shown.Verb k) a n = byte 1 ∷ byte k ∷ []
fields_of (shown.Option k) a n = option_fields k (kind_of k) (a + n)
fields_of (shown.Argument k) a n = byte 2 ∷ byte k ∷ part (span a n) ∷ []
fields_of shown.Target a n = byte 3 ∷ part (span a n) ∷ []
fields_of (shown.Property m o) a n = byte 4 ∷ part (span a m) ∷ byte o ∷ part (value_span o (a + m) (n - m)) ∷ []

abbrev pub record_of : Shown → ℕ → ℕ → List ℕ
record_of x a n = bytes_of (fields_of x a n)

-- Records stand in line order.
unfoldable pub records_of : List Part → List ℕ
records_of [] = []
records_of (p ∷ ps) = record_of (shown_of p.item) p.start p.len ++ records_of ps

-- kinds 1 to 4, or 6, blank
abbrev pub read_records : List Part → List ℕ
read_records [] = 6 ∷ []
read_records (p ∷ ps) = records_of (p ∷ ps)

-- what a read answers, and what the room then holds; a refusal writes nothing, and 19 comes last, exactly when the bytes don't fit
abbrev pub answer_in : ℕ → Reading → Result ℕ Refusal
answer_in room (refusal n p) = Err (refusal_at n p)
answer_in room (read ps) = fitted room (read_records ps)

abbrev pub room_in : List ℕ → Reading → List ℕ
room_in room (refusal n p) = room
room_in room (read ps) = filled room (read_records ps)

-- a lister makes 5 and 7 from a refusal or a cut
abbrev pub refusal_record : ℕ → ℕ → List ℕ
refusal_record n p = 5 ∷ n ∷ high_low p

abbrev pub cut_record : List ℕ
cut_record = 7 ∷ []

-- a line's records, as a lister gives them: its reading's, or its refusal's
abbrev pub listed_in : Reading → List ℕ
listed_in (refusal n p) = refusal_record n p
listed_in (read ps) = read_records ps

-- ---- the target's own part: empty, at 0, where there is none or the line is refused

abbrev pub target_or : Item → Span → Span → Span
target_or (verb k) here later = later
target_or (option k) here later = later
target_or (argument k x) here later = later
target_or (target x) here later = here
target_or (prop p) here later = later

unfoldable pub target_span : List Part → Span
target_span [] = span 0 0
target_span (p ∷ ps) = let later = target_span ps in target_or p.item (span p.start p.len) later

abbrev pub target_in : Reading → Span
target_in (refusal n p) = span 0 0
target_in (read ps) = target_span ps

abbrev pub part_at : List ℕ → Span → List ℕ
part_at line s = take s.len (drop s.at line)

unfoldable pub target_part : List ℕ → List ℕ
target_part line = part_at line (target_in (reading_of line))
