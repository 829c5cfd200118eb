-- What the code goes by: a part by its numbers, and what a reading says of a line without its parts.
use Rattle.std.specs.Prelude.{ℕ, ◌+◌, List, [], Bool, true, false, cond, length, Result, Ok, Err, Option, Some, None}
use Rattle.forms.specs.declared.Shape.{Shape}
use Rattle.reading.specs.declared.Shown.{Shown}
use Rattle.reading.specs.declared.Shown.TheVariants as shown
use Rattle.reading.specs.Reading.{Reading, refusal, read}
use Rattle.reading.specs.Records.{records_of, read_records}
use Rattle.text.specs.declared.Refusal.{Refusal}
use Rattle.text.specs.Room.{refusal_at}

-- a reading's refusal, or that it has none
abbrev pub verdict_in : Reading → Result Unit Refusal
verdict_in (refusal n p) = Err (refusal_at n p)
verdict_in (read ps) = Ok tt

-- how many bytes a reading's records have, or its refusal
abbrev pub needed_in : Reading → Result ℕ Refusal
needed_in (refusal n p) = Err (refusal_at n p)
needed_in (read ps) = Ok (length (read_records ps))

-- ---- decisions by what the forms answer

abbrev pub by_shape : Option Shape → Result Shown ℕ
by_shape (Some e) = Ok (shown.Property e.name e.operator)
by_shape None = Err 13

abbrev pub argument_if : Bool → ℕ → Result Shown ℕ
argument_if fits n = cond fits (Ok (shown.Argument n)) (Err 10)

-- ---- of a part, by its numbers

-- how many bytes the name of a property has
abbrev pub name_size : Shown → ℕ
name_size (shown.Verb k) = 0
name_size (shown.Option k) = 0
name_size (shown.Argument k) = 0
name_size shown.Target = 0
name_size (shown.Property m o) = m

-- how many properties it is
abbrev pub counted : Shown → ℕ
counted (shown.Verb k) = 0
counted (shown.Option k) = 0
counted (shown.Argument k) = 0
counted shown.Target = 0
counted (shown.Property m o) = 1

-- ---- the records of a reading that is not refused; and their bytes counted, n bytes before them

abbrev pub records_in : Reading → List ℕ
records_in (refusal n p) = []
records_in (read ps) = records_of ps

abbrev pub total_from : ℕ → Reading → Result ℕ Refusal
total_from n (refusal k p) = Err (refusal_at k p)
total_from n (read ps) = Ok (n + length (records_of ps))

-- the records of a reading, blank among them
abbrev pub bytes_in : Reading → List ℕ
bytes_in (refusal n p) = []
bytes_in (read ps) = read_records ps

-- is a part the target?
abbrev pub is_target : Shown → Bool
is_target (shown.Verb k) = false
is_target (shown.Option k) = false
is_target (shown.Argument k) = false
is_target shown.Target = true
is_target (shown.Property m o) = false
