-- A call of the lister in the code's steps: the joiner's outcome, then its records.
use Rattle.std.specs.Prelude.{ℕ, ◌≤◌, List, cond, length, take, eqb, Result, Ok, Err}
use Rattle.text.specs.Room.{wrote}
use Rattle.reading.specs.Reading.{reading_of}
use Rattle.reading.specs.Records.{listed_in, refusal_record}
use Rattle.text.specs.declared.Refusal.{Refusal}
use Rattle.std.specs.Prelude.{Option, Some, None}
use Rattle.text.specs.Room.{refusal_at}

-- what an answer says of the room
abbrev pub stands_of : Result ℕ Refusal → Result (Option ℕ) Refusal
stands_of (Ok n) = Ok (Some n)
stands_of (Err e) = Err (refusal_at e.number e.place)

-- a refusal as 19 is told, any other is a record
abbrev pub outcome_stands : Result (Option ℕ) Refusal → List ℕ → Result (Option ℕ) Refusal
outcome_stands (Ok None) b = Ok None
outcome_stands (Ok (Some n)) b = Ok (Some (length (listed_in (reading_of (take n b)))))
outcome_stands (Err e) b = cond (eqb e.number 19) (Err (refusal_at e.number e.place)) (Ok (Some 4))

abbrev pub outcome_room : List ℕ → Result (Option ℕ) Refusal → List ℕ → List ℕ
outcome_room room (Ok None) b = room
outcome_room room (Ok (Some n)) b = wrote room (listed_in (reading_of (take n b)))
outcome_room room (Err e) b = cond (eqb e.number 19) room (wrote room (refusal_record e.number e.place))

-- what the joiner gives, in room for a whole reading: a line is in its buffer, and a place fits 2 bytes
abbrev pub Sane : Result (Option ℕ) Refusal → List ℕ → Type 0
Sane (Ok None) b = Unit {0}
Sane (Ok (Some n)) b = n ≤ length b
Sane (Err e) b = e.place ≤ 65535

abbrev pub Ready : Result (Option ℕ) Refusal → List ℕ → List ℕ → Type 0
Ready o b room = (399 ≤ length room) × Sane o b
