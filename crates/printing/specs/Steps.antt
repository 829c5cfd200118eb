-- One call in the code's steps: what stands in the room of the records, its text, and how many lines it is of.
use Rattle.std.specs.Prelude.{ℕ, ◌≤◌, List, [], length, take}
use Rattle.joiner.specs.Join.{Ran}
use Rattle.printing.specs.declared.Called.{Called}
use Rattle.printing.specs.Printing.{lines_by, ran_text}
use Rattle.std.specs.Prelude.{Result, Ok, Err, Option, Some, None}
use Rattle.text.specs.declared.Refusal.{Refusal}

-- the records that stand in a room
abbrev pub standing : Result (Option ℕ) Refusal → List ℕ → List ℕ
standing (Ok None) room = []
standing (Ok (Some n)) room = take n room
standing (Err e) room = []

-- what stands in a room is no longer than it
abbrev pub Stood : Result (Option ℕ) Refusal → List ℕ → Type 0
Stood (Ok None) room = Unit {0}
Stood (Ok (Some n)) room = n ≤ length room
Stood (Err e) room = Unit {0}

abbrev pub lines_in : Result (Option ℕ) Refusal → ℕ
lines_in (Ok None) = 0
lines_in (Ok (Some n)) = 1
lines_in (Err e) = 0

-- a call: its state, how many bytes it used, how many lines it ended, and how many bytes of text those are
abbrev pub called_by : Ran → Called
called_by r = record { state = r.answer.state; used = r.answer.used; lines = lines_by r.answer.outcome; text = length (ran_text r) }
