-- A lister: a call joins a part of a capture and reads the line that it ended; what then stands in the lent room, and what the end gives.
use Rattle.std.specs.Prelude.{ℕ, List, [], Bool, cond, ◌&&◌, length, take, leb, eqb}
use Rattle.text.specs.Room.{wrote, filled}
use Rattle.joiner.specs.declared.Joiner.{Joiner}
use Rattle.joiner.specs.declared.End.{End}
use Rattle.joiner.specs.declared.End.TheVariants as end'
use Rattle.joiner.specs.Step.{reachable}
use Rattle.joiner.specs.Join.{Ran, join_of}
use Rattle.reading.specs.Reading.{reading_of}
use Rattle.reading.specs.Records.{listed_in, refusal_record, cut_record}
use Rattle.lister.specs.declared.Listed.{Listed}
use Rattle.std.specs.Prelude.{Result, Ok, Err, Option, Some, None}
use Rattle.text.specs.Room.{refusal_at}
use Rattle.text.specs.declared.Refusal.{Refusal}

-- what a call of the joiner gives to list: an over-long line is its refusal
abbrev pub records_by : Result (Option ℕ) Refusal → List ℕ → List ℕ
records_by (Ok None) b = []
records_by (Ok (Some n)) b = listed_in (reading_of (take n b))
records_by (Err e) b = refusal_record e.number e.place

abbrev pub stands_by : Result (Option ℕ) Refusal → List ℕ → Result (Option ℕ) Refusal
stands_by (Ok None) b = Ok None
stands_by (Ok (Some n)) b = Ok (Some (length (listed_in (reading_of (take n b)))))
stands_by (Err e) b = Ok (Some (length (refusal_record e.number e.place)))

-- Room for a whole reading, 399 bytes, is asked for before anything is used, so that no line is lost: less is refused as 19, and so is what the joiner
-- refuses as 19; then nothing is used and nothing lent has changed.
pub record Call : Type 0 where
  pub answer : Listed
  pub buffer : List ℕ
  pub room : List ℕ

abbrev pub listed : Joiner → ℕ → Result (Option ℕ) Refusal → Listed
listed s n w = record { state = s; used = n; stands = w }

abbrev pub refused19 : Joiner → List ℕ → List ℕ → Call
refused19 s b room = record { answer = listed s 0 (Err (refusal_at 19 0)); buffer = b; room = room }

abbrev pub joined : Ran → List ℕ → Call
joined r room =
    record {
      answer = listed r.answer.state r.answer.used (stands_by r.answer.outcome r.buffer);
      buffer = r.buffer;
      room = wrote room (records_by r.answer.outcome r.buffer);
    }

-- the joiner refuses as 19 exactly what is not fit to be joined
abbrev pub fit : Joiner → List ℕ → Bool
fit s b = eqb (length b) 1024 && reachable s

unfoldable pub call_of : Joiner → List ℕ → List ℕ → List ℕ → Call
call_of s b part room = cond (leb 399 (length room)) (cond (fit s b) (joined (join_of s b part) room) (refused19 s b room)) (refused19 s b room)

-- the end: a cut as its record, where it fits
abbrev pub end_stands : ℕ → Result End Refusal → Result (Option ℕ) Refusal
end_stands n (Ok end'.Nothing) = Ok None
end_stands n (Ok end'.Cut) = cond (leb 1 n) (Ok (Some 1)) (Err (refusal_at 19 0))
end_stands n (Err e) = Err (refusal_at e.number e.place)

abbrev pub end_room : List ℕ → Result End Refusal → List ℕ
end_room room (Ok end'.Nothing) = room
end_room room (Ok end'.Cut) = filled room cut_record
end_room room (Err e) = room
