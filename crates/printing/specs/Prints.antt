-- A whole capture as text: the text of its lines, and calls over what is left of it, state and line buffer handed on from call to call.
use Rattle.std.specs.Prelude.{ℕ, ◌+◌, ◌≡◌, List, [], ◌∷◌, ◌++◌, take, drop, Ok}
use Rattle.joiner.specs.declared.Joiner.{Joiner}
use Rattle.joiner.specs.Lines.{Given, line, refused}
use Rattle.reading.specs.Reading.{reading_of}
use Rattle.reading.specs.Records.{listed_in, refusal_record}
use Rattle.printing.specs.Printing.{records_text, part_print}

-- the records of a line that a capture gives: its reading's or its refusal's
abbrev pub given_records : Given → List ℕ
given_records (line t) = listed_in (reading_of t)
given_records (refused k n t) = refusal_record k n

-- their text, line after line
unfoldable pub lines_text : List Given → List ℕ
lines_text [] = []
lines_text (g ∷ gs) = records_text (given_records g) ++ lines_text gs

-- Each call sees any beginning of what is left, n bytes, with any room for the text. Where it writes w bytes, these are handed over from the room's start,
-- and what it used goes. All that is handed over, in order, how many lines are told, and the state that is left.
pub data Prints : Joiner → List ℕ → List ℕ → List ℕ → ℕ → Joiner → Type 0 where
  done : {s : Joiner} {b : List ℕ} → Prints s b [] [] 0 s
  call : {s s' : Joiner} {b c t : List ℕ} {k : ℕ} (n : ℕ) (out : List ℕ) (w : ℕ) → (part_print s b (take n c) out).answer.answer ≡ Ok w
      → Prints (part_print s b (take n c) out).answer.state (part_print s b (take n c) out).buffer (drop (part_print s b (take n c) out).answer.used c) t k s'
      → Prints s b c (take w (part_print s b (take n c) out).out ++ t) ((part_print s b (take n c) out).answer.lines + k) s'
