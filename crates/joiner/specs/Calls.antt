-- Calls over a capture, state and buffer handed on from call to call.
use Rattle.std.specs.Prelude.{ℕ, List, [], ◌∷◌, ◌++◌, take, drop}
use Rattle.joiner.specs.declared.Joiner.{Joiner}
use Rattle.joiner.specs.declared.End.{End}
use Rattle.joiner.specs.declared.End.TheVariants
use Rattle.joiner.specs.Lines.{Given, line, refused, Ending, cut, nothing}
use Rattle.joiner.specs.Join.{join_of}
use Rattle.std.specs.Prelude.{Result, Ok, Err, Option, Some, None}
use Rattle.text.specs.declared.Refusal.{Refusal}

-- what one call gives: the text that its outcome says of the buffer
abbrev pub given_of : Result (Option ℕ) Refusal → List ℕ → List Given
given_of (Ok None) b = []
given_of (Ok (Some n)) b = line (take n b) ∷ []
given_of (Err e) b = refused e.number e.place (take e.place b) ∷ []

-- what the end of the capture says, as the code has it
abbrev pub end_as : Ending → Result End Refusal
end_as cut = Ok TheVariants.Cut
end_as nothing = Ok TheVariants.Nothing

-- Calls over what is left of a capture: the bytes that each call sees, from a state and a buffer, the lines that they give and the state that they
-- leave. A call sees any beginning of what is left, also none of it, as a buffer holds it that is filled again after each call; what it used goes.
pub data Calls : List ℕ → Joiner → List ℕ → List ℕ → List Given → Joiner → Type 0 where
  done : {s : Joiner} {b : List ℕ} → Calls [] s b [] [] s
  call : {s s' : Joiner} {b c ns : List ℕ} {l : List Given} (n : ℕ)
      → Calls ns (join_of s b (take n c)).answer.state (join_of s b (take n c)).buffer (drop (join_of s b (take n c)).answer.used c) l s'
      → Calls (n ∷ ns) s b c (given_of (join_of s b (take n c)).answer.outcome (join_of s b (take n c)).buffer ++ l) s'
