-- Demand 3: a capture read whole from a fresh start in any division into calls. Where trust begins again is `trusted` of joiner's specs/Lines.
use Rattle.std.specs.Prelude.{ℕ, ◌≡◌, List, [], ◌∷◌, ◌++◌, length}
use Rattle.joiner.specs.declared.Joiner.{Joiner}
use Rattle.joiner.specs.declared.End.{End}
use Rattle.joiner.specs.Lines.{Given, lines_of}
use Rattle.joiner.specs.Step.{start}
use Rattle.joiner.specs.Join.{end_of}
use Rattle.joiner.specs.Calls.{Calls}
use Rattle.capture.specs.Answers.{Lent, WholeAnswer, answers_from}
use Rattle.std.specs.Prelude.{Result}
use Rattle.text.specs.declared.Refusal.{Refusal}

-- a capture read whole from a fresh start: calls that see as many bytes of what is left as they like, state and a line buffer of 1,024 bytes handed on
-- from call to call untouched
pub record Run (c : List ℕ) : Type 0 where
  pub buffer : List ℕ
  pub long : length buffer ≡ 1024
  pub sizes : List ℕ
  pub lines : List Given
  pub last : Joiner
  pub calls : Calls sizes start buffer c lines last

-- its answers, with what is lent at each line; and its end
abbrev pub run_answers : (ℕ → Lent) → (c : List ℕ) → Run c → List WholeAnswer
run_answers f c r = answers_from f 0 r.lines

abbrev pub run_end : (c : List ℕ) → Run c → Result End Refusal
run_end c r = end_of r.last

-- how many lines have ended with the end of line e that follows x
abbrev pub ended_by : List ℕ → ℕ → ℕ → ℕ
ended_by p x e = length (lines_of (p ++ (x ∷ e ∷ [])))
