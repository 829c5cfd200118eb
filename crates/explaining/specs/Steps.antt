-- What the code goes by: where a writer's text ends, and what is left to tell of a line.
use Rattle.std.specs.Prelude.{ℕ, ◌-◌, ◌^◌, ◌<◌, min, List, [], ◌∷◌, Bool, true, false, ◌≡◌, length}
use Rattle.std.proofs.lemmas.List.Edits.{sets}
use Rattle.reading.specs.Reading.{Reading, refusal, read}
use Rattle.explaining.specs.Explained.{parts_text}

-- what a text t leaves that was written from a room's start on: room is what was lent, out what it then holds, and n tells how many bytes t has
pub record PutsFirst (room t out : List ℕ) (n : ℕ) : Type 0 where
  pub ends : n ≡ min (length t) (2 ^ 64 - 1)
  pub holds : out ≡ sets room 0 t
  pub within : length room < 2 ^ 63

-- does a reading have no part?
abbrev pub is_blank : Reading → Bool
is_blank (refusal n p) = false
is_blank (read []) = true
is_blank (read (p ∷ ps)) = false

-- the text of the parts of a reading that is not refused
abbrev pub parts_in : List ℕ → Reading → List ℕ
parts_in line (refusal n p) = []
parts_in line (read ps) = parts_text line ps
