-- Lent room: an answer fills its start and leaves its rest; where it does not fit, it is refused as 19 and nothing changes.
use Rattle.std.specs.Prelude.{ℕ, ◌+◌, ◌*◌, ◌/◌, ◌%◌, List, [], ◌∷◌, ◌++◌, cond, length, drop, leb, Result, Ok, Err}
use Rattle.text.specs.declared.Refusal.{Refusal}

-- a refusal by its number and its place
abbrev pub refusal_at : ℕ → ℕ → Refusal
refusal_at number place = record { number = number; place = place }

-- the room once a text fills its start
unfoldable pub wrote : List ℕ → List ℕ → List ℕ
wrote room t = t ++ drop (length t) room

-- the answer of a function that writes t into room of n bytes
unfoldable pub fitted : ℕ → List ℕ → Result ℕ Refusal
fitted n t = cond (leb (length t) n) (Ok (length t)) (Err (refusal_at 19 0))

-- what the room then holds
unfoldable pub filled : List ℕ → List ℕ → List ℕ
filled room t = cond (leb (length t) (length room)) (wrote room t) room

-- a number in two bytes, high first; and the number that two bytes are
abbrev pub high_low : ℕ → List ℕ
high_low n = n / 256 ∷ n % 256 ∷ []

abbrev pub be16 : ℕ → ℕ → ℕ
be16 high low = 256 * high + low
