-- The joiner's state as one number that the caller keeps: the bytes held, and 2,048 for a GRAVE that waits, 4,096 for a CR just seen, 8,192 for a line
-- that is too long.
use Rattle.std.specs.Prelude.{ℕ, ◌+◌, ◌/◌, ◌%◌, Bool, cond, eqb}
use Rattle.joiner.specs.declared.Joiner.{Joiner}
use Rattle.joiner.specs.Step.{st}

-- what a flag counts
abbrev pub mark : Bool → ℕ → ℕ
mark b w = cond b w 0

unfoldable pub state_number : Joiner → ℕ
state_number s = s.held + mark s.grave 2048 + mark s.cr 4096 + mark s.over 8192

-- whether a number has a flag set
abbrev pub flagged : ℕ → ℕ → Bool
flagged n w = eqb (n / w % 2) 1

-- the state of a number below 16,384
unfoldable pub state_of : ℕ → Joiner
state_of n = st (n % 2048) (flagged n 2048) (flagged n 4096) (flagged n 8192)
