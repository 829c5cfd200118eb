-- What can be said of reading and writing: how many bytes, and not which.
use Rattle.std.specs.Prelude.{ℕ, ◌≡◌, ◌≤◌, Result, Ok, Err}
use Rattle.std.specs.declared.io.Error.{Error}
use Rattle.text.specs.declared.Refusal.{Refusal}
use Rattle.console.specs.declared.Unwritten.{Unwritten}

-- the bytes that a read gave stand within so many
abbrev pub Held : Result ℕ Error → ℕ → Type 0
Held (Ok n) most = n ≤ most
Held (Err why) most = Unit {0}

-- a write took all of so many bytes; where it failed, it took no more than these
abbrev pub Taken : Result ℕ Unwritten → ℕ → Type 0
Taken (Ok n) all = n ≡ all
Taken (Err left) all = left.taken ≤ all

-- an answer tells of a text, and of no more than so many bytes
abbrev pub Told : Result ℕ Refusal → ℕ → Type 0
Told (Ok n) most = n ≤ most
Told (Err e) most = ⊥

-- what was written is what an answer tells of
abbrev pub ToldAll : Result (Unit {0}) Error → Result ℕ Refusal → ℕ → Type 0
ToldAll (Ok u) a most = Told a most
ToldAll (Err why) a most = Unit {0}
