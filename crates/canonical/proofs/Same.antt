-- What follows from the read-back theorem: lines that are written the same are the same command; a longer writing reads as 1. Assumes nothing.
use Prim.Native.Nat.{ℕ, ◌<◌, ◌≤◌}
use mathlib.Core.Path.{◌≡◌, sym, ap, ◌∙◌}
use mathlib.Core.List.{List}
use mathlib.Core.Option.{some, some-injective}
use lib.ListN.{length}
use Rattle.reading.specs.Command.{Item}
use Rattle.reading.specs.Reading.{refusal, reading_of, command_of}
use Rattle.canonical.specs.Canonical.{writing}
use Rattle.canonical.proofs.ReadBack.{read_back}
use Rattle.reading.proofs.Folds.{long_left}

-- the writing can pass 1,024 bytes; it then reads as 1
pub long_writing : (c : List Item) → 1024 < length (writing c) → reading_of (writing c) ≡ refusal 1 1024
long_writing c h = long_left (writing c) h

-- lines that are written the same are the same command
pub written_same : (l m : List ℕ) (c d : List Item) → command_of l ≡ some c → command_of m ≡ some d → length (writing c) ≤ 1024 → writing c ≡ writing d → c ≡ d
written_same l m c d p q h e =
    let k : length (writing d) ≤ 1024 = rw e at h in
    let a : command_of (writing c) ≡ some c = read_back l c p h in
    let b : command_of (writing d) ≡ some d = read_back m d q k in
    some-injective c d (sym a ∙ ap command_of e ∙ b)
