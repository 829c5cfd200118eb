-- What a program is asked by the words that it was started with.
use Rattle.std.specs.Prelude.{ℕ, List, Bool, true, false, cond, leb}
use Rattle.text.specs.Bytes.{bytes, same_bytes}
use Rattle.console.specs.declared.Asked.{Asked}
use Rattle.console.specs.declared.Asked.TheVariants.{Work, Help, Version, Other}

unfoldable pub asked_by : List ℕ → Asked
asked_by s = cond (same_bytes s (bytes "--help")) Help (cond (same_bytes s (bytes "--version")) Version Other)

-- by how many words there are, the program's own name among them, and the first after that
unfoldable pub asked_of : ℕ → List ℕ → Asked
asked_of n s = cond (leb n 1) Work (cond (leb n 2) (asked_by s) Other)

abbrev pub is_work : Asked → Bool
is_work Work = true
is_work Help = false
is_work Version = false
is_work Other = false
