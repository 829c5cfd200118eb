-- Request a: the case of letters in canonical writing, part by part.
use Rattle.std.specs.Prelude.{ℕ, List, Bool, cond}
use Rattle.text.specs.Bytes.{same_bytes}
use Rattle.terms.specs.Signs.{raws}
use Rattle.words.specs.Words.{lowered}
use Rattle.reading.specs.Reading.{Part}
use Rattle.reading.specs.EitherCase.{in_either_case, part_bytes, letters}
use Rattle.canonical.specs.Canonical.{write_item}

-- the verb, option names and level's argument are written in lower case; any other part is written with the letters that it has in the line, in their
-- order and their own case
unfoldable pub right_case : List ℕ → Part → Bool
right_case line p = let w = raws (write_item p.item) in cond (in_either_case p.item) (same_bytes (lowered w) w) (same_bytes (letters w) (letters (part_bytes line p)))
