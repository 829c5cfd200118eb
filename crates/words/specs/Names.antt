-- What the laws of names speak of: lower case, and which options take an argument.
use Rattle.std.specs.Prelude.{ℕ, [], ◌∷◌, Bool, true, false, ◌&&◌, leb}
use Rattle.text.specs.Bytes.{one_of}
use Rattle.words.specs.declared.Kind.{Kind}
use Rattle.words.specs.declared.Kind.TheVariants.{Mere, Keep, Level, Place, Entries}

abbrev pub is_lower : ℕ → Bool
is_lower b = leb 97 b && leb b 122

-- Numbers 2, 3, 7, 8, 9 and 10 take the next term as argument.
unfoldable pub takes_argument : ℕ → Bool
takes_argument n = one_of (2 ∷ 3 ∷ 7 ∷ 8 ∷ 9 ∷ 10 ∷ []) n

abbrev pub is_mere : Kind → Bool
is_mere Mere = true
is_mere Keep = false
is_mere Level = false
is_mere Place = false
is_mere Entries = false
