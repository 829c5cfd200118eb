-- Bytes: the bytes of a text, classes of bytes, equality of two texts.
use Rattle.std.specs.Prelude.{ℕ, List, [], ◌∷◌, Bool, true, false, ◌&&◌, ◌||◌, eqb, leb}
use Prim.Native.Char.{code}
use Prim.Native.String.{String, [] as end, ◌∷◌ as ◌then◌}

-- the bytes of a text in ASCII
unfoldable pub bytes : String → List ℕ
bytes end = []
bytes (◌then◌ c s) = code c ∷ bytes s

-- is it one of these?
unfoldable pub one_of : List ℕ → ℕ → Bool
one_of [] b = false
one_of (x ∷ xs) b = eqb b x || one_of xs b

unfoldable pub same_bytes : List ℕ → List ℕ → Bool
same_bytes [] [] = true
same_bytes [] (y ∷ ys) = false
same_bytes (x ∷ xs) [] = false
same_bytes (x ∷ xs) (y ∷ ys) = eqb x y && same_bytes xs ys

-- A to Z, a to z
abbrev pub is_letter : ℕ → Bool
is_letter b = (leb 65 b && leb b 90) || (leb 97 b && leb b 122)

abbrev pub is_digit : ℕ → Bool
is_digit b = leb 48 b && leb b 57

-- letters, digits and underscores: what a name goes on with
unfoldable pub is_word : ℕ → Bool
is_word b = is_letter b || (is_digit b || eqb b 95)

-- 20h to 7Eh
abbrev pub printable : ℕ → Bool
printable b = leb 32 b && leb b 126
