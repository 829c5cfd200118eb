-- The constant tables: rows of fixed width, by number and made from the names, all zeros where no name has the number; and what a row says.
use Rattle.std.specs.Prelude.{ℕ, zero, suc, ◌-◌, List, [], ◌∷◌, ◌++◌, map, Bool, cond, length, get_or, take, drop, replicate, eqb}
use Rattle.std.proofs.Math.Option.{Option, none, some}
use Rattle.std.specs.Prelude as std
use Rattle.words.specs.declared.Kind.{Kind}
use Rattle.words.specs.declared.Kind.TheVariants.{Mere, Keep, Level, Place, Entries}
use Rattle.words.specs.Words.{verb_name, option_name, short_name, kinds, names, bodies}

-- a name in n bytes, with zeros after it
abbrev pub padded : ℕ → List ℕ → List ℕ
padded n name = name ++ replicate (n - length name) 0

-- a verb's row of 8 bytes, by its number: how long its name is, and the name
unfoldable pub verb_row : ℕ → List ℕ
verb_row n = let name = verb_name n in length name ∷ padded 7 name

-- kinds of argument as numbers, both ways
abbrev pub kind_number : Kind → ℕ
kind_number Mere = 0
kind_number Keep = 1
kind_number Level = 2
kind_number Place = 3
kind_number Entries = 4

unfoldable pub kind_at : ℕ → Kind
kind_at n = get_or (Mere ∷ Keep ∷ Level ∷ Place ∷ Entries ∷ []) n Mere

unfoldable pub kind_bytes : List ℕ
kind_bytes = map kind_number kinds

-- an option's row of 16 bytes, by its number: how long its long name is, the name in 11, its short name's byte or 0, three zeros
unfoldable pub option_row : ℕ → List ℕ
option_row n = let long = option_name n in length long ∷ (padded 11 long ++ (get_or (short_name n) 0 0 ∷ 0 ∷ 0 ∷ 0 ∷ []))

-- what a row says: its name, and its short name
abbrev pub row_name : List ℕ → List ℕ
row_name row = take (get_or row 0 0) (drop 1 row)

abbrev pub row_short : List ℕ → List ℕ
row_short row = cond (eqb (get_or row 12 0) 0) [] (get_or row 12 0 ∷ [])

-- does this row name that text? A text of one byte can only be a short name, any other only a long one.
unfoldable pub row_names : List ℕ → List ℕ → Bool
row_names row t = cond (eqb (length t) 1) (names (row_short row) t) (names (row_name row) t)

-- the one option that a text can name, by its first byte in lower case and, of those with a `d`, by its length; 0 where there is none
unfoldable pub candidate_of : ℕ → ℕ → ℕ
candidate_of x n =
    cond (eqb x 97) 1 (cond (eqb x 100) (cond (eqb n 11) 2 3) (cond (eqb x 101) 4 (cond (eqb x 120) 4 (cond (eqb x 102) 5 (cond (eqb x 104) 6 (cond (eqb x 107) 7
    (cond (eqb x 108) 8 (cond (eqb x 111) 9 (cond (eqb x 115) 10 (cond (eqb x 118) 11 (cond (eqb x 119) 12 0)))))))))))

-- the number of a row, of which row 0 is none
abbrev pub row_number : ℕ → std.Option ℕ
row_number zero = std.None
row_number (suc k) = std.Some (suc k)

-- the number of a name among names of n bytes only, the first of all being k
unfoldable pub find_of : ℕ → ℕ → List (List ℕ) → List ℕ → Option ℕ
find_of n k [] s = none
find_of n k (name ∷ ns) s = let more = find_of n (suc k) ns s in cond (eqb (length name) n) (cond (names name s) (some k) more) more

-- body lengths as bytes, 255 for a kind that no record has, both ways
abbrev pub body_byte : Option ℕ → ℕ
body_byte none = 255
body_byte (some n) = n

unfoldable pub body_bytes : List ℕ
body_bytes = map body_byte bodies

abbrev pub body_at : ℕ → Option ℕ
body_at b = cond (eqb b 255) none (some b)
