-- Worked examples, by computation.
use Prim.Native.String.{String}
use mathlib.Core.Path.{◌≡◌, refl}
use mathlib.Core.List.{List, [], ◌∷◌, map, flat_map}
use mathlib.Core.Bool.{true, false, cond}
use lib.ListN.{length, drop}
use Rattle.text.specs.Bytes.{bytes}
use Rattle.words.specs.Words.{verb_names, long_names}
use Rattle.support.specs.Table15.{Cell, X, ¹, ², o, columns, rows, cell_of, had, allowed}

-- the columns are the verbs and the rows the options, by their numbers
pub columns_verbs : map bytes columns ≡ verb_names
unfolding columns bytes verb_names
columns_verbs = refl

pub rows_options : map (λ (r : List Cell × String). bytes r.1) rows ≡ [] ∷ long_names
unfolding rows bytes long_names
rows_options = refl

-- of the 156 pairs 90 are had, and 66 are not
abbrev pub cells : List Cell
cells = flat_map (λ (r : List Cell × String). r.0) (drop 1 rows)

pub ninety : (length cells ≡ 156) × (length (flat_map (λ (c : Cell). cond (had c) (c ∷ []) []) cells) ≡ 90) × (length (flat_map (λ (c : Cell). cond (had c) [] (c ∷ [])) cells) ≡ 66)
unfolding rows flat_map
ninety = (refl, refl, refl)

-- all four cells: `show -l` shall, `reset -f` should, `dump -f` may, `cd -f` shall not be supported; and numbers that are no verb's or no option's
pub pairs :
    (cell_of 10 8 ≡ X) × (cell_of 8 5 ≡ ²) × (cell_of 4 5 ≡ ¹) × (cell_of 1 5 ≡ o) × (allowed 10 8 ≡ true) × (allowed 8 5 ≡ true) × (allowed 4 5 ≡ true)
    × (allowed 1 5 ≡ false) × (allowed 0 4 ≡ false) × (allowed 14 4 ≡ false) × (allowed 1 0 ≡ false) × (allowed 1 13 ≡ false)
unfolding allowed cell_of rows
pairs = (refl, refl, refl, refl, refl, refl, refl, refl, refl, refl, refl, refl)
