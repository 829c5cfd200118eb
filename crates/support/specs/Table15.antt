-- Request b of document 02: Table 15 of DSP0214, "Verb and Option Support", cell by cell as it is printed, and what it excludes.
use Rattle.std.specs.Prelude.{ℕ, List, [], ◌∷◌, Bool, true, false, get_or}
use Prim.Native.String.{String}

-- A cell of the table, and what it says of the use of the row's option with the column's verb: X, an implementation shall support it; X¹, here ¹, it may;
-- X², here ², it should; blank, here o, it shall not.
pub data Cell : Type 0 where
  X : Cell
  ¹ : Cell
  ² : Cell
  o : Cell

-- the columns' names, the verbs', numbered from 1
unfoldable pub columns : List String
columns = "cd" ∷ "create" ∷ "delete" ∷ "dump" ∷ "exit" ∷ "help" ∷ "load" ∷ "reset" ∷ "set" ∷ "show" ∷ "start" ∷ "stop" ∷ "version" ∷ []

-- the rows, each with its name, the option's, numbered from 1; 0 is none's
unfoldable pub rows : List (List Cell × String)
rows =
    (o ∷ o ∷ o ∷ o ∷ o ∷ o ∷ o ∷ o ∷ o ∷ o ∷ o ∷ o ∷ o ∷ [], "")
    ∷ (o ∷ o ∷ o ∷ o ∷ o ∷ o ∷ o ∷ o ∷ o ∷ X ∷ o ∷ o ∷ o ∷ [], "all")
    ∷ (o ∷ o ∷ o ∷ X ∷ o ∷ o ∷ o ∷ o ∷ o ∷ o ∷ o ∷ o ∷ o ∷ [], "destination")
    ∷ (o ∷ o ∷ o ∷ o ∷ o ∷ o ∷ o ∷ o ∷ o ∷ X ∷ o ∷ o ∷ o ∷ [], "display")
    ∷ (X ∷ X ∷ X ∷ X ∷ X ∷ X ∷ X ∷ X ∷ X ∷ X ∷ X ∷ X ∷ X ∷ [], "examine")
    ∷ (o ∷ o ∷ ² ∷ ¹ ∷ o ∷ o ∷ ¹ ∷ ² ∷ ² ∷ ¹ ∷ ² ∷ ² ∷ o ∷ [], "force")
    ∷ (X ∷ X ∷ X ∷ X ∷ X ∷ X ∷ X ∷ X ∷ X ∷ X ∷ X ∷ X ∷ X ∷ [], "help")
    ∷ (X ∷ X ∷ X ∷ X ∷ X ∷ X ∷ X ∷ X ∷ X ∷ X ∷ X ∷ X ∷ X ∷ [], "keep")
    ∷ (o ∷ o ∷ o ∷ o ∷ o ∷ o ∷ o ∷ o ∷ o ∷ X ∷ o ∷ o ∷ o ∷ [], "level")
    ∷ (X ∷ X ∷ X ∷ X ∷ X ∷ X ∷ X ∷ X ∷ X ∷ X ∷ X ∷ X ∷ X ∷ [], "output")
    ∷ (o ∷ o ∷ o ∷ o ∷ o ∷ o ∷ X ∷ o ∷ o ∷ o ∷ o ∷ o ∷ o ∷ [], "source")
    ∷ (X ∷ X ∷ X ∷ X ∷ X ∷ X ∷ X ∷ X ∷ X ∷ X ∷ X ∷ X ∷ X ∷ [], "version")
    ∷ (X ∷ X ∷ X ∷ X ∷ o ∷ X ∷ X ∷ X ∷ X ∷ X ∷ X ∷ X ∷ X ∷ [], "wait")
    ∷ []

-- the cell of a verb and an option, by their numbers; blank where there is no such verb or option
unfoldable pub cell_of : ℕ → ℕ → Cell
cell_of verb option = get_or (o ∷ (get_or rows option ([], "")).0) verb o

-- "If the cell in Table 15 .. is blank, the implementation shall not support the use of the option named in the row with the verb named in the column": only
-- a blank cell excludes
abbrev pub had : Cell → Bool
had X = true
had ¹ = true
had ² = true
had o = false

-- can this verb have this option?
unfoldable pub allowed : ℕ → ℕ → Bool
allowed verb option = had (cell_of verb option)
