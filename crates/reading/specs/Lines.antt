-- Lines to check against, each with its records; a refusal is shown as its record of kind 5.
use Rattle.std.specs.Prelude.{ℕ, List, [], ◌∷◌}
use Prim.Native.String.{String}

-- document 01's thirteen, `Show` as request a has it and the places of 10, 12 and 13 as request c has them
unfoldable pub lines : List (String × List ℕ)
lines =
    ("", 6 ∷ [])
    ∷ ("show", 1 ∷ 10 ∷ [])
    ∷ ("show /system1/cpu4", 1 ∷ 10 ∷ 3 ∷ 0 ∷ 5 ∷ 0 ∷ 13 ∷ [])
    ∷ ("Show", 1 ∷ 10 ∷ [])
    ∷ ("reset -f -force", 5 ∷ 8 ∷ 0 ∷ 9 ∷ [])
    ∷ ("show -level", 5 ∷ 9 ∷ 0 ∷ 11 ∷ [])
    ∷ ("show -level 02", 5 ∷ 10 ∷ 0 ∷ 13 ∷ [])
    ∷ ("set Name=\"a b\"", 1 ∷ 9 ∷ 4 ∷ 0 ∷ 4 ∷ 0 ∷ 4 ∷ 1 ∷ 0 ∷ 9 ∷ 0 ∷ 5 ∷ [])
    ∷ ("set Name=a` b", 1 ∷ 9 ∷ 4 ∷ 0 ∷ 4 ∷ 0 ∷ 4 ∷ 1 ∷ 0 ∷ 9 ∷ 0 ∷ 4 ∷ [])
    ∷ ("reset \"os1", 5 ∷ 4 ∷ 0 ∷ 6 ∷ [])
    ∷ ("reset /system1 -f", 5 ∷ 11 ∷ 0 ∷ 15 ∷ [])
    ∷ ("cd /system1/", 5 ∷ 12 ∷ 0 ∷ 12 ∷ [])
    ∷ ("set a=b=c", 5 ∷ 13 ∷ 0 ∷ 7 ∷ [])
    ∷ []

-- request b's, as its points are read: 20 where the option first stands, whatever follows it; a term that is not read as an option is never 20
unfoldable pub lines_of_b : List (String × List ℕ)
lines_of_b =
    ("reset -f", 1 ∷ 8 ∷ 2 ∷ 5 ∷ 0 ∷ 8 ∷ 0 ∷ 0 ∷ [])
    ∷ ("dump -F", 1 ∷ 4 ∷ 2 ∷ 5 ∷ 0 ∷ 7 ∷ 0 ∷ 0 ∷ [])
    ∷ ("cd -f -f", 5 ∷ 20 ∷ 0 ∷ 3 ∷ [])
    ∷ ("cd -x -f -x", 5 ∷ 20 ∷ 0 ∷ 6 ∷ [])
    ∷ ("cd -x -x -f", 5 ∷ 8 ∷ 0 ∷ 6 ∷ [])
    ∷ ("cd -zz -f", 5 ∷ 7 ∷ 0 ∷ 3 ∷ [])
    ∷ ("set -level", 5 ∷ 20 ∷ 0 ∷ 4 ∷ [])
    ∷ ("set -level 02", 5 ∷ 20 ∷ 0 ∷ 4 ∷ [])
    ∷ ("cd / -f", 5 ∷ 11 ∷ 0 ∷ 5 ∷ [])
    ∷ ("show -level -source x", 5 ∷ 9 ∷ 0 ∷ 12 ∷ [])
    ∷ ("create -source x", 5 ∷ 20 ∷ 0 ∷ 7 ∷ [])
    ∷ ("help -f", 5 ∷ 20 ∷ 0 ∷ 5 ∷ [])
    ∷ ("EXIT -WAIT", 5 ∷ 20 ∷ 0 ∷ 5 ∷ [])
    ∷ []
