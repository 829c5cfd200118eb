-- Twins as the check finds them: each good record leaves two marks in a table, the same two for the same node. A record that finds one of its marks
-- missing has no twin before it, and is compared with none. proofs/MarkLaws has it that this is the twin test of specs/Tree. Where two records are
-- compared, parents come first (request d).
use Rattle.std.specs.Prelude.{ℕ, ◌+◌, ◌*◌, ◌/◌, ◌%◌, ◌<◌, ◌≡◌, List, Bool, true, false, ◌&&◌, length, get_or, drop, eqb}
use Rattle.text.specs.Bytes.{same_bytes}
use Rattle.text.specs.Room.{be16}
use Rattle.tree.specs.Tree.{parent_in, tag_len_in, tag_in, number_in}

-- the same number and tag: what is looked at of two records of one parent to tell whether they are the same node
abbrev pub same_segment : List ℕ → List ℕ → Bool
same_segment a b = eqb (number_in a) (number_in b) && same_bytes (tag_in a) (tag_in b)

-- a node's parent, its number, its tag's length, and its tag's first and last letter in one number; odd factors spread it over the table
abbrev pub mixed : ℕ → ℕ → ℕ → ℕ → ℕ
mixed parent number tag ends = 2286423 * parent + 5970133 * number + 5079001 * tag + 3506843 * ends

unfoldable pub mix_of : List ℕ → ℕ
mix_of r = mixed (parent_in r) (number_in r) (tag_len_in r) (be16 (get_or r 4 0) (get_or r (3 + tag_len_in r) 0))

-- the two places of its marks
abbrev pub mark_of : ℕ → ℕ
mark_of m = m % 4096

abbrev pub other_mark_of : ℕ → ℕ
other_mark_of m = m / 4096 % 4096

-- a table of 4,096 has both marks of each of a tree's first k records
abbrev pub Marked : List Bool → List ℕ → ℕ → Type 0
Marked marks t k =
    (length marks ≡ 4096)
    × ((j : ℕ) → j < k → (get_or marks (mark_of (mix_of (drop (22 * j) t))) false ≡ true) × (get_or marks (other_mark_of (mix_of (drop (22 * j) t))) false ≡ true))
