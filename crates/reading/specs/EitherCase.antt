-- Request a: which parts of a command may have letters in either case; whether two lines have the same bytes in all others ("Tags, names, values and
-- `SESSION` stay exact"); and a text's letters.
use Rattle.std.specs.Prelude.{ℕ, Bool, true, false, cond, ◌||◌}
use mathlib.Core.List.{List, [], ◌∷◌, flat_map}
use Rattle.text.specs.Bytes.{same_bytes, is_letter}
use Rattle.text.specs.Lists.{all_of}
use Rattle.words.specs.declared.Kind.{Kind}
use Rattle.words.specs.declared.Kind.TheVariants.{Mere, Keep, Level, Place, Entries}
use Rattle.words.specs.Words.{kind_of}
use Rattle.reading.specs.Command.{Item, verb, option, argument, target, prop}
use Rattle.reading.specs.Reading.{Part}
use Rattle.terms.specs.Scan.{span}
use Rattle.reading.specs.Records.{part_at}

-- of the arguments, level's
abbrev pub is_level_kind : Kind → Bool
is_level_kind Mere = false
is_level_kind Keep = false
is_level_kind Level = true
is_level_kind Place = false
is_level_kind Entries = false

-- the verb, option names, and level's argument; targets, properties and other arguments stay exact
abbrev pub in_either_case : Item → Bool
in_either_case (verb n) = true
in_either_case (option n) = true
in_either_case (argument n a) = is_level_kind (kind_of n)
in_either_case (target t) = false
in_either_case (prop p) = false

-- the bytes of a line that a part is
abbrev pub part_bytes : List ℕ → Part → List ℕ
part_bytes line p = part_at line (span p.start p.len)

-- have two lines the same bytes in each of these parts that stays exact?
unfoldable pub exact_in : List Part → List ℕ → List ℕ → Bool
exact_in ps a b = all_of (λ (p : Part). in_either_case p.item || same_bytes (part_bytes a p) (part_bytes b p)) ps

-- a text's letters, in their order and their own case
abbrev pub letter : ℕ → List ℕ
letter b = cond (is_letter b) (b ∷ []) []

unfoldable pub letters : List ℕ → List ℕ
letters s = flat_map letter s
