-- The command, 1 and 2, with request a of document 02: verbs and options by name and by number; and the kinds of record with the length of their bodies.
use Rattle.std.specs.Prelude.{ℕ, suc, ◌+◌, List, [], ◌∷◌, map, Bool, cond, not, ◌&&◌, get_or, eqb, leb}
use Rattle.std.proofs.Math.Option.{Option, none, some}
use Rattle.text.specs.Bytes.{bytes, same_bytes}
use Rattle.text.specs.Lists.{is_nil}
use Rattle.words.specs.declared.Kind.{Kind}
use Rattle.words.specs.declared.Kind.TheVariants.{Mere, Keep, Level, Place, Entries}

-- numbered 1 to 13
unfoldable pub verb_names : List (List ℕ)
verb_names =
    bytes "cd" ∷ bytes "create" ∷ bytes "delete" ∷ bytes "dump" ∷ bytes "exit" ∷ bytes "help" ∷ bytes "load" ∷ bytes "reset" ∷ bytes "set" ∷ bytes "show"
    ∷ bytes "start" ∷ bytes "stop" ∷ bytes "version" ∷ []

-- numbered 1 to 12: long names, and short names as in Table 14 of DSP0214; an option with none there has none here
unfoldable pub long_names : List (List ℕ)
long_names =
    bytes "all" ∷ bytes "destination" ∷ bytes "display" ∷ bytes "examine" ∷ bytes "force" ∷ bytes "help" ∷ bytes "keep" ∷ bytes "level" ∷ bytes "output"
    ∷ bytes "source" ∷ bytes "version" ∷ bytes "wait" ∷ []

unfoldable pub short_names : List (List ℕ)
short_names = bytes "a" ∷ [] ∷ bytes "d" ∷ bytes "x" ∷ bytes "f" ∷ bytes "h" ∷ bytes "k" ∷ bytes "l" ∷ bytes "o" ∷ [] ∷ bytes "v" ∷ bytes "w" ∷ []

-- a letter A to Z in lower case; every other byte is itself
unfoldable pub lower : ℕ → ℕ
lower b = cond (leb 65 b && leb b 90) (b + 32) b

unfoldable pub lowered : List ℕ → List ℕ
lowered s = map lower s

-- does this name name that text? A name is in lower case; it names a text whose raw bytes, letters in either case, are the name. An empty name names nothing.
unfoldable pub names : List ℕ → List ℕ → Bool
names n s = not (is_nil n) && same_bytes (lowered s) n

-- the number of a name, the first being k
unfoldable pub find : ℕ → List (List ℕ) → List ℕ → Option ℕ
find k [] s = none
find k (n ∷ ns) s = let more = find (suc k) ns s in cond (names n s) (some k) more

abbrev pub or : {A : Type 0} → Option A → Option A → Option A
or none p = p
or (some a) p = some a

unfoldable pub verb_of : List ℕ → Option ℕ
verb_of s = find 1 verb_names s

unfoldable pub option_of : List ℕ → Option ℕ
option_of s = or (find 1 long_names s) (find 1 short_names s)

-- the names of the numbers
unfoldable pub verb_name : ℕ → List ℕ
verb_name n = get_or ([] ∷ verb_names) n []

unfoldable pub option_name : ℕ → List ℕ
option_name n = get_or ([] ∷ long_names) n []

-- empty where an option has none
unfoldable pub short_name : ℕ → List ℕ
short_name n = get_or ([] ∷ short_names) n []

-- Numbers 2, 3, 7, 8, 9 and 10 take the next term as argument: of which form it is.
unfoldable pub kinds : List Kind
kinds = Mere ∷ Mere ∷ Place ∷ Entries ∷ Mere ∷ Mere ∷ Mere ∷ Keep ∷ Level ∷ Entries ∷ Place ∷ Mere ∷ Mere ∷ []

unfoldable pub kind_of : ℕ → Kind
kind_of n = get_or kinds n Mere

-- the two other fixed words: a level's `all`, which names a text as above, and the target `SESSION`, which is compared byte for byte
unfoldable pub all_name : List ℕ
all_name = bytes "all"

unfoldable pub session_name : List ℕ
session_name = bytes "SESSION"

-- how long the body of a record is, by its kind: 1 verb, 2 option, 3 target, 4 property, 5 refusal, 6 blank, 7 cut, 16 node
unfoldable pub bodies : List (Option ℕ)
bodies =
    none ∷ some 1 ∷ some 5 ∷ some 4 ∷ some 9 ∷ some 3 ∷ some 0 ∷ some 0 ∷ none ∷ none ∷ none ∷ none ∷ none ∷ none ∷ none ∷ none ∷ some 21 ∷ []

unfoldable pub body_of : ℕ → Option ℕ
body_of k = get_or bodies k none

-- how long a whole record is, by its kind: the byte of its kind and its body; 0 where there is no such kind
abbrev pub len_with : Option ℕ → ℕ
len_with none = 0
len_with (some n) = 1 + n

unfoldable pub record_len : ℕ → ℕ
record_len k = len_with (body_of k)

-- how long a whole record of a reply is, by its kind: 64 item, 65 group, 66 `endgroup`, 67 `endoutput`; 0 where it has no such kind
abbrev pub reply_record_len : ℕ → ℕ
reply_record_len k = cond (eqb k 64) 9 (cond (eqb k 65) 5 (cond (eqb k 66) 1 (cond (eqb k 67) 1 0)))
