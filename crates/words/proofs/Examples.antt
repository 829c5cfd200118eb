-- Worked examples, by computation.
use mathlib.Core.Path.{◌≡◌, refl}
use mathlib.Core.List.{[], ◌∷◌}
use mathlib.Core.Bool.{true, false}
use mathlib.Core.Option.{none, some}
use lib.Seq.{sets}
use Rattle.text.specs.Bytes.{bytes, same_bytes}
use Rattle.words.specs.declared.Kind.TheVariants.{Keep, Level}
use Rattle.words.specs.Words.{verb_names, long_names, short_names, lower, lowered, names, find, verb_of, option_of, option_name, kinds, kind_of, all_name, session_name, bodies, body_of}

-- level's `all` in any case, and near misses: a byte less, one more, none, quoted, and bytes that are no letter's other case
pub all_cases : (names all_name (bytes "all") ≡ true) × (names all_name (bytes "ALL") ≡ true) × (names all_name (bytes "aLl") ≡ true)
unfolding names all_name lowered lower same_bytes bytes
all_cases = (refl, refl, refl)

pub not_all :
    (names all_name (bytes "AL") ≡ false) × (names all_name (bytes "ALLX") ≡ false) × (names all_name [] ≡ false) × (names all_name (bytes "\"ALL\"") ≡ false)
    × (names all_name (33 ∷ 76 ∷ 76 ∷ []) ≡ false)
unfolding names all_name lowered lower same_bytes bytes
not_all = (refl, refl, refl, refl, refl)

-- `SESSION` in no other case
pub not_session :
    (same_bytes (bytes "SESSION1") session_name ≡ false) × (same_bytes (bytes "SESSIO") session_name ≡ false) × (same_bytes (bytes "Session") session_name ≡ false)
    × (same_bytes (bytes "session") session_name ≡ false)
unfolding session_name same_bytes bytes
not_session = (refl, refl, refl, refl)

-- `A` and `Z` go to `a` and `z`; the bytes beside the letters stay: `@` `[` GRAVE `{`; so do a lower case letter and a byte past 7Fh
pub lowers : (lower 64 ≡ 64) × (lower 65 ≡ 97) × (lower 90 ≡ 122) × (lower 91 ≡ 91) × (lower 96 ≡ 96) × (lower 97 ≡ 97) × (lower 123 ≡ 123) × (lower 196 ≡ 196)
unfolding lower
lowers = (refl, refl, refl, refl, refl, refl, refl, refl)

-- `show` in any case; `[D` and `{d` are no verb
pub verbs :
    (verb_of (bytes "show") ≡ some 10) × (verb_of (bytes "SHOW") ≡ some 10) × (verb_of (bytes "sHoW") ≡ some 10) × (verb_of (bytes "[D") ≡ none)
    × (verb_of (bytes "{d") ≡ none)
unfolding verb_of find verb_names names lowered lower same_bytes bytes
verbs = (refl, refl, refl, refl, refl)

-- `d`, `D` and `display` are display, `destination` is destination, and the empty text is no option; keep's argument has a form of its own, level's another
pub options :
    (option_of (bytes "d") ≡ some 3) × (option_of (bytes "D") ≡ some 3) × (option_of (bytes "display") ≡ some 3) × (option_of (bytes "dEstinatioN") ≡ some 2)
    × (option_of [] ≡ none) × (kind_of 7 ≡ Keep) × (kind_of 8 ≡ Level)
unfolding option_of find long_names short_names names lowered lower same_bytes bytes kind_of kinds
options = (refl, refl, refl, refl, refl, refl, refl)

-- `all` at 1 of six bytes: the byte before it and those past it stay
pub written_between : sets (bytes "......") 1 (option_name 1) ≡ bytes ".all.."
unfolding option_name long_names bytes
written_between = refl

-- there is no kind 8
pub no_kind_8 : body_of 8 ≡ none
unfolding body_of bodies
no_kind_8 = refl
