-- Worked examples, by computation.
use mathlib.Core.Path.{◌≡◌, refl}
use mathlib.Core.List.{[], ◌∷◌}
use Rattle.text.specs.Bytes.{bytes}
use Rattle.text.specs.Decimal.{width, digits}
use Rattle.words.specs.Words.{verb_names, verb_name, long_names, option_name, kinds, kind_of}
use Rattle.forms.specs.Targets.{session}
use Rattle.reading.specs.declared.Shown.TheVariants as item
use Rattle.reading.specs.Command.{verb, target}
use Rattle.reading.specs.Reading.{read}
use Rattle.explaining.specs.Words.{refusal_words, words_of}
use Rattle.explaining.specs.Explained.{visible_byte, visible, part_text, parts_text, refused_text, blank_text, explained_in}

-- the bytes beside 20h and 7Eh, and the ends of the range of a byte; a backslash is as it is
pub bytes_visible : visible (31 ∷ 32 ∷ 126 ∷ 127 ∷ 0 ∷ 255 ∷ 92 ∷ []) ≡ bytes "\\x1F ~\\x7F\\x00\\xFF\\"
unfolding visible visible_byte bytes
bytes_visible = refl

-- each kind of part; an option that takes an argument is told with it, and with its long name
pub parts_told :
    (part_text (item.Verb 10) (bytes "SHOW") ≡ bytes "  verb show\n") × (part_text (item.Option 5) (bytes "-f") ≡ bytes "  option force\n")
    × (part_text (item.Option 8) (bytes "-l") ≡ []) × (part_text (item.Argument 8) (bytes "2") ≡ bytes "  option level: 2\n")
    × (part_text item.Target (bytes "/system1/cpu*") ≡ bytes "  target /system1/cpu*\n")
unfolding visible visible_byte verb_name verb_names option_name long_names kind_of kinds bytes
parts_told = (refl, refl, refl, refl, refl)

-- a name alone, and the two operators
pub properties_told :
    (part_text (item.Property 4 0) (bytes "Name") ≡ bytes "  property Name\n") × (part_text (item.Property 4 1) (bytes "Name=\"a b\"") ≡ bytes "  property Name = \"a b\"\n")
    × (part_text (item.Property 4 2) (bytes "Name==x") ≡ bytes "  property Name == x\n")
unfolding visible visible_byte bytes
properties_told = (refl, refl, refl)

-- a line of two parts, and a blank one
pub lines_told_lem :
    (explained_in (bytes " cd SESSION") (read (record { start = 1; len = 2; item = verb 1 } ∷ record { start = 4; len = 7; item = target session } ∷ []))
    ≡ bytes " cd SESSION\n  verb cd\n  target SESSION\n")
    × (explained_in (bytes "  ") (read []) ≡ bytes "  blank\n")
unfolding visible visible_byte parts_text blank_text verb_name verb_names bytes
lines_told_lem = (refl, refl)

-- the mark stands under the place, and behind four columns for each byte of noise before it
pub refusals_told :
    (refused_text (bytes "reset \"os1") 4 6 ≡ bytes "reset \"os1\n      ^\n  refused as 4 at 6: the quote that opens there is not closed\n")
    × (refused_text (9 ∷ 200 ∷ bytes "cd") 17 3 ≡ bytes "\\x09\\xC8cd\n         ^\n  refused as 17 at 3: `..` at the root\n")
    × (refused_text (bytes "show") 5 4 ≡ bytes "show\n    ^\n  refused as 5 at 4: the 65th term starts there\n")
unfolding refused_text visible visible_byte digits width words_of refusal_words bytes
refusals_told = (refl, refl, refl)
