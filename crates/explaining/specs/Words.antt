-- What to look at where a line is refused, by the refusal's number: README.md's words.
use Rattle.std.specs.Prelude.{ℕ, List, [], ◌∷◌, get_or}
use Rattle.text.specs.Bytes.{bytes}

-- numbered 1 to 20; 15 to 18 come from a tree and 19 from a room, and no line of a capture gets them
unfoldable pub refusal_words : List (List ℕ)
refusal_words =
    bytes "the line has over 1,024 bytes after joining: a missing end of line, or noise"
    ∷ bytes "the byte there is outside 20h to 7Eh: noise, a tab, a key that sends an escape sequence"
    ∷ bytes "the line's last byte is a backtick that escapes nothing (only a line handed in directly; in a capture it would have joined)"
    ∷ bytes "the quote that opens there is not closed"
    ∷ bytes "the 65th term starts there"
    ∷ bytes "no such verb; upper or lower case makes no difference, a quote in it does"
    ∷ bytes "no such option; `-level=2` is one too: the argument is the next term"
    ∷ bytes "this option was given before, by its long or its short name, in whichever case"
    ∷ bytes "an option that takes an argument has none, or the next term starts with `-`"
    ∷ bytes "the argument is of its form up to there and no further: `02` for a number, a quote in a source; where nothing follows, more is wanted"
    ∷ bytes "an option after the target or a property: options come first"
    ∷ bytes "the target is a path up to there and no further: a segment is `.`, `..`, or letters and a number; nor is it `SESSION`, which stays in capitals; where nothing follows, more is wanted"
    ∷ bytes "the property is `name`, `name=value` or `name==value` up to there and no further: a bare `,` `(` `)` `=` or `\"` inside a value wants quotes or a backtick; where nothing follows, more is wanted"
    ∷ bytes "the 33rd property starts there"
    ∷ bytes "a record of the lent tree is malformed, from that byte on"
    ∷ bytes "the default target, or the node asked for, is no node of the tree"
    ∷ bytes "`..` at the root"
    ∷ bytes "no child of that tag and number; a tag's letters have the case that the tree has"
    ∷ bytes "the lent room is too small; for joining, a bad state or a line buffer that is not of 1,024 bytes"
    ∷ bytes "the option there is known, but this verb can't have it: `cd -force`"
    ∷ []

-- none for another number
unfoldable pub words_of : ℕ → List ℕ
words_of n = get_or ([] ∷ refusal_words) n []
