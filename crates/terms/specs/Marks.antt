-- Tests of a text by its signs: has it a quote mark, and is its first sign this bare byte?
use Rattle.std.specs.Prelude.{ℕ, List, [], ◌∷◌, Bool, true, false}
use Rattle.text.specs.Lists.{any_of}
use Rattle.terms.specs.declared.Mode.TheVariants.{Out}
use Rattle.terms.specs.Signs.{Sign, bare, escaped, quote, quoted, quoted_escaped, is_bare, signs}

-- an unescaped `"`
abbrev pub is_mark : Sign → Bool
is_mark (bare b) = false
is_mark (escaped b) = false
is_mark quote = true
is_mark (quoted b) = false
is_mark (quoted_escaped b) = false

unfoldable pub has_mark : List ℕ → Bool
has_mark s = any_of is_mark (signs Out s)

-- a text that is empty starts with nothing
abbrev pub first_bare : ℕ → List Sign → Bool
first_bare n [] = false
first_bare n (x ∷ xs) = is_bare n x

unfoldable pub starts_bare : ℕ → List ℕ → Bool
starts_bare n s = first_bare n (signs Out s)
