-- How a text is written in quotes: what canonical writing and the writer of replies share.
use Rattle.std.specs.Prelude.{ℕ, List, [], ◌∷◌, cond}
use Rattle.text.specs.Bytes.{one_of}
use Rattle.terms.specs.Signs.{Sign, quote, quoted, quoted_escaped, two}

-- in quotes, with GRAVE before GRAVE and `"`
unfoldable pub in_quotes : ℕ → Sign
in_quotes b = cond (one_of two b) (quoted_escaped b) (quoted b)

-- the rest of a quoted string, after its opening quote
unfoldable pub closing : List ℕ → List Sign
closing [] = quote ∷ []
closing (b ∷ s) = in_quotes b ∷ closing s

-- a text in quotes
abbrev pub quotes : List ℕ → List Sign
quotes s = quote ∷ closing s
