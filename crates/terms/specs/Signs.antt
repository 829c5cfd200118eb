-- Terms and escapes, first half: a line is a list of signs, each with the bytes that it is and the bytes that it stands for.
use Rattle.std.specs.Prelude.{ℕ, List, [], ◌∷◌, ◌++◌, map, Bool, true, false, cond, not, ◌&&◌, eqb}
use Rattle.text.specs.Bytes.{bytes, one_of}
use Rattle.text.specs.Lists.{any_of}
use Rattle.terms.specs.declared.Mode.{Mode}
use Rattle.terms.specs.declared.Mode.TheVariants.{Out, OutGrave, In, InGrave}

-- A sign stands for one byte, or is a quote mark and stands for none. "Bare" means neither escaped nor quoted; a quote mark is a bare `"`.
pub data Sign : Type 0 where
  bare : ℕ → Sign
  escaped : ℕ → Sign
  quote : Sign
  quoted : ℕ → Sign
  quoted_escaped : ℕ → Sign

-- Outside quotes GRAVE followed by one of these twelve stands for that byte, plain.
unfoldable pub twelve : List ℕ
twelve = bytes " `\",=-/\\.()*"

-- Inside quotes only GRAVE and `"` can be escaped.
unfoldable pub two : List ℕ
two = bytes "`\""

-- ---- as the paper says it, with a look at the byte after a GRAVE; q says whether a quote is open

abbrev pub escapable : Bool → List ℕ
escapable false = twelve
escapable true = two

abbrev pub pair_sign : Bool → ℕ → Sign
pair_sign false b = escaped b
pair_sign true b = quoted_escaped b

-- An unescaped `"` opens or closes a quote.
abbrev pub one_sign : Bool → ℕ → Sign
one_sign false b = cond (eqb b 34) quote (bare b)
one_sign true b = cond (eqb b 34) quote (quoted b)

abbrev pub quote_after : Bool → ℕ → Bool
quote_after q b = cond (eqb b 34) (not q) q

-- Before any other byte, and at the text's end, GRAVE is itself.
unfoldable pub paper_signs : Bool → List ℕ → List Sign
paper_signs q [] = []
paper_signs q (b ∷ []) = one_sign q b ∷ []
paper_signs q (b ∷ c ∷ s) =
    let pair = pair_sign q c ∷ paper_signs q s in
    let one = one_sign q b ∷ paper_signs (quote_after q b) (c ∷ s) in
    cond (eqb b 96 && one_of (escapable q) c) pair one

-- ---- byte by byte, with a mode: what every promise cites. proofs/Paper has it that these are the paper's signs.

-- GRAVE takes the next byte with it, whichever it is: a byte that it can't escape opens and closes no quote.
unfoldable pub after : Mode → ℕ → Mode
after Out b = cond (eqb b 96) OutGrave (cond (eqb b 34) In Out)
after OutGrave b = Out
after In b = cond (eqb b 96) InGrave (cond (eqb b 34) Out In)
after InGrave b = In

unfoldable pub gives : Mode → ℕ → List Sign
gives Out b = cond (eqb b 96) [] (cond (eqb b 34) (quote ∷ []) (bare b ∷ []))
gives OutGrave b = cond (one_of twelve b) (escaped b ∷ []) (bare 96 ∷ bare b ∷ [])
gives In b = cond (eqb b 96) [] (cond (eqb b 34) (quote ∷ []) (quoted b ∷ []))
gives InGrave b = cond (one_of two b) (quoted_escaped b ∷ []) (quoted 96 ∷ quoted b ∷ [])

-- a last GRAVE that escapes nothing
abbrev pub at_end : Mode → List Sign
at_end Out = []
at_end OutGrave = bare 96 ∷ []
at_end In = []
at_end InGrave = quoted 96 ∷ []

unfoldable pub signs : Mode → List ℕ → List Sign
signs m [] = at_end m
signs m (b ∷ s) = gives m b ++ signs (after m b) s

-- ---- what signs are, and what they stand for

-- the bytes of the line that a sign is
abbrev pub raw : Sign → List ℕ
raw (bare b) = b ∷ []
raw (escaped b) = 96 ∷ b ∷ []
raw quote = 34 ∷ []
raw (quoted b) = b ∷ []
raw (quoted_escaped b) = 96 ∷ b ∷ []

unfoldable pub raws : List Sign → List ℕ
raws [] = []
raws (x ∷ xs) = raw x ++ raws xs

-- the bytes that a sign stands for
abbrev pub stands_for : Sign → List ℕ
stands_for (bare b) = b ∷ []
stands_for (escaped b) = b ∷ []
stands_for quote = []
stands_for (quoted b) = b ∷ []
stands_for (quoted_escaped b) = b ∷ []

unfoldable pub stands : List Sign → List ℕ
stands [] = []
stands (x ∷ xs) = stands_for x ++ stands xs

-- is it this bare byte? A quote mark is a bare `"`
abbrev pub is_bare : ℕ → Sign → Bool
is_bare n (bare b) = eqb b n
is_bare n (escaped b) = false
is_bare n quote = eqb 34 n
is_bare n (quoted b) = false
is_bare n (quoted_escaped b) = false

-- bytes that are neither escaped nor quoted
abbrev pub bares : List ℕ → List Sign
bares s = map bare s

-- the bytes that a text stands for, and whether it has a bare byte of this kind
unfoldable pub meant : List ℕ → List ℕ
meant s = stands (signs Out s)

unfoldable pub has_bare : ℕ → List ℕ → Bool
has_bare n s = any_of (is_bare n) (signs Out s)
