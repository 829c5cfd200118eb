-- Rows 1 to 5 of the refusals in the paper's words: when each is given, no earlier one holding, and its place. proofs/RowLaws has it that `lexical_of` gives each exactly then.
use Rattle.std.specs.Prelude.{ℕ, zero, suc, ◌+◌, ◌-◌, ◌<◌, ◌≤◌, ◌≡◌, List, [], ◌∷◌, Bool, true, false, not, length, get_or, eqb}
use Rattle.text.specs.Bytes.{printable}
use Rattle.text.specs.Lists.{all_of, walk}
use Rattle.terms.specs.Signs.{Sign, bare, escaped, quote, quoted, quoted_escaped, raw, paper_signs}
use Rattle.terms.specs.Terms.{Term, terms_of}

-- the signs of a line, as the paper says it
abbrev pub line_signs : List ℕ → List Sign
line_signs line = paper_signs false line

-- a GRAVE that is itself: not escaped, and escaping nothing
abbrev pub is_lone : Sign → Bool
is_lone (bare b) = eqb b 96
is_lone (escaped b) = false
is_lone quote = false
is_lone (quoted b) = eqb b 96
is_lone (quoted_escaped b) = false

-- is the last sign such a GRAVE?
unfoldable pub ends_lone : List Sign → Bool
ends_lone xs = walk (λ (last : Bool) (x : Sign). is_lone x) false xs

-- a quote mark opens or closes a quote; is one open at the end?
abbrev pub turns : Bool → Sign → Bool
turns q (bare b) = q
turns q (escaped b) = q
turns q quote = not q
turns q (quoted b) = q
turns q (quoted_escaped b) = q

unfoldable pub ends_open : List Sign → Bool
ends_open xs = walk turns false xs

-- the place of the last quote mark, which is the opening one where a quote is open: i is the place of the next sign, q the answer so far
abbrev pub marked : Sign → ℕ → ℕ → ℕ
marked (bare b) i q = q
marked (escaped b) i q = q
marked quote i q = i
marked (quoted b) i q = q
marked (quoted_escaped b) i q = q

unfoldable pub last_mark : ℕ → ℕ → List Sign → ℕ
last_mark i q [] = q
last_mark i q (x ∷ xs) = last_mark (i + length (raw x)) (marked x i q) xs

-- where the term stands before which so many stand
unfoldable pub start_of : ℕ → List Term → ℕ
start_of k [] = 0
start_of zero (t ∷ ts) = t.start
start_of (suc k) (t ∷ ts) = start_of k ts

-- 1: line over 1,024 bytes, at 1,024
pub record Row1 (line : List ℕ) (place : ℕ) : Type 0 where
  pub over : 1024 < length line
  pub at : place ≡ 1024

-- 2: a byte outside 20h to 7Eh, at the first such
pub record Row2 (line : List ℕ) (place : ℕ) : Type 0 where
  pub short : length line ≤ 1024
  pub within : place < length line
  pub odd : printable (get_or line place 0) ≡ false
  pub first : (i : ℕ) → i < place → printable (get_or line i 0) ≡ true

-- 3: last byte is an unescaped GRAVE that escapes nothing, at its index
pub record Row3 (line : List ℕ) (place : ℕ) : Type 0 where
  pub short : length line ≤ 1024
  pub clean : all_of printable line ≡ true
  pub lone : ends_lone (line_signs line) ≡ true
  pub at : place ≡ length line - 1

-- 4: line ends in a quote, at the opening quote
pub record Row4 (line : List ℕ) (place : ℕ) : Type 0 where
  pub short : length line ≤ 1024
  pub clean : all_of printable line ≡ true
  pub paired : ends_lone (line_signs line) ≡ false
  pub opened : ends_open (line_signs line) ≡ true
  pub at : place ≡ last_mark 0 0 (line_signs line)

-- 5: over 64 terms, at the start of the 65th
pub record Row5 (line : List ℕ) (place : ℕ) : Type 0 where
  pub short : length line ≤ 1024
  pub clean : all_of printable line ≡ true
  pub paired : ends_lone (line_signs line) ≡ false
  pub closed : ends_open (line_signs line) ≡ false
  pub many : 64 < length (terms_of line)
  pub at : place ≡ start_of 64 (terms_of line)

-- none of them
pub record NoRow (line : List ℕ) : Type 0 where
  pub short : length line ≤ 1024
  pub clean : all_of printable line ≡ true
  pub paired : ends_lone (line_signs line) ≡ false
  pub closed : ends_open (line_signs line) ≡ false
  pub few : length (terms_of line) ≤ 64
