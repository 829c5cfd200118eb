-- From bytes to lines: the lines of a whole capture and what its end says, with no buffer, no calls and no state of the code.
use Rattle.std.specs.Prelude.{ℕ, Bool, true, false, not, ◌&&◌, ◌||◌, cond, length, take, ltb, eqb}
use mathlib.Core.List.{List, [], ◌∷◌, ◌++◌, foldl}

-- ---- bytes: a CR is 13, an LF 10, a GRAVE 96. A quote is a byte as any other: it holds no line open

pub data ByteKind : Type 0 where
  CR LF GRAVE plain : ByteKind

unfoldable pub byte_kind : ℕ → ByteKind
byte_kind x = cond (eqb x 13) CR (cond (eqb x 10) LF (cond (eqb x 96) GRAVE plain))

abbrev pub is_plain_byte : ByteKind → Bool
is_plain_byte CR = false
is_plain_byte LF = false
is_plain_byte GRAVE = false
is_plain_byte plain = true

-- ---- a line at its end: it has 0 to 1,024 bytes after joining; a longer one is refused as 1 at 1,024, and of it the first 1,024 bytes are kept

pub data Given : Type 0 where
  line : List ℕ → Given
  -- its number, its place, and the bytes kept
  refused : ℕ → ℕ → List ℕ → Given

unfoldable pub line_or_refused : List ℕ → Given
line_or_refused t = cond (ltb 1024 (length t)) (refused 1 1024 (take 1024 t)) (line t)

-- ---- a line that has not ended: its joined text, whether a GRAVE waits for the byte that it escapes, whether the last byte was a CR

pub record Open : Type 0 where
  pub text : List ℕ
  pub waits : Bool
  pub was_cr : Bool

abbrev pub open' : List ℕ → Bool → Bool → Open
open' t g r = record { text = t; waits = g; was_cr = r }

abbrev pub nothing_open : Open
nothing_open = open' [] false false

-- ---- what one byte leaves, and what it gives

pub record Next : Type 0 where
  pub left : Open
  pub given : List Given

-- the line goes on
abbrev pub goes_on : List ℕ → Bool → Bool → Next
goes_on t g r = record { left = open' t g r; given = [] }

-- the line ends
abbrev pub ends : List ℕ → Bool → Next
ends t r = record { left = open' [] false r; given = line_or_refused t ∷ [] }

-- by the kind of the byte, whether a GRAVE waits, and whether the last byte was a CR
abbrev pub next_by : ByteKind → Bool → Bool → ℕ → List ℕ → Next
-- a CR is an end of line, and so is an LF; an LF directly after a CR is dropped
next_by CR false r x t = ends t true
next_by LF false false x t = ends t false
next_by LF g true x t = goes_on t g false
-- a GRAVE that waits, directly before an end of line, joins: both vanish and the line goes on
next_by CR true r x t = goes_on t false true
next_by LF true false x t = goes_on t false false
-- pairs run from the left: a GRAVE that none before it has escaped waits, and escapes the byte after it, also a GRAVE
next_by GRAVE false r x t = goes_on t true false
next_by GRAVE true r x t = goes_on (t ++ (96 ∷ x ∷ [])) false false
next_by plain true r x t = goes_on (t ++ (96 ∷ x ∷ [])) false false
-- any other byte is the line's next
next_by plain false r x t = goes_on (t ++ (x ∷ [])) false false

unfoldable pub next_open : Open → ℕ → Next
next_open o x = next_by (byte_kind x) o.waits o.was_cr x o.text

-- ---- the lines of a capture, in order

unfoldable pub lines_from : Open → List ℕ → List Given
lines_from o [] = []
lines_from o (x ∷ xs) = (next_open o x).given ++ lines_from (next_open o x).left xs

unfoldable pub lines_of : List ℕ → List Given
lines_of c = lines_from nothing_open c

-- ---- the end of a capture: `cut` where the joined text is not empty, however long, or a GRAVE waits; otherwise nothing

pub data Ending : Type 0 where
  cut nothing : Ending

unfoldable pub open_after : Open → List ℕ → Open
open_after o c = foldl (λ (o : Open) (x : ℕ). (next_open o x).left) o c

unfoldable pub ending_from : Open → List ℕ → Ending
ending_from o c = cond (ltb 0 (length (open_after o c).text) || (open_after o c).waits) cut nothing

unfoldable pub ending_of : List ℕ → Ending
ending_of c = ending_from nothing_open c

-- ---- where trust begins again: a byte that is no GRAVE, CR or LF, and then a CR or LF

unfoldable pub trusted : ℕ → ℕ → Bool
trusted x e = not (eqb x 96) && not (eqb x 13) && not (eqb x 10) && (eqb e 13 || eqb e 10)

-- what is then open: a line with nothing in it, and whether that end was a CR
unfoldable pub fresh_after : ℕ → Open
fresh_after e = open' [] false (eqb e 13)

-- ---- what holds of every line given: no GRAVE is left waiting where pairs run from the left, and no CR and no LF is in it

unfoldable pub waits_after : Bool → List ℕ → Bool
waits_after g [] = g
waits_after g (x ∷ xs) = waits_after (not g && eqb x 96) xs

unfoldable pub dangling : List ℕ → Bool
dangling t = waits_after false t

unfoldable pub holds_end : List ℕ → Bool
holds_end [] = false
holds_end (x ∷ xs) = eqb x 13 || eqb x 10 || holds_end xs
