-- The text of a reply's records: each as its kind's word and its fields in decimal, in the order of the fields, one line each, as a lister writes its own.
use Rattle.std.specs.Prelude.{ℕ, ◌-◌, List, [], ◌∷◌, ◌++◌, cond, length, get_or, drop, leb, ltb}
use Rattle.std.proofs.Math.Option.{Option, none, some}
use Rattle.text.specs.Bytes.{bytes}
use Rattle.text.specs.Decimal.{digits}
use Rattle.text.specs.Room.{be16}
use Rattle.words.specs.Words.{reply_record_len}
use Rattle.wording.specs.Words.{Form, form, record_text}

-- 64 item: keyword position, length, value position, length. 65 group: type position, length. 66 `endgroup`, 67 `endoutput`: no body.
unfoldable pub reply_forms : List (Option Form)
reply_forms = form (bytes "item") (2 ∷ 2 ∷ 2 ∷ 2 ∷ []) ∷ form (bytes "group") (2 ∷ 2 ∷ []) ∷ form (bytes "endgroup") [] ∷ form (bytes "endoutput") [] ∷ []

unfoldable pub reply_form : ℕ → Option Form
reply_form k = cond (ltb k 64) none (get_or reply_forms (k - 64) none)

abbrev pub text_by : Option Form → List ℕ → List ℕ
text_by none s = []
text_by (some f) s = record_text f s

-- the text of the record that some bytes begin with; none where a reply has no such kind, or it is cut
unfoldable pub reply_text : List ℕ → List ℕ
reply_text r = cond (leb (reply_record_len (get_or r 0 0)) (length r)) (text_by (reply_form (get_or r 0 0)) (drop 1 r)) []

-- ---- as the code goes: the numbers that stand in some bytes, two to each, a space before each

unfoldable pub numbers_text : List ℕ → List ℕ
numbers_text [] = []
numbers_text (high ∷ []) = []
numbers_text (high ∷ low ∷ s) = 32 ∷ (digits (be16 high low) ++ numbers_text s)

abbrev pub numbers_line : List ℕ → List ℕ
numbers_line s = numbers_text s ++ (10 ∷ [])

abbrev pub line_by : List ℕ → List ℕ → List ℕ
line_by word s = word ++ numbers_line s
