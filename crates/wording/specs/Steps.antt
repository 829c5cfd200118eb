-- The text of records taken one record at a time, as the code takes it.
use Rattle.std.specs.Prelude.{ℕ, ◌+◌, ◌-◌, List, [], ◌∷◌, cond, length, get_or, drop, eqb, leb, ltb, Result, Ok, Err}
use Rattle.std.proofs.Math.Option.{Option, none, some}
use Rattle.text.specs.Decimal.{digits}
use Rattle.wording.specs.Words.{Worded, worded, unworded, Form, form_of, total, record_text, wording_from}
use Rattle.text.specs.Room.{refusal_at}
use Rattle.text.specs.declared.Refusal.{Refusal}

-- ---- by the form of a kind: its word, its fields; nothing where there is no such kind

abbrev pub word_by : Option Form → List ℕ
word_by none = []
word_by (some f) = f.word

abbrev pub fields_by : Option Form → List ℕ
fields_by none = []
fields_by (some f) = f.fields

-- how long the record is that so many bytes begin with; 0 where there is no such kind or it is cut
abbrev pub len_by : Option Form → ℕ → ℕ
len_by none left = 0
len_by (some f) left = cond (ltb left (1 + total f.fields)) 0 (1 + total f.fields)

-- the text of a record, its kind first
abbrev pub text_by : Option Form → List ℕ → List ℕ
text_by none s = []
text_by (some f) s = record_text f s

unfoldable pub first_text : List ℕ → List ℕ
first_text s = text_by (form_of (get_or s 0 0)) (drop 1 s)

-- a space and a number
abbrev pub field_text : ℕ → List ℕ
field_text n = 32 ∷ digits n

-- a row of widths ends at the first zero
unfoldable pub row_fields : List ℕ → List ℕ
row_fields [] = []
row_fields (w ∷ ws) = let more = w ∷ row_fields ws in cond (eqb w 0) [] more

-- ---- what is told of the records from place p on

unfoldable pub wording_at : ℕ → List ℕ → Worded
wording_at p rs = wording_from (length rs - p) p (drop p rs)

abbrev pub flaw_in : Worded → Result Unit Refusal
flaw_in (worded t) = Ok tt
flaw_in (unworded n p) = Err (refusal_at n p)

abbrev pub worded_text : Worded → List ℕ
worded_text (worded t) = t
worded_text (unworded n p) = []

-- the answer with so many bytes of text before
abbrev pub answer_from : ℕ → ℕ → Worded → Result ℕ Refusal
answer_from at room (worded t) = cond (leb (at + length t) room) (Ok (at + length t)) (Err (refusal_at 19 0))
answer_from at room (unworded n p) = Err (refusal_at n p)

-- the answer where the text does not fit: a flaw comes first
abbrev pub answer_past : Result Unit Refusal → Result ℕ Refusal
answer_past (Ok u) = Err (refusal_at 19 0)
answer_past (Err e) = Err (refusal_at e.number e.place)

-- what hinders it
abbrev pub hindrance_by : Result ℕ Refusal → Result Unit Refusal
hindrance_by (Ok n) = Ok tt
hindrance_by (Err e) = Err (refusal_at e.number e.place)
