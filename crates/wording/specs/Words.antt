-- The text of records: each as its kind's word and fields in decimal, in the order of the fields, one line each.
use Rattle.std.specs.Prelude.{ℕ, zero, suc, ◌+◌, List, [], ◌∷◌, ◌++◌, cond, length, get_or, drop, ltb, Err, Result}
use Rattle.std.proofs.Math.Option.{Option, none, some}
use Rattle.text.specs.Bytes.{bytes}
use Rattle.text.specs.Decimal.{digits}
use Rattle.text.specs.Room.{be16, fitted, filled, refusal_at}
use Rattle.text.specs.declared.Refusal.{Refusal}

-- the text of some records, or one refusal with its place
pub data Worded : Type 0 where
  worded : List ℕ → Worded
  unworded : ℕ → ℕ → Worded

-- the word of a kind, and how many bytes each of its fields has
pub record Form : Type 0 where
  pub word : List ℕ
  pub fields : List ℕ

abbrev pub form : List ℕ → List ℕ → Option Form
form w f = some (record { word = w; fields = f })

-- 1 verb: number. 2 option: number, argument position, length. 3 target: position, length. 4 property: name position, length, operator, value
-- position, length. 5 refusal: number, place. 6 blank, 7 cut: no body.
unfoldable pub forms : List (Option Form)
forms =
    none
    ∷ form (bytes "verb") (1 ∷ [])
    ∷ form (bytes "option") (1 ∷ 2 ∷ 2 ∷ [])
    ∷ form (bytes "target") (2 ∷ 2 ∷ [])
    ∷ form (bytes "property") (2 ∷ 2 ∷ 1 ∷ 2 ∷ 2 ∷ [])
    ∷ form (bytes "refusal") (1 ∷ 2 ∷ [])
    ∷ form (bytes "blank") []
    ∷ form (bytes "cut") []
    ∷ []

unfoldable pub form_of : ℕ → Option Form
form_of k = get_or forms k none

unfoldable pub total : List ℕ → ℕ
total [] = 0
total (w ∷ ws) = w + total ws

-- a field's number: one byte, or two, high first
abbrev pub field_of : ℕ → List ℕ → ℕ
field_of zero s = 0
field_of (suc zero) s = get_or s 0 0
field_of (suc (suc w)) s = be16 (get_or s 0 0) (get_or s 1 0)

-- a space and a number for each field
unfoldable pub fields_text : List ℕ → List ℕ → List ℕ
fields_text [] s = []
fields_text (w ∷ ws) s = 32 ∷ (digits (field_of w s) ++ fields_text ws (drop w s))

abbrev pub record_text : Form → List ℕ → List ℕ
record_text f s = f.word ++ (fields_text f.fields s ++ (10 ∷ []))

abbrev pub then : List ℕ → Worded → Worded
then t (worded u) = worded (t ++ u)
then t (unworded n p) = unworded n p

-- a record of no such kind, or cut, is bad: 15, at its start
abbrev pub on_form : Option Form → ℕ → List ℕ → (ℕ → List ℕ → Worded) → Worded
on_form none p s f = unworded 15 p
on_form (some g) p s f = cond (ltb (length s) (total g.fields)) (unworded 15 p) (then (record_text g s) (f (p + 1 + total g.fields) (drop (total g.fields) s)))

-- the records from place p on; each has at least one byte, so at most as many records as bytes
unfoldable pub wording_from : ℕ → ℕ → List ℕ → Worded
wording_from zero p s = worded []
wording_from (suc n) p [] = worded []
wording_from (suc n) p (k ∷ s) = on_form (form_of k) p s (λ q r. wording_from n q r)

unfoldable pub wording_of : List ℕ → Worded
wording_of s = wording_from (length s) 0 s

-- what writing that text into lent room answers, and what the room then holds
abbrev pub text_answer : ℕ → Worded → Result ℕ Refusal
text_answer room (worded t) = fitted room t
text_answer room (unworded n p) = Err (refusal_at n p)

abbrev pub text_room : List ℕ → Worded → List ℕ
text_room room (worded t) = filled room t
text_room room (unworded n p) = room
