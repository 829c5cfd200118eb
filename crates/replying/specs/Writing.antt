-- Writing a reply: each item, group and end as its line, ended by LF.
use Rattle.std.specs.Prelude.{ℕ, List, [], ◌∷◌, ◌++◌, map, cond, ◌||◌, length, ltb}
use Rattle.std.proofs.Math.Option.{Option, none, some}
use Rattle.text.specs.Lists.{any_of}
use Rattle.text.specs.Room.{fitted, filled}
use Rattle.terms.specs.Signs.{raws}
use Rattle.terms.specs.Quotes.{quotes}
use Rattle.forms.specs.Forms.{is_name}
use Rattle.replies.specs.Lines.{begins, is_end, is_quote, begin_word, close_word, end_word, is_keyword}
use Rattle.replies.specs.Order.{Turn, passes, opens, closes, ends, wrong, judge, judged, kept}
use Rattle.replies.specs.Items.{Told, item, group, endgroup, endoutput, unless_flawed}
use Rattle.replying.specs.Records.{Asked, asked_of}
use Rattle.std.specs.Prelude.{Result, Ok, Err}
use Rattle.text.specs.Room.{refusal_at}
use Rattle.text.specs.declared.Refusal.{Refusal}

-- ---- lines

-- quoted exactly when it holds CR or LF or begins with `"`: inside, GRAVE stands before `"` and GRAVE
unfoldable pub value_line : List ℕ → List ℕ
value_line v = cond (any_of is_end v || begins is_quote v) (raws (quotes v)) v

unfoldable pub line_of : Told → List ℕ
line_of (item k v) = k ++ (61 ∷ (value_line v ++ (10 ∷ [])))
line_of (group n) = begin_word ++ (61 ∷ (n ++ (10 ∷ [])))
line_of endgroup = close_word ++ (10 ∷ [])
line_of endoutput = end_word ++ (10 ∷ [])

unfoldable pub writing_of : List Told → List ℕ
writing_of [] = []
writing_of (t ∷ ts) = line_of t ++ writing_of ts

-- ---- what is refused

-- what an item, a group or an end does; a keyword and a group's type must be names, and the three words are no keywords
abbrev pub turn_told : Told → Turn
turn_told (item k v) = cond (is_keyword k) passes wrong
turn_told (group n) = cond (is_name n) opens wrong
turn_told endgroup = closes
turn_told endoutput = ends

abbrev pub turn_or_wrong : Option Told → Turn
turn_or_wrong none = wrong
turn_or_wrong (some t) = turn_told t

abbrev pub turn_asked : Asked → ℕ × Turn
turn_asked a = (a.place, turn_or_wrong a.told)

-- what the records tell
abbrev pub with_told : Option Told → List Told → List Told
with_told none ts = ts
with_told (some t) ts = t ∷ ts

unfoldable pub told_asked : List Asked → List Told
told_asked [] = []
told_asked (a ∷ as') = with_told a.told (told_asked as')

-- A lent text of over 65,535 bytes is 21 at 0; then record by record, the first trouble; then 21 at 0 for over 65,535 bytes written; 19 is last.
unfoldable pub asked_verdict : List ℕ → List ℕ → Result Unit Refusal
asked_verdict r t = cond (ltb 65535 (length t)) (Err (refusal_at 21 0)) (judge 0 (length r) (map turn_asked (asked_of r t)))

abbrev pub verdict_then : Result Unit Refusal → Result Unit Refusal → Result Unit Refusal
verdict_then (Ok u) v = v
verdict_then (Err e) v = Err e

unfoldable pub size_verdict : List ℕ → Result Unit Refusal
size_verdict w = cond (ltb 65535 (length w)) (Err (refusal_at 21 0)) (Ok tt)

unfoldable pub written_by : List ℕ → List ℕ → List ℕ
written_by r t = writing_of (told_asked (asked_of r t))

unfoldable pub write_verdict : List ℕ → List ℕ → Result Unit Refusal
write_verdict r t = verdict_then (asked_verdict r t) (size_verdict (written_by r t))

unfoldable pub write_answer : ℕ → List ℕ → List ℕ → Result ℕ Refusal
write_answer room r t = judged (write_verdict r t) (fitted room (written_by r t))

unfoldable pub write_room : List ℕ → List ℕ → List ℕ → List ℕ
write_room room r t = kept (write_verdict r t) room (filled room (written_by r t))

-- what the records say where they are accepted: the items that a reply of theirs says
unfoldable pub asks_of : List ℕ → List ℕ → Option (List Told)
asks_of r t = unless_flawed (write_verdict r t) (told_asked (asked_of r t))
