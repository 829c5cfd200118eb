-- Reading a reply: its verdict, and its records, whose fields of 2 bytes, high first, point into the text.
use Rattle.std.specs.Prelude.{ℕ, ◌+◌, List, [], ◌∷◌, ◌++◌, map, cond, length, ltb}
use Rattle.text.specs.Room.{high_low, fitted, filled}
use Rattle.replies.specs.declared.Form.{Form}
use Rattle.replies.specs.declared.Form.TheVariants.{Nothing, Item, Group, Close, End, Wrong, Open}
use Rattle.replies.specs.Lines.{Line, lines_of}
use Rattle.replies.specs.Order.{Turn, passes, opens, closes, ends, wrong, unclosed, judge, judged, kept}
use Rattle.std.specs.Prelude.{Result, Err}
use Rattle.text.specs.Room.{refusal_at}
use Rattle.text.specs.declared.Refusal.{Refusal}

abbrev pub turn_by : Form → Turn
turn_by (Nothing n) = passes
turn_by (Item k v) = passes
turn_by (Group n) = opens
turn_by Close = closes
turn_by End = ends
turn_by Wrong = wrong
turn_by Open = unclosed

abbrev pub turn_of : Line → ℕ × Turn
turn_of l = (l.place, turn_by l.form)

-- kind 64 item: keyword and value, each position and length; 65 group, its type alike; 66 `endgroup`; 67 `endoutput`
abbrev pub record_by : ℕ → Form → List ℕ
record_by p (Nothing n) = []
record_by p (Item k v) = 64 ∷ (high_low p ++ (high_low k ++ (high_low (p + k + 1) ++ high_low v)))
record_by p (Group n) = 65 ∷ (high_low (p + 11) ++ high_low n)
record_by p Close = 66 ∷ []
record_by p End = 67 ∷ []
record_by p Wrong = []
record_by p Open = []

abbrev pub record_of : Line → List ℕ
record_of l = record_by l.place l.form

unfoldable pub records_of : List Line → List ℕ
records_of [] = []
records_of (l ∷ ls) = record_of l ++ records_of ls

-- A text of over 65,535 bytes is 21 at 0; then the first refusal in reading order; 19 is last.
unfoldable pub verdict_of : List ℕ → Result Unit Refusal
verdict_of s = cond (ltb 65535 (length s)) (Err (refusal_at 21 0)) (judge 0 (length s) (map turn_of (lines_of s)))

unfoldable pub read_answer : ℕ → List ℕ → Result ℕ Refusal
read_answer room s = judged (verdict_of s) (fitted room (records_of (lines_of s)))

unfoldable pub read_room : List ℕ → List ℕ → List ℕ
read_room room s = kept (verdict_of s) room (filled room (records_of (lines_of s)))
