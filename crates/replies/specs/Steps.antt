-- The reading as the code goes: a line by the word that it begins with; then line by line, each record written behind those before it.
use Rattle.std.specs.Prelude.{ℕ, ◌+◌, ◌-◌, ◌*◌, ◌<◌, ◌≤◌, List, [], ◌∷◌, cond, length, drop}
use Rattle.std.proofs.Math.Option.{Option, none, some}
use Rattle.std.proofs.lemmas.List.Edits.{sets}
use Rattle.text.specs.Bytes.{same_bytes}
use Rattle.text.specs.Lists.{up_to}
use Rattle.replies.specs.declared.Form.{Form}
use Rattle.replies.specs.declared.Form.TheVariants.{Close, End, Wrong}
use Rattle.replies.specs.declared.Step.{Step}
use Rattle.replies.specs.declared.Step.TheVariants as steps
use Rattle.replies.specs.declared.Stand.{Stand}
use Rattle.replies.specs.declared.Stand.TheVariants as stands
use Rattle.replies.specs.Lines.{begins, is_end, is_equals, line_ends, begin_word, close_word, end_word, is_keyword, group_form, item_form, Line, lines_from}
use Rattle.replies.specs.Order.{on_turn}
use Rattle.replies.specs.Reading.{turn_by, record_of}
use Rattle.std.specs.Prelude.{Result, Ok, Err, Some, None}
use Rattle.std.specs.Prelude as std
use Rattle.text.specs.Room.{refusal_at}
use Rattle.text.specs.declared.Refusal.{Refusal}

-- ---- a line

-- a line that is one word
abbrev pub whole_form : List ℕ → Form
whole_form w = cond (same_bytes w end_word) End (cond (same_bytes w close_word) Close Wrong)

-- a word of n bytes and an `=`, then v
abbrev pub keyed_form : ℕ → List ℕ → List ℕ → Form
keyed_form n w v = cond (same_bytes w begin_word) (group_form (up_to is_end v)) (cond (is_keyword w) (item_form n v) Wrong)

-- a word, then r
abbrev pub word_form : ℕ → List ℕ → List ℕ → Form
word_form n w r = cond (line_ends r) (whole_form w) (cond (begins is_equals r) (keyed_form n w (drop 1 r)) Wrong)

-- where a quote closes, as the code answers it
abbrev pub closed_by : Option ℕ → std.Option ℕ
closed_by none = None
closed_by (some n) = Some n

-- ---- line by line

pub record Ran : Type 0 where
  pub answer : Result ℕ Refusal
  pub room : List ℕ

abbrev pub ran : Result ℕ Refusal → List ℕ → Ran
ran a r = record { answer = a; room = r }

-- the lines that are left, at a depth, where w bytes of records stand in the room: how many there are in the end, or the refusal; and the room as far as it was
-- written
unfoldable pub run : ℕ → ℕ → ℕ → List ℕ → List Line → Ran
run d e w room [] = ran (Err (refusal_at 25 e)) room
run d e w room (l ∷ ls) =
    let more = sets room w (record_of l) in
    let next = w + length (record_of l) in
    on_turn (turn_by l.form) d e l.place (λ n p. ran (Err (refusal_at n p)) room) (ran (Ok next) more) (λ n. run n e next more ls)

-- from a place of the text on
abbrev pub run_at : List ℕ → ℕ → ℕ → ℕ → List ℕ → Ran
run_at s at d w room = run d (length s) w room (lines_from 0 at (drop at s))

-- what is left after a line
abbrev pub after_line : List ℕ → ℕ → Result Step Refusal → List ℕ → Ran
after_line s d (Ok (steps.Next n w)) room = run_at s n d w room
after_line s d (Ok (steps.Opened n w)) room = run_at s n (d + 1) w room
after_line s d (Ok (steps.Shut n w)) room = run_at s n (d - 1) w room
after_line s d (Ok (steps.Ended w)) room = ran (Ok w) room
after_line s d (Err e) room = ran (Err e) room

-- a place further on, within the text, with no more records than its bytes can give; a group is opened only below depth 8, and closed only where one is open
abbrev pub Ahead : List ℕ → ℕ → ℕ → Result Step Refusal → Type 0
Ahead s at d (Ok (steps.Next n w)) = (at < n) × (n ≤ length s) × (w ≤ 9 * n)
Ahead s at d (Ok (steps.Opened n w)) = (at < n) × (n ≤ length s) × (w ≤ 9 * n) × (d < 8)
Ahead s at d (Ok (steps.Shut n w)) = (at < n) × (n ≤ length s) × (w ≤ 9 * n) × (1 ≤ d)
Ahead s at d (Ok (steps.Ended w)) = Unit {0}
Ahead s at d (Err e) = Unit {0}

-- the same after a line and the group that it may open
abbrev pub afterwards : List ℕ → ℕ → Result Stand Refusal → List ℕ → Ran
afterwards s d (Ok (stands.Next n w)) room = run_at s n d w room
afterwards s d (Ok (stands.Shut n w)) room = run_at s n (d - 1) w room
afterwards s d (Ok (stands.Ended w)) room = ran (Ok w) room
afterwards s d (Err e) room = ran (Err e) room

abbrev pub Onward : List ℕ → ℕ → ℕ → Result Stand Refusal → Type 0
Onward s at d (Ok (stands.Next n w)) = (at < n) × (n ≤ length s) × (w ≤ 9 * n)
Onward s at d (Ok (stands.Shut n w)) = (at < n) × (n ≤ length s) × (w ≤ 9 * n) × (1 ≤ d)
Onward s at d (Ok (stands.Ended w)) = Unit {0}
Onward s at d (Err e) = Unit {0}

-- the same of a group's lines, which end with its own
abbrev pub Through : List ℕ → ℕ → ℕ → Result Stand Refusal → Type 0
Through s at d (Ok (stands.Next n w)) = ⊥
Through s at d (Ok (stands.Shut n w)) = (at < n) × (n ≤ length s) × (w ≤ 9 * n) × (1 ≤ d)
Through s at d (Ok (stands.Ended w)) = Unit {0}
Through s at d (Err e) = Unit {0}

-- a group that is read to its end is one line more of what is around it
abbrev pub closed_stand : Stand → Stand
closed_stand (stands.Next n w) = stands.Next n w
closed_stand (stands.Shut n w) = stands.Next n w
closed_stand (stands.Ended w) = stands.Ended w
