-- The joiner's state, and what one byte does to it and to the line buffer of 1,024 bytes.
use Rattle.std.specs.Prelude.{ℕ, ◌+◌, Bool, true, false, not, ◌&&◌, ◌||◌, cond, set, ltb, leb}
use mathlib.Core.List.{List, [], ◌∷◌, foldl}
use Rattle.joiner.specs.declared.Joiner.{Joiner}
use Rattle.joiner.specs.declared.Stepped.{Stepped}
use Rattle.joiner.specs.Lines.{ByteKind, CR, LF, GRAVE, plain, byte_kind}
use Rattle.std.specs.Prelude.{Result, Ok, Err, Option, Some, None}
use Rattle.text.specs.Room.{refusal_at}
use Rattle.text.specs.declared.Refusal.{Refusal}

-- a state by its parts: the bytes held, whether a GRAVE waits, whether the last byte was a CR, whether the line is too long
abbrev pub st : ℕ → Bool → Bool → Bool → Joiner
st h g r o = record { held = h; grave = g; cr = r; over = o }

-- the state before the first byte
abbrev pub start : Joiner
start = st 0 false false false

-- a state that some capture leads to: too long only with a full buffer, and no GRAVE waits directly after a CR
unfoldable pub reachable : Joiner → Bool
reachable s = leb s.held 1024 && (not s.over || leb 1024 s.held) && not (s.grave && s.cr)

-- one byte more: it is counted where there is room, and otherwise the line is too long
unfoldable pub more : ℕ → ℕ
more h = cond (ltb h 1024) (h + 1) h

abbrev pub pushed : Joiner → Joiner
pushed s = st (more s.held) s.grave s.cr (leb 1024 s.held || s.over)

-- several bytes more; and the buffer after them: past its end nothing is written
abbrev pub pushes : Joiner → List ℕ → Joiner
pushes s [] = s
pushes s (x ∷ xs) = pushes (pushed s) xs

abbrev pub stored : ℕ → List ℕ → List ℕ → List ℕ
stored h b [] = b
stored h b (x ∷ xs) = stored (more h) (set b h x) xs

-- what a byte does: the next state, the bytes that the line gets, and the line that it ends
pub record Effect : Type 0 where
  pub state : Joiner
  pub put : List ℕ
  pub out : Result (Option ℕ) Refusal

abbrev pub line_of : Bool → ℕ → Result (Option ℕ) Refusal
line_of false h = Ok (Some h)
line_of true h = Err (refusal_at 1 1024)

-- an end of line: with a GRAVE before it both vanish and the line goes on; otherwise the line is given, or refused
abbrev pub end_state : Bool → Bool → Joiner → Joiner
end_state true r s = st s.held false r s.over
end_state false r s = st 0 false r false

abbrev pub end_out : Bool → Joiner → Result (Option ℕ) Refusal
end_out true s = Ok None
end_out false s = line_of s.over s.held

abbrev pub end_step : Bool → Joiner → Effect
end_step r s = record { state = end_state s.grave r s; put = []; out = end_out s.grave s }

-- the line gets these bytes
abbrev pub gets : List ℕ → Joiner → Effect
gets xs s = record { state = pushes (st s.held false false s.over) xs; put = xs; out = Ok None }

-- nothing but the flags changes: whether a GRAVE waits is as given
abbrev pub marks : Bool → Joiner → Effect
marks g s = record { state = st s.held g false s.over; put = []; out = Ok None }

-- by the kind of the byte, whether a GRAVE waits, and whether the last byte was a CR
abbrev pub step_by : ByteKind → Bool → Bool → ℕ → Joiner → Effect
step_by CR g r x s = end_step true s
step_by LF g true x s = marks g s
step_by LF g false x s = end_step false s
step_by GRAVE false r x s = marks true s
step_by GRAVE true r x s = gets (96 ∷ x ∷ []) s
step_by plain false r x s = gets (x ∷ []) s
step_by plain true r x s = gets (96 ∷ x ∷ []) s

unfoldable pub byte_step : Joiner → ℕ → Effect
byte_step s x = step_by (byte_kind x) s.grave s.cr x s

-- the state after a capture, from a state
unfoldable pub state_after : Joiner → List ℕ → Joiner
state_after s c = foldl (λ (s : Joiner) (x : ℕ). (byte_step s x).state) s c

-- a step as the code has it
abbrev pub stepped_of : Effect → Stepped
stepped_of t = record { state = t.state; outcome = t.out }
