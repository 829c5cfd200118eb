-- The order of groups and of the end, one for lines that are read and for records that are written: refusals 21 to 25, the first in reading order, 25 last.
use Rattle.std.specs.Prelude.{ℕ, ◌+◌, ◌-◌, List, [], ◌∷◌, cond, eqb, leb}
use Rattle.std.specs.Prelude.{Result, Ok, Err}
use Rattle.text.specs.Room.{refusal_at}
use Rattle.text.specs.declared.Refusal.{Refusal}

-- what a line or a record does: nothing to groups, opens one, closes one, ends the reply; or it is of no such form; or its quote is never closed
pub data Turn : Type 0 where
  passes opens closes ends wrong unclosed : Turn

-- At a depth, at a place, in a text that ends at `end`: 21 no such form, 22 `endgroup` without a group, 23 depth over 8, 24 `endoutput` in an open group,
-- 25 an open quote, at the end. `stop` gives a refusal, `done` the end, `on` goes on at a depth.
abbrev pub on_turn : {A : Type 0} → Turn → (depth end place : ℕ) → (stop : ℕ → ℕ → A) → (done : A) → (on : ℕ → A) → A
on_turn passes d e p stop done on = on d
on_turn opens d e p stop done on = cond (leb 8 d) (stop 23 p) (on (d + 1))
on_turn closes d e p stop done on = cond (eqb d 0) (stop 22 p) (on (d - 1))
on_turn ends d e p stop done on = cond (eqb d 0) done (stop 24 p)
on_turn wrong d e p stop done on = stop 21 p
on_turn unclosed d e p stop done on = stop 25 e

-- a verdict that refuses, by its number and its place
abbrev pub flawed : ℕ → ℕ → Result Unit Refusal
flawed n p = Err (refusal_at n p)

-- 25 too where all ends without `endoutput`
unfoldable pub judge : ℕ → ℕ → List (ℕ × Turn) → Result Unit Refusal
judge d e [] = flawed 25 e
judge d e (l ∷ ls) = on_turn l.1 d e l.0 flawed (Ok tt) (λ n. judge n e ls)

-- what is answered by a verdict: its refusal, or else this; and what the room then holds
abbrev pub judged : Result Unit Refusal → Result ℕ Refusal → Result ℕ Refusal
judged (Ok u) a = a
judged (Err e) a = Err e

abbrev pub kept : Result Unit Refusal → List ℕ → List ℕ → List ℕ
kept (Ok u) room full = full
kept (Err e) room full = room
