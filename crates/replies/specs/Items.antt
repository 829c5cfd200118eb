-- What a reply says: its items, each a keyword and the bytes that its value stands for, its groups, and the ends of both, in order.
use Rattle.std.specs.Prelude.{ℕ, ◌+◌, ◌-◌, List, [], ◌∷◌, ◌++◌, Bool, true, false, cond, length, take, drop, eqb}
use Rattle.std.proofs.Math.Option.{Option, none, some}
use Rattle.text.specs.Room.{fitted, filled}
use Rattle.terms.specs.declared.Mode.TheVariants.{In}
use Rattle.terms.specs.Signs.{meant}
use Rattle.replies.specs.declared.Form.{Form}
use Rattle.replies.specs.declared.Form.TheVariants.{Nothing, Item, Group, Close, End, Wrong, Open}
use Rattle.replies.specs.Lines.{begins, is_quote, quote_len, Line, lines_of}
use Rattle.replies.specs.Reading.{verdict_of}
use Rattle.std.specs.Prelude.{Result, Ok, Err}
use Rattle.text.specs.Room.{refusal_at}
use Rattle.text.specs.declared.Refusal.{Refusal}

-- ---- what a raw value stands for

-- Inside quotes GRAVE stands before `"` and GRAVE, before others it is itself: as in a quoted string of a command. Any other value stands for itself.
unfoldable pub plain_of : List ℕ → List ℕ
plain_of raw = cond (begins is_quote raw) (meant raw) raw

-- does a quoted value end where its quote closes?
abbrev pub closes_at : ℕ → Option ℕ → Bool
closes_at n none = false
closes_at n (some k) = eqb k n

-- a value that a reply can have: a quoted one, or one that begins with no `"`
unfoldable pub is_value : List ℕ → Bool
is_value raw = cond (begins is_quote raw) (closes_at (length raw - 1) (quote_len In (drop 1 raw))) true

unfoldable pub value_answer : ℕ → List ℕ → Result ℕ Refusal
value_answer room raw = cond (is_value raw) (fitted room (plain_of raw)) (Err (refusal_at 21 0))

unfoldable pub value_room : List ℕ → List ℕ → List ℕ
value_room room raw = cond (is_value raw) (filled room (plain_of raw)) room

-- ---- items

pub data Told : Type 0 where
  item : List ℕ → List ℕ → Told
  group : List ℕ → Told
  endgroup : Told
  endoutput : Told

-- what a line tells by its form
abbrev pub told_by : List ℕ → Form → List Told
told_by t (Nothing n) = []
told_by t (Item k v) = item (take k t) (plain_of (drop (k + 1) t)) ∷ []
told_by t (Group n) = group (drop 11 t) ∷ []
told_by t Close = endgroup ∷ []
told_by t End = endoutput ∷ []
told_by t Wrong = []
told_by t Open = []

abbrev pub told_of : Line → List Told
told_of l = told_by l.text l.form

unfoldable pub told_in : List Line → List Told
told_in [] = []
told_in (l ∷ ls) = told_of l ++ told_in ls

-- what a reply says; a refused one says nothing
abbrev pub unless_flawed : {A : Type 0} → Result Unit Refusal → A → Option A
unless_flawed (Ok u) a = some a
unless_flawed (Err e) a = none

unfoldable pub says_of : List ℕ → Option (List Told)
says_of s = unless_flawed (verdict_of s) (told_in (lines_of s))
