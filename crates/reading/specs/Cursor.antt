-- A reading taken one step at a time, as the code takes it: a cursor, and the item that a step gives.
use Rattle.std.specs.Prelude.{ℕ, ◌+◌, List, true, length, take, drop, set, Option, Some, None}
use Rattle.terms.specs.declared.Mode.TheVariants.{Out}
use Rattle.terms.specs.Signs.{signs}
use Rattle.terms.specs.Terms.{Term, terms_from}
use Rattle.terms.specs.Scan.{span, term_at}
use Rattle.words.specs.Words.{kind_of}
use Rattle.reading.specs.declared.Phase.{Phase}
use Rattle.reading.specs.declared.Phase.TheVariants.{First, Options, Waits, Rest}
use Rattle.reading.specs.declared.State.{State}
use Rattle.reading.specs.declared.Shown.{Shown}
use Rattle.reading.specs.declared.Shown.TheVariants as shown
use Rattle.reading.specs.declared.Cursor.{Cursor}
use Rattle.reading.specs.declared.Offered.{Offered}
use Rattle.reading.specs.Command.{shown_of}
use Rattle.reading.specs.Reading.{state, begin, Decision, refuses, takes, decide, phase_after, place_of, Reading, walk_terms}
use Rattle.terms.specs.declared.Span.{Span}
use Rattle.std.specs.Prelude.{Result, Ok, Err}
use Rattle.text.specs.Room.{refusal_at}
use Rattle.text.specs.declared.Refusal.{Refusal}

abbrev pub decided_of : Decision → Result Shown ℕ
decided_of (refuses n) = Err n
decided_of (takes i) = Ok (shown_of i)

-- the next state reads of a part only what is shown
abbrev pub next_shown : State → Shown → State
next_shown s (shown.Verb n) = state Options n s.seen s.count
next_shown s (shown.Option n) = state (phase_after n (kind_of n)) s.verb (set s.seen n true) s.count
next_shown s (shown.Argument n) = state Options s.verb s.seen s.count
next_shown s shown.Target = state Rest s.verb s.seen s.count
next_shown s (shown.Property n o) = state Rest s.verb s.seen (s.count + 1)

abbrev pub cursor : ℕ → State → Cursor
cursor a s = record { at = a; state = s }

-- a term that is offered: as which part, where it begins, how long it is
abbrev pub offered : Shown → ℕ → ℕ → Offered
offered i a n = record { item = i; term = span a n }

-- a step: what it gives, and the cursor after it
pub record Step : Type 0 where
  pub offer : Result (Option Offered) Refusal
  pub next : Cursor

abbrev pub step : Result (Option Offered) Refusal → Cursor → Step
step g c = record { offer = g; next = c }

-- the term of n bytes that begins at a
abbrev pub term_in : List ℕ → ℕ → ℕ → Term
term_in line a n = record { start = a; text = signs Out (take n (drop a line)) }

-- what such a term gives, by the decision on it: a part with its start and length, or a refusal with its place
abbrev pub offer_on : (ℕ → ℕ) → ℕ → ℕ → Result Shown ℕ → Result (Option Offered) Refusal
offer_on place a n (Ok i) = Ok (Some (offered i a n))
offer_on place a n (Err k) = Err (refusal_at k (place k))

-- a line that ends while an option waits is refused as 9, at its length
abbrev pub offer_end : ℕ → Phase → Result (Option Offered) Refusal
offer_end n First = Ok None
offer_end n Options = Ok None
offer_end n (Waits k) = Err (refusal_at 9 n)
offer_end n Rest = Ok None

abbrev pub offer_at : List ℕ → State → Option Span → Result (Option Offered) Refusal
offer_at line s None = offer_end (length line) s.phase
offer_at line s (Some e) = offer_on (place_of s (term_in line e.at e.len)) e.at e.len (decided_of (decide s (signs Out (take e.len (drop e.at line)))))

-- what the next term from a place on gives, in a state
unfoldable pub offer_of : List ℕ → ℕ → State → Result (Option Offered) Refusal
offer_of line a s = offer_at line s (term_at line a)

-- the cursor after a part; after a refusal, and at the line's end, it is as it was
abbrev pub cursor_after : Cursor → Result (Option Offered) Refusal → Cursor
cursor_after c (Ok (Some e)) = cursor (e.term.at + e.term.len) (next_shown c.state e.item)
cursor_after c (Err e) = c
cursor_after c (Ok None) = c

-- a step
unfoldable pub step_of : List ℕ → Cursor → Step
step_of line c = let g = offer_of line c.at c.state in step g (cursor_after c g)

-- what is left of a line's reading from a cursor on
unfoldable pub left : List ℕ → Cursor → Reading
left line c = walk_terms (length line) c.state (terms_from c.at true (signs Out (drop c.at line)))

abbrev pub first_cursor : Cursor
first_cursor = cursor 0 begin
