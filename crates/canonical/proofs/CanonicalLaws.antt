-- What holds of every writing of a line into lent room. Assumes nothing.
use Prim.Native.Nat.{ℕ, suc, ◌<◌, ◌≤◌}
use mathlib.Core.Path.{◌≡◌, sym, ap, ◌∙◌}
use mathlib.Core.List.{List, [], ◌++◌, append-nil}
use mathlib.Core.Bool.{true}
use native.Mathlib.Omega.{arith}
use lib.ListN.{length, drop, drop_of_length-le}
use Rattle.text.specs.Lists.{between}
use Rattle.text.specs.Room.{wrote, fitted, filled, refusal_at}
use Rattle.text.proofs.Writes.{fitted_room, fitted_none, filled_room, filled_none}
use Rattle.terms.specs.Signs.{raws}
use Rattle.reading.specs.Command.{Item}
use Rattle.reading.specs.Reading.{Part, refusal, read, reading_of}
use Rattle.canonical.specs.Canonical.{writing, items_of, writing_answer, writing_room}
use Rattle.canonical.specs.Written.{rest_of, written_from}
use Rattle.std.proofs.Common.{Result, Ok, Err}
use Rattle.text.specs.declared.Refusal.{Refusal}

-- what a line's canonical writing answers, and what the room then holds
abbrev pub answer_of : List ℕ → List ℕ → Result ℕ Refusal
answer_of line room = writing_answer (length room) (reading_of line)

abbrev pub room_of : List ℕ → List ℕ → List ℕ
room_of line room = writing_room room (reading_of line)

module _ (line room : List ℕ) where
  -- the writing of a refused line is that refusal, and the room is as it was
  pub refused_so : (n p : ℕ) → reading_of line ≡ refusal n p → (answer_of line room ≡ Err (refusal_at n p)) × (room_of line room ≡ room)
  refused_so n p e = (ap (writing_answer (length room)) e, ap (writing_room room) e)

  -- a blank line writes nothing and needs no room
  pub blank_nothing : reading_of line ≡ read [] → (answer_of line room ≡ Ok 0) × (room_of line room ≡ room)
  unfolding writing between raws wrote
  blank_nothing e = (
    ap (writing_answer (length room)) e ∙ fitted_room (length room) (writing []) (omega arith),
    ap (writing_room room) e ∙ filled_room room (writing []) (omega arith),
  )

  module _ (ps : List Part) (e : reading_of line ≡ read ps) where
    -- what is counted is the length of the writing
    pub counts_length : written_from 0 true (reading_of line) ≡ Ok (length (writing (items_of ps)))
    unfolding rest_of writing
    counts_length = ap (written_from 0 true) e ∙ ap Ok (omega arith)

    -- where it fits, however long it is, it is written, and the rest of the room is as it was
    pub fits_written : length (writing (items_of ps)) ≤ length room
        → (answer_of line room ≡ Ok (length (writing (items_of ps)))) × (room_of line room ≡ writing (items_of ps) ++ drop (length (writing (items_of ps))) room)
    unfolding wrote
    fits_written h = (
      ap (writing_answer (length room)) e ∙ fitted_room (length room) (writing (items_of ps)) h,
      ap (writing_room room) e ∙ filled_room room (writing (items_of ps)) h,
    )

    -- room of exactly the size works
    pub exact_written : length room ≡ length (writing (items_of ps)) → (answer_of line room ≡ Ok (length room)) × (room_of line room ≡ writing (items_of ps))
    exact_written h =
        let f = fits_written (omega arith) in
        let k : length room ≤ length (writing (items_of ps)) = omega arith in (
          f.0 ∙ ap Ok (sym h),
          f.1 ∙ ap (λ (z : List ℕ). writing (items_of ps) ++ z) (drop_of_length-le room k) ∙ append-nil (writing (items_of ps)),
        )

    -- where it does not fit it is refused as 19, and nothing is changed
    pub none_written : length room < length (writing (items_of ps)) → (answer_of line room ≡ Err (refusal_at 19 0)) × (room_of line room ≡ room)
    none_written h = (
      ap (writing_answer (length room)) e ∙ fitted_none (length room) (writing (items_of ps)) h,
      ap (writing_room room) e ∙ filled_none room (writing (items_of ps)) h,
    )

    -- one byte less is too little
    pub one_less : suc (length room) ≡ length (writing (items_of ps)) → (answer_of line room ≡ Err (refusal_at 19 0)) × (room_of line room ≡ room)
    one_less h = none_written (omega arith)

-- two writings of one command are written the same
pub same_written : (l m room : List ℕ) (ps qs : List Part) → reading_of l ≡ read ps → reading_of m ≡ read qs → items_of ps ≡ items_of qs
    → (answer_of l room ≡ answer_of m room) × (room_of l room ≡ room_of m room)
same_written l m room ps qs e f h = (
  ap (writing_answer (length room)) e ∙ ap (λ (c : List Item). fitted (length room) (writing c)) h ∙ sym (ap (writing_answer (length room)) f),
  ap (writing_room room) e ∙ ap (λ (c : List Item). filled room (writing c)) h ∙ sym (ap (writing_room room) f),
)
