-- The records that a writer is lent: kinds 64 to 67, their fields of 2 bytes, high first, pointing into a lent text; up to the first of kind 67.
use Rattle.std.specs.Prelude.{ℕ, zero, suc, ◌+◌, ◌-◌, List, [], ◌∷◌, Bool, true, false, cond, length, get_or, take, drop, eqb, leb}
use Rattle.std.proofs.Math.Option.{Option, none, some}
use Rattle.text.specs.Lists.{given}
use Rattle.text.specs.Room.{be16}
use Rattle.words.specs.Words.{reply_record_len}
use Rattle.replies.specs.Items.{Told, item, group, endgroup, endoutput}

-- a part of the text, by the position and the length that stand at a place of a record; none where it reaches past the text
abbrev pub field_at : List ℕ → ℕ → ℕ
field_at r i = be16 (get_or r i 0) (get_or r (i + 1) 0)

abbrev pub part_of : List ℕ → ℕ → ℕ → Option (List ℕ)
part_of t p n = cond (leb (p + n) (length t)) (some (take n (drop p t))) none

abbrev pub part_at : List ℕ → List ℕ → ℕ → Option (List ℕ)
part_at t r i = part_of t (field_at r i) (field_at r (i + 2))

-- what a record tells, by its kind; none for an unknown kind
abbrev pub told_by_kind : List ℕ → List ℕ → ℕ → Option Told
told_by_kind t r k =
    cond (eqb k 64) (given (part_at t r 1) (λ w. given (part_at t r 5) (λ v. some (item w v))))
    (cond (eqb k 65) (given (part_at t r 1) (λ w. some (group w)))
    (cond (eqb k 66) (some endgroup)
    (cond (eqb k 67) (some endoutput) none)))

-- the record that r begins with; none where it is cut
unfoldable pub record_told : List ℕ → List ℕ → Option Told
record_told t r = cond (leb (reply_record_len (get_or r 0 0)) (length r)) (told_by_kind t r (get_or r 0 0)) none

-- nothing is looked at after kind 67, nor after a bad record
abbrev pub is_final : Option Told → Bool
is_final none = true
is_final (some (item k v)) = false
is_final (some (group n)) = false
is_final (some endgroup) = false
is_final (some endoutput) = true

-- a record with its place, and what it tells
pub record Asked : Type 0 where
  pub place : ℕ
  pub told : Option Told

abbrev pub asked_at : ℕ → List ℕ → List ℕ → Asked
asked_at p t r = record { place = p; told = record_told t r }

-- from place p on, where so many bytes still belong to the record before
unfoldable pub asked_from : ℕ → ℕ → List ℕ → List ℕ → List Asked
asked_from skip p t [] = []
asked_from (suc skip) p t (b ∷ r) = asked_from skip (suc p) t r
asked_from zero p t (b ∷ r) =
    let rest = asked_from (reply_record_len b - 1) (suc p) t r in
    asked_at p t (b ∷ r) ∷ cond (is_final (record_told t (b ∷ r))) [] rest

unfoldable pub asked_of : List ℕ → List ℕ → List Asked
asked_of r t = asked_from 0 0 t r
