-- Demand 1 for replies: a refusal changes nothing that was lent. Assumes nothing.
use Prim.Native.Nat.{ℕ}
use mathlib.Core.Path.{◌≡◌, refl}
use mathlib.Core.List.{List}
use mathlib.Core.Bool.{Bool, true, false, cond}
use lib.ListN.{length}
use Rattle.text.specs.Room.{fitted, filled}
use Rattle.text.proofs.Writes.{filled_kept}
use Rattle.replies.specs.Lines.{lines_of}
use Rattle.replies.specs.Order.{judged, kept}
use Rattle.replies.specs.Reading.{records_of, verdict_of, read_answer, read_room}
use Rattle.replies.specs.Items.{plain_of, is_value, value_answer, value_room}
use Rattle.std.proofs.Common.{Result, Ok, Err}
use Rattle.text.specs.Room.{refusal_at}
use Rattle.text.specs.declared.Refusal.{Refusal}

-- whatever is written by a verdict
pub judged_kept : (v : Result Unit Refusal) (room t : List ℕ) (n p : ℕ) → judged v (fitted (length room) t) ≡ Err (refusal_at n p) → kept v room (filled room t) ≡ room
judged_kept (Ok u) room t n p e = filled_kept room t n p e
judged_kept (Err r) room t n p e = refl

pub read_kept : (room s : List ℕ) (n p : ℕ) → read_answer (length room) s ≡ Err (refusal_at n p) → read_room room s ≡ room
unfolding read_answer read_room
read_kept room s n p e = judged_kept (verdict_of s) room (records_of (lines_of s)) n p e

pub value_kept : (room raw : List ℕ) (n p : ℕ) → value_answer (length room) raw ≡ Err (refusal_at n p) → value_room room raw ≡ room
unfolding value_answer value_room
value_kept room raw n p = go (is_value raw)
  where
    go : (t : Bool) → cond t (fitted (length room) (plain_of raw)) (Err (refusal_at 21 0)) ≡ Err (refusal_at n p) → cond t (filled room (plain_of raw)) room ≡ room
    go true e = filled_kept room (plain_of raw) n p e
    go false e = refl
