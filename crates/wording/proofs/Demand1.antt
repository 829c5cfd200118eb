-- Demand 1: on a refusal no byte lent for the text has changed. Assumes nothing.
use Prim.Native.Nat.{ℕ}
use mathlib.Core.Path.{◌≡◌, refl}
use mathlib.Core.List.{List}
use lib.ListN.{length}
use Rattle.text.proofs.Writes.{filled_kept}
use Rattle.wording.specs.Words.{Worded, worded, unworded, text_answer, text_room}
use Rattle.std.proofs.Common.{Err}
use Rattle.text.specs.Room.{refusal_at}

pub text_kept : (room : List ℕ) (t : Worded) (k p : ℕ) → text_answer (length room) t ≡ Err (refusal_at k p) → text_room room t ≡ room
text_kept room (worded s) k p e = filled_kept room s k p e
text_kept room (unworded n q) k p e = refl
