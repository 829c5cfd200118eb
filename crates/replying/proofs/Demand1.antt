-- Demand 1 for writing a reply: a refusal changes nothing that was lent. Assumes nothing.
use Prim.Native.Nat.{ℕ}
use mathlib.Core.Path.{◌≡◌}
use mathlib.Core.List.{List}
use lib.ListN.{length}
use Rattle.replies.proofs.Demand1.{judged_kept}
use Rattle.replying.specs.Writing.{written_by, write_verdict, write_answer, write_room}
use Rattle.std.proofs.Common.{Err}
use Rattle.text.specs.Room.{refusal_at}

pub write_kept : (room r t : List ℕ) (n p : ℕ) → write_answer (length room) r t ≡ Err (refusal_at n p) → write_room room r t ≡ room
unfolding write_answer write_room
write_kept room r t n p e = judged_kept (write_verdict r t) room (written_by r t) n p e
