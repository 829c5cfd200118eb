-- The theorems over what the functions answer: what `write` left in the room is read as the items that the records tell, and the records that `read` left in the room
-- tell what the reply says. Assumes nothing.
use Prim.Native.Nat.{ℕ}
use mathlib.Core.Path.{◌≡◌, refl, sym, ap, ◌∙◌}
use mathlib.Core.List.{List, map}
use mathlib.Core.Bool.{Bool, true, false, cond}
use mathlib.Core.Option.{some}
use native.Mathlib.Omega.{arith}
use borrow.Author.Tests.{leb-true}
use lib.ListN.{length, take}
use lib.Dec.{leb}
use Rattle.text.specs.Room.{fitted, filled}
use Rattle.text.proofs.Writes.{take_wrote, filled_room}
use Rattle.replies.specs.Lines.{lines_of}
use Rattle.replies.specs.Order.{judged, kept}
use Rattle.replies.specs.Reading.{records_of, verdict_of, read_answer, read_room}
use Rattle.replies.specs.Items.{told_in, says_of, unless_flawed}
use Rattle.replying.specs.Records.{asked_of}
use Rattle.replying.specs.Writing.{told_asked, written_by, write_verdict, write_answer, write_room, asks_of}
use Rattle.replying.proofs.ReadBack.{written_reads}
use Rattle.replying.proofs.OwnRecords.{plain_told, own_records}
use Rattle.std.proofs.Common.{Result, Ok, Err}
use Rattle.text.specs.Room.{refusal_at}
use Rattle.text.specs.declared.Refusal.{Refusal}

-- what was written by a verdict stands at the room's start
pub record Stood (v : Result Unit Refusal) (room t : List ℕ) (n : ℕ) : Type 0 where
  pub fine : v ≡ Ok tt
  pub text : take n (kept v room (filled room t)) ≡ t

stood : (v : Result Unit Refusal) (room t : List ℕ) (n : ℕ) → judged v (fitted (length room) t) ≡ Ok n → Stood v room t n
unfolding fitted
stood (Err r) room t n e = let z : ◌≡◌ {A = ℕ} 0 1 = cc in absurd (omega arith)
stood (Ok u) room t n e = go (leb (length t) (length room)) refl e
  where
    size : (m : ℕ) → ◌≡◌ {A = Result ℕ Refusal} (Ok m) (Ok n) → n ≡ m
    size m z = cc

    go : (b : Bool) → leb (length t) (length room) ≡ b → cond b (Ok (length t)) (Err (refusal_at 19 0)) ≡ Ok n → Stood (Ok tt) room t n
    go true h z =
        record {
          fine = refl;
          text = ap (λ (k : ℕ). take k (filled room t)) (size (length t) z) ∙ ap (take (length t)) (filled_room room t (leb-true (length t) (length room) h)) ∙ take_wrote room t;
        }
    go false h z = let y : ◌≡◌ {A = ℕ} 0 1 = cc in absurd (omega arith)

-- `write`: the bytes that it tells of say the items that the records tell
pub written_says : (room r t : List ℕ) (n : ℕ) → write_answer (length room) r t ≡ Ok n → says_of (take n (write_room room r t)) ≡ some (told_asked (asked_of r t))
unfolding write_answer write_room asks_of
written_says room r t n e =
    let s = stood (write_verdict r t) room (written_by r t) n e in
    ap says_of s.text ∙ written_reads r t (told_asked (asked_of r t)) (ap (λ (v : Result Unit Refusal). unless_flawed v (told_asked (asked_of r t))) s.fine)

-- `read`: the records that it tells of, over the reply, tell what the reply says, their values raw
pub records_say : (room s : List ℕ) (n : ℕ) → read_answer (length room) s ≡ Ok n → says_of s ≡ some (map plain_told (told_asked (asked_of (take n (read_room room s)) s)))
unfolding read_answer read_room says_of
records_say room s n e =
    let w = stood (verdict_of s) room (records_of (lines_of s)) n e in
    ap (λ (v : Result Unit Refusal). unless_flawed v (told_in (lines_of s))) w.fine
    ∙ ap some (sym (own_records s))
    ∙ ap (λ (r : List ℕ). some (map plain_told (told_asked (asked_of r s)))) (sym w.text)
