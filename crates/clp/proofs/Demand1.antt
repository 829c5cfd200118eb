-- Demand 1 for the C face: where a function's number is not 0, no lent byte or number has changed; joining that is refused as 1 apart, where the line
-- buffer keeps the line's first 1,024 bytes. Assumes nothing.
use Prim.Native.Nat.{ℕ, suc}
use mathlib.Core.Path.{◌≡◌, refl, ap}
use mathlib.Core.List.{List}
use mathlib.Core.Bool.{Bool, true, false, cond}
use native.Mathlib.Omega.{arith}
use lib.ListN.{length}
use lib.Dec.{leb, ltb}
use Rattle.text.specs.Room.{fitted, filled, refusal_at}
use Rattle.text.proofs.Writes.{filled_kept}
use Rattle.terms.specs.Signs.{meant}
use Rattle.joiner.specs.Join.{join_of, end_of}
use Rattle.reading.specs.Reading.{reading_of}
use Rattle.reading.specs.Records.{answer_in, room_in}
use Rattle.tree.specs.declared.Resolved.{Resolved}
use Rattle.tree.specs.declared.Resolved.TheVariants as resolved
use Rattle.tree.specs.Path.{path_answer, path_room}
use Rattle.tree.specs.Resolve.{resolve_of, resolve_list}
use Rattle.canonical.specs.Canonical.{writing_answer, writing_room}
use Rattle.wording.specs.Words.{wording_of, text_answer, text_room}
use Rattle.wording.proofs.Demand1 as wording
use Rattle.lister.specs.Lister.{stands_by, fit, joined, refused19, call_of, end_stands, end_room}
use Rattle.lister.specs.Lister as lister
use Rattle.lister.proofs.Demand1 as ends
use Rattle.replies.specs.Reading.{read_answer, read_room}
use Rattle.replies.specs.Items.{value_answer, value_room}
use Rattle.replies.proofs.Demand1 as replies
use Rattle.replying.specs.Writing.{write_answer, write_room}
use Rattle.replying.proofs.Demand1 as replying
use Rattle.capture.proofs.Demand1 as kept
use Rattle.clp.specs.State.{state_of}
use Rattle.clp.specs.Face.{told, none64, answer_of, resolved_of, stands_face, listed_of, no_call, list_face, list_buffer, list_room, list_end_face, list_end_room}
use Rattle.std.proofs.Common.{Result, Ok, Err}
use Rattle.text.specs.declared.Refusal.{Refusal}
use Rattle.std.proofs.Common.{Option, Some, None}

-- ---- functions that answer by a clp_answer

refused_as : (a : Result ℕ Refusal) (k : ℕ) → (answer_of a).number ≡ suc k → (p : ℕ) × (a ≡ Err (refusal_at (suc k) p))
refused_as (Ok n) k e = absurd (omega arith)
refused_as (Err r) k e = (r.place, ap (λ (m : ℕ). Err (refusal_at m r.place)) e)

pub read_kept : (room line : List ℕ) (k : ℕ) → (answer_of (answer_in (length room) (reading_of line))).number ≡ suc k → room_in room (reading_of line) ≡ room
read_kept room line k e = let r = refused_as (answer_in (length room) (reading_of line)) k e in kept.read_kept room (reading_of line) (suc k) r.0 r.1

pub canonical_kept : (room line : List ℕ) (k : ℕ) → (answer_of (writing_answer (length room) (reading_of line))).number ≡ suc k → writing_room room (reading_of line) ≡ room
canonical_kept room line k e =
    let r = refused_as (writing_answer (length room) (reading_of line)) k e in kept.writing_kept room (reading_of line) (suc k) r.0 r.1

pub meant_kept : (room text : List ℕ) (k : ℕ) → (answer_of (fitted (length room) (meant text))).number ≡ suc k → filled room (meant text) ≡ room
meant_kept room text k e = let r = refused_as (fitted (length room) (meant text)) k e in filled_kept room (meant text) (suc k) r.0 r.1

pub full_path_kept : (room t : List ℕ) (node k : ℕ) → (answer_of (path_answer (length room) t node)).number ≡ suc k → path_room room t node ≡ room
full_path_kept room t node k e = let r = refused_as (path_answer (length room) t node) k e in kept.path_kept room t node (suc k) r.0 r.1

pub records_text_kept : (room records : List ℕ) (k : ℕ) → (answer_of (text_answer (length room) (wording_of records))).number ≡ suc k → text_room room (wording_of records) ≡ room
records_text_kept room records k e =
    let r = refused_as (text_answer (length room) (wording_of records)) k e in wording.text_kept room (wording_of records) (suc k) r.0 r.1

pub read_reply_kept : (room reply : List ℕ) (k : ℕ) → (answer_of (read_answer (length room) reply)).number ≡ suc k → read_room room reply ≡ room
read_reply_kept room reply k e = let r = refused_as (read_answer (length room) reply) k e in replies.read_kept room reply (suc k) r.0 r.1

pub write_reply_kept : (room records text : List ℕ) (k : ℕ) → (answer_of (write_answer (length room) records text)).number ≡ suc k → write_room room records text ≡ room
write_reply_kept room records text k e =
    let r = refused_as (write_answer (length room) records text) k e in replying.write_kept room records text (suc k) r.0 r.1

pub reply_value_kept : (room raw : List ℕ) (k : ℕ) → (answer_of (value_answer (length room) raw)).number ≡ suc k → value_room room raw ≡ room
reply_value_kept room raw k e = let r = refused_as (value_answer (length room) raw) k e in replies.value_kept room raw (suc k) r.0 r.1

-- ---- resolving

unresolved_as : (v : Result Resolved Refusal) (k : ℕ) → (resolved_of v).number ≡ suc k → (p : ℕ) × (v ≡ Err (refusal_at (suc k) p))
unresolved_as (Ok resolved.Session) k e = absurd (omega arith)
unresolved_as (Ok (resolved.Nodes n)) k e = absurd (omega arith)
unresolved_as (Err r) k e = (r.place, ap (λ (m : ℕ). Err (refusal_at m r.place)) e)

pub resolve_kept : (list text t : List ℕ) (d k : ℕ) → (resolved_of (resolve_of (length list) text t d)).number ≡ suc k → resolve_list list text t d ≡ list
resolve_kept list text t d k e =
    let r = unresolved_as (resolve_of (length list) text t d) k e in kept.resolve_kept list text t d (suc k) r.0 r.1

-- ---- the lister

-- what was joined is told as records, or as nothing yet
joined_told : (o : Result (Option ℕ) Refusal) (b : List ℕ) → (stands_face none64 (stands_by o b)).number ≡ 0
joined_told (Ok None) b = refl
joined_told (Ok (Some n)) b = refl
joined_told (Err e) b = refl

pub list_kept : (n : ℕ) (b p room : List ℕ) (k : ℕ) → (list_face n b p room).number ≡ suc k
    → (list_buffer n b p room ≡ b) × (list_room n b p room ≡ room) × ((list_face n b p room).used ≡ 0)
unfolding list_face list_buffer list_room call_of
list_kept n b p room k = go (ltb n 16384) (leb 399 (length room)) (fit (state_of n) b)
  where
    call : Bool → Bool → lister.Call
    call t u = cond t (cond u (joined (join_of (state_of n) b p) room) (refused19 (state_of n) b room)) (refused19 (state_of n) b room)

    go : (v t u : Bool) → (cond v (listed_of (call t u).answer) (no_call n)).number ≡ suc k
        → (cond v (call t u).buffer b ≡ b) × (cond v (call t u).room room ≡ room) × ((cond v (listed_of (call t u).answer) (no_call n)).used ≡ 0)
    go false t u e = (refl, refl, refl)
    go true false u e = (refl, refl, refl)
    go true true false e = (refl, refl, refl)
    go true true true e = absurd (omega (arith, e, joined_told (join_of (state_of n) b p).answer.outcome (join_of (state_of n) b p).buffer))

pub list_end_kept : (n k : ℕ) (room : List ℕ) → (list_end_face n (length room)).number ≡ suc k → list_end_room n room ≡ room
unfolding list_end_face list_end_room
list_end_kept n k room = go (ltb n 16384)
  where
    by : (w : Result (Option ℕ) Refusal) → end_stands (length room) (end_of (state_of n)) ≡ w → (stands_face 0 w).number ≡ suc k → end_room room (end_of (state_of n)) ≡ room
    by (Ok None) e f = absurd (omega arith)
    by (Ok (Some m)) e f = absurd (omega arith)
    by (Err r) e f = ends.end_kept room (end_of (state_of n)) r.number r.place e

    go : (v : Bool) → (cond v (stands_face 0 (end_stands (length room) (end_of (state_of n)))) (told 19 0)).number ≡ suc k
        → cond v (end_room room (end_of (state_of n))) room ≡ room
    go false e = refl
    go true e = by (end_stands (length room) (end_of (state_of n))) refl e
