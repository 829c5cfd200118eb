-- Demand 1: on a refusal no byte or number lent for an answer has changed. One theorem for each definition of what lent room then holds. (That every entry
-- point accepts all inputs and ends is no theorem of its own: no public function has a `requires`, and a proved function ends.) Assumes nothing.
use Prim.Native.Nat.{ℕ}
use mathlib.Core.Path.{◌≡◌, refl}
use mathlib.Core.List.{List}
use mathlib.Core.Bool.{Bool, true, false, cond}
use native.Mathlib.Omega.{arith}
use lib.ListN.{length}
use lib.Dec.{leb, ltb}
use Rattle.text.specs.Room.{wrote, fitted, filled}
use Rattle.text.proofs.Writes.{filled_kept}
use Rattle.reading.specs.Reading.{Reading, refusal, read}
use Rattle.reading.specs.Records.{read_records, answer_in, room_in}
use Rattle.canonical.specs.Canonical.{items_of, writing, writing_answer, writing_room}
use Rattle.tree.specs.declared.Resolved.TheVariants as resolved
use Rattle.tree.specs.Tree.{records, check_tree}
use Rattle.tree.specs.Path.{full_path, path_by, path_answer, path_room_by, path_room}
use Rattle.tree.specs.Resolve.{Instances, session', nodes, unresolved, instances_of, resolved_by, list_by, resolve_of, resolve_list}
use Rattle.std.proofs.Common.{Err}
use Rattle.std.proofs.Common.{Result, Ok}
use Rattle.text.specs.Room.{refusal_at}

-- reading
pub read_kept : (room : List ℕ) (r : Reading) (k p : ℕ) → answer_in (length room) r ≡ Err (refusal_at k p) → room_in room r ≡ room
read_kept room (refusal n q) k p e = refl
read_kept room (read ps) k p e = filled_kept room (read_records ps) k p e

-- canonical writing
pub writing_kept : (room : List ℕ) (r : Reading) (k p : ℕ) → writing_answer (length room) r ≡ Err (refusal_at k p) → writing_room room r ≡ room
writing_kept room (refusal n q) k p e = refl
writing_kept room (read ps) k p e = filled_kept room (writing (items_of ps)) k p e

-- a full path
pub path_kept : (room t : List ℕ) (node k p : ℕ) → path_answer (length room) t node ≡ Err (refusal_at k p) → path_room room t node ≡ room
unfolding path_answer path_room
path_kept room t node k p e = go (check_tree t) e
  where
    by : (b : Bool) → cond b (Err (refusal_at 16 0)) (fitted (length room) (full_path t node)) ≡ Err (refusal_at k p) → cond b room (filled room (full_path t node)) ≡ room
    by true h = refl
    by false h = filled_kept room (full_path t node) k p h

    go : (c : Result Unit ℕ) → path_by c (length room) t node ≡ Err (refusal_at k p) → path_room_by c room t node ≡ room
    go (Err q) h = refl
    go (Ok u) h = by (ltb (records t) node) h

-- resolving
pub resolve_kept : (list text t : List ℕ) (d k p : ℕ) → resolve_of (length list) text t d ≡ Err (refusal_at k p) → resolve_list list text t d ≡ list
unfolding resolve_of resolve_list
resolve_kept list text t d k p e = go (instances_of text t d) e
  where
    by : (ms : List ℕ) (b : Bool) → leb (length ms) (length list) ≡ b → cond b (Ok (resolved.Nodes (length ms))) (Err (refusal_at 19 0)) ≡ Err (refusal_at k p)
        → cond b (wrote list ms) list ≡ list
    by ms true h g = let z : ◌≡◌ {A = ℕ} 0 1 = cc in absurd (omega arith)
    by ms false h g = refl

    go : (f : Instances) → resolved_by (length list) f ≡ Err (refusal_at k p) → list_by list f ≡ list
    go session' h = refl
    go (unresolved n q) h = refl
    go (nodes ms) h = unfold filled in by ms (leb (length ms) (length list)) refl h
