-- An answer depends on the size of its room alone: what the room held before tells nothing, neither in the answer nor in what then stands at its start.
-- Assumes nothing.
use Prim.Native.Nat.{ℕ}
use mathlib.Core.Path.{◌≡◌, refl, sym, ap, ◌∙◌}
use mathlib.Core.List.{List, []}
use mathlib.Core.Bool.{Bool, true, false, cond}
use lib.ListN.{length, take, drop}
use lib.Seq.{take-append_seam}
use lib.Dec.{leb}
use Rattle.text.specs.Room.{wrote, fitted, filled}
use Rattle.joiner.specs.Lines.{Given, line, refused}
use Rattle.reading.specs.Reading.{Reading, refusal, read, reading_of}
use Rattle.reading.specs.Records.{read_records, answer_in, room_in, target_in, target_part}
use Rattle.tree.specs.declared.Resolved.{Resolved}
use Rattle.tree.specs.Resolve.{Instances, session', nodes, unresolved, instances_of, resolved_by, list_by, resolve_of, resolve_list}
use Rattle.canonical.specs.Canonical.{items_of, writing, writing_answer, writing_room}
use Rattle.capture.specs.Answers.{Lent, SameLent, bytes_by, nodes_by, LineAnswer, line_answer, answered, answer_to}
use Rattle.std.proofs.Common.{Result}
use Rattle.text.specs.declared.Refusal.{Refusal}

-- what stands at the start of so much room, once a text was to be written there
abbrev standing : ℕ → List ℕ → List ℕ
standing n t = cond (leb (length t) n) t []

filled_start : (room t : List ℕ) → take (bytes_by (fitted (length room) t)) (filled room t) ≡ standing (length room) t
unfolding fitted filled wrote
filled_start room t = go (leb (length t) (length room)) refl
  where
    go : (b : Bool) → leb (length t) (length room) ≡ b → take (bytes_by (fitted (length room) t)) (filled room t) ≡ standing (length room) t
    go true e = rw e (take-append_seam t (drop (length t) room))
    go false e = rw e refl

-- room that was as long before, whatever it held
same_start : (room room' t : List ℕ) → length room ≡ length room'
    → take (bytes_by (fitted (length room) t)) (filled room t) ≡ take (bytes_by (fitted (length room') t)) (filled room' t)
same_start room room' t e = filled_start room t ∙ ap (λ (n : ℕ). standing n t) e ∙ sym (filled_start room' t)

-- ---- reading

pub read_size : (room room' : List ℕ) (r : Reading) → length room ≡ length room'
    → take (bytes_by (answer_in (length room) r)) (room_in room r) ≡ take (bytes_by (answer_in (length room') r)) (room_in room' r)
read_size room room' (refusal n p) e = refl
read_size room room' (read ps) e = same_start room room' (read_records ps) e

-- ---- canonical writing

pub writing_size : (room room' : List ℕ) (r : Reading) → length room ≡ length room'
    → take (bytes_by (writing_answer (length room) r)) (writing_room room r) ≡ take (bytes_by (writing_answer (length room') r)) (writing_room room' r)
writing_size room room' (refusal n p) e = refl
writing_size room room' (read ps) e = same_start room room' (writing (items_of ps)) e

-- ---- resolving

nodes_start : (list ms : List ℕ) → take (nodes_by (resolved_by (length list) (nodes ms))) (filled list ms) ≡ standing (length list) ms
unfolding filled wrote
nodes_start list ms = go (leb (length ms) (length list)) refl
  where
    go : (b : Bool) → leb (length ms) (length list) ≡ b → take (nodes_by (resolved_by (length list) (nodes ms))) (filled list ms) ≡ standing (length list) ms
    go true e = rw e (take-append_seam ms (drop (length ms) list))
    go false e = rw e refl

instances_size : (list list' : List ℕ) (i : Instances) → length list ≡ length list'
    → take (nodes_by (resolved_by (length list) i)) (list_by list i) ≡ take (nodes_by (resolved_by (length list') i)) (list_by list' i)
instances_size list list' session' e = refl
instances_size list list' (nodes ms) e = nodes_start list ms ∙ ap (λ (n : ℕ). standing n ms) e ∙ sym (nodes_start list' ms)
instances_size list list' (unresolved n p) e = refl

pub resolve_size : (list list' text t : List ℕ) (d : ℕ) → length list ≡ length list'
    → take (nodes_by (resolve_of (length list) text t d)) (resolve_list list text t d) ≡ take (nodes_by (resolve_of (length list') text t d)) (resolve_list list' text t d)
unfolding resolve_of resolve_list
resolve_size list list' text t d e = instances_size list list' (instances_of text t d) e

-- ---- THE LAW: where the same is lent, rooms by their sizes, a line is answered the same

abbrev nodes_in : List ℕ → List ℕ → List ℕ → ℕ → List ℕ
nodes_in list text t d = take (nodes_by (resolve_of (length list) text t d)) (resolve_list list text t d)

module _ (l m : Lent) (s : SameLent l m) where
  resolves_alike : (text : List ℕ) → resolve_of (length l.for_nodes) text l.tree l.default ≡ resolve_of (length m.for_nodes) text m.tree m.default
  resolves_alike text =
      ap (λ (n : ℕ). resolve_of n text l.tree l.default) s.for_nodes
      ∙ ap (λ (t : List ℕ). resolve_of (length m.for_nodes) text t l.default) s.tree
      ∙ ap (resolve_of (length m.for_nodes) text m.tree) s.default

  instances_alike : (text : List ℕ) → nodes_in l.for_nodes text l.tree l.default ≡ nodes_in m.for_nodes text m.tree m.default
  instances_alike text =
      resolve_size l.for_nodes m.for_nodes text l.tree l.default s.for_nodes
      ∙ ap (λ (t : List ℕ). nodes_in m.for_nodes text t l.default) s.tree
      ∙ ap (nodes_in m.for_nodes text m.tree) s.default

  module _ (t : List ℕ) where
    -- a line's answer by what is not the same text for both
    made : Result ℕ Refusal → List ℕ → Result Resolved Refusal → List ℕ → Result ℕ Refusal → List ℕ → LineAnswer
    made a as' v vs w ws =
        record {
          read = a;
          records = as';
          span = target_in (reading_of t);
          target = target_part t;
          resolves = v;
          instances = vs;
          canonical = w;
          writing = ws;
        }

    alike : (a a' : Result ℕ Refusal) (as' bs : List ℕ) (v v' : Result Resolved Refusal) (vs us : List ℕ) (w w' : Result ℕ Refusal) (ws xs : List ℕ) → a ≡ a' → as' ≡ bs → v ≡ v' → vs ≡ us → w ≡ w' → ws ≡ xs
        → made a as' v vs w ws ≡ made a' bs v' us w' xs
    alike a a' as' bs v v' vs us w w' ws xs e f g h i j = rw (e, f, g, h, i, j) refl

    pub line_alike : line_answer l t ≡ line_answer m t
    unfolding line_answer made
    line_alike =
        alike _ _ _ _ _ _ _ _ _ _ _ _
        (ap (λ (n : ℕ). answer_in n (reading_of t)) s.for_records)
        (read_size l.for_records m.for_records (reading_of t) s.for_records)
        (resolves_alike (target_part t))
        (instances_alike (target_part t))
        (ap (λ (n : ℕ). writing_answer n (reading_of t)) s.for_writing)
        (writing_size l.for_writing m.for_writing (reading_of t) s.for_writing)

pub same_answer : (l m : Lent) → SameLent l m → (g : Given) → answer_to l g ≡ answer_to m g
same_answer l m s (line t) = ap (answered t) (line_alike l m s t)
same_answer l m s (refused k p t) = refl
