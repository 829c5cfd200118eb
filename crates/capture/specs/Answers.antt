-- A capture's answers: each line with what `read`, `target_span`, `target`, `resolve` and `canonical` answer for it, in the room that is lent at it.
use Rattle.std.specs.Prelude.{ℕ, suc, ◌≡◌, List, [], ◌∷◌, length, take, Result, Ok, Err}
use Rattle.joiner.specs.Lines.{Given, line, refused, lines_of}
use Rattle.terms.specs.declared.Span.{Span}
use Rattle.reading.specs.Reading.{reading_of}
use Rattle.reading.specs.Records.{answer_in, room_in, target_in, target_part}
use Rattle.tree.specs.declared.Resolved.{Resolved}
use Rattle.tree.specs.declared.Resolved.TheVariants as resolved
use Rattle.tree.specs.Resolve.{resolve_of, resolve_list}
use Rattle.canonical.specs.Canonical.{writing_answer, writing_room}
use Rattle.text.specs.declared.Refusal.{Refusal}

-- what is lent at a line: a tree, a default target, and room for records, for node numbers and for the writing
pub record Lent : Type 0 where
  pub tree : List ℕ
  pub default : ℕ
  pub for_records : List ℕ
  pub for_nodes : List ℕ
  pub for_writing : List ℕ

-- the tree, the default target and the sizes of all lent room are the same; what the room holds need not be
pub record SameLent (l m : Lent) : Type 0 where
  pub tree : l.tree ≡ m.tree
  pub default : l.default ≡ m.default
  pub for_records : length l.for_records ≡ length m.for_records
  pub for_nodes : length l.for_nodes ≡ length m.for_nodes
  pub for_writing : length l.for_writing ≡ length m.for_writing

-- how many bytes, or node numbers, stand at the room's start by an answer: on a refusal none
abbrev pub bytes_by : Result ℕ Refusal → ℕ
bytes_by (Ok n) = n
bytes_by (Err e) = 0

abbrev pub nodes_by : Result Resolved Refusal → ℕ
nodes_by (Ok resolved.Session) = 0
nodes_by (Ok (resolved.Nodes n)) = n
nodes_by (Err e) = 0

-- what the functions answer for a line, by the definitions that their promises cite: each answer, and what then stands at its room's start
pub record LineAnswer : Type 0 where
  pub read : Result ℕ Refusal
  pub records : List ℕ
  pub span : Span
  pub target : List ℕ
  pub resolves : Result Resolved Refusal
  pub instances : List ℕ
  pub canonical : Result ℕ Refusal
  pub writing : List ℕ

unfoldable pub line_answer : Lent → List ℕ → LineAnswer
line_answer l t =
    let read = answer_in (length l.for_records) (reading_of t) in
    let resolves = resolve_of (length l.for_nodes) (target_part t) l.tree l.default in
    let canonical = writing_answer (length l.for_writing) (reading_of t) in
    record {
      read = read;
      records = take (bytes_by read) (room_in l.for_records (reading_of t));
      span = target_in (reading_of t);
      target = target_part t;
      resolves = resolves;
      instances = take (nodes_by resolves) (resolve_list l.for_nodes (target_part t) l.tree l.default);
      canonical = canonical;
      writing = take (bytes_by canonical) (writing_room l.for_writing (reading_of t));
    }

-- a line's whole answer: its bytes with what the functions answer for them; or, where joining refuses it, number, place and the bytes kept
pub data WholeAnswer : Type 0 where
  answered : List ℕ → LineAnswer → WholeAnswer
  not_joined : ℕ → ℕ → List ℕ → WholeAnswer

abbrev pub answer_to : Lent → Given → WholeAnswer
answer_to l (line t) = answered t (line_answer l t)
answer_to l (refused k p t) = not_joined k p t

-- one answer for each line, with what is lent at that line, by its number from k on
unfoldable pub answers_from : (ℕ → Lent) → ℕ → List Given → List WholeAnswer
answers_from f k [] = []
answers_from f k (g ∷ gs) = answer_to (f k) g ∷ answers_from f (suc k) gs

unfoldable pub answers_of : (ℕ → Lent) → List ℕ → List WholeAnswer
answers_of f c = answers_from f 0 (lines_of c)
