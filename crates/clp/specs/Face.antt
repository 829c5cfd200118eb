-- The C face: what each exported function answers, in numbers. Number 0 and a value, or a refusal's number and its place.
use Rattle.std.specs.Prelude.{ℕ, List, cond, ltb, Result, Ok, Err}
use Rattle.joiner.specs.declared.Joined.{Joined}
use Rattle.joiner.specs.declared.End.{End}
use Rattle.joiner.specs.declared.End.TheVariants as end'
use Rattle.joiner.specs.Join.{join_of, end_of}
use Rattle.tree.specs.declared.Resolved.{Resolved}
use Rattle.tree.specs.declared.Resolved.TheVariants as resolved
use Rattle.terms.specs.declared.Span.{Span}
use Rattle.lister.specs.declared.Listed.{Listed}
use Rattle.lister.specs.Lister.{call_of, end_stands, end_room}
use Rattle.clp.specs.declared.ClpAnswer.{ClpAnswer}
use Rattle.clp.specs.declared.ClpJoined.{ClpJoined}
use Rattle.clp.specs.declared.ClpTerm.{ClpTerm}
use Rattle.clp.specs.declared.ClpPart.{ClpPart}
use Rattle.clp.specs.State.{state_number, state_of}
use Rattle.text.specs.declared.Refusal.{Refusal}
use Rattle.std.specs.Prelude.{Option, Some, None}

abbrev pub told : ℕ → ℕ → ClpAnswer
told n v = record { number = n; value = v }

-- the value that is no length: the largest number
abbrev pub none64 : ℕ
none64 = 18446744073709551615

-- ---- a function that writes: how many bytes, or the refusal

abbrev pub answer_of : Result ℕ Refusal → ClpAnswer
answer_of (Ok n) = told 0 n
answer_of (Err e) = told e.number e.place

-- ---- joining

-- so many bytes of a line or of records, or `none` where there are none
abbrev pub stands_face : ℕ → Result (Option ℕ) Refusal → ClpAnswer
stands_face none (Ok None) = told 0 none
stands_face none (Ok (Some n)) = told 0 n
stands_face none (Err e) = told e.number e.place

abbrev pub outcome_of : Result (Option ℕ) Refusal → ClpAnswer
outcome_of o = stands_face none64 o

-- an answer, how many bytes were used, and the state's number
abbrev pub with : ClpAnswer → ℕ → ℕ → ClpJoined
with a used state = record { number = a.number; value = a.value; used = used; state = state }

abbrev pub joined_of : Joined → ClpJoined
joined_of j = with (outcome_of j.outcome) j.used (state_number j.state)

-- nothing used, and the state as it was
abbrev pub no_call : ℕ → ClpJoined
no_call n = with (told 19 0) 0 n

unfoldable pub join_face : ℕ → List ℕ → List ℕ → ClpJoined
join_face n buffer part = cond (ltb n 16384) (joined_of (join_of (state_of n) buffer part).answer) (no_call n)

unfoldable pub join_buffer : ℕ → List ℕ → List ℕ → List ℕ
join_buffer n buffer part = cond (ltb n 16384) (join_of (state_of n) buffer part).buffer buffer

abbrev pub end_answer : Result End Refusal → ClpAnswer
end_answer (Ok end'.Nothing) = told 0 0
end_answer (Ok end'.Cut) = told 0 1
end_answer (Err e) = told e.number e.place

unfoldable pub end_face : ℕ → ClpAnswer
end_face n = cond (ltb n 16384) (end_answer (end_of (state_of n))) (told 19 0)

-- ---- the next term

-- an answer, and the length of the term
abbrev pub term : ClpAnswer → ℕ → ClpTerm
term a n = record { number = a.number; value = a.value; length = n }

abbrev pub term_of : Result (Option Span) Refusal → ClpTerm
term_of (Ok (Some e)) = term (told 0 e.at) e.len
term_of (Ok None) = term (told 0 none64) 0
term_of (Err e) = term (told e.number e.place) 0

-- ---- the check of a tree: 15 at the first bad record

abbrev pub checked_of : Result Unit ℕ → ClpAnswer
checked_of (Ok u) = told 0 0
checked_of (Err p) = told 15 p

-- ---- resolving: how many nodes, or the value that is no length for a session

abbrev pub resolved_of : Result Resolved Refusal → ClpAnswer
resolved_of (Ok resolved.Session) = told 0 none64
resolved_of (Ok (resolved.Nodes n)) = told 0 n
resolved_of (Err e) = told e.number e.place

-- ---- a part of a line

abbrev pub part_face : Span → ClpPart
part_face s = record { position = s.at; length = s.len }

-- ---- a lister: how many bytes of records stand in the room, or the value that is no length

abbrev pub listed_of : Listed → ClpJoined
listed_of l = with (stands_face none64 l.stands) l.used (state_number l.state)

unfoldable pub list_face : ℕ → List ℕ → List ℕ → List ℕ → ClpJoined
list_face n buffer part room = cond (ltb n 16384) (listed_of (call_of (state_of n) buffer part room).answer) (no_call n)

unfoldable pub list_buffer : ℕ → List ℕ → List ℕ → List ℕ → List ℕ
list_buffer n buffer part room = cond (ltb n 16384) (call_of (state_of n) buffer part room).buffer buffer

unfoldable pub list_room : ℕ → List ℕ → List ℕ → List ℕ → List ℕ
list_room n buffer part room = cond (ltb n 16384) (call_of (state_of n) buffer part room).room room

-- at the end: 1, a cut's record, or 0

unfoldable pub list_end_face : ℕ → ℕ → ClpAnswer
list_end_face n room = cond (ltb n 16384) (stands_face 0 (end_stands room (end_of (state_of n)))) (told 19 0)

unfoldable pub list_end_room : ℕ → List ℕ → List ℕ
list_end_room n room = cond (ltb n 16384) (end_room room (end_of (state_of n))) room
