-- A part of a capture as text: call after call of the joiner, and of each line that it ends the records as text, in order.
use Rattle.std.specs.Prelude.{ℕ, zero, suc, ◌+◌, ◌-◌, List, [], ◌++◌, Bool, ◌&&◌, cond, length, drop, leb, ltb, Result, Ok, Err}
use Rattle.text.specs.Room.{wrote, refusal_at}
use Rattle.joiner.specs.declared.Joiner.{Joiner}
use Rattle.joiner.specs.Join.{Ran, join_of}
use Rattle.wording.specs.Words.{wording_of}
use Rattle.wording.specs.Steps.{worded_text}
use Rattle.lister.specs.Lister.{records_by, fit}
use Rattle.printing.specs.declared.Printed.{Printed}
use Rattle.text.specs.declared.Refusal.{Refusal}
use Rattle.std.specs.Prelude.{Option, Some, None}

-- ---- one call of the joiner: the text of the records that it gives, and how many lines it ends

-- the text of records, and none where one of them is bad
abbrev pub records_text : List ℕ → List ℕ
records_text rs = worded_text (wording_of rs)

unfoldable pub outcome_text : Result (Option ℕ) Refusal → List ℕ → List ℕ
outcome_text o b = records_text (records_by o b)

abbrev pub lines_by : Result (Option ℕ) Refusal → ℕ
lines_by (Ok None) = 0
lines_by (Ok (Some n)) = 1
lines_by (Err e) = 1

-- ---- call after call

-- what the calls leave, how many bytes they used, how many lines they ended, and the text of those
pub record Print : Type 0 where
  pub state : Joiner
  pub buffer : List ℕ
  pub used : ℕ
  pub lines : ℕ
  pub text : List ℕ

abbrev pub none_yet : Joiner → List ℕ → Print
none_yet s b = record { state = s; buffer = b; used = 0; lines = 0; text = [] }

abbrev pub ran_text : Ran → List ℕ
ran_text r = outcome_text r.answer.outcome r.buffer

-- one call, and then others
abbrev pub and_then : Ran → Print → Print
and_then r p =
    record {
      state = p.state;
      buffer = p.buffer;
      used = r.answer.used + p.used;
      lines = lines_by r.answer.outcome + p.lines;
      text = ran_text r ++ p.text;
    }

-- no line's text is longer: its records have at most 399 bytes, and the text of none is more than six times as long as it
abbrev pub longest : ℕ
longest = 2394

-- whether a call is made: bytes of the part are left, and room for any line's text
abbrev pub may_call : ℕ → ℕ → Bool
may_call left room = ltb 0 left && leb longest room

-- a call uses at least one byte, so there are at most as many calls as bytes
unfoldable pub print_from : ℕ → Joiner → List ℕ → List ℕ → ℕ → Print
print_from zero s b part room = none_yet s b
print_from (suc n) s b part room =
    let r = join_of s b part in
    let rest = print_from n r.answer.state r.buffer (drop r.answer.used part) (room - length (ran_text r)) in
    cond (may_call (length part) room) (and_then r rest) (none_yet s b)

unfoldable pub print_of : Joiner → List ℕ → List ℕ → ℕ → Print
print_of s b part room = print_from (length part) s b part room

-- ---- what is answered, and what the line buffer and the room for the text then hold

pub record PartPrint : Type 0 where
  pub answer : Printed
  pub buffer : List ℕ
  pub out : List ℕ

abbrev pub printed : Joiner → ℕ → ℕ → Result ℕ Refusal → Printed
printed s n k a = record { state = s; used = n; lines = k; answer = a }

abbrev pub printed_by : Print → List ℕ → PartPrint
printed_by p out = record { answer = printed p.state p.used p.lines (Ok (length p.text)); buffer = p.buffer; out = wrote out p.text }

abbrev pub unprinted : Joiner → List ℕ → List ℕ → PartPrint
unprinted s b out = record { answer = printed s 0 0 (Err (refusal_at 19 0)); buffer = b; out = out }

-- what the joiner refuses as 19, and less room than any line's text may take, is refused as 19; then nothing is used and nothing lent has changed
abbrev pub may_print : Joiner → List ℕ → ℕ → Bool
may_print s b room = fit s b && leb longest room

unfoldable pub part_print : Joiner → List ℕ → List ℕ → List ℕ → PartPrint
part_print s b part out = cond (may_print s b (length out)) (printed_by (print_of s b part (length out)) out) (unprinted s b out)
