-- The writing as the code goes: what a record tells by its parts, what it leads to, and the records in turn.
use Rattle.std.specs.Prelude.{ℕ, ◌+◌, ◌≤◌, List, [], map, cond, length, ltb, Ok, Err, Result}
use Rattle.std.specs.Borrow.{Bor}
use Rattle.std.specs.Prelude.{Option as StdOption, Some, None}
use Rattle.std.proofs.Math.Option.{Option, none, some}
use Rattle.replies.specs.Order.{Turn, on_turn, judge, judged}
use Rattle.replies.specs.Items.{Told, item, group, endgroup, endoutput}
use Rattle.replying.specs.declared.Cue.{Cue}
use Rattle.replying.specs.declared.Cue.TheVariants.{Item, Group, Close, End}
use Rattle.replying.specs.Records.{Asked}
use Rattle.replying.specs.Writing.{line_of, turn_asked, told_asked, writing_of}
use Rattle.text.specs.Room.{refusal_at}
use Rattle.text.specs.declared.Refusal.{Refusal}

-- ---- a record

-- a part of the text that the code took
abbrev pub part_told : StdOption (Bor (List ℕ)) → Option (List ℕ)
part_told None = none
part_told (Some p) = some p.now

-- what is told by parts of the text
abbrev pub told_by_cue : Cue → Told
told_by_cue (Item k v) = item k.now v.now
told_by_cue (Group n) = group n.now
told_by_cue Close = endgroup
told_by_cue End = endoutput

abbrev pub cue_told : StdOption Cue → Option Told
cue_told None = none
cue_told (Some c) = some (told_by_cue c)

-- no part is longer than a text may be
abbrev pub HeldCue : Cue → Type 0
HeldCue (Item k v) = (length k.now ≤ 65535) × (length v.now ≤ 65535)
HeldCue (Group n) = length n.now ≤ 65535
HeldCue Close = Unit {0}
HeldCue End = Unit {0}

abbrev pub Held : StdOption Cue → Type 0
Held None = Unit {0}
Held (Some c) = HeldCue c

-- the line of what is told; a bad record has none
abbrev pub line_told : Option Told → List ℕ
line_told none = []
line_told (some t) = line_of t

-- what a turn leads to at a depth: the next record at a depth, none after the reply's end, or a refusal by its number
abbrev pub Led : Type 0
Led = Result (StdOption ℕ) ℕ

abbrev pub led_by : Turn → ℕ → Led
led_by u d = on_turn u d 0 0 (λ n p. Err n) (Ok None) (λ m. Ok (Some m))

-- ---- the records in turn

-- so many bytes and so many more; over 65,535 no more are counted
unfoldable pub capped : ℕ → ℕ → ℕ
capped n m = cond (ltb 65535 n) n (n + m)

unfoldable pub sized : ℕ → Result ℕ Refusal
sized n = cond (ltb 65535 n) (Err (refusal_at 21 0)) (Ok n)

-- the records that are left, at a depth, where n bytes are to be written before them: the first trouble, or how many bytes there are in the end
unfoldable pub weighed : ℕ → ℕ → ℕ → List Asked → Result ℕ Refusal
weighed d e n as' = judged (judge d e (map turn_asked as')) (sized (n + length (writing_of (told_asked as'))))
