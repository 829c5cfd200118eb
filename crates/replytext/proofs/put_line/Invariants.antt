-- `replytext::put_line` meets its contract. The loop's invariant: to write what is left, from the place, gives what writing all would.
use Rattle.std.proofs.Common.{◌≡◌, ◌+◌, ◌*◌, ◌≤◌, length}
use Rattle.std.proofs.lemmas.List.Edits.{sets}
use Rattle.replytext.specs.Text.{numbers_line}
use Rattle.replytext.proofs.put_line.Given as goal

abbrev pub invariant-loop-rest : goal.invariant-loop-rest
invariant-loop-rest l =
    (sets l.out l.at (numbers_line l.rest) ≡ sets l.initial.out (length l.word) (numbers_line l.numbers))
    × (l.at + length (numbers_line l.rest) ≡ length l.word + length (numbers_line l.numbers))
    × (l.at + 3 * length l.rest ≤ length l.word + 3 * length l.numbers)

abbrev pub decreases-loop-rest : goal.decreases-loop-rest
decreases-loop-rest l = length l.rest
