-- `forms::are_entries` meets its contract. Assumes nothing.
use Rattle.std.proofs.Common.{◌≡◌, ◌≤◌, length}
use Rattle.forms.specs.Answers.{are_entries_in}
use Rattle.forms.proofs.are_entries.Given as goal

abbrev pub invariant-loop-rest : goal.invariant-loop-rest
invariant-loop-rest l = (l.left ≤ length l.rest) × (are_entries_in l.rest l.left ≡ are_entries_in l.s l.n)

abbrev pub decreases-loop-rest : goal.decreases-loop-rest
decreases-loop-rest l = l.left
