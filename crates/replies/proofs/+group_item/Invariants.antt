-- `replies::group` and `replies::item` meet their contracts. The loop's invariant: to go on from where the last line left off is to read the whole.
use Rattle.std.proofs.Common.{◌≡◌, ℕ, List, length, ◌-◌, ◌+◌, ◌*◌, Ok}
use Rattle.replies.specs.Steps.{run_at, afterwards}
use Rattle.replies.specs.declared.Stand.{Stand}
use Rattle.replies.specs.declared.Stand.TheVariants.{Next, Shut, Ended}
use Rattle.replies.proofs.RunLaws.{Reached}
use Rattle.replies.proofs.+group_item.Given as goal

-- each line is at least a byte further on; a group's first line begins where the group does
abbrev pub decreases-group : goal.decreases-group
decreases-group l = 2 * (length l.s.now - l.at) + 1

abbrev pub decreases-item : goal.decreases-item
decreases-item l = 2 * (length l.s.now - l.at)

abbrev pub invariant-group-loop-r : goal.invariant-group-loop-r
invariant-group-loop-r l = (run_at l.s l.at l.depth l.w l.initial.out ≡ afterwards l.s l.depth (Ok l.r) l.out) × Reached l.s l.at l.depth l.r

-- how many bytes of the text are left, and one more while a line is to be read
abbrev left : List ℕ → Stand → ℕ
left s (Next n w) = 1 + (length s - n)
left s (Shut n w) = 0
left s (Ended w) = 0

abbrev pub decreases-group-loop-r : goal.decreases-group-loop-r
decreases-group-loop-r l = left l.s l.r
