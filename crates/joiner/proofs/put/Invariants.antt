-- What is left of the block, stored where it goes, gives what is asked.
use Rattle.std.proofs.Common.{◌≡◌, ◌+◌, drop}
use lib.Seq.{sets}
use Rattle.joiner.proofs.put.Given as goal

abbrev pub invariant-loop-k : goal.invariant-loop-k
invariant-loop-k l = sets l.initial.buffer l.at l.block ≡ sets l.buffer (l.at + l.k) (drop l.k l.block)
