-- What was found so far is what the bytes so far have.
use Rattle.std.proofs.Common.{◌≡◌, eqb, take}
use Rattle.std.specs.List.{list_any}
use Rattle.joiner.proofs.has.Given as goal

abbrev pub invariant-loop-b : goal.invariant-loop-b
invariant-loop-b l = l.found ≡ list_any (λ b. eqb b l.x) (take l.b-index l.fn.block)
