-- No second result of `new` fits its contract.
use mathlib.Core.Path.{◌≡◌, sym, ◌∙◌}
use contract.Lifetimes
use borrow.Fn.World
use borrow.Fn.Kinds
use denote.Triple.Clauses
use Rattle.joiner.specs.contracts.Joiner.new
use Rattle.joiner.proofs.Joiner.new.Kinds as new-kinds
use Rattle.joiner.proofs.Joiner.new.Reads as new-reads

pub new_only :
    (κs : Lifetimes.Lfts 0) (a : World.ArgsD new.signature κs)
    (r r' : World.ResD new.signature κs)
    (s s' : Clauses.AtExit (Kinds.ended_of 0 new-kinds.ps new-kinds.r) κs)
    → new-reads.Post κs a r s → new-reads.Post κs a r' s'
    → r ≡ r'
new_only κs a r r' s s' p q = p ∙ sym q
