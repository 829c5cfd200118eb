-- No second result of a public function fits its contract. Stated on the contract's own reading, so that it cannot drift from the source.
use mathlib.Core.Path.{◌≡◌, sym, ◌∙◌}
use contract.Lifetimes
use borrow.Fn.World
use borrow.Fn.Kinds
use denote.Triple.Clauses
use Rattle.support.specs.contracts.allows as allows-fn
use Rattle.support.proofs.allows.Kinds as allows-kinds
use Rattle.support.proofs.allows.Reads as allows-reads

pub allows_only :
    (κs : Lifetimes.Lfts 0) (a : World.ArgsD allows-fn.signature κs)
    (r r' : World.ResD allows-fn.signature κs)
    (s s' : Clauses.AtExit (Kinds.ended_of 0 allows-kinds.ps allows-kinds.r) κs)
    → allows-reads.Post κs a r s → allows-reads.Post κs a r' s'
    → r ≡ r'
allows_only κs a r r' s s' p q = p ∙ sym q
