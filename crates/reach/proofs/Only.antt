-- No second result of a public function fits its contract: the answer is determined by what went in.
-- Stated on each contract's own reading, so that it cannot drift from the source.
use mathlib.Core.Path.{◌≡◌, sym, ◌∙◌}
use contract.Lifetimes
use borrow.Fn.World
use borrow.Fn.Kinds
use denote.Triple.Clauses
use Rattle.reach.specs.contracts.reach as reach-fn
use Rattle.reach.proofs.reach.Kinds as reach-kinds
use Rattle.reach.proofs.reach.Reads as reach-reads

pub reach_only :
    (κs : Lifetimes.Lfts 1) (a : World.ArgsD reach-fn.signature κs)
    (r r' : World.ResD reach-fn.signature κs)
    (s s' : Clauses.AtExit (Kinds.ended_of 1 reach-kinds.ps reach-kinds.r) κs)
    → reach-reads.Post κs a r s → reach-reads.Post κs a r' s'
    → r ≡ r'
reach_only κs a r r' s s' p q = p ∙ sym q
