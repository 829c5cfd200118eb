-- No second result of `asks` or `works` fits its contract. Stated on the contract's own reading, so that it cannot drift from the source.
use mathlib.Core.Path.{◌≡◌, sym, ◌∙◌}
use contract.Lifetimes
use borrow.Fn.World
use borrow.Fn.Kinds
use denote.Triple.Clauses
use denote.RattleType
use denote.Param.Laws
use mir.Syntax
use Rattle.std.specs.declared.io.Print
use Rattle.std.specs.declared.time.Clock
use Rattle.console.specs.contracts.asks as asks-fn
use Rattle.console.proofs.asks.Kinds as asks-kinds
use Rattle.console.proofs.asks.Reads as asks-reads
use Rattle.console.specs.contracts.works as works-fn
use Rattle.console.proofs.works.Kinds as works-kinds
use Rattle.console.proofs.works.Reads as works-reads

pub asks_only :
    (κs : Lifetimes.Lfts 1) (a : World.ArgsD asks-fn.signature κs)
    (r r' : World.ResD asks-fn.signature κs)
    (s s' : Clauses.AtExit (Kinds.ended_of 1 asks-kinds.ps asks-kinds.r) κs)
    → asks-reads.Post κs a r s → asks-reads.Post κs a r' s'
    → r ≡ r'
asks_only κs a r r' s s' p q = p ∙ sym q

-- whatever the runtime is that the program is given
module _ (R : RattleType.RattleType) (L : Laws.Laws R) (P : Print.Ghosts R.Denot) (Pd : Syntax.Dict) (C : Clock.Ghosts R.Denot) (Cd : Syntax.Dict) where
  pub works_only :
      (κs : Lifetimes.Lfts 6) (a : World.ArgsD (works-fn.signature R) κs)
      (r r' : World.ResD (works-fn.signature R) κs)
      (s s' : Clauses.AtExit (Kinds.ended_of 6 (works-kinds.ps R L) (works-kinds.r R L)) κs)
      → works-reads.Post R L P Pd C Cd κs a r s → works-reads.Post R L P Pd C Cd κs a r' s'
      → r ≡ r'
  works_only κs a r r' s s' p q = p ∙ sym q
