-- No second result of a public function fits its contract: answers, the room and the list at exit are determined by what went in.
-- Stated on each contract's own reading, so that it cannot drift from the source.
use mathlib.Core.Path.{◌≡◌, sym, ◌∙◌}
use contract.Lifetimes
use borrow.Fn.World
use borrow.Fn.Kinds
use denote.Triple.Clauses
use Rattle.tree.specs.contracts.check as check-fn
use Rattle.tree.proofs.check.Kinds as check-kinds
use Rattle.tree.proofs.check.Reads as check-reads
use Rattle.tree.specs.contracts.full_path as full-path-fn
use Rattle.tree.proofs.full_path.Kinds as full-path-kinds
use Rattle.tree.proofs.full_path.Reads as full-path-reads
use Rattle.tree.specs.contracts.resolve as resolve-fn
use Rattle.tree.proofs.resolve.Kinds as resolve-kinds
use Rattle.tree.proofs.resolve.Reads as resolve-reads

pub check_only : (κs : Lifetimes.Lfts 1) (a : World.ArgsD check-fn.signature κs) (r r' : World.ResD check-fn.signature κs)
    (s s' : Clauses.AtExit (Kinds.ended_of 1 check-kinds.ps check-kinds.r) κs) → check-reads.Post κs a r s → check-reads.Post κs a r' s' → r ≡ r'
check_only κs a r r' s s' p q = p ∙ sym q

pub full_path_only : (κs : Lifetimes.Lfts 2) (a : World.ArgsD full-path-fn.signature κs) (r r' : World.ResD full-path-fn.signature κs)
    (s s' : Clauses.AtExit (Kinds.ended_of 2 full-path-kinds.ps full-path-kinds.r) κs) → full-path-reads.Post κs a r s → full-path-reads.Post κs a r' s'
    → (r ≡ r') × (s.1.1.0.now ≡ s'.1.1.0.now)
full_path_only κs a r r' s s' p q = (p.0 ∙ sym q.0, p.1 ∙ sym q.1)

pub resolve_only : (κs : Lifetimes.Lfts 3) (a : World.ArgsD resolve-fn.signature κs) (r r' : World.ResD resolve-fn.signature κs)
    (s s' : Clauses.AtExit (Kinds.ended_of 3 resolve-kinds.ps resolve-kinds.r) κs) → resolve-reads.Post κs a r s → resolve-reads.Post κs a r' s'
    → (r ≡ r') × (s.1.1.1.0.now ≡ s'.1.1.1.0.now)
resolve_only κs a r r' s s' p q = (p.0 ∙ sym q.0, p.1 ∙ sym q.1)
