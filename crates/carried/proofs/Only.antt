-- No second result of a public function fits its contract: the answer is determined by what went in.
-- Stated on each contract's own reading, so that it cannot drift from the source.
use mathlib.Core.Path.{◌≡◌, sym, ◌∙◌}
use Prim.Native.Nat.{ℕ}
use mathlib.Core.List.{List}
use denote.Ref.{Bor}
use contract.Lifetimes
use borrow.Fn.World
use borrow.Fn.Kinds
use denote.Triple.Clauses
use Rattle.carried.specs.declared.Reader.{Reader}
use Rattle.carried.specs.Carried.{yield_at, past_at}
use Rattle.carried.specs.contracts.yield_at as yield-at-fn
use Rattle.carried.proofs.yield_at.Kinds as yield-at-kinds
use Rattle.carried.proofs.yield_at.Reads as yield-at-reads
use Rattle.carried.specs.contracts.past_at as past-at-fn
use Rattle.carried.proofs.past_at.Kinds as past-at-kinds
use Rattle.carried.proofs.past_at.Reads as past-at-reads
use Rattle.std.proofs.Common.{Result, Option}
use Rattle.text.specs.declared.Refusal.{Refusal}
use Rattle.terms.specs.declared.Span.{Span}

pub yield_at_only :
    (κs : Lifetimes.Lfts 1) (a : World.ArgsD yield-at-fn.signature κs)
    (r r' : World.ResD yield-at-fn.signature κs)
    (s s' : Clauses.AtExit (Kinds.ended_of 1 yield-at-kinds.ps yield-at-kinds.r) κs)
    → yield-at-reads.Post κs a r s → yield-at-reads.Post κs a r' s'
    → r ≡ r'
yield_at_only κs a r r' s s' p q = p ∙ sym q

pub past_at_only :
    (κs : Lifetimes.Lfts 1) (a : World.ArgsD past-at-fn.signature κs)
    (r r' : World.ResD past-at-fn.signature κs)
    (s s' : Clauses.AtExit (Kinds.ended_of 1 past-at-kinds.ps past-at-kinds.r) κs)
    → past-at-reads.Post κs a r s → past-at-reads.Post κs a r' s'
    → r ≡ r'
past_at_only κs a r r' s s' p q = p ∙ sym q

-- The kit before this one made no such reading of a function that has the struct in a parameter, its result or a local. So for these four the clause of the
-- source stands here again, as the two premises.
module _ (q q' : Reader) where
  -- a reader is told by its line and its place
  told : (l : Bor (List ℕ)) (n : ℕ) → (q.line ≡ l) × (q.at ≡ n) → (q'.line ≡ l) × (q'.at ≡ n) → q ≡ q'
  told l n p p' = λ i. record { line = (p.0 ∙ sym p'.0) i; at = (p.1 ∙ sym p'.1) i }

  pub new_only : (line : Bor (List ℕ)) → (q.line ≡ line) × (q.at ≡ 0) → (q'.line ≡ line) × (q'.at ≡ 0) → q ≡ q'
  new_only line p p' = told line 0 p p'

  pub moved_only : (r : Reader) → (q.line ≡ r.line) × (q.at ≡ past_at r.line.now r.at) → (q'.line ≡ r.line) × (q'.at ≡ past_at r.line.now r.at) → q ≡ q'
  moved_only r p p' = told r.line (past_at r.line.now r.at) p p'

module _ (y y' : Result (Option Span) Refusal) where
  pub next_only : (r : Reader) → y ≡ yield_at r.line.now r.at → y' ≡ yield_at r.line.now r.at → y ≡ y'
  next_only r p q = p ∙ sym q

  pub first_only : (line : Bor (List ℕ)) → y ≡ yield_at line.now 0 → y' ≡ yield_at line.now 0 → y ≡ y'
  first_only line p q = p ∙ sym q
