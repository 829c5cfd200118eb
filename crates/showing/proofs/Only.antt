-- No second result of a function that answers fits its contract. Stated on each contract's own reading, so that it cannot drift from the source.
use Prim.Native.Nat.{ℕ, ◌+◌}
use mathlib.Core.Path.{◌≡◌, refl, sym, ◌∙◌, ap}
use mathlib.Core.List.{List}
use native.Mathlib.Omega.{arith}
use lib.ListN.{length}
use lib.Dec.{leb}
use borrow.Author.Tests.{leb-true, leb-false}
use contract.Lifetimes
use borrow.Fn.World
use borrow.Fn.Kinds
use denote.Triple.Clauses
use Rattle.text.proofs.Tests.{either}
use Rattle.showing.specs.declared.Stretch.{Stretch}
use Rattle.std.proofs.Common.{Option, Some, None, Bor}
use Rattle.showing.specs.Ways.{LineIs, PartIs, TwoIs}
use Rattle.showing.specs.contracts.line_len as line-len-fn
use Rattle.showing.proofs.line_len.Kinds as line-len-kinds
use Rattle.showing.proofs.line_len.Reads as line-len-reads
use Rattle.showing.specs.contracts.split_line as split-line-fn
use Rattle.showing.proofs.split_line.Kinds as split-line-kinds
use Rattle.showing.proofs.split_line.Reads as split-line-reads
use Rattle.showing.specs.contracts.onward as onward-fn
use Rattle.showing.proofs.onward.Kinds as onward-kinds
use Rattle.showing.proofs.onward.Reads as onward-reads
use Rattle.showing.specs.contracts.two_at as two-at-fn
use Rattle.showing.proofs.two_at.Kinds as two-at-kinds
use Rattle.showing.proofs.two_at.Reads as two-at-reads
use Rattle.showing.specs.contracts.part_at as part-at-fn
use Rattle.showing.proofs.part_at.Kinds as part-at-kinds
use Rattle.showing.proofs.part_at.Reads as part-at-reads

-- the two bytes are there, or not
two_same : (s : List ℕ) (at skip r r' : ℕ) → TwoIs s at skip r → TwoIs s at skip r' → r ≡ r'
two_same s at skip r r' p q =
    either (leb (at + skip + 2) (length s)) (λ e. let h = leb-true (at + skip + 2) (length s) e in p.there h ∙ sym (q.there h))
    (λ e. let h = leb-false (at + skip + 2) (length s) e in p.missing h ∙ sym (q.missing h))

-- a part is there, or cut
part_same : (s : List ℕ) (at skip len : ℕ) (r r' : Option Stretch) → PartIs s at skip len r → PartIs s at skip len r' → r ≡ r'
part_same s at skip len None None p q = refl
part_same s at skip len None (Some y) p q = absurd (omega (arith, p, q.1, q.2))
part_same s at skip len (Some x) None p q = absurd (omega (arith, q, p.1, p.2))
part_same s at skip len (Some x) (Some y) p q =
    ap (λ a. Some (record { start = a; end = x.end })) (p.0 ∙ sym q.0) ∙ ap (λ b. Some (record { start = y.start; end = b })) (p.1 ∙ sym q.1)

-- the bytes of a line and of what follows
abbrev pub line_bytes : Option (Bor (List ℕ) × Bor (List ℕ)) → Option (List ℕ × List ℕ)
line_bytes None = None
line_bytes (Some p) = Some (p.0.now, p.1.now)

-- a line is there, or nothing is left
line_same : (s : List ℕ) (r r' : Option (Bor (List ℕ) × Bor (List ℕ))) → LineIs s r → LineIs s r' → line_bytes r ≡ line_bytes r'
line_same s None None p q = refl
line_same s None (Some y) p q = absurd (omega (arith, p, q.0))
line_same s (Some x) None p q = absurd (omega (arith, q, p.0))
line_same s (Some x) (Some y) p q = ap (λ a. Some (a, x.1.now)) (p.1 ∙ sym q.1) ∙ ap (λ b. Some (y.0.now, b)) (p.2 ∙ sym q.2)

pub line_len_only :
    (κs : Lifetimes.Lfts 1) (a : World.ArgsD line-len-fn.signature κs)
    (r r' : World.ResD line-len-fn.signature κs)
    (s s' : Clauses.AtExit (Kinds.ended_of 1 line-len-kinds.ps line-len-kinds.r) κs)
    → line-len-reads.Post κs a r s → line-len-reads.Post κs a r' s'
    → r ≡ r'
line_len_only κs a r r' s s' p q = p.0 ∙ sym q.0

-- of the bytes: where they stand no promise can say
pub split_line_only :
    (κs : Lifetimes.Lfts 1) (a : World.ArgsD split-line-fn.signature κs)
    (r r' : World.ResD split-line-fn.signature κs)
    (s s' : Clauses.AtExit (Kinds.ended_of 1 split-line-kinds.ps split-line-kinds.r) κs)
    → split-line-reads.Post κs a r s → split-line-reads.Post κs a r' s'
    → line_bytes r ≡ line_bytes r'
split_line_only κs a r r' s s' p q = line_same _ r r' p q

pub onward_only :
    (κs : Lifetimes.Lfts 0) (a : World.ArgsD onward-fn.signature κs)
    (r r' : World.ResD onward-fn.signature κs)
    (s s' : Clauses.AtExit (Kinds.ended_of 0 onward-kinds.ps onward-kinds.r) κs)
    → onward-reads.Post κs a r s → onward-reads.Post κs a r' s'
    → r ≡ r'
onward_only κs a r r' s s' p q = p.0 ∙ sym q.0

pub two_at_only :
    (κs : Lifetimes.Lfts 1) (a : World.ArgsD two-at-fn.signature κs)
    (r r' : World.ResD two-at-fn.signature κs)
    (s s' : Clauses.AtExit (Kinds.ended_of 1 two-at-kinds.ps two-at-kinds.r) κs)
    → two-at-reads.Post κs a r s → two-at-reads.Post κs a r' s'
    → r ≡ r'
two_at_only κs a r r' s s' p q = two_same _ _ _ r r' p.0 q.0

pub part_at_only :
    (κs : Lifetimes.Lfts 1) (a : World.ArgsD part-at-fn.signature κs)
    (r r' : World.ResD part-at-fn.signature κs)
    (s s' : Clauses.AtExit (Kinds.ended_of 1 part-at-kinds.ps part-at-kinds.r) κs)
    → part-at-reads.Post κs a r s → part-at-reads.Post κs a r' s'
    → r ≡ r'
part_at_only κs a r r' s s' p q = part_same _ _ _ _ r r' p q
