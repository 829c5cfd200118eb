-- Demand 1: on a refusal nothing lent for printing a part has changed. Assumes nothing.
use Prim.Native.Nat.{ℕ}
use mathlib.Core.Path.{◌≡◌, refl}
use mathlib.Core.List.{List}
use mathlib.Core.Bool.{Bool, true, false, cond}
use native.Mathlib.Omega.{arith}
use lib.ListN.{length}
use Rattle.joiner.specs.declared.Joiner.{Joiner}
use Rattle.printing.specs.Printing.{PartPrint, print_of, may_print, printed_by, unprinted, part_print}
use Rattle.std.proofs.Common.{Err}
use Rattle.text.specs.Room.{refusal_at}

-- nothing is used either, no line is told, and the state comes back as it was
pub print_kept : (s : Joiner) (b p out : List ℕ) (k q : ℕ) → (part_print s b p out).answer.answer ≡ Err (refusal_at k q)
    → ((part_print s b p out).buffer ≡ b)
    × ((part_print s b p out).out ≡ out)
    × ((part_print s b p out).answer.state ≡ s)
    × ((part_print s b p out).answer.used ≡ 0)
    × ((part_print s b p out).answer.lines ≡ 0)
unfolding part_print
print_kept s b p out k q = go (may_print s b (length out))
  where
    part : Bool → PartPrint
    part t = cond t (printed_by (print_of s b p (length out)) out) (unprinted s b out)

    go : (t : Bool) → (part t).answer.answer ≡ Err (refusal_at k q)
        → ((part t).buffer ≡ b) × ((part t).out ≡ out) × ((part t).answer.state ≡ s) × ((part t).answer.used ≡ 0) × ((part t).answer.lines ≡ 0)
    go true e = let z : ◌≡◌ {A = ℕ} 0 1 = cc in absurd (omega arith)
    go false e = (refl, refl, refl, refl, refl)
