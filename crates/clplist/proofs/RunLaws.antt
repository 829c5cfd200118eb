-- What a call of the lister does: a part's bytes are used, and the state stays one that some capture leads to. Assumes nothing.
use Rattle.std.proofs.Common.{◌≡◌, ℕ, ◌<◌, ◌≤◌, Bool, true, ◌&&◌, leb, List, length, ap, ◌∙◌, arith, le-leb}
use Rattle.joiner.specs.declared.Joiner.{Joiner}
use Rattle.lister.specs.Lister.{fit}
use Rattle.printing.specs.declared.Printed.{Printed}
use Rattle.printing.specs.Printing.{longest, may_print, print_of, PartPrint, part_print}
use Rattle.printing.proofs.LoopLaws.{print_some}
use Rattle.printing.proofs.Bounds.{part_within}
use Rattle.printing.proofs.Prints.{print_uses, print_fit}
use Rattle.std.proofs.Common.{Ok}

-- the bytes that were used of a part
module _ (r : Printed) (s : Joiner) (b p out : List ℕ) (e : r ≡ (part_print s b p out).answer) where
  pub print_used : r.used ≤ length p
  print_used = omega (arith, ap (λ (x : Printed). x.used) e, part_within s b p out)

  -- from a state that some capture leads to a part is printed, and what is left is such a state again
  module _ (f : fit s b ≡ true) (h : longest ≤ length out) where
    may : may_print s b (length out) ≡ true
    may = ap (λ (z : Bool). z && leb longest (length out)) f ∙ le-leb longest (length out) h

    told : (part_print s b p out).answer.answer ≡ Ok (length (print_of s b p (length out)).text)
    told = ap (λ (x : PartPrint). x.answer.answer) (print_some s b p out may)

    pub print_some_used : 0 < length p → 0 < r.used
    print_some_used g = omega (arith, ap (λ (x : Printed). x.used) e, print_uses s b p out _ told g)

    pub print_fits : (x : List ℕ) → x ≡ (part_print s b p out).buffer → fit r.state x ≡ true
    print_fits x q =
        ap (λ (y : Printed). fit y.state x) e ∙ ap (fit (part_print s b p out).answer.state) q ∙ print_fit s b p out _ told
