use Prim.Native.Nat.{ℕ}
use mathlib.Core.Path.{ap, sym, ◌∙◌}
use mathlib.Core.List.{List}
use lib.ListN.{drop}
use Rattle.text.specs.Lists.{any_of}
use Rattle.text.proofs.Slices.{part_from}
use Rattle.terms.specs.declared.Mode.TheVariants.{Out}
use Rattle.terms.specs.Signs.{signs, is_bare}
use Rattle.terms.proofs.ScanLaws.{some_on}
use Rattle.terms.proofs.RunLaws.{run_some}
use Rattle.terms.proofs.has_bare.Goals as goal

pub loop-c-init : goal.loop-c-init
loop-c-init c =
    let a = c.args in
    let n = c.ordinary_len in
    ap (λ (l : List ℕ). any_of (is_bare a.b) (signs Out l)) (part_from a.s.now n.result)
    ∙ ap (λ (k : ℕ). any_of (is_bare a.b) (signs Out (drop k a.s.now))) n.ensures.run
    ∙ run_some a.b a.s.now

pub loop-c-preserved : goal.loop-c-preserved
loop-c-preserved c = some_on (is_bare c.args.b) _ c.loop-c.c-index c.loop-c.m c.step-m.result c.loop-c-test.true c.step-m.ensures (sym c.gives_bare.ensures ∙ c.if-gives_bare.false) ∙ c.loop-c.invariant
