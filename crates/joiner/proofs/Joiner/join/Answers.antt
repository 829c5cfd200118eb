use Rattle.std.proofs.Common.{rules, refl, ap, ◌∙◌, length, ◌≡◌, eqb, false}
use mathlib.Core.Bool.{and-false}
use borrow.Author.Tests.{eq-eqb}
use Rattle.joiner.specs.Join.{run, join_of, Ran}
use Rattle.joiner.proofs.Joiner.join.Goals as goal

pub returns-in-Some : goal.returns-in-Some
unfolding join_of
returns-in-Some c =
    let e = ap (λ b. run 0 c.args.self b c.args.part.now) c.in-Some.ensures.cases.same in
    rw (eq-eqb _ _ c.in-Some.ensures.cases.long, ← c.possible.ensures, c.if-possible.true) record { value = c.take.ensures.value ∙ ap (λ (r : Ran). r.answer) e; buffer_after = c.take.ensures.buffer_after ∙ ap (λ (r : Ran). r.buffer) e }

pub returns-in_default : goal.returns-in_default
unfolding join_of
returns-in_default c = rw (← c.possible.ensures, c.if-possible.false, and-false) record { value = refl; buffer_after = c.in-Some.ensures.cases.same }

pub returns : goal.returns
unfolding join_of
returns c = let n : eqb (length c.args.buffer.now) 1024 ≡ false = search rules in rw n record { value = refl; buffer_after = refl }
