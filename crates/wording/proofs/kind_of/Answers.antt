-- `wording::kind_of` meets its contract.
use Rattle.std.proofs.Common.{◌≡◌, refl, arith}
use Rattle.wording.specs.Words.{form_of, forms}
use Rattle.text.specs.Bytes.{bytes}
use Rattle.wording.proofs.kind_of.Goals as goal

pub returns-in-1 : goal.returns-in-1
unfolding form_of forms bytes
returns-in-1 c = rw c.in-1.is (refl, refl)

pub returns-in-2 : goal.returns-in-2
unfolding form_of forms bytes
returns-in-2 c = rw c.in-2.is (refl, refl)

pub returns-in-3 : goal.returns-in-3
unfolding form_of forms bytes
returns-in-3 c = rw c.in-3.is (refl, refl)

pub returns-in-4 : goal.returns-in-4
unfolding form_of forms bytes
returns-in-4 c = rw c.in-4.is (refl, refl)

pub returns-in-5 : goal.returns-in-5
unfolding form_of forms bytes
returns-in-5 c = rw c.in-5.is (refl, refl)

pub returns-in-6 : goal.returns-in-6
unfolding form_of forms bytes
returns-in-6 c = rw c.in-6.is (refl, refl)

pub returns-in-7 : goal.returns-in-7
unfolding form_of forms bytes
returns-in-7 c = rw c.in-7.is (refl, refl)

pub returns-in_default : goal.returns-in_default
unfolding form_of forms
returns-in_default c =
    let e : c.args.number ≡ 0 = omega (arith, c.requires) in
    rw e (refl, refl)
