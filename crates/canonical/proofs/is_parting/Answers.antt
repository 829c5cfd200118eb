use Rattle.std.proofs.Common.{arith}
use Rattle.std.proofs.lemmas.Bool.Decides.{nat_tests}
use Rattle.text.specs.Bytes.{bytes, one_of}
use Rattle.canonical.proofs.is_parting.Goals as goal

pub returns-in_default : goal.returns-in_default
unfolding one_of bytes
returns-in_default c = rw c.in-Out.is (grind (arith, nat_tests))

pub returns-in_default-2 : goal.returns-in_default-2
unfolding one_of bytes
returns-in_default-2 c = rw c.in-Out.is (grind (arith, nat_tests))

pub returns-in-40 : goal.returns-in-40
unfolding one_of bytes
returns-in-40 c = rw c.in-Out.is (grind (arith, nat_tests))

pub returns-in-40-2 : goal.returns-in-40-2
unfolding one_of bytes
returns-in-40-2 c = rw c.in-Out.is (grind (arith, nat_tests))
