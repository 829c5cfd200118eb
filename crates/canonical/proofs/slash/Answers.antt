use Rattle.std.proofs.Common.{arith}
use Rattle.std.proofs.lemmas.Bool.Decides.{nat_tests}
use Rattle.canonical.specs.Written.{slash}
use Rattle.canonical.proofs.slash.Goals as goal

pub returns-then-b-eq92 : goal.returns-then-b-eq92
unfolding slash
returns-then-b-eq92 c = grind (arith, nat_tests)

pub returns-else-b-eq92 : goal.returns-else-b-eq92
unfolding slash
returns-else-b-eq92 c = grind (arith, nat_tests)
