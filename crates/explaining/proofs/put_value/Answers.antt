use borrow.Author.Tests.{ne_eqb}
use Rattle.text.specs.Bytes.{bytes}
use Rattle.words.proofs.Pens.{more, nothing_put}
use Rattle.std.proofs.Common.{rules}
use native.Mathlib.Omega.{arith}
use Rattle.explaining.proofs.put_value.Goals as goal

pub returns-in-0 : goal.returns-in-0
returns-in-0 c = rw c.in-0.is (nothing_put (search rules))

pub returns-in-1 : goal.returns-in-1
unfolding bytes
returns-in-1 c = rw c.in-1.is (more c.text.ensures c.put_visible.ensures)

pub returns-in_default : goal.returns-in_default
unfolding bytes
returns-in_default c = let o = c.args.operator in rw (ne_eqb o 0 (λ e. omega arith), ne_eqb o 1 (λ e. omega arith)) (more c.text-in_default.ensures c.put_visible-in_default.ensures)
