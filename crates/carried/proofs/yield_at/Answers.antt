-- `carried::yield_at` meets its contract.
use Rattle.std.proofs.Common.{rules}
use Rattle.carried.specs.Carried.{yield_at}
use Rattle.carried.proofs.yield_at.Goals as goal

pub returns : goal.returns
unfolding yield_at
returns c = rw (← c.lexical.ensures, c.in_ok-lexical.was, c.term_at.ensures)

pub returns-in_err-lexical : goal.returns-in_err-lexical
unfolding yield_at
returns-in_err-lexical c = rw (← c.lexical.ensures, c.in_err-lexical.was) (search rules)
