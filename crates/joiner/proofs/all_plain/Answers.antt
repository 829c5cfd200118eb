use Rattle.std.proofs.Common.{rules}
use Rattle.joiner.proofs.Blocks.{none_marked}
use Rattle.joiner.proofs.all_plain.Goals as goal

pub returns : goal.returns
returns c = λ e. none_marked c.args.block (search rules) (rw (← c.has.ensures, ← c.has-2.ensures, ← c.has-3.ensures) e)
