-- `tree::Record::mix` meets its contract.
use mathlib.Core.Path.{ap}
use Prim.Native.Nat.{ℕ, ◌+◌}
use lib.ListN.{get_or}
use native.Mathlib.Omega.{arith}
use Rattle.tree.specs.Marks.{mix_of}
use Rattle.tree.proofs.Record.mix.Goals as goal

pub returns : goal.returns
unfolding mix_of
returns c = let r = c.args.self.bytes.now in omega (arith, ap (λ (n : ℕ). get_or r (3 + n) 0) c.from.ensures)
