-- `words::record_len` meets its contract.
use Prim.Native.Nat.{ℕ, ◌+◌}
use mathlib.Core.Path.{sym, ap, ◌∙◌}
use Rattle.words.proofs.RowLaws.{len_is, len_unknown}
use Rattle.words.proofs.record_len.Goals as goal

pub returns-in-Some : goal.returns-in-Some
returns-in-Some c =
    ap (λ (n : ℕ). 1 + n) c.from.ensures ∙ len_is c.args.kind c.in-Some.n (sym c.in-Some.is ∙ c.body_len.ensures)

pub returns-in-None : goal.returns-in-None
returns-in-None c = len_unknown c.args.kind (sym c.in-None.is ∙ c.body_len.ensures)
