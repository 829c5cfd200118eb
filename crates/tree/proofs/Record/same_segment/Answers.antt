-- `tree::Record::same_segment` meets its contract.
use mathlib.Core.Path.{◌∙◌}
use native.Mathlib.Omega.{arith}
use borrow.Author.Tests.{ne_eqb}
use Rattle.tree.proofs.CheckLaws.{other_length, by_tags}
use Rattle.tree.proofs.Record.same_segment.Goals as goal

pub returns-then-len-b : goal.returns-then-len-b
returns-then-len-b c =
    let same = c.if-len-b.true in
    by_tags c.args.a.now c.args.self.bytes.now _ _ _ _ c.pair.ensures c.pair-2.ensures c.if-pair.false (c.from-end.ensures ∙ same) same c.same_letters.ensures

pub returns-else-len-b : goal.returns-else-len-b
returns-else-len-b c =
    let differ = c.if-len-b.false in
    ne_eqb _ _ differ ∙ other_length c.args.a.now c.args.self.bytes.now (omega arith) (omega arith) c.args.self.short differ
