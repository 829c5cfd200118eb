-- `tree::Tree::path_len` meets its contract.
use borrow.Author.Rules.{rules}
use mathlib.Core.Path.{ap, ◌∙◌}
use mathlib.Core.List.{List}
use Prim.Native.Nat.{ℕ, ◌+◌}
use lib.ListN.{length}
use native.Mathlib.Omega.{arith}
use Rattle.tree.proofs.UpLaws.{node_segment, root_length, path_length}
use Rattle.tree.proofs.Tree.+path_len.Goals as goal

pub returns-then-k-eq0 : goal.returns-then-k-eq0
returns-then-k-eq0 t c = (search (root_length, rules), omega arith)

pub returns : goal.returns
returns t c =
    let s = c.args.self in
    let segment = node_segment s.bytes.now c.args.k s.good (omega arith) c.requires _ c.record.ensures in (
      path_length s.bytes.now c.args.k _ s.good c.requires c.parent.ensures.0 _ _ c.if-k-eq0.false c.path_len.ensures.0 (c.segment_len.ensures.0 ∙ ap (λ (l : List ℕ). 1 + length l) segment),
      omega arith,
    )
