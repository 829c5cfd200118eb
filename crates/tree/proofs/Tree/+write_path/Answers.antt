-- `tree::Tree::write_path` meets its contract.
use borrow.Author.Rules.{rules}
use mathlib.Core.Path.{ap, ◌∙◌}
use mathlib.Core.List.{List, ◌∷◌}
use Prim.Native.Nat.{ℕ, ◌+◌}
use lib.ListN.{length}
use lib.Seq.{sets}
use native.Mathlib.Omega.{arith}
use Rattle.tree.proofs.GoodLaws.{good_few}
use Rattle.tree.proofs.UpLaws.{node_segment, root_length, root_put, path_place, path_most, path_put}
use Rattle.tree.proofs.Tree.+write_path.Goals as goal

pub returns-then-k-eq0 : goal.returns-then-k-eq0
returns-then-k-eq0 t c = (search (root_length, rules), search (root_put, rules), omega arith)

pub put_segment-requires : goal.put_segment-requires
put_segment-requires t c = let s = c.args.self in omega (arith, good_few s.bytes.now s.good)

pub returns : goal.returns
returns t c =
    let s = c.args.self in
    let k = c.args.k in
    let at = c.write_path-at in
    let put = c.put_segment in
    let some = c.if-k-eq0.false in
    let segment = node_segment s.bytes.now k s.good (omega arith) c.requires _ c.record.ensures in
    let place = put.ensures.0 ∙ ap (λ (l : List ℕ). at.result + (1 + length l)) segment in
    let wrote = put.ensures.1 ∙ ap (λ (l : List ℕ). sets at.new.out at.result (47 ∷ l)) segment in (
      path_place s.bytes.now k _ s.good c.requires c.parent.ensures.0 _ _ some at.ensures.0 place,
      path_put s.bytes.now k _ s.good c.requires c.parent.ensures.0 _ _ _ _ some at.ensures.0 at.ensures.1 wrote,
      path_most s.bytes.now k _ s.good c.requires c.parent.ensures.0 _ _ some c.parent.ensures.1 at.ensures.2 place,
    )
