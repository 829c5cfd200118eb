-- `tree::Record::put_segment` meets its contract.
use native.Mathlib.Omega.{arith}
use Rattle.tree.proofs.UpLaws.{digits_most, tag_most, segment_place, segment_put}
use Rattle.tree.proofs.Record.put_segment.Goals as goal

pub overflow_add-result : goal.overflow_add-result
overflow_add-result c =
    let s = c.args.self in
    omega (arith, digits_most _ _ c.put_decimal.ensures.0, tag_most s.bytes.now _ c.tag-tag.ensures s.short)

pub returns : goal.returns
returns c =
    let s = c.args.self in (
      segment_place s.bytes.now _ _ c.tag-tag.ensures c.number.ensures _ _ c.put_decimal.ensures.0,
      segment_put s.bytes.now _ _ c.tag-tag.ensures c.number.ensures _ _ _ _ _ c.put.ensures c.copy.ensures c.put_decimal.ensures.1,
    )
