-- `tree::Record::segment_len` meets its contract.
use native.Mathlib.Omega.{arith}
use Rattle.text.proofs.Decimals.{width_between}
use Rattle.tree.proofs.UpLaws.{tag_most, segment_length}
use Rattle.tree.proofs.Record.segment_len.Goals as goal

pub overflow_add-result-2 : goal.overflow_add-result-2
overflow_add-result-2 c =
    let s = c.args.self in
    omega (arith, c.width.ensures, width_between c.number.result, tag_most s.bytes.now _ c.tag.ensures s.short)

pub returns : goal.returns
returns c =
    let s = c.args.self in (
      segment_length s.bytes.now _ _ c.tag.ensures c.number.ensures _ c.width.ensures,
      omega (arith, c.width.ensures, width_between c.number.result, tag_most s.bytes.now _ c.tag.ensures s.short),
    )
