-- `replying::put_item` meets its contract.
use mathlib.Core.Path.{◌∙◌}
use Rattle.replying.specs.Writing.{value_line, line_of}
use Rattle.replying.proofs.LineLaws.{item_stored, item_ends}
use Rattle.replying.proofs.put_item.Goals as goal

pub returns : goal.returns
unfolding line_of
returns c =
    let a = c.args in
    let x = c.put_text-w in
    let y = c.put in
    let z = c.put_value-e in
    let p = c.put_byte in (
      p.ensures.0 ∙ item_ends a.k.now (value_line a.v.now) a.at x.result z.result x.ensures.0 z.ensures.0,
      item_stored a.out.now x.new.out y.new.out z.new.out p.new.out a.k.now (value_line a.v.now) a.at x.result z.result x.ensures.0 z.ensures.0 x.ensures.1 y.ensures z.ensures.1 p.ensures.1,
    )
