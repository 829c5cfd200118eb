-- `replying::put_group` meets its contract.
use Rattle.text.specs.Bytes.{bytes}
use Rattle.replying.specs.Writing.{line_of}
use mathlib.Core.Path.{◌∙◌}
use mathlib.Core.List.{[], ◌∷◌, ◌++◌}
use Rattle.replies.specs.Lines.{begin_word}
use Rattle.replying.proofs.LineLaws.{line_stored, line_ends_lem}
use Rattle.replying.proofs.put_group.Goals as goal

pub returns : goal.returns
unfolding line_of bytes
returns c =
    let a = c.args in
    let x = c.put_text-w in
    let y = c.put_text-e in
    let p = c.put_byte in
    let w = begin_word ++ (61 ∷ []) in (
      p.ensures.0 ∙ line_ends_lem w a.name.now a.at x.result y.result x.ensures.0 y.ensures.0,
      line_stored a.out.now x.new.out y.new.out p.new.out w a.name.now a.at x.result y.result x.ensures.0 y.ensures.0 x.ensures.1 y.ensures.1 p.ensures.1,
    )
