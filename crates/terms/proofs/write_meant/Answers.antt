-- `terms::write_meant` meets its contract: where there is no room nothing is written.
use mathlib.Core.Path.{sym, ap, ◌∙◌}
use native.Mathlib.Omega.{arith}
use lib.ListN.{length}
use Rattle.text.proofs.Writes.{fitted_room, fitted_none, filled_none, filled_sets}
use Rattle.terms.specs.Signs.{meant}
use Rattle.terms.proofs.write_meant.Goals as goal
use Rattle.std.proofs.Common.{Ok}

pub returns-then-out-meant_len : goal.returns-then-out-meant_len
returns-then-out-meant_len c =
    let s = c.args.s.now in
    let o = c.args.out.now in
    let e = c.meant_len.ensures in (
      sym (fitted_none (length o) (meant s) (omega arith)),
      sym (filled_none o (meant s) (omega arith)),
    )

pub returns : goal.returns
returns c =
    let s = c.args.s.now in
    let o = c.args.out.now in
    let e = c.meant_len.ensures in
    let p = c.put_meant.ensures in (
      ap Ok p.0 ∙ sym (fitted_room (length o) (meant s) (omega arith)),
      p.1 ∙ filled_sets o (meant s) (omega arith),
    )
