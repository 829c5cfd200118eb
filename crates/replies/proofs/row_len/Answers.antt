use mathlib.Core.Path.{sym, ap, ◌∙◌}
use native.Mathlib.Omega.{arith}
use lib.ListN.{length}
use Rattle.text.proofs.Scans.{up_stops, up_on, up_past}
use Rattle.replies.specs.Lines.{is_end}
use Rattle.replies.proofs.row_len.Goals as goal

pub loop-i-init : goal.loop-i-init
loop-i-init c = (omega arith, omega arith)

pub returns-then-is_end : goal.returns-then-is_end
returns-then-is_end c = omega (arith, ap length (up_stops is_end c.args.s.now c.loop-i.i c.loop-i-test.true (sym c.is_end.ensures ∙ c.if-is_end.true)))

pub loop-i-preserved : goal.loop-i-preserved
loop-i-preserved c = (omega arith, omega (arith, ap length (up_on is_end c.args.s.now c.loop-i.i c.loop-i-test.true (sym c.is_end.ensures ∙ c.if-is_end.false))))

pub returns : goal.returns
returns c = omega (arith, ap length (up_past is_end c.args.s.now c.loop-i.i c.loop-i-test.false))
