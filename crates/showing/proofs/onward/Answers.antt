-- `showing::onward` meets its contract.
use Rattle.std.proofs.Common.{arith, ◌-◌, ltb, leb}
use borrow.Author.Tests.{leb-true, leb-false, ltb-true, ltb-false}
use Rattle.text.proofs.Tests.{either}
use Rattle.showing.proofs.WayLaws.{on_end, on_none, on_more, on_there}
use Rattle.showing.proofs.onward.Goals as goal

pub returns-then-used-eq0-clause-value : goal.returns-then-used-eq0-clause-value
returns-then-used-eq0-clause-value c =
    let a = c.args in
    either (leb a.len a.at) (λ e. on_end a.at a.used a.len (leb-true a.len a.at e)) (λ e. on_none a.at a.used a.len (leb-false a.len a.at e) c.if-used-eq0.true)

pub returns-else-used-eq0-clause-value : goal.returns-else-used-eq0-clause-value
returns-else-used-eq0-clause-value c =
    let a = c.args in
    either (leb a.len a.at)
    (λ e. let h = leb-true a.len a.at e in omega (arith, h, c.min.ensures, c.saturating_add.ensures, on_end a.at a.used a.len h))
    (λ e. let h = leb-false a.len a.at e in
    either (ltb (a.len - a.at) a.used)
    (λ g. let k = ltb-true (a.len - a.at) a.used g in omega (arith, h, k, c.min.ensures, c.saturating_add.ensures, on_more a.at a.used a.len h c.if-used-eq0.false k))
    (λ g. let k = ltb-false (a.len - a.at) a.used g in omega (arith, h, k, c.min.ensures, c.saturating_add.ensures, c.ranges.len.fits, on_there a.at a.used a.len h c.if-used-eq0.false k)))
