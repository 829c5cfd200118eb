-- `joiner::Joiner::ended` meets its contract: the tests on the flags say which case holds.
-- Assumes nothing.
use Rattle.joiner.proofs.Laws.{end_joins, end_refused, end_line}
use Rattle.joiner.proofs.Joiner.ended.Goals as goal

pub returns-then-self : goal.returns-then-self
returns-then-self c =
    let a = c.args in
    end_joins a.self a.cr c.if-self.true

pub returns-then-self-2 : goal.returns-then-self-2
returns-then-self-2 c =
    let a = c.args in
    let f = c.fresh-next in
    end_refused a.self a.cr f.result f.ensures c.if-self.false c.if-self-2.true

pub returns : goal.returns
returns c =
    let a = c.args in
    let f = c.fresh-next in
    end_line a.self a.cr f.result f.ensures c.if-self.false c.if-self-2.false
