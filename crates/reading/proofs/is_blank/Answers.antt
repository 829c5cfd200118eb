-- `reading::is_blank` meets its contract. Assumes nothing.
use Rattle.reading.proofs.Steps.{blank_by}
use Rattle.reading.proofs.is_blank.Goals as goal

pub returns : goal.returns
returns c = blank_by c.args.line.now c.term_at.result c.is_none.result c.is_none.ensures c.term_at.ensures
