use Rattle.std.proofs.Common.{Ok, ap, ◌∙◌}
use Rattle.reading.specs.Cursor.{step}
use Rattle.explaining.proofs.LineLaws.{blank_end, blank_refused, blank_part}
use Rattle.explaining.proofs.is_blank.Goals as goal

pub returns-in-Ok-None : goal.returns-in-Ok-None
returns-in-Ok-None c = blank_end c.args.line.now c.begin.result (step c.next.result c.next.new.self) c.begin.ensures c.next.ensures (c.in-Ok-None.is ∙ ap Ok c.in-Ok-None.field-0-is)

pub returns-in-Ok-Some : goal.returns-in-Ok-Some
returns-in-Ok-Some c = blank_part c.args.line.now c.begin.result (step c.next.result c.next.new.self) c.begin.ensures c.next.ensures _ _ _ (c.in-Ok-Some.is ∙ ap Ok c.in-Ok-Some.field-0-is)

pub returns-in-Err : goal.returns-in-Err
returns-in-Err c = blank_refused c.args.line.now c.begin.result (step c.next.result c.next.new.self) c.begin.ensures c.next.ensures _ _ c.in-Err.is
