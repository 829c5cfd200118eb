-- `printing::possible` meets its contract.
use mathlib.Core.Path.{◌∙◌}
use Rattle.printing.proofs.PrintLaws.{possible_by}
use Rattle.printing.proofs.possible.Goals as goal

pub returns : goal.returns
returns c = c.is_ok.ensures.value ∙ possible_by c.args.state c.end.result c.end.ensures
