-- `lister::put_refused` meets its contract.
use mathlib.Core.Path.{refl, ◌∙◌}
use Rattle.lister.proofs.ListLaws.{refusal_fills}
use Rattle.lister.proofs.put_refused.Goals as goal

pub returns : goal.returns
returns c = let a = c.args in (refl, c.put_refusal.ensures.1 ∙ refusal_fills a.room.now a.refusal.number a.refusal.place c.requires.in_bounds)
