-- `forms::shape_if` meets its contract. Assumes nothing.
use Rattle.forms.proofs.shape_if.Goals as goal

pub returns-then-good : goal.returns-then-good
returns-then-good c = rw c.if-good.true
