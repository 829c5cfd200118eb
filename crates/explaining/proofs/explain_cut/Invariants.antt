-- What is written.
use Rattle.explaining.specs.Explained.{cut_text}
use Rattle.explaining.proofs.explain_cut.Given as goal

abbrev pub ghost-told : goal.ghost-told
ghost-told a = cut_text
