-- What is written.
use Rattle.explaining.specs.Explained.{explained_of}
use Rattle.explaining.proofs.explain.Given as goal

abbrev pub ghost-told : goal.ghost-told
ghost-told a = explained_of a.put.0.now
