-- What is written.
use Rattle.explaining.specs.Explained.{refused_text}
use Rattle.explaining.proofs.explain_refusal.Given as goal

abbrev pub ghost-told : goal.ghost-told
ghost-told a = refused_text a.put.0.now a.put.1 a.put.2
