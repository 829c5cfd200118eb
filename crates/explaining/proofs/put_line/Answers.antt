use mathlib.Core.Path.{sym}
use Rattle.reading.specs.Reading.{reading_of}
use Rattle.reading.proofs.Folds.{verdict_refused}
use Rattle.reading.proofs.Within.{place_within}
use Rattle.words.proofs.Pens.{as_text}
use Rattle.explaining.proofs.LineLaws.{refused_whole}
use native.Mathlib.Omega.{arith}
use Rattle.explaining.proofs.put_line.Goals as goal

pub overflow_cast-place : goal.overflow_cast-place
overflow_cast-place c = omega (arith, (place_within c.args.line.now _ _ (verdict_refused (reading_of c.args.line.now) _ _ c.in-Err.ensures)).1)

pub returns-in-Err : goal.returns-in-Err
returns-in-Err c = as_text (sym (refused_whole c.args.line.now _ _ (verdict_refused (reading_of c.args.line.now) _ _ c.in-Err.ensures))) c.put_refused.ensures
