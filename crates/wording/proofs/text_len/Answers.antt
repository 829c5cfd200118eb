-- `wording::text_len` meets its contract.
use native.Mathlib.Omega.{arith}
use Rattle.wording.proofs.WordingLaws.{first_short}
use Rattle.wording.proofs.text_len.Goals as goal

pub put_record-requires-clause-rec_bound : goal.put_record-requires-clause-rec_bound
put_record-requires-clause-rec_bound c = omega (arith, first_short c.args.rec.now c.requires)
