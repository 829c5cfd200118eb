-- `replytext::put_number` meets its contract. Assumes nothing.
use native.Mathlib.Omega.{arith}
use Rattle.replytext.proofs.TextLaws.{number_put}
use Rattle.replytext.proofs.put_number.Goals as goal

pub overflow_add-result-2 : goal.overflow_add-result-2
overflow_add-result-2 c = let z = number_put c.args.out.now c.put.new.out c.put_decimal.new.out c.args.at c.args.high c.args.low c.pair.result c.put_decimal.result c.put.ensures c.pair.ensures c.put_decimal.ensures.0 c.put_decimal.ensures.1 in omega arith

pub returns : goal.returns
returns c = number_put c.args.out.now c.put.new.out c.put_decimal.new.out c.args.at c.args.high c.args.low c.pair.result c.put_decimal.result c.put.ensures c.pair.ensures c.put_decimal.ensures.0 c.put_decimal.ensures.1
