-- `wording::put_field` meets its contract.
use native.Mathlib.Omega.{arith}
use Rattle.text.proofs.Decimals.{width_between, length_digits}
use Rattle.wording.proofs.put_field.Goals as goal

pub overflow_add-result : goal.overflow_add-result
overflow_add-result c = let n = c.args.n in omega (arith, c.put_decimal.ensures.0, length_digits n, width_between n)
