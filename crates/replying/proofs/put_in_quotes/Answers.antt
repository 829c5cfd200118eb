-- `replying::put_in_quotes` meets its contract.
use Rattle.replying.proofs.LineLaws.{grave_in, quote_in, other_in}
use native.Mathlib.Omega.{arith}
use Rattle.replying.proofs.put_in_quotes.Goals as goal

pub returns-in-96 : goal.returns-in-96
returns-in-96 c =
    let p = c.put_text in
    rw (grave_in c.args.b c.in-96.is) (p.ensures.0, p.ensures.1, omega (arith, p.ensures.0))

pub returns-in-34 : goal.returns-in-34
returns-in-34 c =
    let p = c.put_text-in-34 in
    rw (quote_in c.args.b c.in-34.is) (p.ensures.0, p.ensures.1, omega (arith, p.ensures.0))

pub returns-in_default : goal.returns-in_default
returns-in_default c =
    let p = c.put_byte in
    rw (other_in c.args.b (omega arith) (omega arith)) (p.ensures.0, p.ensures.1, omega (arith, p.ensures.0))
