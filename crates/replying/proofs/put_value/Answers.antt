-- `replying::put_value` meets its contract. Assumes nothing.
use Prim.Native.Nat.{ℕ}
use mathlib.Core.Path.{refl, ap, ◌∙◌}
use mathlib.Core.List.{List, ◌∷◌}
use native.Mathlib.Omega.{arith}
use lib.Seq.{sets}
use Rattle.terms.specs.Signs.{raws}
use Rattle.terms.specs.Quotes.{closing}
use Rattle.replying.proofs.LineLaws.{value_quoted, value_bare, after_byte, quoted_test, closing_long, sets_over}
use Rattle.replying.proofs.put_value.Goals as goal

pub returns-then-ends-begins_quote : goal.returns-then-ends-begins_quote
returns-then-ends-begins_quote c = let e = value_quoted c.args.v.now (quoted_test c.args.v.now c.copy_seeing-ends.result c.begins_quote.result c.copy_seeing-ends.ensures.0 c.begins_quote.ensures ∙ c.if-ends-begins_quote.true) in let k = closing_long c.args.v.now in rw e (omega (arith, c.put_closing.ensures.0), after_byte c.copy_seeing-ends.new.out c.put.new.out c.put_closing.new.out (raws (closing c.args.v.now)) c.args.at 34 c.put.ensures c.put_closing.ensures.1 ∙ ap (λ (m : List ℕ). sets m c.args.at (34 ∷ raws (closing c.args.v.now))) c.copy_seeing-ends.ensures.1 ∙ sets_over c.args.out.now c.args.v.now (34 ∷ raws (closing c.args.v.now)) c.args.at (omega arith), omega (arith, c.put_closing.ensures.2))

pub returns : goal.returns
returns c = let e = value_bare c.args.v.now (quoted_test c.args.v.now c.copy_seeing-ends.result c.begins_quote.result c.copy_seeing-ends.ensures.0 c.begins_quote.ensures ∙ c.if-ends-begins_quote.false) in rw e (refl, c.copy_seeing-ends.ensures.1, omega arith)
