-- `terms::lexical` meets its contract: each test and each callee's result stands in `lexical_of`.
use mathlib.Core.Path.{sym}
use borrow.Author.Tests.{le-ltb, lt-ltb}
use Rattle.terms.specs.Rows.{long_flaw, odd_flaw, lexical_of}
use Rattle.terms.proofs.ScanLaws.{long_line}
use Rattle.std.proofs.Common.{rules}
use Rattle.terms.proofs.lexical.Goals as goal

pub returns-then-line-gt1024 : goal.returns-then-line-gt1024
returns-then-line-gt1024 c = sym (long_line c.args.line.now c.if-line-gt1024.true)

pub returns-then-clean-line : goal.returns-then-clean-line
unfolding lexical_of long_flaw odd_flaw
returns-then-clean-line c = rw (← c.printable_len-clean.ensures, le-ltb _ _ c.if-line-gt1024.false, lt-ltb _ _ c.if-clean-line.true)

pub returns : goal.returns
unfolding lexical_of long_flaw odd_flaw
returns c = rw (← c.printable_len-clean.ensures, le-ltb _ _ c.if-line-gt1024.false, le-ltb _ _ c.if-clean-line.false, ← c.open_flaw.ensures, c.in_ok-open_flaw.was) c.many_flaw.ensures

pub returns-in_err-open_flaw : goal.returns-in_err-open_flaw
unfolding lexical_of long_flaw odd_flaw
returns-in_err-open_flaw c = rw (← c.printable_len-clean.ensures, le-ltb _ _ c.if-line-gt1024.false, le-ltb _ _ c.if-clean-line.false, ← c.open_flaw.ensures, c.in_err-open_flaw.was) (search rules)
