-- `joiner::Joiner::push` meets its contract: the test on the room says which case of `pushed` holds.
-- Assumes nothing.
use borrow.Author.Tests.{lt-ltb, le-ltb, lt-leb, le-leb}
use native.Mathlib.Omega.{arith}
use mathlib.Core.Path.{refl, sym}
use lib.Seq.{set_out}
use Rattle.joiner.specs.Step.{more}
use Rattle.joiner.proofs.Joiner.push.Goals as goal

pub returns-then-at-lt1024 : goal.returns-then-at-lt1024
unfolding more
returns-then-at-lt1024 c = record { value = simp (lt-ltb _ _ c.if-at-lt1024.true, lt-leb _ _ c.if-at-lt1024.true); buffer_after = refl }

pub returns : goal.returns
unfolding more
returns c = record { value = simp (le-ltb _ _ c.if-at-lt1024.false, le-leb _ _ c.if-at-lt1024.false); buffer_after = sym (set_out _ _ _ (omega arith)) }
