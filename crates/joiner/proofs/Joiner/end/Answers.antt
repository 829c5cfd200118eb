-- `joiner::Joiner::end` meets its contract: the tests on the way to each `return` say what `end_of` computes to.
-- Assumes nothing.
use borrow.Author.Tests.{lt-ltb, le-ltb}
use Rattle.joiner.specs.Join.{end_of}
use Rattle.joiner.proofs.Joiner.end.Goals as goal
use Rattle.joiner.proofs.Joiner.end.Goals.{then-self-gt0-via-then-self-gt0, then-self-gt0-via-else-self-gt0+then-self}

pub returns-then-not-possible : goal.returns-then-not-possible
unfolding end_of
returns-then-not-possible c =
    let p = c.possible in
    simp (← p.ensures, c.if-not-possible.true)

pub returns-then-self-gt0 : goal.returns-then-self-gt0
unfolding end_of
returns-then-self-gt0 c =
    let p = c.possible in
    elim c.then-self-gt0.branch [
      | then-self-gt0-via-then-self-gt0 w ↦ simp (← p.ensures, c.if-not-possible.false, lt-ltb _ _ w.if-self-gt0.true)
      | then-self-gt0-via-else-self-gt0+then-self w ↦ simp (← p.ensures, c.if-not-possible.false, le-ltb _ _ w.if-self-gt0.false, w.if-self.true)
    ]

pub returns : goal.returns
unfolding end_of
returns c =
    let p = c.possible in
    simp (← p.ensures, c.if-not-possible.false, le-ltb _ _ c.if-self-gt0.false, c.if-self.false)
