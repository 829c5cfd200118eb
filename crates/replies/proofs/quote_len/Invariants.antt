-- `replies::quote_len` meets its contract. The loop's invariant: what is left closes where the whole does.
use Rattle.std.proofs.Common.{◌≡◌, length, drop, ◌-◌}
use Rattle.terms.specs.declared.Mode.TheVariants.{In}
use Rattle.replies.specs.Lines.{more, quote_len}
use Rattle.replies.proofs.quote_len.Given as goal

abbrev pub invariant-loop-i : goal.invariant-loop-i
invariant-loop-i l = more l.i (quote_len In (drop l.i l.s)) ≡ quote_len In l.s

abbrev pub decreases-loop-i : goal.decreases-loop-i
decreases-loop-i l = length l.s - l.i
