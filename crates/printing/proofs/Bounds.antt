-- What a print tells is within what it was given: the bytes of the part, and the room for the text. Assumes nothing.
use Prim.Native.Nat.{ℕ, zero, suc, ◌-◌, ◌≤◌}
use native.Mathlib.Omega.{arith}
use mathlib.Core.Path.{◌≡◌, refl}
use mathlib.Core.List.{List}
use mathlib.Core.Bool.{Bool, true, false, cond}
use lib.ListN.{length, drop, length-append, length-drop}
use Rattle.joiner.specs.declared.Joiner.{Joiner}
use Rattle.joiner.specs.Join.{join_of}
use Rattle.joiner.proofs.Laws.{used_within}
use Rattle.lister.specs.Lister.{fit}
use Rattle.printing.specs.Printing.{may_call, may_print, ran_text, Print, none_yet, and_then, print_from, print_of, PartPrint, printed_by, unprinted, part_print}
use Rattle.printing.proofs.LineText.{text_fits}
use Rattle.printing.proofs.LoopLaws.{may_left, may_room, may_fit, fit_on, used_some, one_line}

-- no more bytes than the part has, and no more text than the room has
record Within (part : List ℕ) (room : ℕ) (P : Print) : Type 0 where
  used : P.used ≤ length part
  text : length P.text ≤ room

from_within : (fuel : ℕ) (s : Joiner) (b p : List ℕ) (room : ℕ) → Within p room (print_from fuel s b p room)
unfolding print_from
from_within zero s b p room = record { used = omega arith; text = omega arith }
from_within (suc fuel) s b p room =
    let R = join_of s b p in
    go (may_call (length p) room) refl (from_within fuel R.answer.state R.buffer (drop R.answer.used p) (room - length (ran_text R)))
  where
    Q : Print
    Q = print_from fuel (join_of s b p).answer.state (join_of s b p).buffer (drop (join_of s b p).answer.used p) (room - length (ran_text (join_of s b p)))

    go : (w : Bool) → may_call (length p) room ≡ w → Within (drop (join_of s b p).answer.used p) (room - length (ran_text (join_of s b p))) Q
        → Within p room (cond w (and_then (join_of s b p) Q) (none_yet s b))
    go true e h =
        record {
          used = omega (arith, h.used, length-drop (join_of s b p).answer.used p, used_within s b p);
          text = omega (arith, h.text, length-append (ran_text (join_of s b p)) Q.text, may_room (length p) room e, text_fits (join_of s b p).answer.outcome (join_of s b p).buffer);
        }
    go false e h = record { used = omega arith; text = omega arith }

-- no more lines than bytes
from_few : (fuel : ℕ) (s : Joiner) (b p : List ℕ) (room : ℕ) → fit s b ≡ true → (print_from fuel s b p room).lines ≤ (print_from fuel s b p room).used
unfolding print_from
from_few zero s b p room f = omega arith
from_few (suc fuel) s b p room f =
    let R = join_of s b p in
    go (may_call (length p) room) refl (from_few fuel R.answer.state R.buffer (drop R.answer.used p) (room - length (ran_text R)) (fit_on s b p f))
  where
    Q : Print
    Q = print_from fuel (join_of s b p).answer.state (join_of s b p).buffer (drop (join_of s b p).answer.used p) (room - length (ran_text (join_of s b p)))

    go : (w : Bool) → may_call (length p) room ≡ w → Q.lines ≤ Q.used
        → let P : Print = cond w (and_then (join_of s b p) Q) (none_yet s b) in
        P.lines ≤ P.used
    go true e h = omega (arith, h, one_line (join_of s b p).answer.outcome, used_some s b p f (may_left (length p) room e))
    go false e h = omega arith

-- ---- of the answer of a part

module _ (s : Joiner) (b p out : List ℕ) where
  pub part_within : (part_print s b p out).answer.used ≤ length p
  unfolding part_print print_of
  part_within = go (may_print s b (length out))
    where
      go : (w : Bool) → (cond w (printed_by (print_from (length p) s b p (length out)) out) (unprinted s b out)).answer.used ≤ length p
      go true = (from_within (length p) s b p (length out)).used
      go false = omega arith

  pub part_few : (part_print s b p out).answer.lines ≤ (part_print s b p out).answer.used
  unfolding part_print print_of
  part_few = go (may_print s b (length out)) refl
    where
      go : (w : Bool) → may_print s b (length out) ≡ w
          → let P : PartPrint = cond w (printed_by (print_from (length p) s b p (length out)) out) (unprinted s b out) in
          P.answer.lines ≤ P.answer.used
      go true e = from_few (length p) s b p (length out) (may_fit s b (length out) e)
      go false e = omega arith
