-- `wording::put_fields` meets its contract.
use mathlib.Core.Path.{◌≡◌}
use Prim.Native.Nat.{◌+◌, ◌≤◌}
use lib.ListN.{length, drop}
use lib.Seq.{sets}
use Rattle.wording.specs.Words.{total, fields_text}
use Rattle.wording.proofs.put_fields.Given as goal

abbrev pub invariant-loop-w : goal.invariant-loop-w
invariant-loop-w l =
    let left = fields_text (drop l.w-index l.widths) l.rest in record {
      within : total (drop l.w-index l.widths) ≤ length l.rest;
      counted : l.n + length left ≡ length (fields_text l.widths l.body);
      put : sets l.out (l.at + l.n) left ≡ sets l.initial.out l.at (fields_text l.widths l.body);
    }
