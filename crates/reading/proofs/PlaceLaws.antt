-- The place of a term that is refused, as the code finds it: past its start by what its form says. Assumes nothing.
use Prim.Native.Nat.{ℕ, ◌+◌, ◌-◌, ◌≤◌}
use mathlib.Core.Path.{◌≡◌, ap, ◌∙◌}
use mathlib.Core.List.{List}
use mathlib.Core.Option.{Option, none, some}
use native.Mathlib.Omega.{arith}
use lib.ListN.{length, take, drop}
use Rattle.text.proofs.Slices.{part_between, length_between}
use Rattle.reach.specs.declared.Form.{Form}
use Rattle.reach.proofs.MachineLaws.{reach_most}
use Rattle.reading.specs.Reading.{past_start}

-- within the term or at its end
pub past_most : (o : Option Form) (t : List ℕ) → past_start o t ≤ length t
past_most none t = omega arith
past_most (some f) t = reach_most f t

-- so it lies in the line; the term is `&line[b..b + n]`
pub past_fits : (o : Option Form) (line : List ℕ) (b n r : ℕ) → b + n ≤ length line → r ≡ past_start o (take (b + n - b) (drop b line)) → b + r ≤ length line
past_fits o line b n r h e =
    let l = past_most o (take (b + n - b) (drop b line)) in
    let z = ap length (part_between line b n) ∙ length_between line b n h in
    omega arith
