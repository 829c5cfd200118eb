-- A machine's pass over a text, one byte at a time, as a loop makes it. Assumes nothing.
use Prim.Native.Nat.{ℕ, suc, ◌+◌, ◌<◌, ◌≤◌}
use mathlib.Core.Path.{◌≡◌}
use mathlib.Core.List.{List, [], ◌∷◌}
use mathlib.Core.Bool.{Bool, true, false, cond}
use native.Mathlib.Omega.{arith}
use lib.ListN.{length, get_or, drop, drop_of_length-le}
use Rattle.text.proofs.Scans.{drop_step}
use Rattle.terms.specs.declared.Mode.TheVariants.{Out}
use Rattle.reach.specs.declared.Form.{Form}
use Rattle.reach.specs.declared.Form.TheVariants.{Keep, Level, Place, Entries, Target, Property, Topic}
use Rattle.reach.specs.declared.Tally.TheVariants as tally
use Rattle.reach.specs.declared.Road.TheVariants as road
use Rattle.reach.specs.declared.Stage.TheVariants as stage
use Rattle.reach.specs.Machine.{reach_by}
use Rattle.reach.specs.Numbers.{tally_step, is_off_tally}
use Rattle.reach.specs.Roads.{road_step, is_off_road}
use Rattle.reach.specs.Stages.{stage_and_mode, is_off_at}
use Rattle.reach.specs.Reach.{reach_of}

module _ {S : Type 0} (step : S → ℕ → S) (off : S → Bool) (q : S) (l : List ℕ) (i : ℕ) where
  pub reach_on : (q' : S) → i < length l → q' ≡ step q (get_or l i 0) → off q' ≡ false → reach_by step off q (drop i l) ≡ suc (reach_by step off q' (drop (i + 1) l))
  unfolding reach_by
  reach_on q' h s e = rw (s, drop_step l i h, rw s at e)

  pub reach_ends : (q' : S) → i < length l → q' ≡ step q (get_or l i 0) → off q' ≡ true → reach_by step off q (drop i l) ≡ 0
  unfolding reach_by
  reach_ends q' h s e = rw (drop_step l i h, rw s at e)

  pub reach_past : length l ≤ i → reach_by step off q (drop i l) ≡ 0
  unfolding reach_by
  reach_past h = rw (drop_of_length-le l h)

-- what the walk rests on
pub ruleset walk_pass = (reach_on, reach_ends, reach_past)

-- it takes no more bytes than there are
pub reach_within : {S : Type 0} (step : S → ℕ → S) (off : S → Bool) (q : S) (s : List ℕ) → reach_by step off q s ≤ length s
unfolding reach_by
reach_within step off q [] = omega arith
reach_within step off q (b ∷ s) = go (off (step q b)) (reach_within step off (step q b) s)
  where
    go : (x : Bool) → reach_by step off (step q b) s ≤ length s → cond x 0 (suc (reach_by step off (step q b) s)) ≤ suc (length s)
    go true h = omega arith
    go false h = omega arith

pub reach_most : (f : Form) (t : List ℕ) → reach_of f t ≤ length t
unfolding reach_of
reach_most Keep t = reach_within (tally_step false) is_off_tally tally.First t
reach_most Level t = reach_within (tally_step true) is_off_tally tally.First t
reach_most Place t = reach_within (stage_and_mode stage.Off stage.Off) is_off_at (stage.Free, Out) t
reach_most Entries t = reach_within (stage_and_mode stage.Value (stage.Name 0)) is_off_at (stage.Name 0, Out) t
reach_most Target t = reach_within road_step is_off_road road.Lead t
reach_most Property t = reach_within (stage_and_mode stage.Said stage.Off) is_off_at (stage.Name 0, Out) t
reach_most Topic t = reach_within (stage_and_mode stage.Off stage.Off) is_off_at (stage.Name 0, Out) t
