-- How far a text goes towards each form, by its machine.
use Rattle.std.specs.Prelude.{ℕ, List, true, false}
use Rattle.terms.specs.declared.Mode.TheVariants.{Out}
use Rattle.reach.specs.declared.Form.{Form}
use Rattle.reach.specs.declared.Form.TheVariants.{Keep, Level, Place, Entries, Target, Property, Topic}
use Rattle.reach.specs.declared.Tally.TheVariants as tally
use Rattle.reach.specs.declared.Road.TheVariants as road
use Rattle.reach.specs.declared.Stage.TheVariants as stage
use Rattle.reach.specs.Machine.{reach_by}
use Rattle.reach.specs.Numbers.{tally_step, is_off_tally}
use Rattle.reach.specs.Roads.{road_step, is_off_road}
use Rattle.reach.specs.Stages.{stage_reach}

unfoldable pub reach_of : Form → List ℕ → ℕ
reach_of Keep t = reach_by (tally_step false) is_off_tally tally.First t
reach_of Level t = reach_by (tally_step true) is_off_tally tally.First t
reach_of Place t = stage_reach stage.Off stage.Off stage.Free Out t
reach_of Entries t = stage_reach stage.Value (stage.Name 0) (stage.Name 0) Out t
reach_of Target t = reach_by road_step is_off_road road.Lead t
reach_of Property t = stage_reach stage.Said stage.Off (stage.Name 0) Out t
reach_of Topic t = stage_reach stage.Off stage.Off (stage.Name 0) Out t
