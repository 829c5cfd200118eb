-- Request c's sentence, of every form: how far its machine goes is the length of "the longest beginning of the term that is also a beginning of some acceptable text of
-- that form". It is one, and no longer one is. Assumes nothing.
use Prim.Native.Nat.{ℕ}
use mathlib.Core.List.{List}
use Rattle.reach.specs.declared.Form.{Form}
use Rattle.reach.specs.declared.Form.TheVariants.{Keep, Level, Place, Entries, Target, Property, Topic}
use Rattle.reach.specs.Beginnings.{Longest}
use Rattle.reach.specs.Forms.{is_of}
use Rattle.reach.specs.Reach.{reach_of}
use Rattle.reach.proofs.Far.{Far, far_longest}
use Rattle.reach.proofs.TallyLaws.{keep_far, level_far}
use Rattle.reach.proofs.RoadLaws.{road_far}
use Rattle.reach.proofs.StageLaws.{place_far, entries_far, property_far, topic_far}

far : (f : Form) (t : List ℕ) → Far (is_of f) t (reach_of f t)
unfolding reach_of
far Keep t = keep_far t
far Level t = level_far t
far Place t = place_far t
far Entries t = entries_far t
far Target t = road_far t
far Property t = property_far t
far Topic t = topic_far t

-- OF EVERY FORM AND TEXT
pub longest : (f : Form) (t : List ℕ) → Longest (is_of f) t (reach_of f t)
longest f t = far_longest (is_of f) t (reach_of f t) (far f t)
