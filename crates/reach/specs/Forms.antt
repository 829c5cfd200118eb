-- The acceptable texts of each form, by the definitions of the forms: the argument of keep, of level, of source and destination, of display and output; a target; a
-- property; a help topic. Limits are part of the form.
use Rattle.std.specs.Prelude.{ℕ, List, Bool}
use Rattle.terms.specs.declared.Mode.TheVariants.{Out}
use Rattle.terms.specs.Signs.{signs}
use Rattle.forms.specs.Forms.{is_keep, is_level, is_place, entries_of, property_of, topic_of}
use Rattle.forms.specs.Targets.{target_of}
use Rattle.forms.specs.Answers.{is_some}
use Rattle.reach.specs.declared.Form.{Form}
use Rattle.reach.specs.declared.Form.TheVariants.{Keep, Level, Place, Entries, Target, Property, Topic}

abbrev pub is_of : Form → List ℕ → Bool
is_of Keep t = is_keep t
is_of Level t = is_level t
is_of Place t = is_place (signs Out t)
is_of Entries t = is_some (entries_of (signs Out t))
is_of Target t = is_some (target_of t)
is_of Property t = is_some (property_of (signs Out t))
is_of Topic t = is_some (topic_of (signs Out t))
