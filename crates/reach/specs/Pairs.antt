-- Between two bytes of a text: does a GRAVE that is not escaped wait there for the byte that it takes with it?
use Rattle.std.specs.Prelude.{Bool, true, false}
use Rattle.terms.specs.declared.Mode.{Mode}
use Rattle.terms.specs.declared.Mode.TheVariants.{Out, OutGrave, In, InGrave}

abbrev pub grave_waits : Mode → Bool
grave_waits Out = false
grave_waits OutGrave = true
grave_waits In = false
grave_waits InGrave = true
