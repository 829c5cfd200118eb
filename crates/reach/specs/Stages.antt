-- The machine for places, names, properties, and the items of display and output, as the code has it. proofs/Longest has it that it goes as far as the paper says.
use Rattle.std.specs.Prelude.{ℕ, ◌+◌, List, Bool, true, false, cond, ◌&&◌, eqb, ltb}
use Rattle.text.specs.Bytes.{is_letter, is_word}
use Rattle.terms.specs.declared.Mode.{Mode}
use Rattle.terms.specs.declared.Mode.TheVariants.{Out, OutGrave, In, InGrave}
use Rattle.terms.specs.Signs.{gives, after}
use Rattle.forms.specs.declared.At.{At}
use Rattle.forms.specs.declared.At.TheVariants.{Start, Plain, Inside, Ended, Dead}
use Rattle.forms.specs.Automata.{whole, text_over}
use Rattle.forms.specs.Steps.{bare_at}
use Rattle.reach.specs.declared.Stage.{Stage}
use Rattle.reach.specs.declared.Stage.TheVariants as stage
use Rattle.reach.specs.Machine.{reach_by}

-- can some text go on from here? After a closing quote no GRAVE can stay.
abbrev pub is_alive : At → Mode → Bool
is_alive Start m = true
is_alive Plain m = true
is_alive Inside m = true
is_alive Ended Out = true
is_alive Ended OutGrave = false
is_alive Ended In = false
is_alive Ended InGrave = false
is_alive Dead m = false

-- no unescaped `"`
unfoldable pub free_step : Mode → ℕ → Stage
free_step m b = cond (bare_at 34 m b) stage.Off stage.Free

-- a bare comma, and what may follow it
unfoldable pub comma_step : Stage → ℕ → Stage
comma_step comma b = cond (eqb b 44) comma stage.Off

-- may a name of k bytes go on with this one?
unfoldable pub is_name_byte : ℕ → ℕ → Bool
is_name_byte k b = cond (eqb k 0) (is_letter b) (ltb k 64 && is_word b)

-- after k bytes of a name; `equal` is what follows its `=`
unfoldable pub name_step : Stage → Stage → ℕ → ℕ → Stage
name_step equal comma k b = cond (is_name_byte k b) (stage.Name (k + 1)) (cond (eqb k 0) stage.Off (cond (eqb b 61) equal (comma_step comma b)))

-- in a quoted string or a plain text
unfoldable pub text_on : At → Mode → ℕ → Stage
text_on q m b = cond (is_alive (text_over q (gives m b)) (after m b)) (stage.Text (text_over q (gives m b))) stage.Off

-- a list where it begins with `(`, otherwise quoted or plain
unfoldable pub value_step : ℕ → Stage
value_step b = cond (eqb b 40) (stage.Items Start 0) (text_on Start Out b)

-- after the `=` of a property, where another may follow
unfoldable pub said_step : ℕ → Stage
said_step b = cond (eqb b 61) stage.Value (value_step b)

unfoldable pub in_text : Stage → At → Mode → ℕ → Stage
in_text comma q m b = cond (bare_at 44 m b) (cond (whole q) comma stage.Off) (text_on q m b)

-- a comma in a list, after k items and the one that it ends: another item may follow up to the sixteenth
unfoldable pub items_next : At → ℕ → Stage
items_next q k = cond (whole q && ltb k 15) (stage.Items Start (k + 1)) stage.Off

unfoldable pub items_on : At → ℕ → Mode → ℕ → Stage
items_on q k m b = cond (is_alive (text_over q (gives m b)) (after m b)) (stage.Items (text_over q (gives m b)) k) stage.Off

unfoldable pub in_items : At → ℕ → Mode → ℕ → Stage
in_items q k m b = cond (bare_at 41 m b) (cond (whole q) stage.Closed stage.Off) (cond (bare_at 44 m b) (items_next q k) (items_on q k m b))

abbrev pub stage_step : Stage → Stage → Stage → Mode → ℕ → Stage
stage_step equal comma stage.Free m b = free_step m b
stage_step equal comma (stage.Name k) m b = name_step equal comma k b
stage_step equal comma stage.Said m b = said_step b
stage_step equal comma stage.Value m b = value_step b
stage_step equal comma (stage.Text q) m b = in_text comma q m b
stage_step equal comma (stage.Items q k) m b = in_items q k m b
stage_step equal comma stage.Closed m b = comma_step comma b
stage_step equal comma stage.Off m b = stage.Off

abbrev pub is_off_stage : Stage → Bool
is_off_stage stage.Free = false
is_off_stage (stage.Name k) = false
is_off_stage stage.Said = false
is_off_stage stage.Value = false
is_off_stage (stage.Text q) = false
is_off_stage (stage.Items q k) = false
is_off_stage stage.Closed = false
is_off_stage stage.Off = true

-- the stage beside the mode of what was read
abbrev pub stage_and_mode : Stage → Stage → (Stage × Mode) → ℕ → (Stage × Mode)
stage_and_mode equal comma q b = (stage_step equal comma q.0 q.1 b, after q.1 b)

abbrev pub is_off_at : (Stage × Mode) → Bool
is_off_at q = is_off_stage q.0

abbrev pub stage_reach : Stage → Stage → Stage → Mode → List ℕ → ℕ
stage_reach equal comma q m s = reach_by (stage_and_mode equal comma) is_off_at (q, m) s
