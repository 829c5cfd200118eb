-- The command: its parts, one for each term, as numbers and the bytes that they stand for.
use Rattle.std.specs.Prelude.{ℕ, List, cond, length}
use Rattle.std.proofs.Math.Option.{Option, none, some}
use Rattle.text.specs.Lists.{given}
use Rattle.terms.specs.Signs.{Sign, raws, stands}
use Rattle.words.specs.declared.Kind.{Kind}
use Rattle.words.specs.declared.Kind.TheVariants.{Mere, Keep, Level, Place, Entries}
use Rattle.words.specs.Words.{lowered}
use Rattle.forms.specs.Forms.{Entry, Property, is_keep, is_level, is_place, entries_of}
use Rattle.forms.specs.Targets.{Target}
use Rattle.forms.specs.Answers.{operator_of}
use Rattle.reach.specs.declared.Form.{Form}
use Rattle.reach.specs.declared.Form.TheVariants as form
use Rattle.reading.specs.declared.Shown.{Shown}
use Rattle.reading.specs.declared.Shown.TheVariants as shown

-- an option's argument: a number is told by its digits, which have no leading zero; `all` in lower case, whichever case the line has; a source or
-- destination by the bytes that it stands for; display and output by their items
pub data Argument : Type 0 where
  numeral : List ℕ → Argument
  text : List ℕ → Argument
  items : List Entry → Argument

abbrev pub argument_by : Kind → List Sign → Option Argument
argument_by Mere t = none
argument_by Keep t = cond (is_keep (raws t)) (some (numeral (raws t))) none
argument_by Level t = cond (is_level (raws t)) (some (numeral (lowered (raws t)))) none
argument_by Place t = cond (is_place t) (some (text (stands t))) none
argument_by Entries t = given (entries_of t) (λ es. some (items es))

-- the form that it is asked for; an option that takes no argument asks for none
abbrev pub argument_form : Kind → Option Form
argument_form Mere = none
argument_form Keep = some form.Keep
argument_form Level = some form.Level
argument_form Place = some form.Place
argument_form Entries = some form.Entries

-- A command is the list of its parts. An option and its argument are two terms, so two parts; the argument's has the option's number again.
pub data Item : Type 0 where
  verb : ℕ → Item
  option : ℕ → Item
  argument : ℕ → Argument → Item
  target : Target → Item
  prop : Property → Item

-- a part by its numbers, which is all that its record and the code tell of it
abbrev pub shown_of : Item → Shown
shown_of (verb n) = shown.Verb n
shown_of (option n) = shown.Option n
shown_of (argument n a) = shown.Argument n
shown_of (target t) = shown.Target
shown_of (prop p) = shown.Property (length p.name) (operator_of p.said)
