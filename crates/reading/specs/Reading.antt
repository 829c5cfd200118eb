-- The command and rows 6 to 14 and 20: the terms of a line from left to right, each decided by the state and its own signs.
use Rattle.std.specs.Prelude.{ℕ, ◌+◌, List, [], ◌∷◌, map, Bool, true, false, cond, not, ◌&&◌, length, drop, get_or, set, replicate, eqb, leb, Result, Ok, Err}
use Rattle.std.proofs.Math.Option.{Option, none, some}
use Rattle.terms.specs.Signs.{Sign, raws}
use Rattle.terms.specs.Terms.{Term, terms_of}
use Rattle.terms.specs.Rows.{lexical_of}
use Rattle.words.specs.declared.Kind.{Kind}
use Rattle.words.specs.declared.Kind.TheVariants.{Mere, Keep, Level, Place, Entries}
use Rattle.words.specs.Words.{verb_of, option_of, kind_of}
use Rattle.support.specs.Table15.{allowed}
use Rattle.forms.specs.Forms.{starts, has_eq, property_of, topic_of}
use Rattle.forms.specs.Targets.{target_of}
use Rattle.reach.specs.declared.Form.{Form}
use Rattle.reach.specs.declared.Form.TheVariants as form
use Rattle.reach.specs.Reach.{reach_of}
use Rattle.reading.specs.declared.Phase.{Phase}
use Rattle.reading.specs.declared.Phase.TheVariants.{First, Options, Waits, Rest}
use Rattle.reading.specs.declared.State.{State}
use Rattle.reading.specs.Command.{argument_by, argument_form, Item, verb, option, argument, target, prop}
use Rattle.text.specs.declared.Refusal.{Refusal}

-- A state: what may come next (the verb; options, the target or a property; the argument of an option; properties alone), the verb's number (0 before it),
-- the options seen, the properties counted.
abbrev pub state : Phase → ℕ → List Bool → ℕ → State
state p v s n = record { phase = p; verb = v; seen = s; count = n }

abbrev pub begin : State
begin = state First 0 (replicate 13 false) 0

-- is the verb help?
abbrev pub is_help : ℕ → Bool
is_help v = eqb v 6

-- a term is refused by a number, or is a part of the command
pub data Decision : Type 0 where
  refuses : ℕ → Decision
  takes : Item → Decision

abbrev pub or_no : {A : Type 0} → ℕ → Option A → (A → Item) → Decision
or_no n none f = refuses n
or_no n (some a) f = takes (f a)

-- 6: no such verb
unfoldable pub decide_verb : List Sign → Decision
decide_verb t = or_no 6 (verb_of (raws t)) verb

-- 7: no such option; 20: an option that this verb can't have; 8: option already given, by either name
abbrev pub new_option : ℕ → List Bool → Option ℕ → Decision
new_option v seen none = refuses 7
new_option v seen (some n) = cond (not (allowed v n)) (refuses 20) (cond (get_or seen n false) (refuses 8) (takes (option n)))

unfoldable pub decide_option : ℕ → List Bool → List Sign → Decision
decide_option v seen t = new_option v seen (option_of (drop 1 (raws t)))

-- 9: its term starts with a bare `-`; 10: argument not of its form
unfoldable pub decide_argument : ℕ → List Sign → Decision
decide_argument n t = cond (starts 45 t) (refuses 9) (or_no 10 (argument_by (kind_of n) t) (argument n))

-- 12: target not of its form
unfoldable pub decide_target : List Sign → Decision
decide_target t = or_no 12 (target_of (raws t)) target

-- 14: over 32 properties; 13: property not of its form
unfoldable pub decide_property : Bool → ℕ → List Sign → Decision
decide_property help count t = cond (leb 32 count) (refuses 14) (or_no 13 (cond help (topic_of t) (property_of t)) prop)

-- Target: the next term, if it has no bare `=` and the verb isn't help.
unfoldable pub decide_after : Bool → ℕ → List Sign → Decision
decide_after help count t = cond (not help && not (has_eq t)) (decide_target t) (decide_property help count t)

-- 11: bare `-` starts a term after the options' end
abbrev pub decide_in : Phase → ℕ → List Bool → ℕ → List Sign → Decision
decide_in First v seen count t = decide_verb t
decide_in Options v seen count t = cond (starts 45 t) (decide_option v seen t) (decide_after (is_help v) count t)
decide_in (Waits n) v seen count t = decide_argument n t
decide_in Rest v seen count t = cond (starts 45 t) (refuses 11) (decide_property (is_help v) count t)

unfoldable pub decide : State → List Sign → Decision
decide s t = decide_in s.phase s.verb s.seen s.count t

-- the next state depends on the part alone
abbrev pub phase_after : ℕ → Kind → Phase
phase_after n Mere = Options
phase_after n Keep = Waits n
phase_after n Level = Waits n
phase_after n Place = Waits n
phase_after n Entries = Waits n

abbrev pub next : State → Item → State
next s (verb n) = state Options n s.seen s.count
next s (option n) = state (phase_after n (kind_of n)) s.verb (set s.seen n true) s.count
next s (argument n a) = state Options s.verb s.seen s.count
next s (target a) = state Rest s.verb s.seen s.count
next s (prop a) = state Rest s.verb s.seen (s.count + 1)

-- a part of the command and the term that it is
pub record Part : Type 0 where
  pub start : ℕ
  pub len : ℕ
  pub item : Item

-- one refusal with its number and place, or the parts in line order; blank is the reading with no parts
pub data Reading : Type 0 where
  refusal : ℕ → ℕ → Reading
  read : List Part → Reading

abbrev pub adding : Part → Reading → Reading
adding p (refusal n a) = refusal n a
adding p (read ps) = read (p ∷ ps)

-- 9: argument missing, at the line's length
abbrev pub ended : Phase → ℕ → Reading
ended First n = read []
ended Options n = read []
ended (Waits k) n = refusal 9 n
ended Rest n = read []

abbrev pub part_of : Term → Item → Part
part_of t i = record { start = t.start; len = length (raws t.text); item = i }

-- ---- places

-- the form that a term is not of, where it is refused by k: 10, the argument of the option that waits; 12, a target; 13, a property, with help a topic
abbrev pub waiting_form : Phase → Option Form
waiting_form First = none
waiting_form Options = none
waiting_form (Waits n) = argument_form (kind_of n)
waiting_form Rest = none

abbrev pub property_form : Bool → Form
property_form help = cond help form.Topic form.Property

abbrev pub form_asked : Phase → ℕ → ℕ → Option Form
form_asked p v k = cond (eqb k 10) (waiting_form p) (cond (eqb k 12) (some form.Target) (cond (eqb k 13) (some (property_form (is_help v))) none))

-- Places are the starts of terms; where a term is not of its form, the place is the end of its longest beginning that is also a beginning of some acceptable text
-- of that form (request c). reach/proofs/Longest has it that `reach_of` is its length.
abbrev pub past_start : Option Form → List ℕ → ℕ
past_start none t = 0
past_start (some f) t = reach_of f t

abbrev pub place_of : State → Term → ℕ → ℕ
place_of s t k = t.start + past_start (form_asked s.phase s.verb k) (raws t.text)

-- ---- the walk

abbrev pub going : Decision → (ℕ → ℕ) → (Item → Reading) → Reading
going (refuses k) place f = refusal k (place k)
going (takes i) place f = f i

-- n is the line's length
unfoldable pub walk_terms : ℕ → State → List Term → Reading
walk_terms n s [] = ended s.phase n
walk_terms n s (t ∷ ts) = going (decide s t.text) (place_of s t) (λ i. adding (part_of t i) (walk_terms n (next s i) ts))

-- 1 to 5 come first
abbrev pub unless : Result Unit Refusal → Reading → Reading
unless (Ok u) r = r
unless (Err e) r = refusal e.number e.place

unfoldable pub reading_of : List ℕ → Reading
reading_of line = let r = walk_terms (length line) begin (terms_of line) in unless (lexical_of line) r

-- Two commands are the same when all their parts agree in order, by number or by the bytes they stand for.
abbrev pub command_in : Reading → Option (List Item)
command_in (refusal n p) = none
command_in (read ps) = some (map (λ (p : Part). p.item) ps)

unfoldable pub command_of : List ℕ → Option (List Item)
command_of line = command_in (reading_of line)
