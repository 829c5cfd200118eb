-- The decision on a term, as the code finds it by what the layers below answer of the term's bytes. Assumes nothing.
use Prim.Native.Nat.{ℕ, ◌≤◌, ◌<◌}
use mathlib.Core.Path.{◌≡◌, refl, sym, ap, ◌∙◌}
use mathlib.Core.List.{List, [], ◌∷◌}
use mathlib.Core.Bool.{Bool, true, false, cond, not}
use mathlib.Core.Option.{Option, none, some}
use native.Mathlib.Omega.{arith}
use lib.ListN.{length, drop, get_or}
use borrow.Author.Tests.{le-leb, lt-leb}
use Rattle.text.specs.Bytes.{bytes, same_bytes}
use Rattle.terms.specs.declared.Mode.TheVariants.{Out}
use Rattle.terms.specs.Signs.{signs, raws, has_bare}
use Rattle.terms.specs.Marks.{starts_bare}
use Rattle.terms.proofs.SignBytes.{raws_signs}
use Rattle.words.specs.declared.Kind.{Kind}
use Rattle.words.specs.declared.Kind.TheVariants.{Mere, Keep, Level, Place, Entries}
use Rattle.words.specs.Tables.{known}
use Rattle.words.specs.Words.{lower, lowered, names, find, long_names, short_names, verb_of, option_of, kind_of}
use Rattle.support.specs.Table15.{allowed}
use Rattle.forms.specs.declared.Where.{Where}
use Rattle.forms.specs.Forms.{starts, Entry, is_keep, is_level, is_place, entries_of, Property, property_of, topic_of}
use Rattle.forms.specs.Targets.{Target, session, path, target_of}
use Rattle.forms.specs.Answers.{is_some, shape_of, where_of, topic_in, where_in}
use Rattle.reading.specs.declared.Phase.TheVariants.{Options, Rest}
use Rattle.reading.specs.declared.Shown.{Shown}
use Rattle.reading.specs.declared.Shown.TheVariants as shown
use Rattle.reading.specs.Command.{argument_by, Argument, items, verb, option, argument, target, prop}
use Rattle.reading.specs.Reading.{refuses, takes, or_no, is_help, new_option, decide_verb, decide_option, decide_argument, decide_target, decide_property, decide_after, decide_in}
use Rattle.reading.specs.Cursor.{decided_of}
use Rattle.reading.specs.Shown.{by_shape, argument_if}
use Rattle.std.proofs.Common.{Some, None}
use Rattle.std.proofs.Common as std
use Rattle.std.proofs.Common.{Result, Ok, Err}

-- does a term start with this bare byte?
pub starts_bytes : (n : ℕ) (t : List ℕ) → starts_bare n t ≡ starts n (signs Out t)
unfolding starts_bare
starts_bytes n t = refl

-- ---- the verb

abbrev pub by_verb : std.Option ℕ → Result Shown ℕ
by_verb (Some n) = Ok (shown.Verb n)
by_verb None = Err 6

verb_known : (o : Option ℕ) → by_verb (known o) ≡ decided_of (or_no 6 o verb)
verb_known none = refl
verb_known (some n) = refl

pub verb_decided : (t : List ℕ) → by_verb (known (verb_of t)) ≡ decided_of (decide_verb (signs Out t))
unfolding decide_verb
verb_decided t = rw (raws_signs t) (verb_known (verb_of t))

-- ---- an option

abbrev pub by_option : ℕ → List Bool → std.Option ℕ → Result Shown ℕ
by_option v seen (Some n) = cond (not (allowed v n)) (Err 20) (cond (get_or seen n false) (Err 8) (Ok (shown.Option n)))
by_option v seen None = Err 7

option_known : (v : ℕ) (seen : List Bool) (o : Option ℕ) → by_option v seen (known o) ≡ decided_of (new_option v seen o)
option_known v seen none = refl
option_known v seen (some n) = go (allowed v n) (get_or seen n false)
  where
    go : (a x : Bool) → cond (not a) (Err 20) (cond x (Err 8) (Ok (shown.Option n))) ≡ decided_of (cond (not a) (refuses 20) (cond x (refuses 8) (takes (option n))))
    go true true = refl
    go true false = refl
    go false x = refl

pub option_decided : (v : ℕ) (seen : List Bool) (t : List ℕ) → by_option v seen (known (option_of (drop 1 t))) ≡ decided_of (decide_option v seen (signs Out t))
unfolding decide_option
option_decided v seen t = rw (raws_signs t) (option_known v seen (option_of (drop 1 t)))

-- the name is what follows the first byte
pub option_cite : (v : ℕ) (seen : List Bool) (t : List ℕ) (b : ℕ) (name : List ℕ) (k : std.Option ℕ) → t ≡ b ∷ name → k ≡ known (option_of name)
    → by_option v seen k ≡ decided_of (decide_option v seen (signs Out t))
option_cite v seen t b name k z e =
    ap (by_option v seen) (e ∙ sym (ap (λ (s : List ℕ). known (option_of (drop 1 s))) z)) ∙ option_decided v seen t

-- no name is empty
pub option_empty : (v : ℕ) (seen : List Bool) (t : List ℕ) → length t ≡ 0 → Err 7 ≡ decided_of (decide_option v seen (signs Out t))
unfolding decide_option signs raws option_of find long_names short_names names lowered lower bytes same_bytes
option_empty v seen [] e = refl
option_empty v seen (b ∷ t) e = absurd (omega arith)

-- ---- an argument

-- is the text of the form that this kind asks for?
abbrev pub form_of : Kind → List ℕ → Bool
form_of Mere t = false
form_of Keep t = is_keep t
form_of Level t = is_level t
form_of Place t = is_place (signs Out t)
form_of Entries t = is_some (entries_of (signs Out t))

argument_when : (x : Bool) (a : Argument) (k : ℕ) → argument_if x k ≡ decided_of (or_no 10 (cond x (some a) none) (argument k))
argument_when true a k = refl
argument_when false a k = refl

argument_of : (d : Kind) (k : ℕ) (t : List ℕ) → argument_if (form_of d t) k ≡ decided_of (or_no 10 (argument_by d (signs Out t)) (argument k))
argument_of Mere k t = refl
argument_of Keep k t = rw (raws_signs t) (argument_when (is_keep t) _ k)
argument_of Level k t = rw (raws_signs t) (argument_when (is_level t) _ k)
argument_of Place k t = argument_when (is_place (signs Out t)) _ k
argument_of Entries k t = go (entries_of (signs Out t))
  where
    go : (o : Option (List Entry)) → argument_if (is_some o) k ≡ decided_of (or_no 10 (Rattle.text.specs.Lists.given o (λ es. some (items es))) (argument k))
    go none = refl
    go (some es) = refl

pub argument_decided : (k : ℕ) (t : List ℕ) → starts_bare 45 t ≡ false → argument_if (form_of (kind_of k) t) k ≡ decided_of (decide_argument k (signs Out t))
unfolding decide_argument
argument_decided k t e = rw (sym (starts_bytes 45 t) ∙ e) (argument_of (kind_of k) k t)

pub argument_dash : (k : ℕ) (t : List ℕ) → starts_bare 45 t ≡ true → Err 9 ≡ decided_of (decide_argument k (signs Out t))
unfolding decide_argument
argument_dash k t e = rw (sym (starts_bytes 45 t) ∙ e)

-- ---- a target

abbrev pub by_where : std.Option Where → Result Shown ℕ
by_where (Some w) = Ok shown.Target
by_where None = Err 12

target_where : (o : Option Target) → by_where (where_of o) ≡ decided_of (or_no 12 o target)
target_where none = refl
target_where (some session) = refl
target_where (some (path r ss)) = refl

pub target_decided : (t : List ℕ) → by_where (where_in t) ≡ decided_of (decide_target (signs Out t))
unfolding decide_target where_in
target_decided t = rw (raws_signs t) (target_where (target_of t))

-- ---- a property

property_shape : (o : Option Property) → by_shape (shape_of o) ≡ decided_of (or_no 13 o prop)
property_shape none = refl
property_shape (some p) = refl

module _ (count : ℕ) (t : List ℕ) where
  pub property_many : (help : Bool) → 32 ≤ count → Err 14 ≡ decided_of (decide_property help count (signs Out t))
  unfolding decide_property
  property_many help h = rw (le-leb 32 count h)

  pub topic_decided : count < 32 → by_shape (topic_in t) ≡ decided_of (decide_property true count (signs Out t))
  unfolding decide_property topic_in
  topic_decided h = rw (lt-leb 32 count h) (property_shape (topic_of (signs Out t)))

  pub property_decided : count < 32 → by_shape (shape_of (property_of (signs Out t))) ≡ decided_of (decide_property false count (signs Out t))
  unfolding decide_property
  property_decided h = rw (lt-leb 32 count h) (property_shape (property_of (signs Out t)))

-- ---- by what may come next

module _ (help : Bool) (count : ℕ) (t : List ℕ) where
  pub after_topic : help ≡ true → decide_property help count (signs Out t) ≡ decide_after help count (signs Out t)
  unfolding decide_after
  after_topic e = rw e

  pub after_property : help ≡ false → has_bare 61 t ≡ true → decide_property help count (signs Out t) ≡ decide_after help count (signs Out t)
  unfolding decide_after has_bare
  after_property e h = rw (e, h)

  pub after_target : help ≡ false → has_bare 61 t ≡ false → decide_target (signs Out t) ≡ decide_after help count (signs Out t)
  unfolding decide_after has_bare
  after_target e h = rw (e, h)

module _ (v : ℕ) (seen : List Bool) (count : ℕ) (t : List ℕ) where
  pub in_option : starts_bare 45 t ≡ true → decide_option v seen (signs Out t) ≡ decide_in Options v seen count (signs Out t)
  in_option e = rw (sym (starts_bytes 45 t) ∙ e)

  pub in_after : starts_bare 45 t ≡ false → decide_after (is_help v) count (signs Out t) ≡ decide_in Options v seen count (signs Out t)
  in_after e = rw (sym (starts_bytes 45 t) ∙ e)

  pub in_dash : starts_bare 45 t ≡ true → refuses 11 ≡ decide_in Rest v seen count (signs Out t)
  in_dash e = rw (sym (starts_bytes 45 t) ∙ e)

  pub in_property : starts_bare 45 t ≡ false → decide_property (is_help v) count (signs Out t) ≡ decide_in Rest v seen count (signs Out t)
  in_property e = rw (sym (starts_bytes 45 t) ∙ e)
