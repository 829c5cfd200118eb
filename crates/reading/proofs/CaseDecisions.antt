-- A term that is taken as a part in either case: the decision on it looks at its lower case alone. Assumes nothing.
use Prim.Native.Nat.{ℕ}
use mathlib.Core.Path.{◌≡◌, refl, sym, ap, ◌∙◌}
use mathlib.Core.List.{List, [], ◌∷◌}
use mathlib.Core.Bool.{Bool, true, false, cond, not, ◌&&◌, ◌||◌}
use mathlib.Core.Option.{Option, none, some}
use lib.ListN.{drop}
use lib.Dec.{leb}
use Rattle.text.specs.Bytes.{same_bytes}
use Rattle.text.proofs.Tests.{no_case, or_case}
use Rattle.text.proofs.SameTexts.{same_eq}
use Rattle.terms.specs.declared.Mode.TheVariants.{Out}
use Rattle.terms.specs.Signs.{Sign, raws, signs}
use Rattle.terms.proofs.SignBytes.{raws_signs}
use Rattle.words.specs.declared.Kind.{Kind}
use Rattle.words.specs.declared.Kind.TheVariants.{Mere, Keep, Level, Place, Entries}
use Rattle.words.specs.Words.{lower, lowered, all_name, kind_of}
use Rattle.words.proofs.Folding.{lowered_again}
use Rattle.words.proofs.WordLaws.{names_either, verb_either, option_either}
use Rattle.forms.specs.Forms.{starts, has_eq, is_keep, is_level, property_of, topic_of}
use Rattle.forms.specs.Targets.{target_of}
use Rattle.forms.proofs.ValueLaws.{starts_byte}
use Rattle.reading.specs.declared.Phase.{Phase}
use Rattle.reading.specs.declared.Phase.TheVariants.{First, Options, Waits, Rest}
use Rattle.reading.specs.declared.State.{State}
use Rattle.reading.specs.Command.{argument_by, Item, argument, target, prop}
use Rattle.reading.specs.Reading.{Decision, refuses, takes, or_no, is_help, decide_verb, decide_option, decide_argument, decide_target, decide_property, decide_after, decide_in, decide}
use Rattle.reading.specs.EitherCase.{is_level_kind, in_either_case}
use Rattle.reading.proofs.CaseBytes.{lower_byte, folded, lowered_drop, decimal_lowered}

-- ---- is a term taken as a part in either case?

-- a term that is refused is taken as nothing
abbrev is_either : Decision → Bool
is_either (refuses n) = false
is_either (takes i) = in_either_case i

-- no, where every part that it may be taken as stays exact
made_exact : {A : Type 0} (n : ℕ) (o : Option A) (f : A → Item) → ((a : A) → in_either_case (f a) ≡ false) → is_either (or_no n o f) ≡ false
made_exact n none f k = refl
made_exact n (some a) f k = k a

both_exact : (x : Bool) (d e : Decision) → is_either d ≡ false → is_either e ≡ false → is_either (cond x d e) ≡ false
both_exact true d e p q = p
both_exact false d e p q = q

-- a property, a topic and a target stay exact
module _ (help : Bool) (count : ℕ) (t : List Sign) where
  property_exact : is_either (decide_property help count t) ≡ false
  unfolding decide_property
  property_exact = let o = cond help (topic_of t) (property_of t) in both_exact (leb 32 count) (refuses 14) (or_no 13 o prop) refl (made_exact 13 o prop (λ _. refl))

  after_exact : is_either (decide_after help count t) ≡ false
  unfolding decide_after decide_target
  after_exact = both_exact (not help && not (has_eq t)) (decide_target t) (decide_property help count t) (made_exact 12 (target_of (raws t)) target (λ _. refl)) property_exact

-- ---- what a decision on such a term asks

-- `-` is no letter
starts_lowered : (s : List ℕ) → starts 45 (signs Out (lowered s)) ≡ starts 45 (signs Out s)
unfolding lowered signs
starts_lowered [] = refl
starts_lowered (b ∷ s) = starts_byte 45 (lower b) (lowered s) refl ∙ lower_byte 45 refl b ∙ sym (starts_byte 45 b s refl)

-- a level is one in lower case, and nothing else becomes one
pub level_lowered : (s : List ℕ) → is_level (lowered s) ≡ is_level s
unfolding is_level is_keep
level_lowered s = rw (decimal_lowered 4294967295 s, names_either all_name (lowered s) s (lowered_again s))

-- two texts that differ in the case of letters alone are judged alike
module _ (x y : List ℕ) (folds : lowered x ≡ lowered y) where
  starts_folds : starts 45 (signs Out x) ≡ starts 45 (signs Out y)
  starts_folds = folded (λ s. starts 45 (signs Out s)) starts_lowered x y folds

  -- names are found by their lower case, and a level is told in lower case
  verb_folds : decide_verb (signs Out x) ≡ decide_verb (signs Out y)
  unfolding decide_verb
  verb_folds = rw (raws_signs x, raws_signs y, verb_either x y folds)

  option_folds : (v : ℕ) (seen : List Bool) → decide_option v seen (signs Out x) ≡ decide_option v seen (signs Out y)
  unfolding decide_option
  option_folds v seen = rw (raws_signs x, raws_signs y, option_either (drop 1 x) (drop 1 y) (lowered_drop 1 x ∙ ap (drop 1) folds ∙ sym (lowered_drop 1 y)))

  level_folds : argument_by Level (signs Out x) ≡ argument_by Level (signs Out y)
  level_folds = rw (raws_signs x, raws_signs y, folded is_level level_lowered x y folds, folds)

  -- of arguments, level's alone
  argument_folds : (d : Kind) → is_level_kind d ≡ true → argument_by d (signs Out x) ≡ argument_by d (signs Out y)
  argument_folds Mere e = no_case (sym e)
  argument_folds Keep e = no_case (sym e)
  argument_folds Level e = level_folds
  argument_folds Place e = no_case (sym e)
  argument_folds Entries e = no_case (sym e)

  -- the same decision, phase by phase
  decided_in : (p : Phase) (v : ℕ) (seen : List Bool) (count : ℕ) → is_either (decide_in p v seen count (signs Out x)) ≡ true
      → decide_in p v seen count (signs Out x) ≡ decide_in p v seen count (signs Out y)
  unfolding decide_argument
  decided_in First v seen count e = verb_folds
  decided_in Options v seen count e = go (starts 45 (signs Out x)) refl
    where
      go : (z : Bool) → starts 45 (signs Out x) ≡ z → decide_in Options v seen count (signs Out x) ≡ decide_in Options v seen count (signs Out y)
      go true p = rw (p, sym starts_folds ∙ p) (option_folds v seen)
      go false p = no_case (sym (rw p at e) ∙ after_exact (is_help v) count (signs Out x))
  decided_in (Waits k) v seen count e = go (starts 45 (signs Out x)) (is_level_kind (kind_of k)) refl refl
    where
      go : (z w : Bool) → starts 45 (signs Out x) ≡ z → is_level_kind (kind_of k) ≡ w → decide_argument k (signs Out x) ≡ decide_argument k (signs Out y)
      go true w p q = rw (p, sym starts_folds ∙ p)
      go false true p q = rw (p, sym starts_folds ∙ p, argument_folds (kind_of k) q)
      go false false p q = no_case (sym (rw p at e) ∙ made_exact 10 (argument_by (kind_of k) (signs Out x)) (argument k) (λ _. q))
  decided_in Rest v seen count e =
      no_case (sym e ∙ both_exact (starts 45 (signs Out x)) (refuses 11) (decide_property (is_help v) count (signs Out x)) refl (property_exact (is_help v) count (signs Out x)))

  -- a text that stands where a part was taken from is taken as it too, where it is the same or the part is in either case
  pub taken_alike : (s : State) (i : Item) → decide s (signs Out x) ≡ takes i → in_either_case i || same_bytes x y ≡ true → decide s (signs Out y) ≡ takes i
  unfolding decide
  taken_alike s i d e =
      or_case (in_either_case i) (same_bytes x y) e (λ p. sym (decided_in s.phase s.verb s.seen s.count (ap is_either d ∙ p)) ∙ d)
      (λ p. ap (λ (z : List ℕ). decide s (signs Out z)) (sym (same_eq x y p)) ∙ d)
