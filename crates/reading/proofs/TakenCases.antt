-- What a part was taken from, by the phase that its term stood in: every law about a part that was taken cites this. Assumes nothing.
use Prim.Native.Nat.{ℕ, ◌<◌}
use mathlib.Core.Path.{◌≡◌, refl}
use mathlib.Core.List.{List}
use mathlib.Core.Bool.{Bool, true, false, cond, not, ◌&&◌}
use mathlib.Core.Option.{Option, none, some}
use native.Mathlib.Omega.{arith}
use lib.ListN.{drop, get_or}
use lib.Dec.{leb}
use borrow.Author.Tests.{leb-false, not-true}
use Rattle.text.proofs.Tests.{and_l, and_r}
use Rattle.text.proofs.Options.{none_some, some_from, given_from}
use Rattle.terms.specs.Signs.{Sign, raws, stands}
use Rattle.words.specs.declared.Kind.{Kind}
use Rattle.words.specs.declared.Kind.TheVariants.{Mere, Keep, Level, Place, Entries}
use Rattle.words.specs.Words.{lowered, verb_of, option_of, kind_of}
use Rattle.support.specs.Table15.{allowed}
use Rattle.forms.specs.Forms.{starts, has_eq, is_keep, is_level, is_place, Entry, entries_of, Property, property_of, topic_of}
use Rattle.forms.specs.Targets.{Target, target_of}
use Rattle.reading.specs.declared.Phase.{Phase}
use Rattle.reading.specs.declared.Phase.TheVariants.{First, Options, Waits, Rest}
use Rattle.reading.specs.Command.{Argument, numeral, text, items, Item, verb, option, argument, target, prop, argument_by}
use Rattle.reading.specs.Reading.{refuses, takes, or_no, is_help, new_option, decide_verb, decide_option, decide_argument, decide_target, decide_property, decide_after, decide_in}

-- a term that was refused is taken as nothing
not_taken : {P : Type 0} (k : ℕ) (i : Item) → refuses k ≡ takes i → P
not_taken k i e = absurd (let z : ◌≡◌ {A = ℕ} 0 1 = cc in omega arith)

from_some : {A : Type 0} (P : Item → Type 0) (n : ℕ) (o : Option A) (f : A → Item) → ((a : A) → o ≡ some a → P (f a)) → (i : Item) → or_no n o f ≡ takes i → P i
from_some P n none f g i e = not_taken n i e
from_some P n (some a) f g i e = let z : i ≡ f a = cc in rw z (g a refl)

module _ (P : Phase → Item → Type 0) (v : ℕ) (seen : List Bool) (count : ℕ) (t : List Sign)
    (is-verb : (k : ℕ) → verb_of (raws t) ≡ some k → P First (verb k))
    (is-option : (k : ℕ) → option_of (drop 1 (raws t)) ≡ some k → allowed v k ≡ true → get_or seen k false ≡ false → P Options (option k))
    (is-argument : (k : ℕ) (a : Argument) → starts 45 t ≡ false → argument_by (kind_of k) t ≡ some a → P (Waits k) (argument k a))
    (is-target : (g : Target) → is_help v ≡ false → has_eq t ≡ false → target_of (raws t) ≡ some g → P Options (target g))
    (is_first_lem : (q : Property) → (not (is_help v) && not (has_eq t)) ≡ false → count < 32 → cond (is_help v) (topic_of t) (property_of t) ≡ some q → P Options (prop q))
    (is-property : (q : Property) → count < 32 → cond (is_help v) (topic_of t) (property_of t) ≡ some q → P Rest (prop q)) where
  from_option : (i : Item) (o : Option ℕ) → option_of (drop 1 (raws t)) ≡ o → new_option v seen o ≡ takes i → P Options i
  from_option i none p e = not_taken 7 i e
  from_option i (some k) p e = go (allowed v k) (get_or seen k false) refl refl e
    where
      go : (a x : Bool) → allowed v k ≡ a → get_or seen k false ≡ x → cond (not a) (refuses 20) (cond x (refuses 8) (takes (option k))) ≡ takes i → P Options i
      go false x h q e = not_taken 20 i e
      go true true h q e = not_taken 8 i e
      go true false h q e = let z : i ≡ option k = cc in rw z (is-option k p h q)

  from_property : (p : Phase) → ((q : Property) → count < 32 → cond (is_help v) (topic_of t) (property_of t) ≡ some q → P p (prop q)) → (i : Item) → decide_property (is_help v) count t ≡ takes i → P p i
  unfolding decide_property
  from_property p f i e = go (leb 32 count) refl e
    where
      go : (x : Bool) → leb 32 count ≡ x → cond x (refuses 14) (or_no 13 (cond (is_help v) (topic_of t) (property_of t)) prop) ≡ takes i → P p i
      go true q e = not_taken 14 i e
      go false q e = from_some (P p) 13 (cond (is_help v) (topic_of t) (property_of t)) prop (λ a h. f a (leb-false 32 count q) h) i e

  pub taken_case : (p : Phase) (i : Item) → decide_in p v seen count t ≡ takes i → P p i
  unfolding decide_verb decide_option decide_after decide_target decide_argument
  taken_case First i e = from_some (P First) 6 (verb_of (raws t)) verb is-verb i e
  taken_case Options i e = go (starts 45 t) (not (is_help v) && not (has_eq t)) refl refl
    where
      go : (x y : Bool) → starts 45 t ≡ x → (not (is_help v) && not (has_eq t)) ≡ y → P Options i
      go true y p q = from_option i (option_of (drop 1 (raws t))) refl (rw p at e)
      go false true p q =
          from_some (P Options) 12 (target_of (raws t)) target
          (λ g h. is-target g (not-true (is_help v) (and_l (not (is_help v)) (not (has_eq t)) q)) (not-true (has_eq t) (and_r (not (is_help v)) (not (has_eq t)) q)) h) i (rw (p, q) at e)
      go false false p q = from_property Options (λ r c h. is_first_lem r q c h) i (rw (p, q) at e)
  taken_case (Waits k) i e = go (starts 45 t) refl
    where
      go : (x : Bool) → starts 45 t ≡ x → P (Waits k) i
      go true p = not_taken 9 i (rw p at e)
      go false p = from_some (P (Waits k)) 10 (argument_by (kind_of k) t) (argument k) (λ a h. is-argument k a p h) i (rw p at e)
  taken_case Rest i e = go (starts 45 t) refl
    where
      go : (x : Bool) → starts 45 t ≡ x → P Rest i
      go true p = not_taken 11 i (rw p at e)
      go false p = from_property Rest is-property i (rw p at e)

-- and what an argument was taken from, by its option's kind
pub argument_from : (P : Kind → Argument → Type 0) (t : List Sign)
    → (is_keep (raws t) ≡ true → P Keep (numeral (raws t)))
    → (is_level (raws t) ≡ true → P Level (numeral (lowered (raws t))))
    → (is_place t ≡ true → P Place (text (stands t)))
    → ((es : List Entry) → entries_of t ≡ some es → P Entries (items es))
    → (k : Kind) (a : Argument) → argument_by k t ≡ some a → P k a
argument_from P t keep level place entries Mere a e = none_some a e
argument_from P t keep level place entries Keep a e = some_from (P Keep) (is_keep (raws t)) (numeral (raws t)) keep a e
argument_from P t keep level place entries Level a e = some_from (P Level) (is_level (raws t)) (numeral (lowered (raws t))) level a e
argument_from P t keep level place entries Place a e = some_from (P Place) (is_place t) (text (stands t)) place a e
argument_from P t keep level place entries Entries a e = given_from (P Entries) (entries_of t) items entries a e
