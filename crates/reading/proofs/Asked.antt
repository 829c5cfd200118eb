-- The form by which the place of 10, 12 or 13 is found is the one that the term is not of: where that row holds, the term is no acceptable text of that form.
-- Assumes nothing.
use Prim.Native.Nat.{ℕ}
use mathlib.Core.Path.{◌≡◌, refl, sym, ap, ◌∙◌}
use mathlib.Core.List.{List, [], ◌∷◌}
use mathlib.Core.Bool.{Bool, true, false, cond, not}
use mathlib.Core.Option.{Option, none, some, some-injective}
use borrow.Author.Tests.{not-true}
use Rattle.text.proofs.Tests.{and_r}
use Rattle.text.proofs.Options.{none_some}
use Rattle.terms.specs.declared.Mode.TheVariants.{Out}
use Rattle.terms.specs.Signs.{signs, raws}
use Rattle.terms.specs.Terms.{Term}
use Rattle.terms.proofs.SignBytes.{raws_signs}
use Rattle.words.specs.declared.Kind.{Kind}
use Rattle.words.specs.declared.Kind.TheVariants.{Mere, Keep, Level, Place, Entries}
use Rattle.words.specs.Words.{lowered, kind_of}
use Rattle.forms.specs.Forms.{Entry, is_keep, is_level, is_place, entries_of, property_of, topic_of}
use Rattle.forms.specs.Targets.{target_of}
use Rattle.forms.specs.Answers.{is_some}
use Rattle.forms.proofs.ValueLaws.{some_if}
use Rattle.reach.specs.declared.Form.{Form}
use Rattle.reach.specs.declared.Form.TheVariants as form
use Rattle.reach.specs.Forms.{is_of}
use Rattle.reading.specs.declared.Phase.{Phase}
use Rattle.reading.specs.declared.Phase.TheVariants.{First, Options, Waits, Rest}
use Rattle.reading.specs.Command.{Item, verb, option, argument, target, prop, numeral, items, argument_by, argument_form}
use Rattle.reading.specs.declared.State.{State}
use Rattle.reading.specs.Reading.{begin, is_help, Decision, refuses, takes, decide, phase_after, next, form_asked}
use Rattle.reading.specs.Order.{is_target_here, is_property_here, row10, row12, row13, state_past}

-- an option's argument is taken exactly where its text is of its form
argument_asked : (k : Kind) (s : List ℕ) (f : Form) → argument_form k ≡ some f → is_some (argument_by k (signs Out s)) ≡ is_of f s
argument_asked Mere s f e = none_some f e
argument_asked Keep s f e = let z = some-injective form.Keep f e in rw (← z, raws_signs s) (some_if (is_keep s) (numeral s))
argument_asked Level s f e = let z = some-injective form.Level f e in rw (← z, raws_signs s) (some_if (is_level s) (numeral (lowered s)))
argument_asked Place s f e = let z = some-injective form.Place f e in rw (← z) (some_if (is_place (signs Out s)) _)
argument_asked Entries s f e = let z = some-injective form.Entries f e in rw (← z) (go (entries_of (signs Out s)))
  where
    go : (o : Option (List Entry)) → is_some (Rattle.text.specs.Lists.given o (λ es. some (items es))) ≡ is_some o
    go none = refl
    go (some es) = refl

-- by each row: the form that is asked for, and that the term is not of it
module _ (v : ℕ) (seen : List Bool) (count : ℕ) (s : List ℕ) where
  pub asked_10 : (n : ℕ) (f : Form) → argument_form (kind_of n) ≡ some f → row10 (Waits n) v seen count (signs Out s) ≡ true → (form_asked (Waits n) v 10 ≡ some f) × (is_of f s ≡ false)
  asked_10 n f e h = (e, sym (argument_asked (kind_of n) s f e) ∙ not-true (is_some (argument_by (kind_of n) (signs Out s))) h)

  pub asked_12 : (p : Phase) → row12 p v seen count (signs Out s) ≡ true → (form_asked p v 12 ≡ some form.Target) × (is_of form.Target s ≡ false)
  asked_12 p h =
      let t = signs Out s in (
        refl,
        sym (ap (λ (r : List ℕ). is_some (target_of r)) (raws_signs s)) ∙ not-true (is_some (target_of (raws t))) (and_r (is_target_here p (is_help v) t) (not (is_some (target_of (raws t)))) h),
      )

  pub asked_13 : (p : Phase) → row13 p v seen count (signs Out s) ≡ true
      → (form_asked p v 13 ≡ some (cond (is_help v) form.Topic form.Property)) × (is_of (cond (is_help v) form.Topic form.Property) s ≡ false)
  asked_13 p h = (refl, go (is_help v) (and_r (is_property_here p (is_help v) (signs Out s)) _ h))
    where
      go : (x : Bool) → not (is_some (cond x (topic_of (signs Out s)) (property_of (signs Out s)))) ≡ true → is_of (cond x form.Topic form.Property) s ≡ false
      go true e = not-true (is_some (topic_of (signs Out s))) e
      go false e = not-true (is_some (property_of (signs Out s))) e

-- ---- an option that waits for its argument asks for a form

abbrev asks : Phase → Bool
asks First = true
asks Options = true
asks (Waits n) = is_some (argument_form (kind_of n))
asks Rest = true

after_asks : (n : ℕ) (k : Kind) → kind_of n ≡ k → asks (phase_after n k) ≡ true
after_asks n Mere e = refl
after_asks n Keep e = ap (λ (k : Kind). is_some (argument_form k)) e
after_asks n Level e = ap (λ (k : Kind). is_some (argument_form k)) e
after_asks n Place e = ap (λ (k : Kind). is_some (argument_form k)) e
after_asks n Entries e = ap (λ (k : Kind). is_some (argument_form k)) e

next_asks : (s : State) (i : Item) → asks (next s i).phase ≡ true
next_asks s (verb n) = refl
next_asks s (option n) = after_asks n (kind_of n) refl
next_asks s (argument n a) = refl
next_asks s (target t) = refl
next_asks s (prop p) = refl

past_asks : (s u : State) (ts : List Term) → asks s.phase ≡ true → state_past s ts ≡ some u → asks u.phase ≡ true
unfolding state_past
past_asks s u [] a h = ap (λ (w : State). asks w.phase) (sym (some-injective s u h)) ∙ a
past_asks s u (t ∷ ts) a h = go (decide s t.text) refl (λ i e. past_asks (next s i) u ts (next_asks s i) e)
  where
    go : (d : Decision) → decide s t.text ≡ d → ((i : Item) → state_past (next s i) ts ≡ some u → asks u.phase ≡ true) → asks u.phase ≡ true
    go (refuses k) e ih = none_some u (rw e at h)
    go (takes i) e ih = ih i (rw e at h)

-- in a line, the option that waits takes an argument, so that asked-10 speaks of every 10 that a term gives
pub waiting_asks : (ts : List Term) (u : State) (n : ℕ) → state_past begin ts ≡ some u → u.phase ≡ Waits n → is_some (argument_form (kind_of n)) ≡ true
waiting_asks ts u n h e = sym (ap asks e) ∙ past_asks begin u ts refl h
