-- THE MACHINE OF specs/Stages goes over a text as far as some place, topic, property, or items of display and output do. Assumes nothing.
use Prim.Native.Nat.{ℕ, zero, suc, ◌<◌}
use mathlib.Core.Path.{◌≡◌, refl, sym, ap, ◌∙◌}
use mathlib.Core.List.{List, [], ◌∷◌, ◌++◌, map}
use mathlib.Core.Bool.{Bool, true, false, not, ◌&&◌, and-true}
use mathlib.Core.Option.{Option, none, some}
use native.Mathlib.Omega.{arith}
use lib.ListN.{length, take, drop}
use lib.Dec.{eqb}
use borrow.Author.Tests.{eqb-true, eqb-false, ne_eqb}
use Rattle.text.specs.Bytes.{is_word}
use Rattle.text.specs.Lists.{any_of, given, every}
use Rattle.text.proofs.Tests.{either, no_case}
use Rattle.terms.specs.declared.Mode.{Mode}
use Rattle.terms.specs.declared.Mode.TheVariants.{Out, OutGrave, In, InGrave}
use Rattle.terms.specs.Signs.{Sign, after, signs}
use Rattle.terms.specs.Marks.{is_mark}
use Rattle.terms.proofs.SignBytes.{raws_signs}
use Rattle.terms.proofs.Bares.{bare_signs}
use Rattle.terms.proofs.ByteCases.{out_case, out_grave_case}
use Rattle.terms.proofs.ScanLaws.{end_no_mark}
use Rattle.forms.specs.declared.At.TheVariants.{Start}
use Rattle.forms.specs.Forms.{is_name, is_text, text_of, value_of, said_of, alone, equals, matches, property, topic_of, entry, entry_of, entries_of, is_place}
use Rattle.forms.specs.Automata.{is_comma, opened, entry_len}
use Rattle.forms.specs.Answers.{is_some}
use Rattle.forms.specs.Steps.{name_len}
use Rattle.forms.proofs.ValueLaws.{some_if, starts_byte}
use Rattle.forms.proofs.FormCases.{named_of, as_property}
use Rattle.forms.proofs.PropertyLaws.{name_words, name_is, not_name, named_alone, named_equal, named_other, named_none}
use Rattle.forms.proofs.EntryLaws.{after_entry, entry_first, some_every}
use Rattle.reach.specs.declared.Form.TheVariants.{Place, Entries, Property, Topic}
use Rattle.reach.specs.declared.Stage.{Stage}
use Rattle.reach.specs.declared.Stage.TheVariants as stage
use Rattle.reach.specs.Forms.{is_of}
use Rattle.reach.specs.Stages.{free_step, said_step, stage_reach}
use Rattle.reach.proofs.Far.{Far}
use Rattle.reach.proofs.Accepts.{bare_case, fits, accepts, off_none, stage_far}
use Rattle.reach.proofs.ValueReach.{first, first_all, run, to_comma, to_none, value_law}
use Rattle.reach.proofs.NameReach.{item_law}

-- ---- places

-- a text without an unescaped `"`, in each mode outside quotes
place_law : (x : List ℕ) (m : Mode) → fits Start m ≡ true → not (any_of is_mark (signs m x)) ≡ accepts stage.Off stage.Off stage.Free m x
unfolding accepts signs any_of free_step
place_law [] m f = ap not (end_no_mark m)
place_law (b ∷ x) Out f =
    out_case (λ g n. not (any_of is_mark (g ++ signs n x)) ≡ accepts stage.Off stage.Off (free_step Out b) n x) b
    (λ p. rw (ap (λ j. eqb j 34) (eqb-true b 96 p)) (place_law x OutGrave refl)) (λ p q. rw q (sym (off_none stage.Off stage.Off In x)))
    (λ p q. rw q (place_law x Out refl))
place_law (b ∷ x) OutGrave f =
    out_grave_case (λ g n. not (any_of is_mark (g ++ signs n x)) ≡ accepts stage.Off stage.Off stage.Free n x) b (λ p. place_law x Out refl)
    (λ p. place_law x Out refl)
place_law (b ∷ x) In f = no_case (sym f)
place_law (b ∷ x) InGrave f = no_case (sym f)

pub place_far : (s : List ℕ) → Far (is_of Place) s (stage_reach stage.Off stage.Off stage.Free Out s)
unfolding is_place
place_far = stage_far stage.Off stage.Off refl refl (is_of Place) stage.Free Out refl (λ x. place_law x Out refl)

-- ---- topics

-- a topic is a name
topic_is : (t : List ℕ) → is_some (topic_of (signs Out t)) ≡ is_name t
unfolding topic_of
topic_is t = rw (raws_signs t) (some_if (is_name t) (property t alone))

-- a text that no name begins is none
no_name : (t : List ℕ) → name_len t ≡ 0 → is_name t ≡ false
no_name [] e = unfold is_name in refl
no_name (b ∷ s) e = sym (name_is (b ∷ s) (λ z. omega arith)) ∙ rw e (ne_eqb 0 (suc (length s)) (λ z. omega arith))

topic_law : (x : List ℕ) → is_of Topic x ≡ accepts stage.Off stage.Off (stage.Name 0) Out x
topic_law x =
    topic_is x ∙ sym (item_law false stage.Off is_name (λ v. false) (λ w e. e) (λ w v e. not_name w 61 v (unfold is_word in refl))
    (λ w c v e p q. not_name w c v p) no_name
    (λ y. off_none stage.Off stage.Off Out y ∙ sym (to_none false stage.Off (λ v. false) (λ v. refl) Out false y)) x
    ∙ first_all (run false stage.Off stage.Off Out) is_name Out false x)

pub topic_far : (s : List ℕ) → Far (is_of Topic) s (stage_reach stage.Off stage.Off (stage.Name 0) Out s)
topic_far = stage_far stage.Off stage.Off refl refl (is_of Topic) (stage.Name 0) Out refl topic_law

-- ---- a name, and what may follow it after `=`: properties, and the items of display and output, are both of this form

-- an answer that is made of another is one where that is
some_given : {A B : Type 0} (o : Option A) (f : A → B) → is_some (given o (λ a. some (f a))) ≡ is_some o
some_given none f = refl
some_given (some a) f = refl

module _ {A B : Type 0} (rest : List Sign → Option B) (mere : List ℕ → A) (with : List ℕ → B → A) (more : Bool) (equal : Stage)
    (said : (x : List ℕ) → run more equal equal Out x ≡ to_comma more equal (λ v. is_some (rest (signs Out v))) Out false x) where
  -- before a name, up to a comma
  named_law : (x : List ℕ) → run more equal (stage.Name 0) Out x ≡ to_comma more equal (λ t. is_some (named_of rest mere with (signs Out t))) Out false x
  named_law =
      item_law more equal (λ t. is_some (named_of rest mere with (signs Out t))) (λ v. is_some (rest (signs Out v)))
      (λ w e. rw (named_alone rest mere with w (name_words w e), e))
      (λ w v e. rw (named_equal rest mere with w v (name_words w e), e) (some_given (rest (signs Out v)) (with w)))
      (λ w c v e p q. ap is_some (named_other rest mere with w c v (name_words w e) p (eqb-false c 61 q)))
      (λ t e. ap is_some (named_none rest mere with t e)) said

-- ---- properties

-- after `=`: `=` and a value, or a value
said_law : (x : List ℕ) → run false stage.Said stage.Said Out x ≡ is_some (said_of (signs Out x))
unfolding accepts said_of said_step after
said_law [] = unfold signs value_of text_of is_text in refl
said_law (b ∷ x) = either (eqb b 61)
    (λ p. bare_case (λ m j. run false stage.Said (said_step j) (after m j) x ≡ is_some (said_of (signs m (j ∷ x)))) 61 Out b p
    (value x ∙ sym (ap (λ t. is_some (said_of t)) (bare_signs 61 x refl refl) ∙ some_given (value_of (signs Out x)) matches)))
    (λ p. rw (starts_byte 61 b x refl, p) (value (b ∷ x) ∙ sym (some_given (value_of (signs Out (b ∷ x))) equals)))
  where
    value : (y : List ℕ) → run false stage.Said stage.Value Out y ≡ is_some (value_of (signs Out y))
    value y = value_law false stage.Said y ∙ first_all (run false stage.Said stage.Off Out) (λ v. is_some (value_of (signs Out v))) Out false y

property_law : (x : List ℕ) → is_of Property x ≡ accepts stage.Said stage.Off (stage.Name 0) Out x
property_law x =
    let all : (g : List ℕ → Bool) (y : List ℕ) → to_comma false stage.Said g Out false y ≡ g y
    = λ g y. first_all (run false stage.Said stage.Off Out) g Out false y in
    ap is_some (as_property (signs Out x)) ∙ sym (named_law said_of (λ n. property n alone) property false stage.Said
    (λ y. said_law y ∙ sym (all (λ v. is_some (said_of (signs Out v))) y)) x
    ∙ all (λ t. is_some (named_of said_of (λ n. property n alone) property (signs Out t))) x)

pub property_far : (s : List ℕ) → Far (is_of Property) s (stage_reach stage.Said stage.Off (stage.Name 0) Out s)
property_far = stage_far stage.Said stage.Off refl refl (is_of Property) (stage.Name 0) Out refl property_law

-- ---- the items of display and output

entries : List ℕ → Bool
entries x = is_some (entries_of (signs Out x))

-- the first item and the rest, by the length of the first
first_entries : (g : List ℕ → Bool) (m : Mode) (l : Bool) (x : List ℕ)
    → first true entries g m l x ≡ g (take (entry_len m l x) x) && is_some (every (map entry_of (after_entry (drop (entry_len m l x) x))))
unfolding first entry_len after_entry every entries entries_of
first_entries g m l [] = sym (and-true (g []))
first_entries g m l (b ∷ x) = either (is_comma m l b) (λ p. rw p) (λ p. rw p (first_entries (λ y. g (b ∷ y)) (after m b) (opened m l b) x))

entries_are : (x : List ℕ) → entries x ≡ first true entries (λ t. is_some (entry_of (signs Out t))) Out false x
unfolding entries entries_of
entries_are x =
    let n = entry_len Out false x in
    ap (λ z. is_some (every (map entry_of z))) (entry_first x) ∙ some_every (entry_of (signs Out (take n x))) (map entry_of (after_entry (drop n x)))
    ∙ sym (first_entries (λ t. is_some (entry_of (signs Out t))) Out false x)

-- what may come next counts only for shorter texts
first_next : (f h g : List ℕ → Bool) (m : Mode) (l : Bool) (x : List ℕ) → ((y : List ℕ) → length y < length x → f y ≡ h y)
    → first true f g m l x ≡ first true h g m l x
unfolding first
first_next f h g m l [] e = refl
first_next f h g m l (b ∷ x) e =
    either (is_comma m l b) (λ p. rw p (ap (λ z. g [] && z) (e x (omega arith))))
    (λ p. rw p (first_next f h (λ y. g (b ∷ y)) (after m b) (opened m l b) x (λ y s. e y (omega arith))))

-- the machine accepts the items, here of a text of less than j bytes
entries_law : (j : ℕ) (x : List ℕ) → length x < j → entries x ≡ run true stage.Value (stage.Name 0) Out x
entries_law zero x h = absurd (omega arith)
entries_law (suc j) x h =
    let item : List ℕ → Bool = λ t. is_some (entry_of (signs Out t)) in
    entries_are x ∙ first_next entries (run true stage.Value (stage.Name 0) Out) item Out false x (λ y s. entries_law j y (omega arith))
    ∙ sym (named_law value_of (λ n. entry n none) (λ n v. entry n (some v)) true stage.Value (value_law true stage.Value) x ∙ unfold entry_of named_of in refl)

pub entries_far : (s : List ℕ) → Far (is_of Entries) s (stage_reach stage.Value (stage.Name 0) (stage.Name 0) Out s)
unfolding entries
entries_far = stage_far stage.Value (stage.Name 0) refl refl (is_of Entries) (stage.Name 0) Out refl (λ x. entries_law (suc (length x)) x (omega arith))
