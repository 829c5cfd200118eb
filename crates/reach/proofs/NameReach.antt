-- The names that the machine of specs/Stages accepts, and what it accepts after them: alone, with `=`, and before a comma that more may follow. Assumes nothing.
use Prim.Native.Nat.{ℕ, suc, ◌+◌, ◌<◌, ◌≤◌}
use mathlib.Core.Path.{◌≡◌, refl, sym, ap, ◌∙◌}
use mathlib.Core.List.{List, [], ◌∷◌, ◌++◌, append-nil, append_assoc}
use mathlib.Core.Bool.{Bool, true, false, cond, ◌&&◌, and-false}
use native.Mathlib.Omega.{arith}
use lib.ListN.{length, get_or, length-append}
use lib.Dec.{eqb, leb, ltb}
use borrow.Author.Tests.{ne_eqb, lt-ltb, ltb-true, ltb-false, le-leb, lt-leb}
use Rattle.text.specs.Bytes.{is_letter, is_word}
use Rattle.text.specs.Lists.{all_of, run_len}
use Rattle.text.proofs.Tests.{and_l, and_r, either, no_case}
use Rattle.text.proofs.AllAny.{all_append}
use Rattle.text.proofs.Classes.{letter_word, other_byte}
use Rattle.text.proofs.Scans.{run_over}
use Rattle.terms.specs.declared.Mode.{Mode}
use Rattle.terms.specs.declared.Mode.TheVariants.{Out}
use Rattle.terms.specs.Signs.{after}
use Rattle.forms.specs.Forms.{is_name}
use Rattle.forms.specs.Automata.{opened}
use Rattle.forms.specs.Steps.{name_len}
use Rattle.forms.proofs.PropertyLaws.{name_words, name_some}
use Rattle.reach.specs.declared.Stage.{Stage}
use Rattle.reach.specs.declared.Stage.TheVariants as stage
use Rattle.reach.specs.Stages.{comma_step, is_name_byte, name_step}
use Rattle.reach.proofs.Accepts.{bare_case, word_after, accepts, off_none}
use Rattle.reach.proofs.ValueReach.{comma_of, first, run, to_comma, to_same, to_none, to_comma_lem, to_on}

-- ---- names

-- a name of less than 64 bytes and one of its kind more
name_more : (w : List ℕ) (b : ℕ) → is_name w ≡ true → is_word b ≡ true → length w < 64 → is_name (w ++ (b ∷ [])) ≡ true
unfolding is_name all_of
name_more [] b e p h = no_case (sym e)
name_more (c ∷ s) b e p h =
    let r = and_r (is_letter c) (all_of is_word s && leb (length s) 63) e in
    let l = length-append s (b ∷ []) in
    simp (
      and_l (is_letter c) (all_of is_word s && leb (length s) 63) e,
      all_append is_word s (b ∷ []) (and_l (all_of is_word s) (leb (length s) 63) r) (simp p),
      le-leb (length (s ++ (b ∷ []))) 63 (omega arith),
    )

-- one of 64 bytes and one of its kind more is none
name_long : (w : List ℕ) (b : ℕ) (v : List ℕ) → is_name w ≡ true → is_word b ≡ true → 64 ≤ length w → name_len (w ++ (b ∷ v)) ≡ 0
unfolding name_len run_len
name_long w b v e p h =
    let r : run_len is_word (w ++ (b ∷ v)) ≡ length w + suc (run_len is_word v) = run_over is_word w (b ∷ v) (name_words w e) ∙ rw p in
    rw (lt-leb (run_len is_word (w ++ (b ∷ v))) 64 (omega arith), and-false (is_letter (get_or (w ++ (b ∷ v)) 0 0)))

-- a text that begins with no letter begins with none
name_first : (b : ℕ) (v : List ℕ) → is_letter b ≡ false → name_len (b ∷ v) ≡ 0
unfolding name_len
name_first b v e = rw e

-- a byte of a name is no other byte
no_word : (k b : ℕ) → is_word k ≡ false → is_word b ≡ true → eqb b k ≡ false
no_word k b e p = other_byte is_word k b true e p

both_false : (t : Bool) → false ≡ cond t false false
both_false true = refl
both_false false = refl

-- ---- a name and what may follow it: alone it is an item, after `=` stands what is given, and nothing else follows

module _ (more : Bool) (equal : Stage) (item given : List ℕ → Bool)
    (alone : (w : List ℕ) → is_name w ≡ true → item w ≡ true)
    (equals : (w v : List ℕ) → is_name w ≡ true → item (w ++ (61 ∷ v)) ≡ given v)
    (other : (w : List ℕ) (c : ℕ) (v : List ℕ) → is_name w ≡ true → is_word c ≡ false → eqb c 61 ≡ false → item (w ++ (c ∷ v)) ≡ false)
    (unnamed : (t : List ℕ) → name_len t ≡ 0 → item t ≡ false)
    (said : (x : List ℕ) → run more equal equal Out x ≡ to_comma more equal given Out false x) where
  -- what the machine accepts outside quotes, and items up to a comma
  abbrev runs : Stage → List ℕ → Bool
  runs q x = run more equal q Out x

  abbrev items : (List ℕ → Bool) → List ℕ → Bool
  items g x = to_comma more equal g Out false x

  -- a byte of a name is no comma
  items_on_lem : (g : List ℕ → Bool) (b : ℕ) (x : List ℕ) → is_word b ≡ true → items g (b ∷ x) ≡ items (λ y. g (b ∷ y)) x
  items_on_lem g b x p =
      to_on more equal g Out false b x (no_word 44 b (unfold is_word in refl) p)
      ∙ rw (word_after b p, no_word 40 b (unfold is_word in refl) p, no_word 41 b (unfold is_word in refl) p)

  -- what may follow a name: `=`, a comma, nothing else
  follows : ℕ → Stage
  follows b = cond (eqb b 61) equal (comma_step (comma_of more) b)

  -- what a name of k bytes goes on with
  step_is : (k b : ℕ) → 0 < k → name_step equal (comma_of more) k b ≡ cond (ltb k 64 && is_word b) (stage.Name (k + 1)) (follows b)
  unfolding name_step is_name_byte follows
  step_is k b h = rw (ne_eqb k 0 (λ z. omega arith))

  follow_law : (w : List ℕ) (b : ℕ) (x : List ℕ) → is_name w ≡ true → is_word b ≡ false
      → run more equal (follows b) (after Out b) x ≡ items (λ y. item (w ++ y)) (b ∷ x)
  unfolding follows comma_step after
  follow_law w b x e p =
      let g : List ℕ → Bool = λ y. item (w ++ y) in
      let Law : Mode → ℕ → Type 0 = λ m j. run more equal (follows j) (after m j) x ≡ to_comma more equal g m false (j ∷ x) in
      either (eqb b 61)
      (λ q. bare_case Law 61 Out b q (said x ∙ sym (to_on more equal g Out false 61 x refl
      ∙ to_same more equal (λ y. g (61 ∷ y)) given (λ y. equals w y e) Out false x)))
      (λ q. either (eqb b 44)
      (λ r. bare_case Law 44 Out b r (sym (to_comma_lem more equal g (λ y. other w 44 y e (unfold is_word in refl) refl) x
      ∙ ap (λ z. z && runs (comma_of more) x) (ap item (append-nil w) ∙ alone w e))))
      (λ r. let d : follows b ≡ stage.Off = rw (q, r) in
      ap (λ z. run more equal z (after Out b) x) d ∙ off_none equal (comma_of more) (after Out b) x
      ∙ sym (to_on more equal g Out false b x r ∙ to_none more equal (λ y. g (b ∷ y)) (λ y. other w b y e p q) (after Out b) (opened Out false b) x)))

  -- after a name w
  name_law : (x w : List ℕ) → is_name w ≡ true → runs (stage.Name (length w)) x ≡ items (λ y. item (w ++ y)) x
  unfolding accepts first follows comma_step
  name_law [] w e = lt-ltb 0 (length w) (name_some w e) ∙ sym (ap item (append-nil w) ∙ alone w e)
  name_law (b ∷ x) w e =
      let g : List ℕ → Bool = λ y. item (w ++ y) in
      let to : (q : Stage) → name_step equal (comma_of more) (length w) b ≡ q → runs (stage.Name (length w)) (b ∷ x) ≡ run more equal q (after Out b) x
      = λ q d. ap (λ z. run more equal z (after Out b) x) d in
      let step = step_is (length w) b (name_some w e) in
      either (is_word b)
      (λ p. sym (items_on_lem g b x p ∙ sym (either (ltb (length w) 64)
      (λ l. to (stage.Name (length w + 1)) (step ∙ rw (l, p)) ∙ ap (λ m. run more equal (stage.Name (length w + 1)) m x) (word_after b p)
      ∙ ap (λ k. runs (stage.Name k) x) (sym (length-append w (b ∷ []))) ∙ name_law x (w ++ (b ∷ [])) (name_more w b e p (ltb-true (length w) 64 l))
      ∙ to_same more equal (λ y. item ((w ++ (b ∷ [])) ++ y)) (λ y. g (b ∷ y)) (λ y. ap item (append_assoc w (b ∷ []) y)) Out false x)
      (λ l. to stage.Off (step ∙ rw (l, no_word 61 b (unfold is_word in refl) p, no_word 44 b (unfold is_word in refl) p))
      ∙ off_none equal (comma_of more) (after Out b) x
      ∙ sym (to_none more equal (λ y. g (b ∷ y)) (λ y. unnamed (w ++ (b ∷ y)) (name_long w b y e p (ltb-false (length w) 64 l))) Out false x)))))
      (λ p. to (follows b) (step ∙ rw (p, and-false (ltb (length w) 64))) ∙ follow_law w b x e p)

  -- before a name the machine accepts the items, up to a comma
  pub item_law : (x : List ℕ) → runs (stage.Name 0) x ≡ items item x
  unfolding accepts first name_step is_name_byte
  item_law [] = sym (unnamed [] (unfold name_len run_len in refl))
  item_law (b ∷ x) =
      either (is_letter b)
      (λ p. let w = letter_word b p in rw (p, word_after b w) (name_law x (b ∷ []) (unfold is_name all_of in simp p)) ∙ sym (items_on_lem item b x w))
      (λ p. let none : (y : List ℕ) → item (b ∷ y) ≡ false = λ y. unnamed (b ∷ y) (name_first b y p) in
      rw (p, unnamed [] (unfold name_len run_len in refl), to_none more equal (λ y. item (b ∷ y)) none (after Out b) (opened Out false b) x)
      (off_none equal (comma_of more) (after Out b) x ∙ both_false (more && eqb b 44)))
