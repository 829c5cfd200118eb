-- The values that the machine of specs/Stages accepts are the paper's, up to the comma that more may follow. Assumes nothing.
use Prim.Native.Nat.{ℕ, suc, ◌+◌, ◌<◌, ◌≤◌}
use mathlib.Core.Path.{◌≡◌, refl, sym, ap, ◌∙◌}
use mathlib.Core.List.{List, [], ◌∷◌}
use mathlib.Core.Bool.{Bool, true, false, cond, ◌&&◌, and-true, and-false}
use native.Mathlib.Omega.{arith}
use native.Mathlib.Numerals.{add-one}
use lib.Dec.{eqb, leb, ltb}
use borrow.Author.Tests.{le-leb, lt-leb, ltb-true, ltb-false, eqb-false}
use Rattle.text.specs.Bytes.{bytes, one_of}
use Rattle.text.specs.Lists.{is_nil}
use Rattle.text.proofs.Tests.{either, no_case}
use Rattle.terms.specs.declared.Mode.{Mode}
use Rattle.terms.specs.declared.Mode.TheVariants.{Out, OutGrave, In, InGrave}
use Rattle.terms.specs.Signs.{Sign, bare, escaped, is_bare, gives, after, signs}
use Rattle.terms.proofs.ByteCases.{grave_first}
use Rattle.forms.specs.declared.At.{At}
use Rattle.forms.specs.declared.At.TheVariants.{Start, Plain, Inside, Ended, Dead}
use Rattle.forms.specs.Forms.{is_plain_sign, is_text, text_of, value_of}
use Rattle.forms.specs.Automata.{text_step, whole, text_over, text_from, text_end, list_from, is_comma, opened}
use Rattle.forms.specs.Answers.{is_some}
use Rattle.forms.specs.Steps.{bare_at, list_step, items_after}
use Rattle.forms.proofs.TextLaws.{from_dead, over, text_from_lem, list_dead, list_over, list_end, list_from_lem, signs_nil}
use Rattle.forms.proofs.ValueLaws.{value_text_lem, value_list}
use Rattle.forms.proofs.EntryLaws.{comma_bare, comma_listed, opened_by}
use Rattle.reach.specs.declared.Stage.{Stage}
use Rattle.reach.specs.declared.Stage.TheVariants as stage
use Rattle.reach.specs.Stages.{is_alive, comma_step, text_on, value_step, in_text, items_next, items_on, in_items}
use Rattle.reach.proofs.Accepts.{bare_case, fits, fits_step, accepts, off_none}

-- ---- the first item of a text and the rest

-- what may follow a comma: items again, or nothing
abbrev pub comma_of : Bool → Stage
comma_of true = stage.Name 0
comma_of false = stage.Off

module _ (more : Bool) (next : List ℕ → Bool) where
  -- the bytes before the first comma that stands in no list pass a test, and those after it are what may come next; without more, all bytes pass the test
  unfoldable pub first : (List ℕ → Bool) → Mode → Bool → List ℕ → Bool
  first g m l [] = g []
  first g m l (b ∷ x) =
      let later = first (λ y. g (b ∷ y)) (after m b) (opened m l b) x in
      cond (more && is_comma m l b) (g [] && next x) later

  -- where no text passes the test, none does
  first_none : (g : List ℕ → Bool) → ((y : List ℕ) → g y ≡ false) → (m : Mode) (l : Bool) (x : List ℕ) → first g m l x ≡ false
  unfolding first
  first_none g e m l [] = e []
  first_none g e m l (b ∷ x) =
      either (more && is_comma m l b) (λ p. rw (p, e [])) (λ p. rw p (first_none (λ y. g (b ∷ y)) (λ y. e (b ∷ y)) (after m b) (opened m l b) x))

-- without more, a text passes the test
pub first_all : (next g : List ℕ → Bool) (m : Mode) (l : Bool) (x : List ℕ) → first false next g m l x ≡ g x
unfolding first
first_all next g m l [] = refl
first_all next g m l (b ∷ x) = first_all next (λ y. g (b ∷ y)) (after m b) (opened m l b) x

-- ---- texts that end: nothing can follow

-- a text that cannot go on: it is dead, or a GRAVE stands after its closing quote
stuck_case : (P : At → List Sign → Type 0) → ((t : List Sign) → P Dead t) → ((r : List Sign) → P Ended (bare 96 ∷ r))
    → ((b : ℕ) (r : List Sign) → P Ended (escaped b ∷ r)) → (q : At) (m : Mode) → fits q m ≡ true → is_alive q m ≡ false → (y : List ℕ) → P q (signs m y)
stuck_case P d g h Start m f e y = no_case e
stuck_case P d g h Plain m f e y = no_case e
stuck_case P d g h Inside m f e y = no_case e
stuck_case P d g h Ended Out f e y = no_case e
stuck_case P d g h Ended OutGrave f e y = grave_first (P Ended) g h y
stuck_case P d g h Ended In f e y = no_case (sym f)
stuck_case P d g h Ended InGrave f e y = no_case (sym f)
stuck_case P d g h Dead m f e y = d (signs m y)

-- so it is none, alone and in a list
text_stuck : (q : At) (m : Mode) → fits q m ≡ true → is_alive q m ≡ false → (y : List ℕ) → text_from q (signs m y) ≡ false
unfolding text_over
text_stuck = stuck_case (λ q t. text_from q t ≡ false) from_dead from_dead (λ b. from_dead)

list_stuck : (k : ℕ) (q : At) (m : Mode) → fits q m ≡ true → is_alive q m ≡ false → (y : List ℕ) → list_from q k (signs m y) ≡ false
unfolding list_from
list_stuck k = stuck_case (λ q t. list_from q k t ≡ false) (list_dead k) (list_dead k) (λ b. list_dead k)

-- a bare byte that no plain text has ends every text
mark_dead : (k : ℕ) → is_plain_sign (bare k) ≡ false → (q : At) → text_step q (bare k) ≡ Dead
mark_dead k e Start = rw e
mark_dead k e Plain = rw e
mark_dead k e Inside = refl
mark_dead k e Ended = refl
mark_dead k e Dead = refl

comma_dead : (q : At) (y : List ℕ) → text_from q (signs Out (44 ∷ y)) ≡ false
unfolding text_over signs gives after is_plain_sign one_of bytes
comma_dead q y = ap (λ t. text_from t (signs Out y)) (mark_dead 44 refl q) ∙ from_dead (signs Out y)

-- a parenthesis that opens a list ends every text
open_dead : (q : At) (m : Mode) (b : ℕ) → opened m false b ≡ true → text_over q (gives m b) ≡ Dead
unfolding text_over gives is_plain_sign one_of bytes
open_dead q Out b e = go (eqb b 40) (eqb b 41) refl e
  where
    go : (x y : Bool) → eqb b 40 ≡ x → cond x true (cond y false false) ≡ true → text_over q (gives Out b) ≡ Dead
    go true y p h = bare_case (λ m j. text_over q (gives m j) ≡ Dead) 40 Out b p (mark_dead 40 refl q)
    go false true p h = no_case (sym h)
    go false false p h = no_case (sym h)
open_dead q OutGrave b e = no_case (sym e)
open_dead q In b e = no_case (sym e)
open_dead q InGrave b e = no_case (sym e)

-- a seventeenth item is none
list_full : (t : List Sign) (k : ℕ) (q : At) → 16 ≤ k → list_from q k t ≡ false
unfolding list_from
list_full [] k q h = refl
list_full (x ∷ t) k q h =
    either (is_bare 41 x) (λ p. rw (p, lt-leb (suc k) 16 (omega arith)) (and-false (whole q)))
    (λ p. either (is_bare 44 x) (λ r. rw (p, r, list_full t (suc k) Start (omega arith)) (and-false (whole q)))
    (λ r. rw (p, r) (list_full t k (text_step q x) h)))

-- ---- the machine's texts

-- a value that begins with no parenthesis is read as a text
value_text_step : (c : Stage) (b : ℕ) → eqb b 40 ≡ false → value_step b ≡ in_text c Start Out b
unfolding value_step text_on in_text text_over gives is_plain_sign one_of bytes
value_text_step c b e = rw e (either (eqb b 44) (λ p. bare_case (λ m j. text_on Start m j ≡ in_text c Start m j) 44 Out b p refl) (λ p. rw p))

-- a test that fails where another does adds nothing to it
alive_law : (t f : Bool) → (t ≡ false → f ≡ false) → t && f ≡ f
alive_law true f e = refl
alive_law false f e = sym (e refl)

module _ (more : Bool) (equal : Stage) where
  -- what the machine accepts from a state
  abbrev pub run : Stage → Mode → List ℕ → Bool
  run q m x = accepts equal (comma_of more) q m x

  -- a text up to a comma, and what the machine accepts after it
  abbrev pub to_comma : (List ℕ → Bool) → Mode → Bool → List ℕ → Bool
  to_comma g m l x = first more (run (comma_of more) Out) g m l x

  -- a state that a test leads to, and tests before a comma
  run_if : (t : Bool) (q : Stage) (m : Mode) (x : List ℕ) → run (cond t q stage.Off) m x ≡ t && run q m x
  run_if true q m x = refl
  run_if false q m x = off_none equal (comma_of more) m x

  pub to_same : (g h : List ℕ → Bool) → ((y : List ℕ) → g y ≡ h y) → (m : Mode) (l : Bool) (x : List ℕ) → to_comma g m l x ≡ to_comma h m l x
  to_same g h e m l x = ap (λ k. to_comma k m l x) (λ i y. e y i)

  pub to_none : (g : List ℕ → Bool) → ((y : List ℕ) → g y ≡ false) → (m : Mode) (l : Bool) (x : List ℕ) → to_comma g m l x ≡ false
  to_none = first_none more (run (comma_of more) Out)

  to_and : (t : Bool) (g : List ℕ → Bool) (m : Mode) (l : Bool) (x : List ℕ) → to_comma (λ y. t && g y) m l x ≡ t && to_comma g m l x
  to_and true g m l x = refl
  to_and false g m l x = to_none (λ y. false) (λ y. refl) m l x

  -- a comma, and a byte that is none
  pub to_comma_lem : (g : List ℕ → Bool) → ((y : List ℕ) → g (44 ∷ y) ≡ false) → (x : List ℕ)
      → to_comma g Out false (44 ∷ x) ≡ g [] && run (comma_of more) Out x
  unfolding first after
  to_comma_lem g e x =
      either more (λ p. rw p)
      (λ p. rw p (rw (to_none (λ y. g (44 ∷ y)) e Out false x, off_none equal stage.Off Out x) (sym (and-false (g [])))))

  pub to_on : (g : List ℕ → Bool) (m : Mode) (l : Bool) (b : ℕ) (x : List ℕ) → is_comma m l b ≡ false
      → to_comma g m l (b ∷ x) ≡ to_comma (λ y. g (b ∷ y)) (after m b) (opened m l b) x
  unfolding first
  to_on g m l b x e = rw (e, and-false more)

  -- a text from a state, and the rest of a list, up to a comma
  abbrev texts : At → Mode → List ℕ → Bool
  texts q m x = to_comma (λ y. text_from q (signs m y)) m false x

  abbrev lists : At → ℕ → Mode → List ℕ → Bool
  lists q k m x = to_comma (λ y. list_from q k (signs m y)) m true x

  -- one byte more of a text
  texts_on : (q : At) (m : Mode) (b : ℕ) (x : List ℕ) → bare_at 44 m b ≡ false → texts q m (b ∷ x) ≡ texts (text_over q (gives m b)) (after m b) x
  unfolding signs
  texts_on q m b x p =
      let t = text_over q (gives m b) in
      let n = after m b in
      let g : List ℕ → Bool = λ y. text_from t (signs n y) in
      let dead : opened m false b ≡ true → (y : List ℕ) → g y ≡ false
      = λ o y. ap (λ u. text_from u (signs n y)) (open_dead q m b o) ∙ from_dead (signs n y) in
      to_on (λ y. text_from q (signs m y)) m false b x (sym (comma_bare m b) ∙ p)
      ∙ to_same (λ y. text_from q (signs m (b ∷ y))) g (λ y. over q (gives m b) (signs n y)) n (opened m false b) x
      ∙ either (opened m false b) (λ o. to_none g (dead o) n (opened m false b) x ∙ sym (to_none g (dead o) n false x)) (λ o. ap (λ l. to_comma g n l x) o)

  -- a text is accepted from each of its states
  text_law : (x : List ℕ) (q : At) (m : Mode) → fits q m ≡ true → run (stage.Text q) m x ≡ texts q m x
  unfolding accepts first signs text_end in_text text_on after text_over
  text_law [] q m f = refl
  text_law (b ∷ x) q m f =
      let t = text_over q (gives m b) in
      let n = after m b in
      either (bare_at 44 m b)
      (λ p. bare_case (λ j c. run (in_text (comma_of more) q j c) (after j c) x ≡ texts q j (c ∷ x)) 44 m b p
      (run_if (whole q) (comma_of more) Out x ∙ sym (to_comma_lem (λ y. text_from q (signs Out y)) (comma_dead q) x)))
      (λ p. rw p (run_if (is_alive t n) (stage.Text t) n x ∙ ap (λ z. is_alive t n && z) (text_law x t n (fits_step q m b f))
      ∙ alive_law (is_alive t n) (texts t n x) (λ a. to_none (λ y. text_from t (signs n y)) (text_stuck t n (fits_step q m b f) a) n false x))
      ∙ sym (texts_on q m b x p))

  -- the end of a list, and what may follow it
  closed_law : (x : List ℕ) → run stage.Closed Out x ≡ to_comma is_nil Out false x
  unfolding accepts first comma_step after
  closed_law [] = refl
  closed_law (b ∷ x) = either (eqb b 44)
      (λ p. bare_case (λ n j. run (comma_step (comma_of more) j) (after n j) x ≡ to_comma is_nil n false (j ∷ x)) 44 Out b p (sym (to_comma_lem is_nil (λ y. refl) x)))
      (λ p. rw p (off_none equal (comma_of more) (after Out b) x)
      ∙ sym (to_on is_nil Out false b x p ∙ to_none (λ y. false) (λ y. refl) (after Out b) (opened Out false b) x))

  -- the closing parenthesis of a list
  close : (q : At) (k : ℕ) (x : List ℕ) → k ≤ 15 → run (in_items q k Out 41) (after Out 41) x ≡ lists q k Out (41 ∷ x)
  unfolding signs in_items gives after list_from
  close q k x h =
      run_if (whole q) stage.Closed Out x ∙ ap (λ z. whole q && z) (closed_law x) ∙ sym (to_on (λ y. list_from q k (signs Out y)) Out true 41 x refl
      ∙ to_same (λ y. whole q && (leb (suc k) 16 && is_nil (signs Out y))) (λ y. whole q && is_nil y)
      (λ y. rw (le-leb (suc k) 16 (omega arith), signs_nil y)) Out false x
      ∙ to_and (whole q) is_nil Out false x)

  -- a comma in a list: where another item may follow, it does
  comma : (q : At) (k : ℕ) (x : List ℕ) → (k < 15 → run (stage.Items Start (k + 1)) Out x ≡ lists Start (k + 1) Out x)
      → run (in_items q k Out 44) (after Out 44) x ≡ lists q k Out (44 ∷ x)
  unfolding signs in_items items_next gives after list_from
  comma q k x ih =
      let g : List ℕ → Bool = λ y. list_from Start (suc k) (signs Out y) in
      run_if (whole q && ltb k 15) (stage.Items Start (k + 1)) Out x
      ∙ either (ltb k 15)
      (λ l. rw (l, and-true (whole q), ih (ltb-true k 15 l)) (ap (λ j. whole q && lists Start j Out x) (add-one k)))
      (λ l. let f : (y : List ℕ) → g y ≡ false = λ y. list_full (signs Out y) (suc k) Start (omega (arith, ltb-false k 15 l)) in
      rw (l, and-false (whole q), to_none g f Out true x, and-false (whole q)))
      ∙ sym (to_on (λ y. list_from q k (signs Out y)) Out true 44 x refl ∙ to_and (whole q) g Out true x)

  -- one byte more of a list, within an item
  lists_on : (q : At) (k : ℕ) (m : Mode) (b : ℕ) (x : List ℕ) → bare_at 41 m b ≡ false → bare_at 44 m b ≡ false
      → lists q k m (b ∷ x) ≡ lists (text_over q (gives m b)) k (after m b) x
  unfolding signs list_step items_after
  lists_on q k m b x c p =
      let n = after m b in
      let g : List ℕ → Bool = λ y. list_from (text_over q (gives m b)) k (signs n y) in
      to_on (λ y. list_from q k (signs m y)) m true b x (sym (comma_listed m b))
      ∙ to_same (λ y. list_from q k (signs m (b ∷ y))) g (λ y. list_over q k m b (signs n y) c ∙ rw p) n (opened m true b) x
      ∙ ap (λ l. to_comma g n l x) (opened_by m true b ∙ rw c (stays (bare_at 40 m b)))
    where
      stays : (t : Bool) → cond t true true ≡ true
      stays true = refl
      stays false = refl

  -- the rest of a list is accepted from each of its states
  list_law : (x : List ℕ) (q : At) (k : ℕ) (m : Mode) → k ≤ 15 → fits q m ≡ true → run (stage.Items q k) m x ≡ lists q k m x
  unfolding accepts first signs in_items items_on items_next gives after list_from
  list_law [] q k m h f = sym (list_end q k m)
  list_law (b ∷ x) q k m h f =
      let t = text_over q (gives m b) in
      let n = after m b in
      either (bare_at 41 m b)
      (λ p. bare_case (λ j c. run (in_items q k j c) (after j c) x ≡ lists q k j (c ∷ x)) 41 m b p (close q k x h))
      (λ c. either (bare_at 44 m b)
      (λ p. bare_case (λ j d. run (in_items q k j d) (after j d) x ≡ lists q k j (d ∷ x)) 44 m b p
      (comma q k x (λ l. list_law x Start (k + 1) Out (omega arith) refl)))
      (λ p. rw (c, p) (run_if (is_alive t n) (stage.Items t k) n x ∙ ap (λ z. is_alive t n && z) (list_law x t k n h (fits_step q m b f))
      ∙ alive_law (is_alive t n) (lists t k n x) (λ a. to_none (λ y. list_from t k (signs n y)) (list_stuck k t n (fits_step q m b f) a) n true x))
      ∙ sym (lists_on q k m b x c p)))

  -- a value, up to a comma
  pub value_law : (x : List ℕ) → run stage.Value Out x ≡ to_comma (λ y. is_some (value_of (signs Out y))) Out false x
  unfolding accepts first signs value_step after value_of text_of is_text text_over
  value_law [] = refl
  value_law (b ∷ x) =
      let v : List ℕ → Bool = λ y. is_some (value_of (signs Out y)) in
      either (eqb b 40)
      (λ p. bare_case (λ n j. run (value_step j) (after n j) x ≡ to_comma v n false (j ∷ x)) 40 Out b p
      (list_law x Start 0 Out (omega arith) refl ∙ sym (to_on v Out false 40 x refl
      ∙ to_same (λ y. v (40 ∷ y)) (λ y. list_from Start 0 (signs Out y)) (λ y. value_list (40 ∷ y) refl ∙ sym (list_from_lem (signs Out y))) Out true x)))
      (λ p. ap (λ q. run q (after Out b) x) (value_text_step (comma_of more) b p) ∙ text_law (b ∷ x) Start Out refl
      ∙ ap (λ g. cond (more && eqb b 44) false (to_comma g (after Out b) (opened Out false b) x))
      (λ i y. (text_from_lem (signs Out (b ∷ y)) ∙ sym (value_text_lem (b ∷ y) (eqb-false b 40 p))) i))
