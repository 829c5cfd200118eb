-- The texts that the machine of specs/Stages accepts from a state, and that it goes over a text as far as some accepted text does. Assumes nothing.
use Prim.Native.Nat.{ℕ, zero, suc}
use mathlib.Core.Path.{◌≡◌, refl, sym, ap, ◌∙◌}
use mathlib.Core.List.{List, [], ◌∷◌, ◌++◌}
use mathlib.Core.Bool.{Bool, true, false, cond, not, ◌&&◌}
use native.Mathlib.Omega.{arith}
use lib.Dec.{eqb, ltb}
use borrow.Author.Tests.{eqb-true, lt-ltb}
use Rattle.text.specs.Bytes.{bytes, one_of, is_word}
use Rattle.text.proofs.Tests.{and_l, and_r, and_in, no_case}
use Rattle.text.proofs.Classes.{letter_word, other_byte}
use Rattle.terms.specs.declared.Mode.{Mode}
use Rattle.terms.specs.declared.Mode.TheVariants.{Out, OutGrave, In, InGrave}
use Rattle.terms.specs.Signs.{bare, twelve, two, gives, after}
use Rattle.terms.proofs.ByteCases.{gives_case}
use Rattle.forms.specs.declared.At.{At}
use Rattle.forms.specs.declared.At.TheVariants.{Start, Plain, Inside, Ended, Dead}
use Rattle.forms.specs.Forms.{is_plain_sign}
use Rattle.forms.specs.Automata.{whole, text_over, text_end}
use Rattle.forms.specs.Steps.{bare_at}
use Rattle.reach.specs.declared.Stage.{Stage}
use Rattle.reach.specs.declared.Stage.TheVariants as stage
use Rattle.reach.specs.Stages.{is_alive, free_step, comma_step, is_name_byte, name_step, text_on, value_step, said_step, in_text, items_next}
use Rattle.reach.specs.Stages.{items_on, in_items, stage_step, is_off_stage, stage_and_mode, is_off_at, stage_reach}
use Rattle.reach.proofs.Far.{Far, far_by}

-- ---- a text and its mode

-- a byte that is bare stands outside quotes, after no GRAVE
pub bare_case : (P : Mode → ℕ → Type 0) (k : ℕ) (m : Mode) (b : ℕ) → bare_at k m b ≡ true → P Out k → P m b
bare_case P k Out b e h = rw (eqb-true b k e) h
bare_case P k OutGrave b e h = no_case (sym e)
bare_case P k In b e h = no_case (sym e)
bare_case P k InGrave b e h = no_case (sym e)

-- outside quotes, after no GRAVE
abbrev is_out : Mode → Bool
is_out Out = true
is_out OutGrave = false
is_out In = false
is_out InGrave = false

out_case : (P : Mode → Type 0) (m : Mode) → is_out m ≡ true → P Out → P m
out_case P Out e h = h
out_case P OutGrave e h = no_case (sym e)
out_case P In e h = no_case (sym e)
out_case P InGrave e h = no_case (sym e)

-- outside quotes
abbrev is_outside : Mode → Bool
is_outside Out = true
is_outside OutGrave = true
is_outside In = false
is_outside InGrave = false

-- where a text can stand in each mode
abbrev pub fits : At → Mode → Bool
fits Start m = is_outside m
fits Plain m = is_outside m
fits Inside m = not (is_outside m)
fits Ended m = is_outside m
fits Dead m = true

plain_fits : (x : Bool) → fits (cond x Plain Dead) Out ≡ true
plain_fits true = refl
plain_fits false = refl

-- it stands so after each byte
pub fits_step : (q : At) (m : Mode) (b : ℕ) → fits q m ≡ true → fits (text_over q (gives m b)) (after m b) ≡ true
unfolding text_over is_plain_sign one_of bytes
fits_step Start m b =
    let p = plain_fits (is_plain_sign (bare b)) in
    gives_case (λ k g n. fits Start k ≡ true → fits (text_over Start g) n ≡ true) b (λ _ e. refl) (λ _ _ e. refl) (λ _ _ e. p) (λ _ e. refl)
    (λ _ e. p) (λ _ e. e) (λ _ _ e. e) (λ _ _ e. refl) (λ _ e. refl) (λ _ e. refl) m
fits_step Plain m b =
    let p = plain_fits (is_plain_sign (bare b)) in
    gives_case (λ k g n. fits Plain k ≡ true → fits (text_over Plain g) n ≡ true) b (λ _ e. refl) (λ _ _ e. refl) (λ _ _ e. p) (λ _ e. refl)
    (λ _ e. p) (λ _ e. e) (λ _ _ e. refl) (λ _ _ e. refl) (λ _ e. refl) (λ _ e. refl) m
fits_step Inside m b =
    gives_case (λ k g n. fits Inside k ≡ true → fits (text_over Inside g) n ≡ true) b (λ _ e. e) (λ _ _ e. e) (λ _ _ e. refl) (λ _ e. refl)
    (λ _ e. refl) (λ _ e. refl) (λ _ _ e. refl) (λ _ _ e. refl) (λ _ e. refl) (λ _ e. refl) m
fits_step Ended m b =
    gives_case (λ k g n. fits Ended k ≡ true → fits (text_over Ended g) n ≡ true) b (λ _ e. refl) (λ _ _ e. refl) (λ _ _ e. refl) (λ _ e. refl)
    (λ _ e. refl) (λ _ e. e) (λ _ _ e. refl) (λ _ _ e. refl) (λ _ e. refl) (λ _ e. refl) m
fits_step Dead m b =
    gives_case (λ k g n. fits Dead k ≡ true → fits (text_over Dead g) n ≡ true) b (λ _ e. refl) (λ _ _ e. refl) (λ _ _ e. refl) (λ _ e. refl)
    (λ _ e. refl) (λ _ e. refl) (λ _ _ e. refl) (λ _ _ e. refl) (λ _ e. refl) (λ _ e. refl) m

-- ---- the texts that are accepted

-- may the text end here?
abbrev is_end : Stage → Mode → Bool
is_end stage.Free m = true
is_end (stage.Name k) m = ltb 0 k
is_end stage.Said m = false
is_end stage.Value m = false
is_end (stage.Text q) m = text_end q m
is_end (stage.Items q k) m = false
is_end stage.Closed m = true
is_end stage.Off m = false

-- the states that the machine comes to
abbrev pub is_live : Stage → Mode → Bool
is_live stage.Free m = true
is_live (stage.Name k) m = is_out m
is_live stage.Said m = is_out m
is_live stage.Value m = is_out m
is_live (stage.Text q) m = fits q m && is_alive q m
is_live (stage.Items q k) m = fits q m && is_alive q m
is_live stage.Closed m = is_out m
is_live stage.Off m = false

module _ (equal comma : Stage) where
  -- a text is accepted where the machine takes each of its bytes and may end after the last
  unfoldable pub accepts : Stage → Mode → List ℕ → Bool
  accepts q m [] = is_end q m
  accepts q m (b ∷ x) = accepts (stage_step equal comma q m b) (after m b) x

  -- none after a byte that is not taken
  pub off_none : (m : Mode) (x : List ℕ) → accepts stage.Off m x ≡ false
  unfolding accepts
  off_none m [] = refl
  off_none m (b ∷ x) = off_none (after m b) x

  -- a text in each state goes on to its end; in a list, to the parenthesis
  text_ends : (q : At) (m : Mode) → fits q m ≡ true → is_alive q m ≡ true
      → (e : List ℕ) × (accepts (stage.Text q) m e ≡ true) × ((k : ℕ) → accepts (stage.Items q k) m (e ++ (41 ∷ [])) ≡ true)
  unfolding accepts in_text text_on in_items items_on text_over text_end gives after is_plain_sign one_of bytes twelve two
  text_ends Start Out f e = (97 ∷ [], refl, λ k. refl)
  text_ends Start OutGrave f e = (97 ∷ [], refl, λ k. refl)
  text_ends Start In f e = no_case (sym f)
  text_ends Start InGrave f e = no_case (sym f)
  text_ends Plain Out f e = ([], refl, λ k. refl)
  text_ends Plain OutGrave f e = (97 ∷ [], refl, λ k. refl)
  text_ends Plain In f e = no_case (sym f)
  text_ends Plain InGrave f e = no_case (sym f)
  text_ends Inside Out f e = no_case (sym f)
  text_ends Inside OutGrave f e = no_case (sym f)
  text_ends Inside In f e = (34 ∷ [], refl, λ k. refl)
  text_ends Inside InGrave f e = (97 ∷ 34 ∷ [], refl, λ k. refl)
  text_ends Ended Out f e = ([], refl, λ k. refl)
  text_ends Ended OutGrave f e = no_case (sym e)
  text_ends Ended In f e = no_case (sym e)
  text_ends Ended InGrave f e = no_case (sym e)
  text_ends Dead m f e = no_case (sym e)

  -- some text is accepted in each state that the machine comes to
  live_some : (q : Stage) (m : Mode) → is_live q m ≡ true → (e : List ℕ) × (accepts q m e ≡ true)
  unfolding accepts name_step is_name_byte said_step value_step text_on text_over text_end gives after is_plain_sign one_of bytes
  live_some stage.Free m h = ([], refl)
  live_some (stage.Name zero) m h = (97 ∷ [], refl)
  live_some (stage.Name (suc k)) m h = ([], lt-ltb 0 (suc k) (omega arith))
  live_some stage.Said m h = (97 ∷ [], out_case (λ n. accepts stage.Said n (97 ∷ []) ≡ true) m h refl)
  live_some stage.Value m h = (97 ∷ [], out_case (λ n. accepts stage.Value n (97 ∷ []) ≡ true) m h refl)
  live_some (stage.Text q) m h =
      let t = text_ends q m (and_l (fits q m) (is_alive q m) h) (and_r (fits q m) (is_alive q m) h) in
      (t.0, t.1)
  live_some (stage.Items q k) m h =
      let t = text_ends q m (and_l (fits q m) (is_alive q m) h) (and_r (fits q m) (is_alive q m) h) in
      (t.0 ++ (41 ∷ []), t.2 k)
  live_some stage.Closed m h = ([], refl)
  live_some stage.Off m h = no_case (sym h)

-- ---- one byte more

off_is : (q : Stage) → is_off_stage q ≡ true → q ≡ stage.Off
off_is stage.Free e = no_case (sym e)
off_is (stage.Name k) e = no_case (sym e)
off_is stage.Said e = no_case (sym e)
off_is stage.Value e = no_case (sym e)
off_is (stage.Text q) e = no_case (sym e)
off_is (stage.Items q k) e = no_case (sym e)
off_is stage.Closed e = no_case (sym e)
off_is stage.Off e = refl

-- a state that the machine may come to, or none
pub record Stands (q : Stage) (m : Mode) : Type 0 where
  pub is : is_live q m ≡ not (is_off_stage q)

stands : {q : Stage} {m : Mode} → is_live q m ≡ not (is_off_stage q) → Stands q m
stands e = record { is = e }

-- both answers of a test do
by_test : {p q : Stage} {m : Mode} (t : Bool) → (t ≡ true → Stands p m) → (t ≡ false → Stands q m) → Stands (cond t p q) m
by_test true f g = f refl
by_test false f g = g refl

-- a text goes on with a byte, alone and in a list
text_stands : (q : At) (m : Mode) (b : ℕ) → fits q m ≡ true → (k : ℕ) → Stands (text_on q m b) (after m b) × Stands (items_on q k m b) (after m b)
unfolding text_on items_on
text_stands q m b f k =
    let t = text_over q (gives m b) in
    let n = after m b in
    let l : is_alive t n ≡ true → fits t n && is_alive t n ≡ true = and_in (fits t n) (is_alive t n) (fits_step q m b f) in
    (by_test (is_alive t n) (λ a. stands (l a)) (λ _. stands refl), by_test (is_alive t n) (λ a. stands (l a)) (λ _. stands refl))

-- outside quotes a byte of a name leaves the mode as it is
pub word_after : (b : ℕ) → is_word b ≡ true → after Out b ≡ Out
unfolding after
word_after b w = simp (other_byte is_word 96 b true (unfold is_word in refl) w, other_byte is_word 34 b true (unfold is_word in refl) w)

-- a byte that a name goes on with is of its kind
named_word : (k b : ℕ) → is_name_byte k b ≡ true → is_word b ≡ true
unfolding is_name_byte
named_word k b h = go (eqb k 0) refl
  where
    later : (most : ℕ) → ltb k most && is_word b ≡ true → is_word b ≡ true
    later most e = and_r (ltb k most) (is_word b) e

    go : (t : Bool) → eqb k 0 ≡ t → is_word b ≡ true
    go true e = letter_word b (rw e at h)
    go false e = later _ (rw e at h)

module _ (equal comma : Stage) (e : is_live equal Out ≡ not (is_off_stage equal)) (c : is_live comma Out ≡ not (is_off_stage comma)) where
  -- a comma and the first byte of a value do
  comma_stands : (b : ℕ) → Stands (comma_step comma b) (after Out b)
  unfolding comma_step after
  comma_stands b = by_test (eqb b 44) (λ p. bare_case (λ m k. Stands comma (after m k)) 44 Out b p (stands c)) (λ _. stands refl)

  value_stands : (b : ℕ) → Stands (value_step b) (after Out b)
  unfolding value_step after
  value_stands b =
      by_test (eqb b 40) (λ p. bare_case (λ m k. Stands (stage.Items Start 0) (after m k)) 40 Out b p (stands refl)) (λ _. (text_stands Start Out b refl 0).0)

  -- a byte leads to such a state, or is not taken
  pub live_step : (q : Stage) (m : Mode) (b : ℕ) → is_live q m ≡ true → Stands (stage_step equal comma q m b) (after m b)
  unfolding free_step name_step said_step in_text in_items items_next after
  live_step stage.Free m b h = by_test (bare_at 34 m b) (λ _. stands refl) (λ _. stands refl)
  live_step (stage.Name k) m b h =
      out_case (λ n. Stands (name_step equal comma k b) (after n b)) m h
      (by_test (is_name_byte k b) (λ p. stands (ap is_out (word_after b (named_word k b p)))) (λ _. by_test (eqb k 0) (λ _. stands refl)
      (λ _. by_test (eqb b 61) (λ p. bare_case (λ n j. Stands equal (after n j)) 61 Out b p (stands e)) (λ _. comma_stands b))))
  live_step stage.Said m b h =
      out_case (λ n. Stands (said_step b) (after n b)) m h
      (by_test (eqb b 61) (λ p. bare_case (λ n j. Stands stage.Value (after n j)) 61 Out b p (stands refl)) (λ _. value_stands b))
  live_step stage.Value m b h = out_case (λ n. Stands (value_step b) (after n b)) m h (value_stands b)
  live_step (stage.Text q) m b h =
      by_test (bare_at 44 m b)
      (λ p. bare_case (λ n j. Stands (cond (whole q) comma stage.Off) (after n j)) 44 m b p (by_test (whole q) (λ _. stands c) (λ _. stands refl)))
      (λ _. (text_stands q m b (and_l (fits q m) (is_alive q m) h) 0).0)
  live_step (stage.Items q k) m b h =
      by_test (bare_at 41 m b)
      (λ p. bare_case (λ n j. Stands (cond (whole q) stage.Closed stage.Off) (after n j)) 41 m b p (by_test (whole q) (λ _. stands refl) (λ _. stands refl)))
      (λ _. by_test (bare_at 44 m b)
      (λ p. bare_case (λ n j. Stands (items_next q k) (after n j)) 44 m b p (by_test (whole q && ltb k 15) (λ _. stands refl) (λ _. stands refl)))
      (λ _. (text_stands q m b (and_l (fits q m) (is_alive q m) h) k).1))
  live_step stage.Closed m b h = out_case (λ n. Stands (comma_step comma b) (after n b)) m h (comma_stands b)
  live_step stage.Off m b h = stands refl

  -- THE MACHINE goes as far as a form whose texts are those that it accepts
  pub stage_far : (f : List ℕ → Bool) (q : Stage) (m : Mode) → is_live q m ≡ true → ((x : List ℕ) → f x ≡ accepts equal comma q m x) → (s : List ℕ)
      → Far f s (stage_reach equal comma q m s)
  unfolding accepts
  stage_far f q m h g s = far_by (stage_and_mode equal comma) is_off_at At live goes stops s (q, m) f (h, g)
    where
      At : (Stage × Mode) → (List ℕ → Bool) → Type 0
      At p i = (is_live p.0 p.1 ≡ true) × ((x : List ℕ) → i x ≡ accepts equal comma p.0 p.1 x)

      live : (p : Stage × Mode) (i : List ℕ → Bool) → At p i → (e : List ℕ) × (i e ≡ true)
      live p i a = let e = live_some equal comma p.0 p.1 a.0 in (e.0, a.1 e.0 ∙ e.1)

      goes : (p : Stage × Mode) (i : List ℕ → Bool) (b : ℕ) → At p i → is_off_at (stage_and_mode equal comma p b) ≡ false
          → At (stage_and_mode equal comma p b) (λ x. i (b ∷ x))
      goes p i b a o = ((live_step p.0 p.1 b a.0).is ∙ ap not o, λ x. a.1 (b ∷ x))

      stops : (p : Stage × Mode) (i : List ℕ → Bool) (b : ℕ) → At p i → is_off_at (stage_and_mode equal comma p b) ≡ true → (x : List ℕ) → i (b ∷ x) ≡ false
      stops p i b a o x =
          a.1 (b ∷ x) ∙ ap (λ r. accepts equal comma r (after p.1 b) x) (off_is (stage_step equal comma p.0 p.1 b) o)
          ∙ off_none equal comma (after p.1 b) x
