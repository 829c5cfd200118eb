-- What a reply's lines say, wherever they stand: what is read depends on it alone. It stays the same with another rest after a line, where that rest says the same
-- or isn't read. Assumes nothing.
use Prim.Native.Nat.{ℕ, zero, suc, ◌+◌, ◌-◌, ◌<◌, ◌≤◌}
use mathlib.Core.Path.{◌≡◌, refl, sym, ap, ◌∙◌}
use mathlib.Core.List.{List, [], ◌∷◌, ◌++◌, map, append_assoc}
use mathlib.Core.Bool.{Bool, true, false, cond, ◌||◌}
use mathlib.Core.Option.{none, some}
use native.Mathlib.Omega.{arith}
use borrow.Author.Tests.{eqb-true, le-ltb}
use lib.ListN.{length, take, drop, length-append, length-drop, take-append-drop}
use lib.Seq.{take_at, drop_at, take-add, drop-drop, length-take-le}
use lib.Dec.{eqb}
use Rattle.text.specs.Bytes.{bytes}
use Rattle.text.specs.Lists.{all_of, any_of, is_nil}
use Rattle.text.proofs.Tests.{and_l, and_r, and_in, or_r, or_in_r, or_case, no_case}
use Rattle.replies.specs.declared.Form.{Form}
use Rattle.replies.specs.declared.Form.TheVariants.{Nothing, Item, Group, Close, End, Wrong, Open}
use Rattle.replies.specs.Lines.{begins, is_end, line_ends, end_len, begin_word, close_word, end_word, form_of, text_len, line_len, Line, line_at, is_last, lines_from, lines_of}
use Rattle.replies.specs.Order.{Turn, passes, opens, closes, ends, wrong, unclosed, judge, on_turn, flawed}
use Rattle.replies.specs.Reading.{turn_by, turn_of, verdict_of}
use Rattle.replies.specs.Items.{Told, told_by, told_in, unless_flawed, says_of}
use Rattle.replies.proofs.LineLaws.{lines_step, text_within}
use Rattle.replies.proofs.Forms.{Row, nothing, item, group, close, end, wrong as is-wrong, open', row_of, blank_form, remark_form, item_form_lem, group_form_lem, close_form, end_form}
use Rattle.replies.proofs.TurnLaws.{number, number_place, is_fine, unplaced, turn_look}
use Rattle.std.proofs.Common.{Result, Ok, Err}
use Rattle.text.specs.declared.Refusal.{Refusal}

-- ---- what lines say: text and form of those that are not empty or remarks, without their places

abbrev pub voice : List ℕ → Form → List (List ℕ × Form)
voice x (Nothing n) = []
voice x (Item k v) = (x, Item k v) ∷ []
voice x (Group n) = (x, Group n) ∷ []
voice x Close = (x, Close) ∷ []
voice x End = (x, End) ∷ []
voice x Wrong = (x, Wrong) ∷ []
voice x Open = (x, Open) ∷ []

unfoldable pub saying : List Line → List (List ℕ × Form)
saying [] = []
saying (l ∷ ls) = voice l.text l.form ++ saying ls

-- they say the same wherever they stand
say_place : (k p q : ℕ) (s : List ℕ) → saying (lines_from k p s) ≡ saying (lines_from k q s)
unfolding lines_from saying
say_place k p q [] = refl
say_place (suc k) p q (b ∷ s) = say_place k (suc p) (suc q) s
say_place zero p q (b ∷ s) = ap (λ (r : List (List ℕ × Form)). voice (take (text_len (form_of (b ∷ s))) (b ∷ s)) (form_of (b ∷ s)) ++ r) (go (is_last (form_of (b ∷ s))) (say_place (line_len (b ∷ s) - 1) (suc p) (suc q) s))
  where
    n : ℕ
    n = line_len (b ∷ s) - 1

    go : (t : Bool) → saying (lines_from n (suc p) s) ≡ saying (lines_from n (suc q) s) → saying (cond t [] (lines_from n (suc p) s)) ≡ saying (cond t [] (lines_from n (suc q) s))
    go true ih = refl
    go false ih = ih

unfoldable pub say : List ℕ → List (List ℕ × Form)
say s = saying (lines_from 0 0 s)

-- by a text's first line
say_step : (s : List ℕ) → 0 < length s
    → say s ≡ voice (take (text_len (form_of s)) s) (form_of s) ++ cond (is_last (form_of s)) [] (say (drop (line_len s) s))
unfolding say saying
say_step s h = ap saying (lines_step 0 s h) ∙ ap (λ (r : List (List ℕ × Form)). voice (take (text_len (form_of s)) s) (form_of s) ++ r) (go (is_last (form_of s)))
  where
    go : (t : Bool) → saying (cond t [] (lines_from 0 (0 + line_len s) (drop (line_len s) s))) ≡ cond t [] (saying (lines_from 0 0 (drop (line_len s) s)))
    go true = refl
    go false = say_place 0 (0 + line_len s) 0 (drop (line_len s) s)

-- ---- ends of line say nothing

-- one that is passed over as a line of its own
say_lf : (s : List ℕ) → say (10 ∷ s) ≡ say s
unfolding line_len
say_lf s = say_step (10 ∷ s) (omega arith) ∙ rw (blank_form (10 ∷ s) refl) refl

say_cr : (s : List ℕ) → say (13 ∷ s) ≡ say s
unfolding line_len
say_cr s = say_step (13 ∷ s) (omega arith) ∙ rw (blank_form (13 ∷ s) refl) (go s)
  where
    go : (s : List ℕ) → say (drop (0 + end_len (drop 0 (13 ∷ s))) (13 ∷ s)) ≡ say s
    go [] = refl
    go (b ∷ s) = both (eqb b 10) refl
      where
        both : (t : Bool) → eqb b 10 ≡ t → say (drop (0 + cond t 2 1) (13 ∷ b ∷ s)) ≡ say (b ∷ s)
        both true z = sym (ap (λ (c : ℕ). say (c ∷ s)) (eqb-true b 10 z) ∙ say_lf s)
        both false z = refl

say_end : (b : ℕ) (s : List ℕ) → is_end b ≡ true → say (b ∷ s) ≡ say s
say_end b s e =
    or_case (eqb b 13) (eqb b 10) e
    (λ z. ap (λ (c : ℕ). say (c ∷ s)) (eqb-true b 13 z) ∙ say_cr s)
    (λ z. ap (λ (c : ℕ). say (c ∷ s)) (eqb-true b 10 z) ∙ say_lf s)

-- any number of them
pub say_ends : (e s : List ℕ) → all_of is_end e ≡ true → say (e ++ s) ≡ say s
unfolding all_of
say_ends [] s h = refl
say_ends (b ∷ e) s h = say_end b (e ++ s) (and_l (is_end b) (all_of is_end e) h) ∙ say_ends e s (and_r (is_end b) (all_of is_end e) h)

-- what a text begins with of an end of line is made of them
end_ends : (t : List ℕ) → all_of is_end (take (end_len t) t) ≡ true
unfolding all_of
end_ends [] = refl
end_ends (b ∷ []) = go (eqb b 13) refl (eqb b 10) refl
  where
    go : (x : Bool) → eqb b 13 ≡ x → (y : Bool) → eqb b 10 ≡ y → all_of is_end (take (cond x 1 (cond y 1 0)) (b ∷ [])) ≡ true
    go true p y q = rw p refl
    go false p true q = rw (p, q) refl
    go false p false q = refl
end_ends (b ∷ c ∷ s) = go (eqb b 13) refl (eqb b 10) refl (eqb c 10) refl
  where
    go : (x : Bool) → eqb b 13 ≡ x → (y : Bool) → eqb b 10 ≡ y → (z : Bool) → eqb c 10 ≡ z → all_of is_end (take (cond x (cond z 2 1) (cond y 1 0)) (b ∷ c ∷ s)) ≡ true
    go true p y q true r = rw (p, r) (and_in (eqb c 13 || true) true (or_in_r (eqb c 13) true refl) refl)
    go true p y q false r = rw p refl
    go false p true q z r = rw (p, q) refl
    go false p false q z r = refl

pub say_after : (t : List ℕ) → say (drop (end_len t) t) ≡ say t
say_after t = sym (say_ends (take (end_len t) t) (drop (end_len t) t) (end_ends t)) ∙ ap say (take-append-drop (end_len t) t)

-- where one stands, it has a byte
end_front : (t r : List ℕ) → line_ends t ≡ true → 0 < length t → line_ends (take (end_len t) t ++ r) ≡ true
end_front [] r e h = absurd (omega arith)
end_front (b ∷ t) r e h = go (eqb b 13) refl (eqb b 10) refl (begins (λ c. eqb c 10) t)
  where
    go : (x : Bool) → eqb b 13 ≡ x → (y : Bool) → eqb b 10 ≡ y → (z : Bool) → line_ends (take (cond x (cond z 2 1) (cond y 1 0)) (b ∷ t) ++ r) ≡ true
    go true p y q true = e
    go true p y q false = e
    go false p true q z = e
    go false p false q z = no_case (sym (rw (p, q) at e))

pub end_some : (t : List ℕ) → line_ends t ≡ true → 0 < length t → 0 < length (take (end_len t) t)
end_some [] e h = absurd (omega arith)
end_some (b ∷ t) e h = go (eqb b 13) refl (eqb b 10) refl (begins (λ c. eqb c 10) t)
  where
    go : (x : Bool) → eqb b 13 ≡ x → (y : Bool) → eqb b 10 ≡ y → (z : Bool) → 0 < length (take (cond x (cond z 2 1) (cond y 1 0)) (b ∷ t))
    go true p y q true = omega arith
    go true p y q false = omega arith
    go false p true q z = omega arith
    go false p false q z = no_case (sym (rw (p, q) at e))

-- ---- a line: its text, and then its end

-- a line that is read: it has a form, and its quote is closed
abbrev pub is_read : Form → Bool
is_read (Nothing n) = true
is_read (Item k v) = true
is_read (Group n) = true
is_read Close = true
is_read End = true
is_read Wrong = false
is_read Open = false

pub record Cut (s : List ℕ) (f : Form) : Type 0 where
  pub text : List ℕ
  pub rest : List ℕ
  pub all : s ≡ text ++ rest
  pub size : length text ≡ text_len f
  pub ended : line_ends rest ≡ true
  pub form : (r : List ℕ) → line_ends r ≡ true → form_of (text ++ r) ≡ f

cut_row : (s : List ℕ) (f : Form) → Row s f → is_read f ≡ true → Cut s f
unfolding bytes any_of
cut_row _ _ (nothing t r c a e) o = record { text = t; rest = r; all = refl; size = refl; ended = e; form = again t c a }
  where
    again : (t : List ℕ) → is_nil t || begins (λ b. eqb b 35) t ≡ true → any_of is_end t ≡ false → (r : List ℕ) → line_ends r ≡ true → form_of (t ++ r) ≡ Nothing (length t)
    again [] c a r e = blank_form r e
    again (b ∷ t) c a r e = ap (λ (x : ℕ). form_of (x ∷ (t ++ r))) (eqb-true b 35 c) ∙ remark_form t r (or_r (is_end b) (any_of is_end t) a) e
cut_row _ _ (item k v r h w e) o =
    record {
      text = k ++ (61 ∷ v);
      rest = r;
      all = sym (append_assoc k (61 ∷ v) r);
      size = omega (arith, length-append k (61 ∷ v));
      ended = e;
      form = λ q z. ap form_of (append_assoc k (61 ∷ v) q) ∙ item_form_lem k v q h w z;
    }
cut_row _ _ (group n r h e) o = record { text = begin_word ++ (61 ∷ n); rest = r; all = refl; size = omega arith; ended = e; form = λ q z. group_form_lem n q h z }
cut_row _ _ (close r e) o = record { text = close_word; rest = r; all = refl; size = refl; ended = e; form = λ q z. close_form q z }
cut_row _ _ (end r e) o = record { text = end_word; rest = r; all = refl; size = refl; ended = e; form = λ q z. end_form q z }
cut_row _ _ (is-wrong s) o = no_case (sym o)
cut_row _ _ (open' s) o = no_case (sym o)

pub cut_of : (s : List ℕ) → is_read (form_of s) ≡ true → Cut s (form_of s)
cut_of s o = cut_row s (form_of s) (row_of s) o

-- what is said of it and after it
say_line : (x r : List ℕ) (f : Form) → form_of (x ++ r) ≡ f → length x ≡ text_len f → 0 < length (x ++ r) → say (x ++ r) ≡ voice x f ++ cond (is_last f) [] (say r)
unfolding line_len
say_line x r f e n h =
    say_step (x ++ r) h
    ∙ rw (e, take_at x r (text_len f) n) (ap (λ (l : List (List ℕ × Form)). voice x f ++ cond (is_last f) [] l) after)
  where
    after : say (drop (text_len f + end_len (drop (text_len f) (x ++ r))) (x ++ r)) ≡ say r
    after =
        let d = drop_at x r (text_len f) n in
        ap say (sym (drop-drop (end_len (drop (text_len f) (x ++ r))) (text_len f) (x ++ r)))
        ∙ ap (λ (t : List ℕ). say (drop (end_len t) t)) d
        ∙ say_after r

pub cons_head : {A : Type 0} (x y : A) (xs ys : List A) → x ∷ xs ≡ y ∷ ys → x ≡ y
cons_head x y xs ys h = cc

pub cons_tail : {A : Type 0} (x y : A) (xs ys : List A) → x ∷ xs ≡ y ∷ ys → xs ≡ ys
cons_tail x y xs ys h = cc

nil_more : {A P : Type 0} (xs : List A) (y : A) (ys : List A) → [] ≡ xs ++ (y ∷ ys) → P
nil_more xs y ys h = let z = ap length h in absurd (omega (arith, length-append xs (y ∷ ys)))

-- a text with lines has bytes
pub lines_some : (p : ℕ) (s : List ℕ) (xs : List Line) (l : Line) (ys : List Line) → lines_from 0 p s ≡ xs ++ (l ∷ ys) → 0 < length s
unfolding lines_from
lines_some p [] xs l ys h = nil_more xs l ys h
lines_some p (b ∷ s) xs l ys h = omega arith

-- a form after which more is read is read
pub on_read : (f : Form) → is_last f ≡ false → is_read f ≡ true
on_read (Nothing n) h = refl
on_read (Item k v) h = refl
on_read (Group n) h = refl
on_read Close h = refl
on_read End h = refl
on_read Wrong h = no_case h
on_read Open h = no_case h

-- before a text that says the same as the next lines
before_same : (x r : List ℕ) (f : Form) (w : List ℕ) → length x ≡ text_len f → line_ends r ≡ true → ((q : List ℕ) → line_ends q ≡ true → form_of (x ++ q) ≡ f) → 0 < length r
    → say w ≡ say (drop (end_len r) r) → say (x ++ (take (end_len r) r ++ w)) ≡ say (x ++ r)
before_same x r f w n e form h ih =
    let q = take (end_len r) r ++ w in
    let a = end_some r e h in
    say_line x q f (form q (end_front r w e h)) n (omega (arith, length-append x q, length-append (take (end_len r) r) w))
    ∙ ap (λ (l : List (List ℕ × Form)). voice x f ++ cond (is_last f) [] l) (say_ends (take (end_len r) r) w (end_ends r) ∙ ih ∙ say_after r)
    ∙ sym (say_line x r f (form r e) n (omega (arith, length-append x r)))

before_line : (s w : List ℕ) → is_last (form_of s) ≡ false → 0 < length (drop (line_len s) s) → say w ≡ say (drop (line_len s) s) → say (take (line_len s) s ++ w) ≡ say s
unfolding line_len
before_line s w last h ih =
    let c = cut_of s (on_read (form_of s) last) in
    go c.text c.rest (text_len (form_of s)) c.all c.size h ih (λ a b. before_same c.text c.rest (form_of s) w c.size c.ended c.form a b)
  where
    go : (x r : List ℕ) (k : ℕ) → s ≡ x ++ r → length x ≡ k → 0 < length (drop (k + end_len (drop k s)) s) → say w ≡ say (drop (k + end_len (drop k s)) s)
        → (0 < length r → say w ≡ say (drop (end_len r) r) → say (x ++ (take (end_len r) r ++ w)) ≡ say (x ++ r)) → say (take (k + end_len (drop k s)) s ++ w) ≡ say s
    go x r k a n h ih g =
        let d : drop k s ≡ r = ap (drop k) a ∙ drop_at x r k n in
        let t : take k s ≡ x = ap (take k) a ∙ take_at x r k n in
        let u : drop (k + end_len (drop k s)) s ≡ drop (end_len r) r = sym (drop-drop (end_len (drop k s)) k s) ∙ ap (λ (y : List ℕ). drop (end_len y) y) d in
        let v : take (k + end_len (drop k s)) s ≡ x ++ take (end_len r) r =
        take-add k (end_len (drop k s)) s ∙ ap (λ (y : List ℕ). y ++ take (end_len (drop k s)) (drop k s)) t ∙ ap (λ (y : List ℕ). x ++ take (end_len y) y) d in
        ap (λ (y : List ℕ). say (y ++ w)) v
        ∙ ap say (append_assoc x (take (end_len r) r) w)
        ∙ g (omega (arith, ap length u, length-drop (end_len r) r)) (ih ∙ ap say u)
        ∙ ap say (sym a)

-- ---- another rest after a line's text

module _ (q : List ℕ) (ended : line_ends q ≡ true) where
  -- the first line's
  rest_here : (s : List ℕ) → is_read (form_of s) ≡ true → 0 < length s → 0 < text_len (form_of s) + length q → (is_last (form_of s) ≡ false → say q ≡ say (drop (text_len (form_of s)) s))
      → say (take (text_len (form_of s)) s ++ q) ≡ say s
  rest_here s o h n same =
      let c = cut_of s o in
      let f = form_of s in
      let x = c.text in
      let r = c.rest in
      let m = text_len f in
      let d : drop m s ≡ r = ap (drop m) c.all ∙ drop_at x r m c.size in
      ap (λ (y : List ℕ). say (y ++ q)) (ap (take m) c.all ∙ take_at x r m c.size)
      ∙ say_line x q f (c.form q ended) c.size (omega (arith, length-append x q, c.size, n))
      ∙ ap (λ (l : List (List ℕ × Form)). voice x f ++ l) (after (is_last f) (say r) (λ z. same z ∙ ap say d))
      ∙ sym (say_line x r f (c.form r c.ended) c.size (omega (arith, ap length c.all, h)))
      ∙ ap say (sym c.all)
    where
      after : (t : Bool) (y : List (List ℕ × Form)) → (t ≡ false → say q ≡ y) → cond t [] (say q) ≡ cond t [] y
      after true y g = refl
      after false y g = g refl

  -- that of any line that is read
  rest_from : (xs : List Line) (l : Line) (ys : List Line) (p : ℕ) (s : List ℕ) → lines_from 0 p s ≡ xs ++ (l ∷ ys) → is_read l.form ≡ true → 0 < text_len l.form + length q
      → (m : ℕ) × (l.place + length l.text ≡ p + m) × ((is_last l.form ≡ false → say q ≡ say (drop m s)) → say (take m s ++ q) ≡ say s)
  rest_from [] l ys p s h o n =
      let f = form_of s in
      let b = lines_some p s [] l ys h in
      let rest = cond (is_last f) [] (lines_from 0 (p + line_len s) (drop (line_len s) s)) in
      let z : line_at p s ≡ l = cons_head (line_at p s) l rest ys (sym (lines_step p s b) ∙ h) in
      let w : p + length (take (text_len f) s) ≡ p + text_len f = ap (λ (k : ℕ). p + k) (length-take-le (text_len f) s (text_within s)) in
      let y : f ≡ l.form = ap (λ (k : Line). k.form) z in
      (text_len f, sym (ap (λ (k : Line). k.place + length k.text) z) ∙ w, λ g. rest_here s (ap is_read y ∙ o) b (omega (arith, n, ap text_len y)) (λ i. g (sym (ap is_last y) ∙ i)))
  rest_from (x ∷ xs) l ys p s h o n =
      let b = lines_some p s (x ∷ xs) l ys h in
      let j = line_len s in
      let t = cons_tail (line_at p s) x (cond (is_last (form_of s)) [] (lines_from 0 (p + j) (drop j s))) (xs ++ (l ∷ ys)) (sym (lines_step p s b) ∙ h) in
      go (is_last (form_of s)) refl t (λ k. rest_from xs l ys (p + j) (drop j s) k o n)
    where
      go : (t : Bool) → is_last (form_of s) ≡ t → cond t [] (lines_from 0 (p + line_len s) (drop (line_len s) s)) ≡ xs ++ (l ∷ ys)
          → (lines_from 0 (p + line_len s) (drop (line_len s) s) ≡ xs ++ (l ∷ ys) → (m : ℕ) × (l.place + length l.text ≡ p + line_len s + m)
          × ((is_last l.form ≡ false → say q ≡ say (drop m (drop (line_len s) s))) → say (take m (drop (line_len s) s) ++ q) ≡ say (drop (line_len s) s)))
          → (m : ℕ) × (l.place + length l.text ≡ p + m) × ((is_last l.form ≡ false → say q ≡ say (drop m s)) → say (take m s ++ q) ≡ say s)
      go true z k ih = nil_more xs l ys k
      go false z k ih =
          let i = ih k in
          let j = line_len s in
          let m = i.0 in
          let w : p + j + m ≡ p + (j + m) = omega arith in (
            j + m,
            i.1 ∙ w,
            λ g.
                ap (λ (y : List ℕ). say (y ++ q)) (take-add j m s)
                ∙ ap say (append_assoc (take j s) (take m (drop j s)) q)
                ∙ before_line s (take m (drop j s) ++ q) z (lines_some (p + j) (drop j s) xs l ys k) (i.2 (λ y. g y ∙ ap say (sym (drop-drop m j s)))),
          )

  -- in a whole text
  pub rest_said : (s : List ℕ) (xs : List Line) (l : Line) (ys : List Line) → lines_of s ≡ xs ++ (l ∷ ys) → is_read l.form ≡ true → 0 < text_len l.form + length q
      → (is_last l.form ≡ false → say q ≡ say (drop (l.place + length l.text) s)) → saying (lines_of (take (l.place + length l.text) s ++ q)) ≡ saying (lines_of s)
  unfolding lines_of say
  rest_said s xs l ys h o n same =
      let i = rest_from xs l ys 0 s h o n in
      let w : l.place + length l.text ≡ i.0 = i.1 ∙ omega arith in
      ap (λ (k : ℕ). say (take k s ++ q)) w ∙ i.2 (λ y. same y ∙ ap (λ (k : ℕ). say (drop k s)) w)

-- ---- what is read depends on what the lines say alone

abbrev pub told_said : List (List ℕ × Form) → List Told
told_said [] = []
told_said (a ∷ as') = told_by a.0 a.1 ++ told_said as'

abbrev pub turns_said : List (List ℕ × Form) → List Turn
turns_said as' = map (λ (a : List ℕ × Form). turn_by a.1) as'

told_said_lem : (ls : List Line) → told_in ls ≡ told_said (saying ls)
unfolding told_in saying
told_said_lem [] = refl
told_said_lem (l ∷ ls) = go l.form (told_said_lem ls)
  where
    go : (f : Form) → told_in ls ≡ told_said (saying ls) → told_by l.text f ++ told_in ls ≡ told_said (voice l.text f ++ saying ls)
    go (Nothing n) ih = ih
    go (Item k v) ih = rw ih
    go (Group n) ih = rw ih
    go Close ih = rw ih
    go End ih = rw ih
    go Wrong ih = ih
    go Open ih = ih

module _ {B : Type 0} (look : Result Unit Refusal → B) (same : (n p q : ℕ) → look (flawed n p) ≡ look (flawed n q)) where
  said_look : (ls : List Line) (d e : ℕ) → look (judge d e (map turn_of ls)) ≡ look (judge d 0 (unplaced (turns_said (saying ls))))
  unfolding judge saying
  said_look [] d e = same 25 e 0
  said_look (l ∷ ls) d e = go l.form (λ n. said_look ls n e)
    where
      rest : List (ℕ × Turn)
      rest = unplaced (turns_said (saying ls))

      one : (u : Turn) → ((n : ℕ) → look (judge n e (map turn_of ls)) ≡ look (judge n 0 rest)) → look (on_turn u d e l.place flawed (Ok tt) (λ n. judge n e (map turn_of ls))) ≡ look (judge d 0 ((0, u) ∷ rest))
      one u ih = turn_look look same u d e l.place 0 0 (λ n. judge n e (map turn_of ls)) (λ n. judge n 0 rest) ih

      go : (f : Form) → ((n : ℕ) → look (judge n e (map turn_of ls)) ≡ look (judge n 0 rest))
          → look (on_turn (turn_by f) d e l.place flawed (Ok tt) (λ n. judge n e (map turn_of ls))) ≡ look (judge d 0 (unplaced (turns_said (voice l.text f ++ saying ls))))
      go (Nothing n) ih = ih d
      go (Item k v) ih = one passes ih
      go (Group n) ih = one opens ih
      go Close ih = one closes ih
      go End ih = one ends ih
      go Wrong ih = one wrong ih
      go Open ih = one unclosed ih

  verdict_look : (s t : List ℕ) → length s ≤ 65535 → length t ≤ 65535 → saying (lines_of s) ≡ saying (lines_of t) → look (verdict_of s) ≡ look (verdict_of t)
  unfolding verdict_of
  verdict_look s t h k e =
      rw (le-ltb 65535 (length s) h, le-ltb 65535 (length t) k)
      (said_look (lines_of s) 0 (length s) ∙ ap (λ (as' : List (List ℕ × Form)). look (judge 0 0 (unplaced (turns_said as')))) e ∙ sym (said_look (lines_of t) 0 (length t)))

fine_says : {A : Type 0} (v : Result Unit Refusal) (a : A) → unless_flawed v a ≡ cond (is_fine v) (some a) none
fine_says (Ok u) a = refl
fine_says (Err e) a = refl

module _ (t s : List ℕ) (e : saying (lines_of t) ≡ saying (lines_of s)) where
  -- the same items
  pub same_told : told_in (lines_of t) ≡ told_in (lines_of s)
  same_told = told_said_lem (lines_of t) ∙ ap told_said e ∙ sym (told_said_lem (lines_of s))

  module _ (b : length t ≤ 65535) (a : length s ≤ 65535) where
    -- the same number, and what the reply says
    pub same_number : number (verdict_of t) ≡ number (verdict_of s)
    same_number = verdict_look number number_place t s b a e

    pub same_says : says_of t ≡ says_of s
    unfolding says_of
    same_says = fine_says (verdict_of t) (told_in (lines_of t)) ∙ rw (verdict_look is_fine (λ n p q. refl) t s b a e, same_told) (sym (fine_says (verdict_of s) (told_in (lines_of s))))
