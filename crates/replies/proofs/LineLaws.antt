-- The line that a text begins with: its form by its first word, its length, and the lines after it. Assumes nothing.
use Prim.Native.Nat.{ℕ, zero, suc, ◌+◌, ◌-◌, ◌<◌, ◌≤◌}
use mathlib.Core.Path.{◌≡◌, refl, sym, ap, ◌∙◌}
use mathlib.Core.List.{List, [], ◌∷◌, ◌++◌}
use mathlib.Core.Bool.{Bool, true, false, cond, ◌||◌}
use mathlib.Core.Option.{Option, none, some}
use native.Mathlib.Nat.{add-zero}
use native.Mathlib.Omega.{arith}
use borrow.Author.Tests.{eqb-true}
use lib.ListN.{length, get_or, take, drop, length-drop, take-append-drop}
use lib.Seq.{length-take-le}
use lib.Dec.{eqb}
use Rattle.text.specs.Bytes.{bytes, same_bytes, is_word}
use Rattle.text.specs.Lists.{all_of, run_len, up_to, is_nil}
use Rattle.text.proofs.Tests.{no_case}
use Rattle.text.proofs.Scans.{run_within, take_run, drop_step}
use Rattle.text.proofs.SameTexts.{same_eq}
use Rattle.text.proofs.Options.{none_some}
use Rattle.terms.specs.declared.Mode.{Mode}
use Rattle.terms.specs.declared.Mode.TheVariants.{In}
use Rattle.terms.specs.Signs.{after}
use Rattle.forms.specs.Forms.{is_name}
use Rattle.replies.specs.declared.Form.{Form}
use Rattle.replies.specs.declared.Form.TheVariants.{Nothing, Item, Group, Close, End, Wrong, Open}
use Rattle.replies.specs.Lines.{begins, is_end, is_equals, is_quote, line_ends, end_len, begin_word, close_word, end_word, is_keyword, is_out, more, quote_len, group_form, quoted_form, item_form, form_of, text_len, line_len, Line, line_at, is_last, lines_from}
use Rattle.replies.specs.Steps.{whole_form, keyed_form, word_form}
use Rattle.replies.proofs.Fronts.{begins_some, end_within}
use Rattle.replies.proofs.FormLaws.{keyed_form_lem, whole_form_lem, odd_form}

-- ---- by its first byte

pub empty_form : (b : ℕ) (s : List ℕ) → is_end b ≡ true → form_of (b ∷ s) ≡ Nothing 0
unfolding form_of up_to
empty_form b s e = simp e

pub comment_form : (s : List ℕ) → form_of (35 ∷ s) ≡ Nothing (length (up_to is_end (35 ∷ s)))
unfolding form_of up_to
comment_form s = refl

-- a word, and what follows it, which goes on no word
split_form : (w r : List ℕ) → all_of is_word w ≡ true → begins is_word r ≡ false → 0 < length (w ++ r) → line_ends (w ++ r) ≡ false
    → begins (λ b. eqb b 35) (w ++ r) ≡ false → form_of (w ++ r) ≡ word_form (length w) w r
split_form [] [] a o h e q = absurd (omega arith)
split_form (b ∷ w) [] a o h e q = whole_form_lem (b ∷ w) [] a refl
split_form w (x ∷ r) a o h e q = go (is_end x) refl (is_equals x) refl
  where
    keyed : (x : ℕ) → x ≡ 61 → form_of (w ++ (x ∷ r)) ≡ keyed_form (length w) w r
    keyed x z = ap (λ (y : ℕ). form_of (w ++ (y ∷ r))) z ∙ keyed_form_lem w r a

    whole : (w : List ℕ) → all_of is_word w ≡ true → line_ends (w ++ (x ∷ r)) ≡ false → is_end x ≡ true → form_of (w ++ (x ∷ r)) ≡ whole_form w
    whole [] a e z = no_case (sym z ∙ e)
    whole (b ∷ w) a e z = whole_form_lem (b ∷ w) (x ∷ r) a z

    hash : (w : List ℕ) → begins (λ b. eqb b 35) (w ++ (x ∷ r)) ≡ false → is_nil w ≡ true → eqb x 35 ≡ false
    hash [] q n = q
    hash (b ∷ w) q n = no_case (sym n)

    go : (t : Bool) → is_end x ≡ t → (u : Bool) → is_equals x ≡ u → form_of (w ++ (x ∷ r)) ≡ word_form (length w) w (x ∷ r)
    go true z u y = whole w a e z ∙ rw z
    go false z true y = keyed x (eqb-true x 61 y) ∙ rw (z, y)
    go false z false y = odd_form w x r a o z y (hash w q) ∙ rw (z, y)

pub word_form_lem : (s : List ℕ) → 0 < length s → is_end (get_or s 0 0) ≡ false → eqb (get_or s 0 0) 35 ≡ false
    → form_of s ≡ word_form (run_len is_word s) (take (run_len is_word s) s) (drop (run_len is_word s) s)
unfolding run_len
word_form_lem s h e q =
    let n = run_len is_word s in
    let all = take-append-drop n s in
    let size = length-take-le n s (run_within is_word s) in
    let front = drop_step s 0 h in
    ap form_of (sym all)
    ∙ split_form (take n s) (drop n s) (take_run is_word s) (rest s) (omega (arith, ap length all)) (ap line_ends (all ∙ front) ∙ e) (ap (begins (λ b. eqb b 35)) (all ∙ front) ∙ q)
    ∙ ap (λ (k : ℕ). word_form k (take n s) (drop n s)) size
  where
    rest : (s : List ℕ) → begins is_word (drop (run_len is_word s) s) ≡ false
    rest [] = refl
    rest (b ∷ s) = go (is_word b) refl (rest s)
      where
        go : (t : Bool) → is_word b ≡ t → begins is_word (drop (run_len is_word s) s) ≡ false → begins is_word (drop (cond t (suc (run_len is_word s)) 0) (b ∷ s)) ≡ false
        go true z ih = ih
        go false z ih = z

-- such a line says something, or is refused
abbrev is_nothing : Form → Bool
is_nothing (Nothing n) = true
is_nothing (Item k v) = false
is_nothing (Group n) = false
is_nothing Close = false
is_nothing End = false
is_nothing Wrong = false
is_nothing Open = false

word_says : (n : ℕ) (w r : List ℕ) → is_nothing (word_form n w r) ≡ false
unfolding item_form
word_says n w r = go (line_ends r) (begins is_equals r) (same_bytes w end_word) (same_bytes w close_word) (same_bytes w begin_word) (is_name (up_to is_end (drop 1 r))) (is_keyword w) (begins is_quote (drop 1 r)) (quote_len In (drop 1 (drop 1 r)))
  where
    last : (k : ℕ) (t : Bool) → is_nothing (cond t (Item n k) Wrong) ≡ false
    last k true = refl
    last k false = refl

    go : (a b c d e f g h : Bool) (o : Option ℕ)
        → is_nothing (cond a (cond c End (cond d Close Wrong)) (cond b (cond e (cond f (Group (length (up_to is_end (drop 1 r)))) Wrong) (cond g (cond h (quoted_form n (drop 1 r) o) (Item n (length (up_to is_end (drop 1 r))))) Wrong)) Wrong)) ≡ false
    go true b true d e f g h o = refl
    go true b false true e f g h o = refl
    go true b false false e f g h o = refl
    go false false c d e f g h o = refl
    go false true c d true true g h o = refl
    go false true c d true false g h o = refl
    go false true c d false f false h o = refl
    go false true c d false f true false o = refl
    go false true c d false f true true none = refl
    go false true c d false f true true (some k) = last (1 + k) (line_ends (drop (1 + k) (drop 1 r)))

says_more : {P : Type 0} (n : ℕ) (w r : List ℕ) {k : ℕ} → word_form n w r ≡ Nothing k → P
says_more n w r e = no_case (sym (ap is_nothing e) ∙ word_says n w r)

-- ---- within the text

pub up_within : (f : ℕ → Bool) (s : List ℕ) → length (up_to f s) ≤ length s
unfolding up_to
up_within f [] = omega arith
up_within f (b ∷ s) = go (f b) (up_within f s)
  where
    go : (t : Bool) → length (up_to f s) ≤ length s → length (cond t [] (b ∷ up_to f s)) ≤ suc (length s)
    go true h = omega arith
    go false h = omega arith

pub quote_within : (m : Mode) (s : List ℕ) (n : ℕ) → quote_len m s ≡ some n → n ≤ length s
unfolding quote_len
quote_within m [] n e = none_some n e
quote_within m (b ∷ s) n e = go (is_out (after m b)) refl (quote_len (after m b) s) (quote_within (after m b) s) e
  where
    count : (k : ℕ) → some k ≡ some n → k ≡ n
    count k z = cc

    go : (t : Bool) → is_out (after m b) ≡ t → (o : Option ℕ) → ((k : ℕ) → o ≡ some k → k ≤ length s) → cond t (some 1) (more 1 o) ≡ some n → n ≤ suc (length s)
    go true p o ih z = omega (arith, count 1 z)
    go false p none ih z = none_some n z
    go false p (some k) ih z = omega (arith, ih k refl, count (1 + k) z)

item_within : (k : ℕ) (v : List ℕ) → text_len (item_form k v) ≤ k + 1 + length v
unfolding item_form
item_within k v = go (begins is_quote v) refl
  where
    quoted : (o : Option ℕ) → ((n : ℕ) → o ≡ some n → n ≤ length (drop 1 v)) → 0 < length v → text_len (quoted_form k v o) ≤ k + 1 + length v
    quoted none ih h = omega arith
    quoted (some n) ih h = ends (line_ends (drop (1 + n) v))
      where
        ends : (t : Bool) → text_len (cond t (Item k (1 + n)) Wrong) ≤ k + 1 + length v
        ends true = omega (arith, ih n refl, length-drop 1 v)
        ends false = omega arith

    go : (t : Bool) → begins is_quote v ≡ t → text_len (cond t (quoted_form k v (quote_len In (drop 1 v))) (Item k (length (up_to is_end v)))) ≤ k + 1 + length v
    go true e = quoted (quote_len In (drop 1 v)) (quote_within In (drop 1 v)) (begins_some is_quote v e)
    go false e = omega (arith, up_within is_end v)

keyed_within : (w v : List ℕ) → text_len (keyed_form (length w) w v) ≤ length w + 1 + length v
unfolding bytes
keyed_within w v = go (same_bytes w begin_word) refl
  where
    named : (t : Bool) → length w ≡ 10 → text_len (cond t (Group (length (up_to is_end v))) Wrong) ≤ length w + 1 + length v
    named true e = omega (arith, up_within is_end v)
    named false e = omega arith

    keyword : (t : Bool) → text_len (cond t (item_form (length w) v) Wrong) ≤ length w + 1 + length v
    keyword true = item_within (length w) v
    keyword false = omega arith

    go : (t : Bool) → same_bytes w begin_word ≡ t → text_len (cond t (group_form (up_to is_end v)) (cond (is_keyword w) (item_form (length w) v) Wrong)) ≤ length w + 1 + length v
    go true e = named (is_name (up_to is_end v)) (ap length (same_eq w begin_word e))
    go false e = keyword (is_keyword w)

whole_within : (w : List ℕ) → text_len (whole_form w) ≤ length w
unfolding bytes
whole_within w = go (same_bytes w end_word) refl (same_bytes w close_word) refl
  where
    go : (t : Bool) → same_bytes w end_word ≡ t → (u : Bool) → same_bytes w close_word ≡ u → text_len (cond t End (cond u Close Wrong)) ≤ length w
    go true e u f = omega (arith, ap length (same_eq w end_word e))
    go false e true f = omega (arith, ap length (same_eq w close_word f))
    go false e false f = omega arith

word_within : (w r : List ℕ) → text_len (word_form (length w) w r) ≤ length w + length r
word_within w r = go (line_ends r) (begins is_equals r) refl
  where
    rest : (r : List ℕ) → begins is_equals r ≡ true → length r ≡ 1 + length (drop 1 r)
    rest [] e = no_case (sym e)
    rest (b ∷ r) e = omega arith

    go : (t u : Bool) → begins is_equals r ≡ u → text_len (cond t (whole_form w) (cond u (keyed_form (length w) w (drop 1 r)) Wrong)) ≤ length w + length r
    go true u e = omega (arith, whole_within w)
    go false true e = omega (arith, keyed_within w (drop 1 r), rest r e)
    go false false e = omega arith

-- a line's text is no longer than what there is, and with its end neither
pub text_within : (s : List ℕ) → text_len (form_of s) ≤ length s
unfolding form_of up_to
text_within [] = omega arith
text_within (b ∷ s) = go (is_end b) refl (eqb b 35) refl
  where
    comment : (b : ℕ) → b ≡ 35 → text_len (form_of (b ∷ s)) ≤ suc (length s)
    comment b z = omega (arith, ap (λ (y : ℕ). text_len (form_of (y ∷ s))) z, up_within is_end s)

    go : (t : Bool) → is_end b ≡ t → (u : Bool) → eqb b 35 ≡ u → text_len (form_of (b ∷ s)) ≤ suc (length s)
    go true e u f = omega (arith, ap text_len (empty_form b s e))
    go false e true f = comment b (eqb-true b 35 f)
    go false e false f =
        let n = run_len is_word (b ∷ s) in
        let size = length-take-le n (b ∷ s) (run_within is_word (b ∷ s)) in
        let w = word_within (take n (b ∷ s)) (drop n (b ∷ s)) in
        let z = ap (λ (k : ℕ). text_len (word_form k (take n (b ∷ s)) (drop n (b ∷ s)))) size in
        omega (arith, ap text_len (word_form_lem (b ∷ s) (omega arith) e f), length-drop n (b ∷ s), run_within is_word (b ∷ s))

pub line_within : (s : List ℕ) → line_len s ≤ length s
unfolding line_len
line_within s = let n = text_len (form_of s) in omega (arith, text_within s, end_within (drop n s), length-drop n s)

-- a line that says nothing and does not begin with its end has a byte
some_row : (b : ℕ) (s : List ℕ) (n : ℕ) → is_end b ≡ false → form_of (b ∷ s) ≡ Nothing n → 0 < n
unfolding up_to
some_row b s n e p = go (eqb b 35) refl
  where
    nothing : (k : ℕ) → Nothing k ≡ Nothing n → k ≡ n
    nothing k z = cc

    comment : (b : ℕ) → b ≡ 35 → form_of (b ∷ s) ≡ Nothing n → 0 < n
    comment b z p = let q = nothing (suc (length (up_to is_end s))) (sym (comment_form s) ∙ ap (λ (y : ℕ). form_of (y ∷ s)) (sym z) ∙ p) in omega arith

    go : (t : Bool) → eqb b 35 ≡ t → 0 < n
    go true q = comment b (eqb-true b 35 q) p
    go false q = says_more (run_len is_word (b ∷ s)) (take (run_len is_word (b ∷ s)) (b ∷ s)) (drop (run_len is_word (b ∷ s)) (b ∷ s)) (sym (word_form_lem (b ∷ s) (omega arith) e q) ∙ p)

-- a line after which more is read has a byte at least
pub line_on : (s : List ℕ) → 0 < length s → is_last (form_of s) ≡ false → 0 < line_len s
unfolding line_len
line_on [] h l = absurd (omega arith)
line_on (b ∷ s) h l = go (is_end b) refl (form_of (b ∷ s)) refl l
  where
    ended : (t : Bool) → eqb b 13 || eqb b 10 ≡ true → 0 < end_len (b ∷ s)
    ended t e = crlf (eqb b 13) (eqb b 10) (begins (λ c. eqb c 10) s) e
      where
        crlf : (x y z : Bool) → x || y ≡ true → 0 < cond x (cond z 2 1) (cond y 1 0)
        crlf true y true e = omega arith
        crlf true y false e = omega arith
        crlf false true z e = omega arith
        crlf false false z e = no_case (sym e)

    go : (t : Bool) → is_end b ≡ t → (f : Form) → form_of (b ∷ s) ≡ f → is_last f ≡ false → 0 < text_len (form_of (b ∷ s)) + end_len (drop (text_len (form_of (b ∷ s))) (b ∷ s))
    go true e f p l = rw (empty_form b s e) (omega (arith, ended true e))
    go false e (Nothing n) p l = omega (arith, ap text_len p, some_row b s n e p)
    go false e (Item k v) p l = omega (arith, ap text_len p)
    go false e (Group n) p l = omega (arith, ap text_len p)
    go false e Close p l = omega (arith, ap text_len p)
    go false e End p l = omega (arith, ap text_len p)
    go false e Wrong p l = no_case l
    go false e Open p l = no_case l

-- ---- the lines after it

pub lines_skip : (k p : ℕ) (s : List ℕ) → lines_from k p s ≡ lines_from 0 (p + k) (drop k s)
unfolding lines_from
lines_skip zero p s = ap (λ (q : ℕ). lines_from 0 q s) (sym (add-zero p))
lines_skip (suc k) p [] = refl
lines_skip (suc k) p (b ∷ s) = let e : suc p + k ≡ p + suc k = omega arith in lines_skip k (suc p) s ∙ ap (λ (q : ℕ). lines_from 0 q (drop k s)) e

pub lines_step : (p : ℕ) (s : List ℕ) → 0 < length s
    → lines_from 0 p s ≡ line_at p s ∷ cond (is_last (form_of s)) [] (lines_from 0 (p + line_len s) (drop (line_len s) s))
unfolding lines_from
lines_step p [] h = absurd (omega arith)
lines_step p (b ∷ s) h = ap (λ (ls : List Line). line_at p (b ∷ s) ∷ ls) (go (is_last (form_of (b ∷ s))) refl (line_len (b ∷ s)) (line_on (b ∷ s) (omega arith)))
  where
    go : (t : Bool) → is_last (form_of (b ∷ s)) ≡ t → (n : ℕ) → (is_last (form_of (b ∷ s)) ≡ false → 0 < n)
        → cond t [] (lines_from (n - 1) (suc p) s) ≡ cond t [] (lines_from 0 (p + n) (drop n (b ∷ s)))
    go true e n l = refl
    go false e zero l = absurd (let z = l e in omega arith)
    go false e (suc n) l =
        let m : suc n - 1 ≡ n = omega arith in
        let q : suc p + n ≡ p + suc n = omega arith in
        ap (λ (k : ℕ). lines_from k (suc p) s) m ∙ lines_skip n (suc p) s ∙ ap (λ (k : ℕ). lines_from 0 k (drop n s)) q
