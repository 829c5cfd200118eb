-- What the code finds in a line: its end, the quote that closes, and its form test by test. Assumes nothing.
use Prim.Native.Nat.{ℕ, ◌+◌, ◌<◌, ◌≤◌}
use mathlib.Core.Path.{◌≡◌, refl, sym, ap, ◌∙◌}
use mathlib.Core.List.{List, [], ◌∷◌}
use mathlib.Core.Bool.{Bool, true, false}
use mathlib.Core.Option.{Option, none, some}
use native.Mathlib.Omega.{arith}
use borrow.Author.Tests.{ne_eqb}
use lib.ListN.{length, get_or, take, drop, drop_of_length-le}
use lib.Seq.{length-take-le, drop-drop}
use Rattle.text.specs.Bytes.{is_word}
use Rattle.text.specs.Lists.{run_len, up_to}
use Rattle.text.proofs.Scans.{drop_step, take_up, run_within}
use Rattle.text.proofs.Tests.{no_case}
use Rattle.terms.specs.declared.Mode.{Mode}
use Rattle.terms.specs.declared.Mode.TheVariants.{In, InGrave}
use Rattle.terms.specs.Signs.{after}
use Rattle.forms.specs.Forms.{is_name}
use Rattle.replies.specs.declared.Form.{Form}
use Rattle.replies.specs.declared.Form.TheVariants.{Nothing, Group, Wrong}
use Rattle.replies.specs.Lines.{is_end, line_ends, is_out, more, quote_len, group_form, form_of}
use Rattle.replies.specs.Steps.{word_form, closed_by}
use Rattle.replies.proofs.LineLaws.{empty_form, comment_form, word_form_lem, quote_within}
use Rattle.std.proofs.Common.{Some}

-- ---- the quote that closes

-- in quotes, after a GRAVE or not
abbrev pub graved_mode : Bool → Mode
graved_mode true = InGrave
graved_mode false = In

-- none more
pub whole : (o : Option ℕ) → more 0 o ≡ o
whole none = refl
whole (some n) = let e : 0 + n ≡ n = omega arith in ap some e

pub more_more : (a b : ℕ) (o : Option ℕ) → more a (more b o) ≡ more (a + b) o
more_more a b none = refl
more_more a b (some n) = let e : a + (b + n) ≡ a + b + n = omega arith in ap some e

module _ (s : List ℕ) (i : ℕ) (h : i < length s) where
  pub quote_closes : get_or s i 0 ≡ 34 → quote_len In (drop i s) ≡ some 1
  unfolding quote_len after
  quote_closes e = simp (drop_step s i h, e)

  -- any byte that closes no quote
  pub quote_step : (m n : Mode) → after m (get_or s i 0) ≡ n → is_out n ≡ false → more (i + 1) (quote_len n (drop (i + 1) s)) ≡ more i (quote_len m (drop i s))
  unfolding quote_len
  quote_step m n e o = sym (simp (drop_step s i h, e, o) (more_more i 1 (quote_len n (drop (i + 1) s))))

-- GRAVE's next byte closes no quote, whatever it is
past_grave : (t : List ℕ) → quote_len (graved_mode true) t ≡ more 1 (quote_len (graved_mode false) (drop 1 t))
unfolding quote_len after
past_grave [] = refl
past_grave (b ∷ t) = refl

-- GRAVE and its next byte, where there is one
pub quote_pair : (s : List ℕ) (i : ℕ) → i < length s → get_or s i 0 ≡ 96 → more (i + 2) (quote_len In (drop (i + 2) s)) ≡ more i (quote_len In (drop i s))
unfolding after
quote_pair s i h e =
    let k : i + 1 + 1 ≡ i + 2 = omega arith in
    sym (ap (λ (j : ℕ). more j (quote_len In (drop j s))) k)
    ∙ sym (more_more (i + 1) 1 (quote_len In (drop (i + 1 + 1) s)))
    ∙ sym (ap (λ (l : List ℕ). more (i + 1) (more 1 (quote_len In l))) (drop-drop 1 (i + 1) s))
    ∙ sym (ap (more (i + 1)) (past_grave (drop (i + 1) s)))
    ∙ quote_step s i h In InGrave (rw e) refl

pub quote_past : (s : List ℕ) (i : ℕ) → length s ≤ i → (m : Mode) → quote_len m (drop i s) ≡ none
unfolding quote_len
quote_past s i h m = rw (drop_of_length-le s h)

-- ---- forms

module _ (v : List ℕ) (n : ℕ) (size : n ≡ length (up_to is_end v)) where
  name_part : is_name (take n v) ≡ is_name (up_to is_end v)
  name_part = ap (λ (k : ℕ). is_name (take k v)) size ∙ ap is_name (take_up is_end v)

  pub group_named : is_name (take n v) ≡ true → Group n ≡ group_form (up_to is_end v)
  group_named e = rw (sym name_part ∙ e) (ap Group size)

  pub group_wrong : is_name (take n v) ≡ false → Wrong ≡ group_form (up_to is_end v)
  group_wrong e = rw (sym name_part ∙ e)

-- a quote closes within the text
pub closed_within : (s : List ℕ) (n : ℕ) → closed_by (quote_len In s) ≡ Some n → n ≤ length s
closed_within s n q = go (quote_len In s) (quote_within In s) q
  where
    go : (o : Option ℕ) → ((k : ℕ) → o ≡ some k → k ≤ length s) → closed_by o ≡ Some n → n ≤ length s
    go none w z = cc
    go (some m) w z = let e : m ≡ n = cc in omega (arith, w m refl)

-- a line that is empty or begins with its end, a comment, and any other, by the word that it begins with
pub line_blank : (s : List ℕ) → line_ends s ≡ true → Nothing 0 ≡ form_of s
unfolding form_of up_to
line_blank [] e = refl
line_blank (b ∷ s) e = sym (empty_form b s e)

pub line_comment : (s : List ℕ) → line_ends s ≡ false → get_or s 0 0 ≡ 35 → Nothing (length (up_to is_end s)) ≡ form_of s
line_comment [] n e = no_case n
line_comment (b ∷ s) n e = rw e (sym (comment_form s))

pub line_word : (s w r : List ℕ) (f : Form) → w ≡ take (run_len is_word s) s → r ≡ drop (run_len is_word s) s → f ≡ word_form (length w) w r
    → line_ends s ≡ false → (get_or s 0 0 ≡ 35 → ⊥) → f ≡ form_of s
line_word [] w r f p q e n c = no_case n
line_word (b ∷ s) w r f p q e n c =
    let l : length w ≡ run_len is_word (b ∷ s) = ap length p ∙ length-take-le (run_len is_word (b ∷ s)) (b ∷ s) (run_within is_word (b ∷ s)) in
    e ∙ rw (l, p, q) (sym (word_form_lem (b ∷ s) (omega arith) n (ne_eqb b 35 c)))
