-- The lines of what is written: each item, group and end is read back as its own line, and that line tells it again. Assumes nothing.
use Prim.Native.Nat.{ℕ, ◌+◌}
use mathlib.Core.Path.{◌≡◌, refl, sym, ap, ◌∙◌}
use mathlib.Core.List.{List, [], ◌∷◌, ◌++◌, append_assoc}
use mathlib.Core.Bool.{Bool, true, cond}
use native.Mathlib.Omega.{arith}
use lib.ListN.{length, take, drop, length-append}
use lib.Seq.{take_at, drop_at, take-append_seam, drop-append-add}
use Rattle.text.specs.Bytes.{bytes}
use Rattle.text.specs.Lists.{all_of}
use Rattle.text.proofs.Tests.{and_l, and_r}
use Rattle.forms.specs.Forms.{is_name}
use Rattle.replies.specs.declared.Form.{Form}
use Rattle.replies.specs.declared.Form.TheVariants.{Item, Group, Close, End}
use Rattle.replies.specs.Lines.{begin_word, close_word, end_word, is_keyword, end_len, form_of, text_len, line_len, Line, line_at, is_last, lines_from}
use Rattle.replies.specs.Items.{Told, item, group, endgroup, endoutput, told_of, told_in}
use Rattle.replies.proofs.LineLaws.{lines_step}
use Rattle.replies.proofs.Forms.{item_form_lem, group_form_lem, close_form, end_form}
use Rattle.replying.specs.Writing.{value_line, line_of, writing_of}
use Rattle.replying.proofs.Quoted.{value_back, value_raw}

-- ---- what is told: right where its keyword or its type is; and up to its first end

abbrev pub right : Told → Bool
right (item k v) = is_keyword k
right (group n) = is_name n
right endgroup = true
right endoutput = true

unfoldable pub to_end : List Told → List Told
to_end [] = []
to_end (item k v ∷ ts) = item k v ∷ to_end ts
to_end (group n ∷ ts) = group n ∷ to_end ts
to_end (endgroup ∷ ts) = endgroup ∷ to_end ts
to_end (endoutput ∷ ts) = endoutput ∷ []

-- ---- the line of what is told, without its end, and its form

abbrev pub text_told : Told → List ℕ
text_told (item k v) = k ++ (61 ∷ value_line v)
text_told (group n) = begin_word ++ (61 ∷ n)
text_told endgroup = close_word
text_told endoutput = end_word

abbrev pub form_told : Told → Form
form_told (item k v) = Item (length k) (length (value_line v))
form_told (group n) = Group (length n)
form_told endgroup = Close
form_told endoutput = End

abbrev pub line_for : ℕ → Told → Line
line_for p t = record { place = p; text = text_told t; form = form_told t }

-- one after another, each where those before it end
unfoldable pub lines_told : ℕ → List Told → List Line
lines_told p [] = []
lines_told p (t ∷ ts) = line_for p t ∷ lines_told (p + length (line_of t)) ts

-- ---- a line

text_line : (t : Told) → line_of t ≡ text_told t ++ (10 ∷ [])
unfolding line_of bytes
text_line (item k v) = sym (append_assoc k (61 ∷ value_line v) (10 ∷ []))
text_line (group n) = refl
text_line endgroup = refl
text_line endoutput = refl

text_over_lem : (t : Told) (r : List ℕ) → line_of t ++ r ≡ text_told t ++ (10 ∷ r)
text_over_lem t r = ap (λ (l : List ℕ). l ++ r) (text_line t) ∙ append_assoc (text_told t) (10 ∷ []) r

line_form : (t : Told) (r : List ℕ) → right t ≡ true → form_of (text_told t ++ (10 ∷ r)) ≡ form_told t
unfolding bytes
line_form (item k v) r h = ap form_of (append_assoc k (61 ∷ value_line v) (10 ∷ r)) ∙ item_form_lem k (value_line v) (10 ∷ r) h (value_raw v) refl
line_form (group n) r h = group_form_lem n (10 ∷ r) h refl
line_form endgroup r h = close_form (10 ∷ r) refl
line_form endoutput r h = end_form (10 ∷ r) refl

text_size : (t : Told) → length (text_told t) ≡ text_len (form_told t)
unfolding bytes
text_size (item k v) = omega (arith, length-append k (61 ∷ value_line v))
text_size (group n) = omega arith
text_size endgroup = refl
text_size endoutput = refl

module _ (t : Told) (r : List ℕ) (h : right t ≡ true) where
  told_form : form_of (line_of t ++ r) ≡ form_told t
  told_form = ap form_of (text_over_lem t r) ∙ line_form t r h

  told_at : (p : ℕ) → line_at p (line_of t ++ r) ≡ line_for p t
  told_at p =
      ap (λ (f : Form). record { place = p; text = take (text_len f) (line_of t ++ r); form = f }) told_form
      ∙ ap (λ (x : List ℕ). record { place = p; text = x; form = form_told t })
      (ap (take (text_len (form_told t))) (text_over_lem t r) ∙ take_at (text_told t) (10 ∷ r) (text_len (form_told t)) (text_size t))

  told_len : line_len (line_of t ++ r) ≡ length (line_of t)
  unfolding line_len
  told_len =
      let n = text_len (form_told t) in
      let a = ap (λ (f : Form). text_len f + end_len (drop (text_len f) (line_of t ++ r))) told_form in
      let b = ap end_len (ap (drop n) (text_over_lem t r) ∙ drop_at (text_told t) (10 ∷ r) n (text_size t)) in
      let c = ap length (text_line t) in
      let d = length-append (text_told t) (10 ∷ []) in
      let s = text_size t in
      omega arith

  told_lines : (p : ℕ) → lines_from 0 p (line_of t ++ r) ≡ line_for p t ∷ cond (is_last (form_told t)) [] (lines_from 0 (p + length (line_of t)) r)
  told_lines p =
      let c = ap length (text_line t) in
      let d = length-append (text_told t) (10 ∷ []) in
      lines_step p (line_of t ++ r) (omega (arith, length-append (line_of t) r))
      ∙ rw (told_at p, told_form, told_len, drop_at (line_of t) r (length (line_of t)) refl)

-- it tells what it was written for
tells : (p : ℕ) (t : Told) → told_of (line_for p t) ≡ t ∷ []
unfolding bytes
tells p (item k v) =
    rw (take-append_seam k (61 ∷ value_line v), drop-append-add k (61 ∷ value_line v) 1, value_back v)
tells p (group n) = refl
tells p endgroup = refl
tells p endoutput = refl

pub tells_all : (p : ℕ) (ts : List Told) → told_in (lines_told p ts) ≡ ts
unfolding told_in lines_told
tells_all p [] = refl
tells_all p (t ∷ ts) = ap (λ (l : List Told). l ++ told_in (lines_told (p + length (line_of t)) ts)) (tells p t) ∙ ap (λ (l : List Told). t ∷ l) (tells_all (p + length (line_of t)) ts)

-- ---- the lines of a writing are those of what is told, up to its end
pub writing_lines : (p : ℕ) (ts : List Told) → all_of right (to_end ts) ≡ true → lines_from 0 p (writing_of ts) ≡ lines_told p (to_end ts)
unfolding all_of to_end lines_told writing_of lines_from
writing_lines p [] h = refl
writing_lines p (item k v ∷ ts) h =
    let t = item k v in
    told_lines t (writing_of ts) (and_l (right t) (all_of right (to_end ts)) h) p
    ∙ ap (λ (l : List Line). line_for p t ∷ l) (writing_lines (p + length (line_of t)) ts (and_r (right t) (all_of right (to_end ts)) h))
writing_lines p (group n ∷ ts) h =
    let t = group n in
    told_lines t (writing_of ts) (and_l (right t) (all_of right (to_end ts)) h) p
    ∙ ap (λ (l : List Line). line_for p t ∷ l) (writing_lines (p + length (line_of t)) ts (and_r (right t) (all_of right (to_end ts)) h))
writing_lines p (endgroup ∷ ts) h =
    told_lines endgroup (writing_of ts) refl p ∙ ap (λ (l : List Line). line_for p endgroup ∷ l) (writing_lines (p + length (line_of endgroup)) ts h)
writing_lines p (endoutput ∷ ts) h = told_lines endoutput (writing_of ts) refl p
