-- Laws of the text of records: forms by their kinds, fields in turn, records in turn. Assumes nothing.
use Prim.Native.Nat.{ℕ, zero, suc, ◌+◌, ◌-◌, ◌*◌, ◌/◌, ◌<◌, ◌≤◌}
use native.Mathlib.Omega.{arith}
use native.Mathlib.Nat.{add-zero}
use mathlib.Core.Path.{◌≡◌, refl, sym, ap, ◌∙◌, subst}
use mathlib.Core.List.{List, [], ◌∷◌, ◌++◌, append_assoc}
use mathlib.Core.Bool.{Bool, true, false, cond}
use mathlib.Core.Option.{Option, none, some}
use lib.ListN.{length, get_or, take, drop, set, length-append, length-drop, drop_of_length-le, get_or-eq_default}
use lib.Seq.{sets, drop-drop, get_or-drop, get_or-take, length-take-le}
use lib.Dec.{leb, ltb}
use borrow.Author.Tests.{lt-ltb, le-ltb, ltb-true, ltb-false, le-leb, lt-leb, leb-true}
use Rattle.text.specs.Bytes.{bytes}
use Rattle.text.specs.Decimal.{digits}
use Rattle.text.specs.Room.{be16, fitted, filled, refusal_at}
use Rattle.text.specs.Room as room'
use Rattle.text.proofs.Options.{none_some}
use Rattle.text.proofs.Slices.{part_from}
use Rattle.text.proofs.Decimals.{width_between, length_digits}
use Rattle.text.proofs.Writes.{sets_append, then_sets, then_set, fitted_room, filled_sets}
use Rattle.words.specs.Words.{bodies, body_of, record_len}
use Rattle.wording.specs.Words.{Worded, worded, unworded, Form, forms, form_of, total, field_of, fields_text, record_text, then, on_form, wording_from, wording_of, text_answer, text_room}
use Rattle.wording.specs.Steps.{word_by, fields_by, len_by, text_by, first_text, field_text, row_fields, wording_at, flaw_in, worded_text, answer_from, answer_past, hindrance_by}
use Rattle.text.proofs.Scans.{drop_step}
use Rattle.std.proofs.Common.{Result, Ok, Err}
use Rattle.text.specs.declared.Refusal.{Refusal}

-- ---- kinds

eight : (P : ℕ → Type 0) → P 0 → P 1 → P 2 → P 3 → P 4 → P 5 → P 6 → P 7 → (k : ℕ) → k ≤ 7 → P k
eight P a b c d e f g h zero l = a
eight P a b c d e f g h (suc zero) l = b
eight P a b c d e f g h (suc (suc zero)) l = c
eight P a b c d e f g h (suc (suc (suc zero))) l = d
eight P a b c d e f g h (suc (suc (suc (suc zero)))) l = e
eight P a b c d e f g h (suc (suc (suc (suc (suc zero))))) l = f
eight P a b c d e f g h (suc (suc (suc (suc (suc (suc zero)))))) l = g
eight P a b c d e f g h (suc (suc (suc (suc (suc (suc (suc zero))))))) l = h
eight P a b c d e f g h (suc (suc (suc (suc (suc (suc (suc (suc k)))))))) l = absurd (omega arith)

pub form_past : (k : ℕ) → 7 < k → form_of k ≡ none
unfolding form_of forms
form_past k h = get_or-eq_default forms none {n = k} (omega arith)

pub len_past : (k left : ℕ) → 7 < k → 0 ≡ len_by (form_of k) left
len_past k left h = sym (ap (λ (o : Option Form). len_by o left) (form_past k h))

-- the fields of a kind and its byte are its whole record
record_form : (k : ℕ) → k ≤ 7 → (left : ℕ) → len_by (form_of k) left ≡ cond (ltb left (record_len k)) 0 (record_len k)
unfolding record_len body_of bodies form_of forms total
record_form = eight (λ (k : ℕ). (left : ℕ) → len_by (form_of k) left ≡ cond (ltb left (record_len k)) 0 (record_len k)) (λ left. sym (ap (λ (t : Bool). cond {A = ℕ} t 0 0) (le-ltb left 0 (omega arith)))) (λ _. refl) (λ _. refl) (λ _. refl) (λ _. refl) (λ _. refl) (λ _. refl) (λ _. refl)

pub len_cut : (k left : ℕ) → k ≤ 7 → left < record_len k → 0 ≡ len_by (form_of k) left
len_cut k left h l = sym (record_form k h left ∙ ap (λ (t : Bool). cond t 0 (record_len k)) (lt-ltb left (record_len k) l))

pub len_whole : (k left : ℕ) → k ≤ 7 → record_len k ≤ left → record_len k ≡ len_by (form_of k) left
len_whole k left h l = sym (record_form k h left ∙ ap (λ (t : Bool). cond t 0 (record_len k)) (le-ltb left (record_len k) l))

-- a record that is there has a form, of which all is there
pub record Whole (o : Option Form) (left : ℕ) : Type 0 where
  pub what : Form
  pub is : o ≡ some what
  pub len : len_by o left ≡ 1 + total what.fields
  pub within : 1 + total what.fields ≤ left

pub whole : (o : Option Form) (left : ℕ) → 0 < len_by o left → Whole o left
whole none left h = absurd (omega arith)
whole (some f) left h = go (ltb left (1 + total f.fields)) refl h
  where
    go : (t : Bool) → ltb left (1 + total f.fields) ≡ t → 0 < cond t 0 (1 + total f.fields) → Whole (some f) left
    go true e h = absurd (omega arith)
    go false e h = record {
      what = f;
      is = refl;
      len = ap (λ (t : Bool). cond t 0 (1 + total f.fields)) e;
      within = ltb-false left (1 + total f.fields) e;
    }

form_small : (k : ℕ) (f : Form) → form_of k ≡ some f → k ≤ 7
form_small k f e = go (ltb 7 k) refl
  where
    go : (t : Bool) → ltb 7 k ≡ t → k ≤ 7
    go true q = none_some f (sym (form_past k (ltb-true 7 k q)) ∙ e)
    go false q = ltb-false 7 k q

pub whole_kind : (k left : ℕ) → 0 < len_by (form_of k) left → k ≤ 7
whole_kind k left h = let w = whole (form_of k) left h in form_small k w.what w.is

-- ---- the table of kinds

abbrev pub width_rows : List (List ℕ)
width_rows =
    (0 ∷ 0 ∷ 0 ∷ 0 ∷ 0 ∷ 0 ∷ [])
    ∷ (1 ∷ 0 ∷ 0 ∷ 0 ∷ 0 ∷ 0 ∷ [])
    ∷ (1 ∷ 2 ∷ 2 ∷ 0 ∷ 0 ∷ 0 ∷ [])
    ∷ (2 ∷ 2 ∷ 0 ∷ 0 ∷ 0 ∷ 0 ∷ [])
    ∷ (2 ∷ 2 ∷ 1 ∷ 2 ∷ 2 ∷ 0 ∷ [])
    ∷ (1 ∷ 2 ∷ 0 ∷ 0 ∷ 0 ∷ 0 ∷ [])
    ∷ (0 ∷ 0 ∷ 0 ∷ 0 ∷ 0 ∷ 0 ∷ [])
    ∷ (0 ∷ 0 ∷ 0 ∷ 0 ∷ 0 ∷ 0 ∷ [])
    ∷ []

pub row_fields_lem : (k : ℕ) → k ≤ 7 → row_fields (get_or width_rows k []) ≡ fields_by (form_of k)
unfolding row_fields form_of forms
row_fields_lem = eight (λ (k : ℕ). row_fields (get_or width_rows k []) ≡ fields_by (form_of k)) refl refl refl refl refl refl refl refl

pub word_short : (k : ℕ) → k ≤ 7 → length (word_by (form_of k)) ≤ 8
unfolding form_of forms bytes
word_short = eight (λ (k : ℕ). length (word_by (form_of k)) ≤ 8) (omega arith) (omega arith) (omega arith) (omega arith) (omega arith) (omega arith) (omega arith) (omega arith)

pub fields_few : (k : ℕ) → k ≤ 7 → length (fields_by (form_of k)) ≤ 5
unfolding form_of forms
fields_few = eight (λ (k : ℕ). length (fields_by (form_of k)) ≤ 5) (omega arith) (omega arith) (omega arith) (omega arith) (omega arith) (omega arith) (omega arith) (omega arith)

-- ---- fields

field_cut : (w : ℕ) (s : List ℕ) → field_of w (take w s) ≡ field_of w s
field_cut zero s = refl
field_cut (suc zero) s = get_or-take 1 s 0 0 (omega arith)
field_cut (suc (suc w)) s = omega (arith, get_or-take (suc (suc w)) s 0 0 (omega arith), get_or-take (suc (suc w)) s 1 0 (omega arith))

-- a field read by its bytes alone, b, the first w of s
pub field_read : (w n : ℕ) (s b : List ℕ) (r : ℕ) → n ≡ w → b ≡ take n s → w ≤ length s → r ≡ field_of (length b) b → r ≡ field_of w s
field_read w n s b r e f h v =
    let its = f ∙ ap (λ (m : ℕ). take m s) e in
    v ∙ ap (λ (l : List ℕ). field_of (length l) l) its ∙ ap (λ (m : ℕ). field_of m (take w s)) (length-take-le w s h) ∙ field_cut w s

field_length : (n : ℕ) → length (field_text n) ≤ 6
field_length n = omega (arith, length_digits n, width_between n)

pub fields_short : (ws s : List ℕ) → length (fields_text ws s) ≤ 6 * length ws
unfolding fields_text
fields_short [] s = omega arith
fields_short (w ∷ ws) s =
    omega (arith, field_length (field_of w s), length-append (digits (field_of w s)) (fields_text ws (drop w s)), fields_short ws (drop w s))

-- the fields from the j-th on, of what is left of the body
module _ (ws rest : List ℕ) (j : ℕ) (h : j < length ws) where
  pub total_more : total (drop j ws) ≡ get_or ws j 0 + total (drop (j + 1) ws)
  unfolding total
  total_more = ap total (drop_step ws j h)

  text_more : fields_text (drop j ws) rest ≡ field_text (field_of (get_or ws j 0) rest) ++ fields_text (drop (j + 1) ws) (drop (get_or ws j 0) rest)
  unfolding fields_text
  text_more = ap (λ (l : List ℕ). fields_text l rest) (drop_step ws j h)

  pub fields_some : 1 ≤ length (fields_text (drop j ws) rest)
  fields_some =
      omega (arith, ap length text_more, length-append (field_text (field_of (get_or ws j 0) rest)) (fields_text (drop (j + 1) ws) (drop (get_or ws j 0) rest)))

  module _ (f m : ℕ) (is : f ≡ field_of (get_or ws j 0) rest) (count : m ≡ length (field_text f)) where
    here : fields_text (drop j ws) rest ≡ field_text f ++ fields_text (drop (j + 1) ws) (drop (get_or ws j 0) rest)
    here = text_more ∙ ap (λ (x : ℕ). field_text x ++ fields_text (drop (j + 1) ws) (drop (get_or ws j 0) rest)) (sym is)

    pub length_more : length (fields_text (drop j ws) rest) ≡ m + length (fields_text (drop (j + 1) ws) (drop (get_or ws j 0) rest))
    length_more =
        ap length here
        ∙ length-append (field_text f) (fields_text (drop (j + 1) ws) (drop (get_or ws j 0) rest))
        ∙ ap (λ (k : ℕ). k + length (fields_text (drop (j + 1) ws) (drop (get_or ws j 0) rest))) (sym count)

    pub sets_more : (at n : ℕ) (out out' S : List ℕ) → sets out (at + n) (fields_text (drop j ws) rest) ≡ S → out' ≡ sets out (at + n) (field_text f)
        → sets out' (at + (n + m)) (fields_text (drop (j + 1) ws) (drop (get_or ws j 0) rest)) ≡ S
    sets_more at n out out' S inv put =
        let more = fields_text (drop (j + 1) ws) (drop (get_or ws j 0) rest) in
        let k : at + (n + m) ≡ at + n + length (field_text f) = omega (arith, count) in
        ap (λ (o : List ℕ). sets o (at + (n + m)) more) put
        ∙ ap (λ (i : ℕ). sets (sets out (at + n) (field_text f)) i more) k
        ∙ sets_append (field_text f) more out (at + n)
        ∙ ap (sets out (at + n)) (sym here)
        ∙ inv

pub fields_end : (ws rest : List ℕ) (j : ℕ) → length ws ≤ j → fields_text (drop j ws) rest ≡ []
unfolding fields_text
fields_end ws rest j h = ap (λ (l : List ℕ). fields_text l rest) (drop_of_length-le ws h)

-- ---- one record

pub first_is : (s : List ℕ) (f : Form) → form_of (get_or s 0 0) ≡ some f
    → first_text s ≡ word_by (form_of (get_or s 0 0)) ++ (fields_text (fields_by (form_of (get_or s 0 0))) (drop 1 s) ++ (10 ∷ []))
unfolding first_text
first_is s f e = rw e refl

-- a word, then fields, then an end of line are the text of a record
module _ (s : List ℕ) (there : 0 < len_by (form_of (get_or s 0 0)) (length s)) (word widths : List ℕ) (its : word ≡ word_by (form_of (get_or s 0 0)))
    (fields : widths ≡ fields_by (form_of (get_or s 0 0))) where
  fs : List ℕ
  fs = fields_text widths (take (length s - 1) (drop 1 s))

  first_parts : first_text s ≡ word ++ (fs ++ (10 ∷ []))
  unfolding fs
  first_parts =
      let w = whole (form_of (get_or s 0 0)) (length s) there in
      first_is s w.what w.is
      ∙ ap (λ (l : List ℕ). l ++ (fields_text (fields_by (form_of (get_or s 0 0))) (drop 1 s) ++ (10 ∷ []))) (sym its)
      ∙ ap (λ (l : List ℕ). word ++ (fields_text l (drop 1 s) ++ (10 ∷ []))) (sym fields)
      ∙ ap (λ (r : List ℕ). word ++ (fields_text widths r ++ (10 ∷ []))) (sym (part_from s 1))

  pub first_length : length (first_text s) ≡ length word + (length (fields_text widths (take (length s - 1) (drop 1 s))) + 1)
  unfolding fs
  first_length = ap length first_parts ∙ length-append word (fs ++ (10 ∷ [])) ∙ ap (λ (n : ℕ). length word + n) (length-append fs (10 ∷ []))

  pub first_put : (at b : ℕ) (o x y z : List ℕ) → x ≡ sets o at word → b ≡ length (fields_text widths (take (length s - 1) (drop 1 s)))
      → y ≡ sets x (at + length word) (fields_text widths (take (length s - 1) (drop 1 s)))
      → z ≡ set y (at + (length word + b)) 10 → (length word + b + 1 ≡ length (first_text s)) × (z ≡ sets o at (first_text s))
  unfolding fs
  first_put at b o x y z ex lb ey ez =
      let two = then_sets o word x y at (at + length word) ex refl fs ey in
      let place : at + (length word + b) ≡ at + length (word ++ fs) = omega (arith, lb, length-append word fs) in (
        omega (arith, lb, first_length),
        then_set o (word ++ fs) y z at (at + (length word + b)) two place 10 ez
            ∙ ap (sets o at) (append_assoc word fs (10 ∷ []) ∙ sym first_parts),
      )

-- a text of a record is short
pub first_short : (s : List ℕ) → 0 < len_by (form_of (get_or s 0 0)) (length s) → length (first_text s) ≤ 39
first_short s h =
    let k = get_or s 0 0 in
    let w = whole (form_of k) (length s) h in
    let l = whole_kind k (length s) h in
    let fs = fields_text (fields_by (form_of k)) (drop 1 s) in
    omega (
      arith,
      ap length (first_is s w.what w.is),
      length-append (word_by (form_of k)) (fs ++ (10 ∷ [])),
      length-append fs (10 ∷ []),
      word_short k l,
      fields_few k l,
      fields_short (fields_by (form_of k)) (drop 1 s),
    )

-- ---- records in turn

-- only as many records as bytes are read: more fuel changes nothing
on_same : (o : Option Form) (p : ℕ) (s : List ℕ) (f g : ℕ → List ℕ → Worded) → ((q : ℕ) (r : List ℕ) → length r ≤ length s → f q r ≡ g q r) → on_form o p s f ≡ on_form o p s g
on_same none p s f g h = refl
on_same (some a) p s f g h =
    ap (λ (u : Worded). cond (ltb (length s) (total a.fields)) (unworded 15 p) (then (record_text a s) u))
    (h (p + 1 + total a.fields) (drop (total a.fields) s) (omega (arith, length-drop (total a.fields) s)))

text_fuel : (n m p : ℕ) (s : List ℕ) → length s ≤ n → length s ≤ m → wording_from n p s ≡ wording_from m p s
unfolding wording_from
text_fuel zero zero p s h l = refl
text_fuel zero (suc m) p [] h l = refl
text_fuel zero (suc m) p (k ∷ s) h l = absurd (omega arith)
text_fuel (suc n) zero p [] h l = refl
text_fuel (suc n) zero p (k ∷ s) h l = absurd (omega arith)
text_fuel (suc n) (suc m) p [] h l = refl
text_fuel (suc n) (suc m) p (k ∷ s) h l =
    on_same (form_of k) p s (wording_from n) (wording_from m) (λ (q : ℕ) (r : List ℕ) (i : length r ≤ length s). text_fuel n m q r (omega arith) (omega arith))

pub text_start : (rs : List ℕ) → wording_at 0 rs ≡ wording_of rs
unfolding wording_at wording_of
text_start rs = let e : length rs - 0 ≡ length rs = omega arith in ap (λ (n : ℕ). wording_from n 0 rs) e

pub text_end_lem : (rs : List ℕ) (p : ℕ) → length rs ≤ p → wording_at p rs ≡ worded []
unfolding wording_at wording_from
text_end_lem rs p h = let e : length rs - p ≡ 0 = omega arith in ap (λ (n : ℕ). wording_from n p (drop p rs)) e

text_step_lem : (rs : List ℕ) (p : ℕ) → p < length rs
    → wording_at p rs ≡ on_form (form_of (get_or rs p 0)) p (drop (p + 1) rs) (wording_from (length rs - (p + 1)))
unfolding wording_at wording_from
text_step_lem rs p h =
    let e : length rs - p ≡ suc (length rs - (p + 1)) = omega arith in
    ap (λ (n : ℕ). wording_from n p (drop p rs)) e ∙ ap (wording_from (suc (length rs - (p + 1))) p) (drop_step rs p h)

on_bad : (o : Option Form) (p left : ℕ) (s : List ℕ) (f : ℕ → List ℕ → Worded) → left ≡ suc (length s) → len_by o left ≡ 0 → on_form o p s f ≡ unworded 15 p
on_bad none p left s f e h = refl
on_bad (some a) p left s f e h = go (ltb left (1 + total a.fields)) refl h
  where
    go : (t : Bool) → ltb left (1 + total a.fields) ≡ t → cond t 0 (1 + total a.fields) ≡ 0 → on_form (some a) p s f ≡ unworded 15 p
    go true q h =
        let l : left < 1 + total a.fields = ltb-true left (1 + total a.fields) q in
        ap (λ (t : Bool). cond t (unworded 15 p) (then (record_text a s) (f (p + 1 + total a.fields) (drop (total a.fields) s))))
        (lt-ltb (length s) (total a.fields) (omega arith))
    go false q h = absurd (omega arith)

on_good : (o : Option Form) (p left : ℕ) (s : List ℕ) (f : ℕ → List ℕ → Worded) → left ≡ suc (length s) → (w : Whole o left)
    → on_form o p s f ≡ then (text_by o s) (f (p + 1 + total w.what.fields) (drop (total w.what.fields) s))
on_good o p left s f e w =
    let a = w.what in
    ap (λ (x : Option Form). on_form x p s f) w.is
    ∙ ap (λ (t : Bool). cond t (unworded 15 p) (then (record_text a s) (f (p + 1 + total a.fields) (drop (total a.fields) s))))
    (le-ltb (length s) (total a.fields) (omega (arith, w.within)))
    ∙ ap (λ (x : Option Form). then (text_by x s) (f (p + 1 + total a.fields) (drop (total a.fields) s))) (sym w.is)

-- what is told goes on
pub flaw_then : (t : List ℕ) (u : Worded) → flaw_in (then t u) ≡ flaw_in u
flaw_then t (worded s) = refl
flaw_then t (unworded n p) = refl

pub text_then : (t : List ℕ) (u : Worded) → flaw_in u ≡ Ok tt → worded_text (then t u) ≡ t ++ worded_text u
text_then t (worded s) e = refl
text_then t (unworded n p) e = cc

-- ---- the answer

pub answer_start : (room : ℕ) (u : Worded) → text_answer room u ≡ answer_from 0 room u
unfolding fitted
answer_start room (worded t) = let e : 0 + length t ≡ length t = omega arith in rw e refl
answer_start room (unworded n p) = refl

pub answer_then : (at room : ℕ) (t : List ℕ) (u : Worded) → answer_from at room (then t u) ≡ answer_from (at + length t) room u
answer_then at room t (worded s) =
    let e : at + length (t ++ s) ≡ at + length t + length s = omega (arith, length-append t s) in rw e refl
answer_then at room t (unworded n p) = refl

pub answer_end : (at room : ℕ) → at ≤ room → answer_from at room (worded []) ≡ Ok at
answer_end at room h = let e : at + 0 ≡ at = add-zero at in rw (e, le-leb at room h) refl

pub answer_past_lem : (at room : ℕ) (u : Worded) → room < at → answer_from at room u ≡ answer_past (flaw_in u)
answer_past_lem at room (worded t) h = rw (lt-leb (at + length t) room (omega arith)) refl
answer_past_lem at room (unworded n p) h = refl

module _ (rs : List ℕ) (p n : ℕ) (h : p < length rs) (len : n ≡ len_by (form_of (get_or rs p 0)) (length rs - p)) where
  left_is : length rs - p ≡ suc (length (drop (p + 1) rs))
  left_is = omega (arith, length-drop (p + 1) rs)

  pub text_bad : n ≡ 0 → wording_at p rs ≡ unworded 15 p
  text_bad z = text_step_lem rs p h ∙ on_bad (form_of (get_or rs p 0)) p (length rs - p) (drop (p + 1) rs) _ left_is (sym len ∙ z)

  module _ (some' : n ≡ 0 → ⊥) where
    w : Whole (form_of (get_or rs p 0)) (length rs - p)
    w = whole (form_of (get_or rs p 0)) (length rs - p) (omega (arith, len, some'))

    pub text_within : (0 < n) × (p + n ≤ length rs)
    text_within = (omega (arith, some'), omega (arith, len, w.len, w.within))

    pub first_at : 0 < len_by (form_of (get_or (drop p rs) 0 0)) (length (drop p rs))
    first_at =
        let g : get_or (drop p rs) 0 0 ≡ get_or rs p 0 = get_or-drop p rs 0 0 ∙ ap (λ (k : ℕ). get_or rs k 0) (add-zero p) in
        rw (g, length-drop p rs) (omega (arith, len, some'))

    pub text_good : wording_at p rs ≡ then (first_text (drop p rs)) (wording_at (p + n) rs)
    unfolding first_text wording_at
    text_good =
        let t = total w.what.fields in
        let g : get_or (drop p rs) 0 0 ≡ get_or rs p 0 = get_or-drop p rs 0 0 ∙ ap (λ (k : ℕ). get_or rs k 0) (add-zero p) in
        let q : p + 1 + t ≡ p + n = omega (arith, len, w.len) in
        let d : drop t (drop (p + 1) rs) ≡ drop (p + n) rs = drop-drop t (p + 1) rs ∙ ap (λ (k : ℕ). drop k rs) q in
        text_step_lem rs p h
        ∙ on_good (form_of (get_or rs p 0)) p (length rs - p) (drop (p + 1) rs) (wording_from (length rs - (p + 1))) left_is w
        ∙ ap (λ (k : ℕ). then (text_by (form_of (get_or rs p 0)) (drop (p + 1) rs)) (wording_from (length rs - (p + 1)) k (drop t (drop (p + 1) rs)))) q
        ∙ ap (λ (s : List ℕ). then (text_by (form_of (get_or rs p 0)) (drop (p + 1) rs)) (wording_from (length rs - (p + 1)) (p + n) s)) d
        ∙ ap (then (text_by (form_of (get_or rs p 0)) (drop (p + 1) rs)))
        (text_fuel (length rs - (p + 1)) (length rs - (p + n)) (p + n) (drop (p + n) rs)
        (omega (arith, length-drop (p + n) rs, text_within.0)) (omega (arith, length-drop (p + n) rs)))
        ∙ ap (λ (k : ℕ). then (text_by (form_of k) (drop (p + 1) rs)) (wording_at (p + n) rs)) (sym g)
        ∙ ap (λ (s : List ℕ). then (text_by (form_of (get_or (drop p rs) 0 0)) s) (wording_at (p + n) rs)) (sym (drop-drop 1 p rs))

    -- what a callee is lent of the records from a place on
    good_from : wording_at p rs ≡ then (first_text (take (length rs - p) (drop p rs))) (wording_at (p + n) rs)
    good_from = text_good ∙ ap (λ (s : List ℕ). then (first_text s) (wording_at (p + n) rs)) (sym (part_from rs p))

    pub first_from_lem : 0 < len_by (form_of (get_or (take (length rs - p) (drop p rs)) 0 0)) (length (take (length rs - p) (drop p rs)))
    first_from_lem = subst (λ (s : List ℕ). 0 < len_by (form_of (get_or s 0 0)) (length s)) (sym (part_from rs p)) first_at

    pub flaw_on : flaw_in (wording_at (p + n) rs) ≡ flaw_in (wording_at p rs)
    flaw_on = sym (ap flaw_in text_good ∙ flaw_then (first_text (drop p rs)) (wording_at (p + n) rs))

    pub answer_on : (at room v : ℕ) (A : Result ℕ Refusal) → A ≡ answer_from at room (wording_at p rs) → v ≡ length (first_text (take (length rs - p) (drop p rs)))
        → A ≡ answer_from (at + v) room (wording_at (p + n) rs)
    answer_on at room v A inv e =
        inv
        ∙ ap (answer_from at room) good_from
        ∙ answer_then at room (first_text (take (length rs - p) (drop p rs))) (wording_at (p + n) rs)
        ∙ ap (λ (k : ℕ). answer_from (at + k) room (wording_at (p + n) rs)) (sym e)

    module _ (fine : flaw_in (wording_at p rs) ≡ Ok tt) (v : ℕ) (count : v ≡ length (first_text (take (length rs - p) (drop p rs)))) where
      text_on_lem : worded_text (wording_at p rs) ≡ first_text (take (length rs - p) (drop p rs)) ++ worded_text (wording_at (p + n) rs)
      text_on_lem = ap worded_text good_from ∙ text_then (first_text (take (length rs - p) (drop p rs))) (wording_at (p + n) rs) (flaw_on ∙ fine)

      pub length_on : length (worded_text (wording_at p rs)) ≡ v + length (worded_text (wording_at (p + n) rs))
      length_on =
          ap length text_on_lem
          ∙ length-append (first_text (take (length rs - p) (drop p rs))) (worded_text (wording_at (p + n) rs))
          ∙ ap (λ (k : ℕ). k + length (worded_text (wording_at (p + n) rs))) (sym count)

      pub sets_on : (at : ℕ) (out out' S : List ℕ) → sets out at (worded_text (wording_at p rs)) ≡ S → out' ≡ sets out at (first_text (take (length rs - p) (drop p rs)))
          → sets out' (at + v) (worded_text (wording_at (p + n) rs)) ≡ S
      sets_on at out out' S inv put =
          ap (λ (o : List ℕ). sets o (at + v) (worded_text (wording_at (p + n) rs))) put
          ∙ ap (λ (k : ℕ). sets (sets out at (first_text (take (length rs - p) (drop p rs)))) (at + k) (worded_text (wording_at (p + n) rs))) count
          ∙ sets_append (first_text (take (length rs - p) (drop p rs))) (worded_text (wording_at (p + n) rs)) out at
          ∙ ap (sets out at) (sym text_on_lem)
          ∙ inv

-- ---- the whole

-- no record's text is more than six times as long as it
six_by : (k : ℕ) → k ≤ 7 → length (word_by (form_of k)) + (6 * length (fields_by (form_of k)) + 1) ≤ 6 * (1 + total (fields_by (form_of k)))
unfolding form_of forms bytes total
six_by =
    eight (λ (k : ℕ). length (word_by (form_of k)) + (6 * length (fields_by (form_of k)) + 1) ≤ 6 * (1 + total (fields_by (form_of k))))
    (omega arith) (omega arith) (omega arith) (omega arith) (omega arith) (omega arith) (omega arith) (omega arith)

record_six : (k : ℕ) (f : Form) (s : List ℕ) → form_of k ≡ some f → length (record_text f s) ≤ 6 * (1 + total f.fields)
record_six k f s e =
    let b : length f.word + (6 * length f.fields + 1) ≤ 6 * (1 + total f.fields) =
    subst (λ (o : Option Form). length (word_by o) + (6 * length (fields_by o) + 1) ≤ 6 * (1 + total (fields_by o))) e (six_by k (form_small k f e)) in
    omega (
      arith,
      b,
      length-append f.word (fields_text f.fields s ++ (10 ∷ [])),
      length-append (fields_text f.fields s) (10 ∷ []),
      fields_short f.fields s,
    )

then_length : (t : List ℕ) (u : Worded) → length (worded_text (then t u)) ≤ length t + length (worded_text u)
then_length t (worded s) = omega (arith, length-append t s)
then_length t (unworded n p) = omega arith

on_six : (k p : ℕ) (s : List ℕ) (f : ℕ → List ℕ → Worded) (o : Option Form) → form_of k ≡ o → ((q : ℕ) (r : List ℕ) → length (worded_text (f q r)) ≤ 6 * length r)
    → length (worded_text (on_form o p s f)) ≤ 6 * suc (length s)
on_six k p s f none e h = omega arith
on_six k p s f (some g) e h = go (ltb (length s) (total g.fields)) refl
  where
    go : (b : Bool) → ltb (length s) (total g.fields) ≡ b
        → length (worded_text (cond b (unworded 15 p) (then (record_text g s) (f (p + 1 + total g.fields) (drop (total g.fields) s))))) ≤ 6 * suc (length s)
    go true i = omega arith
    go false i =
        omega (
          arith,
          then_length (record_text g s) (f (p + 1 + total g.fields) (drop (total g.fields) s)),
          record_six k g s e,
          h (p + 1 + total g.fields) (drop (total g.fields) s),
          length-drop (total g.fields) s,
          ltb-false (length s) (total g.fields) i,
        )

text_six : (n p : ℕ) (s : List ℕ) → length (worded_text (wording_from n p s)) ≤ 6 * length s
unfolding wording_from
text_six zero p s = omega arith
text_six (suc n) p [] = omega arith
text_six (suc n) p (k ∷ s) = on_six k p s (wording_from n) (form_of k) refl (text_six n)

pub text_of_six : (s : List ℕ) → length (worded_text (wording_of s)) ≤ 6 * length s
unfolding wording_of
text_of_six s = text_six (length s) 0 s

-- what hinders: with six times as much room only a bad record does
pub short_fits : (room : ℕ) (rs : List ℕ) → length rs ≤ room / 6 → flaw_in (wording_at 0 rs) ≡ hindrance_by (text_answer room (wording_of rs))
short_fits room rs h = ap flaw_in (text_start rs) ∙ go (wording_of rs) (text_of_six rs)
  where
    go : (u : Worded) → length (worded_text u) ≤ 6 * length rs → flaw_in u ≡ hindrance_by (text_answer room u)
    go (worded t) l = sym (ap hindrance_by (fitted_room room t (omega arith)))
    go (unworded n p) l = refl

-- nothing hinders: the records are good, the text fits, and its length is the answer
pub fine_fits : (room : ℕ) (u : Worded) → Ok tt ≡ hindrance_by (text_answer room u)
    → (flaw_in u ≡ Ok tt) × (length (worded_text u) ≤ room) × (Ok (length (worded_text u)) ≡ text_answer room u)
unfolding fitted
fine_fits room (worded t) h = go (leb (length t) room) refl h
  where
    go : (b : Bool) → leb (length t) room ≡ b → Ok tt ≡ hindrance_by (cond b (Ok (length t)) (Err (refusal_at 19 0)))
        → (◌≡◌ {A = Result Unit Refusal} (Ok tt) (Ok tt)) × (length t ≤ room) × (Ok (length t) ≡ cond b (Ok (length t)) (Err (refusal_at 19 0)))
    go true e q = (refl, leb-true (length t) room e, refl)
    go false e q = let z : ◌≡◌ {A = ℕ} 0 1 = cc in absurd (omega arith)
fine_fits room (unworded k p) h = let z : ◌≡◌ {A = ℕ} 0 1 = cc in absurd (omega arith)

pub flawed_refused : (a : Result ℕ Refusal) (n p : ℕ) → Err (refusal_at n p) ≡ hindrance_by a → Err (refusal_at n p) ≡ a
flawed_refused (Ok m) n p h = cc
flawed_refused (Err e) n p h = cc

pub room_filled : (out : List ℕ) (u : Worded) → flaw_in u ≡ Ok tt → length (worded_text u) ≤ length out → sets out 0 (worded_text u) ≡ text_room out u
room_filled out (worded t) e h = filled_sets out t h
room_filled out (unworded k p) e h = refl

pub room_refused : (out : List ℕ) (u : Worded) (n p : ℕ) → Err (refusal_at n p) ≡ text_answer (length out) u → out ≡ text_room out u
unfolding fitted filled
room_refused out (worded t) n p h = go (leb (length t) (length out)) h
  where
    go : (b : Bool) → Err (refusal_at n p) ≡ cond b (Ok (length t)) (Err (refusal_at 19 0)) → out ≡ cond b (room'.wrote out t) out
    go true h = let z : ◌≡◌ {A = ℕ} 0 1 = cc in absurd (omega arith)
    go false h = refl
room_refused out (unworded k q) n p h = refl
