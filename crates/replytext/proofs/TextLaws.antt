-- The text of a reply's record, number by number. Assumes nothing.
use Prim.Native.Nat.{ℕ, suc, ◌+◌, ◌-◌, ◌<◌, ◌≤◌}
use mathlib.Core.Path.{◌≡◌, refl, sym, ap, ◌∙◌}
use mathlib.Core.List.{List, [], ◌∷◌, ◌++◌, append_assoc}
use mathlib.Core.Bool.{Bool, true, false, cond}
use mathlib.Core.Option.{Option, none}
use native.Mathlib.Omega.{arith}
use borrow.Author.Tests.{le-leb, lt-leb, ltb-false}
use lib.ListN.{length, get_or, take, drop, set, get_or-eq_default}
use lib.Seq.{sets}
use lib.Dec.{ltb}
use Rattle.text.specs.Bytes.{bytes}
use Rattle.text.specs.Decimal.{digits}
use Rattle.text.specs.Room.{be16}
use Rattle.text.proofs.Decimals.{length_digits, width_between}
use Rattle.text.proofs.Slices.{part_from}
use Rattle.text.proofs.Writes.{sets_append}
use Rattle.words.specs.Words.{reply_record_len}
use Rattle.wording.specs.Words.{Form, fields_text}
use Rattle.replytext.specs.Text.{reply_forms, reply_form, text_by, reply_text, numbers_text, numbers_line, line_by}

-- a space and a number
abbrev pub number : ℕ → ℕ → List ℕ
number h l = 32 ∷ digits (be16 h l)

-- ---- a record's numbers

nine : (P : List ℕ → Type 0) → ((k a b c d e f g h : ℕ) (s : List ℕ) → P (k ∷ a ∷ b ∷ c ∷ d ∷ e ∷ f ∷ g ∷ h ∷ s)) → (r : List ℕ) → 9 ≤ length r → P r
nine P q [] l = absurd (omega arith)
nine P q (k ∷ []) l = absurd (omega arith)
nine P q (k ∷ a ∷ []) l = absurd (omega arith)
nine P q (k ∷ a ∷ b ∷ []) l = absurd (omega arith)
nine P q (k ∷ a ∷ b ∷ c ∷ []) l = absurd (omega arith)
nine P q (k ∷ a ∷ b ∷ c ∷ d ∷ []) l = absurd (omega arith)
nine P q (k ∷ a ∷ b ∷ c ∷ d ∷ e ∷ []) l = absurd (omega arith)
nine P q (k ∷ a ∷ b ∷ c ∷ d ∷ e ∷ f ∷ []) l = absurd (omega arith)
nine P q (k ∷ a ∷ b ∷ c ∷ d ∷ e ∷ f ∷ g ∷ []) l = absurd (omega arith)
nine P q (k ∷ a ∷ b ∷ c ∷ d ∷ e ∷ f ∷ g ∷ h ∷ s) l = q k a b c d e f g h s

five : (P : List ℕ → Type 0) → ((k a b c d : ℕ) (s : List ℕ) → P (k ∷ a ∷ b ∷ c ∷ d ∷ s)) → (r : List ℕ) → 5 ≤ length r → P r
five P q [] l = absurd (omega arith)
five P q (k ∷ []) l = absurd (omega arith)
five P q (k ∷ a ∷ []) l = absurd (omega arith)
five P q (k ∷ a ∷ b ∷ []) l = absurd (omega arith)
five P q (k ∷ a ∷ b ∷ c ∷ []) l = absurd (omega arith)
five P q (k ∷ a ∷ b ∷ c ∷ d ∷ s) l = q k a b c d s

pub item_is : (r : List ℕ) → 9 ≤ length r → line_by (bytes "item") (take 8 (drop 1 r)) ≡ text_by (reply_form 64) (drop 1 r)
unfolding reply_form reply_forms fields_text numbers_text bytes
item_is = nine (λ (r : List ℕ). line_by (bytes "item") (take 8 (drop 1 r)) ≡ text_by (reply_form 64) (drop 1 r)) (λ k a b c d e f g h s. refl)

pub group_is : (r : List ℕ) → 5 ≤ length r → line_by (bytes "group") (take 4 (drop 1 r)) ≡ text_by (reply_form 65) (drop 1 r)
unfolding reply_form reply_forms fields_text numbers_text bytes
group_is = five (λ (r : List ℕ). line_by (bytes "group") (take 4 (drop 1 r)) ≡ text_by (reply_form 65) (drop 1 r)) (λ k a b c d s. refl)

-- ---- written one after another

pub step : (o n rest : List ℕ) (w v : ℕ) (o' : List ℕ) → o' ≡ sets o w n → v ≡ w + length n → sets o w (n ++ rest) ≡ sets o' v rest
step o n rest w v o' e q = sym (sets_append n rest o w) ∙ rw (e, q)

-- ---- by kind

module _ (r : List ℕ) (k : ℕ) (is : get_or r 0 0 ≡ k) where
  pub cut_text_lem : length r < reply_record_len k → [] ≡ reply_text r
  unfolding reply_text
  cut_text_lem h = rw (is, lt-leb (reply_record_len k) (length r) h)

  pub whole_text : reply_record_len k ≤ length r → text_by (reply_form k) (drop 1 r) ≡ reply_text r
  unfolding reply_text
  whole_text h = rw (is, le-leb (reply_record_len k) (length r) h)

pub no_text : (r : List ℕ) → length r ≡ 0 → [] ≡ reply_text r
unfolding reply_text reply_form reply_forms
no_text [] h = refl
no_text (b ∷ r) h = absurd (omega arith)

pub none_text : (r : List ℕ) (k : ℕ) → (k ≡ 64 → ⊥) → (k ≡ 65 → ⊥) → (k ≡ 66 → ⊥) → (k ≡ 67 → ⊥) → text_by (reply_form k) r ≡ []
unfolding reply_form reply_forms
none_text r k a b c d = go (ltb k 64) refl
  where
    go : (t : Bool) → ltb k 64 ≡ t → text_by (cond t none (get_or reply_forms (k - 64) none)) r ≡ []
    go true e = refl
    go false e =
        let h = ltb-false k 64 e in
        let z : 3 < k - 64 = omega arith in
        ap (λ (o : Option Form). text_by o r) (get_or-eq_default reply_forms none z)

-- a number, as the code writes it
pub number_put : (o o' o'' : List ℕ) (at h l n r : ℕ) → o' ≡ set o at 32 → n ≡ be16 h l → r ≡ length (digits n) → o'' ≡ sets o' (at + 1) (digits n)
    → (at + 1 + r ≡ at + length (number h l)) × (o'' ≡ sets o at (number h l)) × (at + 1 + r ≤ at + 6)
number_put o o' o'' at h l n r e q s t =
    let z : digits n ≡ digits (be16 h l) = ap digits q in
    let k : at + 1 ≡ suc at = omega arith in (
      omega (arith, s, ap length z),
      t ∙ ap (λ (d : List ℕ). sets o' (at + 1) d) z ∙ ap (λ (i : ℕ). sets o' i (digits (be16 h l))) k ∙ ap (λ (m : List ℕ). sets m (suc at) (digits (be16 h l))) e,
      omega (arith, s, length_digits n, (width_between n).1),
    )

-- one number more of a line, and its end
pub numbers_on : (s : List ℕ) → 2 ≤ length s → numbers_line s ≡ number (get_or s 0 0) (get_or s 1 0) ++ numbers_line (take (length s - 2) (drop 2 s))
unfolding numbers_text
numbers_on [] h = absurd (omega arith)
numbers_on (b ∷ []) h = absurd (omega arith)
numbers_on (b ∷ c ∷ s) h =
    ap (λ (l : List ℕ). 32 ∷ l) (append_assoc (digits (be16 b c)) (numbers_text s) (10 ∷ []))
    ∙ sym (ap (λ (l : List ℕ). number b c ++ numbers_line l) (part_from (b ∷ c ∷ s) 2))

pub numbers_end : (s : List ℕ) → length s < 2 → numbers_line s ≡ 10 ∷ []
unfolding numbers_text
numbers_end [] h = refl
numbers_end (b ∷ []) h = refl
numbers_end (b ∷ c ∷ s) h = absurd (omega arith)
