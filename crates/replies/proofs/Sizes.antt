-- How many bytes of records a reply can have: three for each byte but 26, so that 196,579 bytes of room are enough for any. Assumes nothing.
use Prim.Native.Nat.{ℕ, ◌+◌, ◌-◌, ◌*◌, ◌<◌, ◌≤◌}
use mathlib.Core.Path.{◌≡◌, refl, sym, ap, ◌∙◌}
use mathlib.Core.List.{List, [], ◌∷◌, ◌++◌, map}
use mathlib.Core.Bool.{Bool, true, false, cond}
use native.Mathlib.Omega.{arith}
use borrow.Author.Tests.{le-leb, ltb-false}
use lib.ListN.{length, drop, length-append, length-drop}
use lib.Seq.{drop_at, length-take-le}
use lib.Dec.{eqb, leb, ltb}
use Rattle.text.specs.Room.{fitted}
use Rattle.text.proofs.Tests.{no_case}
use Rattle.forms.specs.Forms.{is_name}
use Rattle.replies.specs.declared.Form.{Form}
use Rattle.replies.specs.declared.Form.TheVariants.{Nothing, Item, Group, Close, End, Wrong, Open}
use Rattle.replies.specs.Lines.{is_keyword, line_ends, end_len, form_of, text_len, line_len, Line, line_at, is_last, lines_from, lines_of}
use Rattle.replies.specs.Order.{judge, judged, on_turn, flawed}
use Rattle.replies.specs.Reading.{turn_by, turn_of, record_by, record_of, records_of, verdict_of, read_answer}
use Rattle.replies.proofs.Fronts.{end_within}
use Rattle.replies.proofs.LineLaws.{lines_step, text_within, line_within}
use Rattle.replies.proofs.Forms.{Row, nothing, item, group, close, end, wrong, open', row_of}
use Rattle.replies.proofs.TurnLaws.{flawed_fine}
use Rattle.replies.proofs.Refusals.{verdict_is}
use Rattle.replies.proofs.Says.{cut_of, end_some, on_read, cons_head, cons_tail, lines_some}
use Rattle.std.proofs.Common.{Result, Ok, Err}
use Rattle.text.specs.declared.Refusal.{Refusal}

-- a keyword has a byte
keyword_some : (k : List ℕ) → is_keyword k ≡ true → 0 < length k
unfolding is_keyword is_name
keyword_some [] h = no_case (sym h)
keyword_some (b ∷ k) h = omega arith

-- what a form's records have at most, where at least one byte of an end follows
abbrev Cost : Form → ℕ → Type 0
Cost f e = (p : ℕ) → 0 < e → length (record_by p f) ≤ 3 * (text_len f + e)

row_cost : (s : List ℕ) (f : Form) → Row s f → is_last f ≡ false → (e : ℕ) → Cost f e
row_cost _ _ (nothing t r c a z) o e p h = omega arith
row_cost _ _ (item k v r h w z) o e p b = omega (arith, keyword_some k h)
row_cost _ _ (group n r h z) o e p b = omega arith
row_cost _ _ (close r z) o e p b = omega arith
row_cost _ _ (end r z) o e p b = no_case o
row_cost _ _ (wrong s) o e p b = no_case o
row_cost _ _ (open' s) o e p b = no_case o

-- a line with more after it has an end
end_more : (s : List ℕ) → is_last (form_of s) ≡ false → 0 < length (drop (line_len s) s) → 0 < end_len (drop (text_len (form_of s)) s)
unfolding line_len
end_more s o h =
    let m = text_len (form_of s) in
    let c = cut_of s (on_read (form_of s) o) in
    let t = drop m s in
    let d : t ≡ c.rest = ap (drop m) c.all ∙ drop_at c.text c.rest m c.size in
    let b : 0 < length t = omega (arith, h, length-drop m s, length-drop (m + end_len t) s) in
    omega (arith, end_some t (ap line_ends d ∙ c.ended) b, length-take-le (end_len t) t (end_within t))

line_cost : (p : ℕ) (s : List ℕ) → is_last (form_of s) ≡ false → 0 < length (drop (line_len s) s) → length (record_by p (form_of s)) ≤ 3 * line_len s
unfolding line_len
line_cost p s o h = row_cost s (form_of s) (row_of s) o (end_len (drop (text_len (form_of s)) s)) p (end_more s o h)

-- ---- line by line, up to `endoutput`, which has nine bytes and a record of one

none_cost : length (records_of []) ≡ 0
unfolding records_of
none_cost = refl

-- the lines after the first one, where one of them ends the reply, pay for themselves
abbrev Paid : (e p : ℕ) (s : List ℕ) (ls : List Line) → Type 0
Paid e p s ls = (d : ℕ) → lines_from 0 p s ≡ ls → judge d e (map turn_of ls) ≡ Ok tt → length (records_of ls) + 26 ≤ 3 * length s

module _ (d e p : ℕ) (s : List ℕ) (ls : List Line) (ih : Paid e (p + line_len s) (drop (line_len s) s) ls) where
  on : (f : Form) → form_of s ≡ f → is_last f ≡ false → (n : ℕ) → lines_from 0 (p + line_len s) (drop (line_len s) s) ≡ ls → judge n e (map turn_of ls) ≡ Ok tt
      → length (record_by p f ++ records_of ls) + 26 ≤ 3 * length s
  on f y o n t v =
      let j = line_len s in
      let i = ih n t v in
      let c = line_cost p s (ap is_last y ∙ o) (omega (arith, i)) in
      omega (arith, i, c, ap (λ (g : Form). length (record_by p g)) y, length-append (record_by p f) (records_of ls), length-drop j s, line_within s)

  first : (f : Form) → form_of s ≡ f → cond (is_last f) [] (lines_from 0 (p + line_len s) (drop (line_len s) s)) ≡ ls
      → on_turn (turn_by f) d e p flawed (Ok tt) (λ n. judge n e (map turn_of ls)) ≡ Ok tt → length (record_by p f ++ records_of ls) + 26 ≤ 3 * length s
  first (Nothing n) y t v = on (Nothing n) y refl d t v
  first (Item k w) y t v = on (Item k w) y refl d t v
  first (Group n) y t v = go (leb 8 d) v
    where
      go : (b : Bool) → cond b (flawed 23 p) (judge (d + 1) e (map turn_of ls)) ≡ Ok tt → length (record_by p (Group n) ++ records_of ls) + 26 ≤ 3 * length s
      go true v = flawed_fine 23 p v
      go false v = on (Group n) y refl (d + 1) t v
  first Close y t v = go (eqb d 0) v
    where
      go : (b : Bool) → cond b (flawed 22 p) (judge (d - 1) e (map turn_of ls)) ≡ Ok tt → length (record_by p Close ++ records_of ls) + 26 ≤ 3 * length s
      go true v = flawed_fine 22 p v
      go false v = on Close y refl (d - 1) t v
  first End y t v = omega (arith, ap (λ (k : List Line). length (records_of k)) (sym t), none_cost, text_within s, ap text_len y)
  first Wrong y t v = flawed_fine 21 p v
  first Open y t v = flawed_fine 25 e v

sized : (ls : List Line) (e p : ℕ) (s : List ℕ) → Paid e p s ls
unfolding judge records_of
sized [] e p s d h f = flawed_fine 25 e f
sized (l ∷ ls) e p s d h f =
    let b = lines_some p s [] l ls h in
    let rest = cond (is_last (form_of s)) [] (lines_from 0 (p + line_len s) (drop (line_len s) s)) in
    let step = sym (lines_step p s b) ∙ h in
    let z : line_at p s ≡ l = cons_head (line_at p s) l rest ls step in
    let v = ap (λ (k : Line). judge d e (map turn_of (k ∷ ls))) z ∙ f in
    let r = first d e p s ls (sized ls e (p + line_len s) (drop (line_len s) s)) (form_of s) refl (cons_tail (line_at p s) l rest ls step) v in
    omega (arith, r, ap (λ (k : Line). length (record_of k ++ records_of ls)) z)

-- ---- the theorems

-- a reply that is accepted has at most 65,535 bytes
accepted_short : (s : List ℕ) → verdict_of s ≡ Ok tt → length s ≤ 65535
unfolding verdict_of
accepted_short s h = go (ltb 65535 (length s)) refl h
  where
    go : (b : Bool) → ltb 65535 (length s) ≡ b → cond b (flawed 21 0) (judge 0 (length s) (map turn_of (lines_of s))) ≡ Ok tt → length s ≤ 65535
    go true z v = flawed_fine 21 0 v
    go false z v = ltb-false 65535 (length s) z

-- and its records three times its bytes but 26: `endoutput` alone has nine bytes and a record of one
pub records_within : (s : List ℕ) → verdict_of s ≡ Ok tt → length (records_of (lines_of s)) + 26 ≤ 3 * length s
unfolding lines_of
records_within s h =
    let k = accepted_short s h in
    sized (lines_from 0 0 s) (length s) 0 s 0 refl (sym (verdict_is s k) ∙ h)

-- so 196,579 bytes of room are enough for any reply: 19 is never the answer
pub room_enough : (room : ℕ) (s : List ℕ) → 196579 ≤ room → read_answer room s ≡ judged (verdict_of s) (Ok (length (records_of (lines_of s))))
unfolding read_answer fitted
room_enough room s h = go (verdict_of s) refl
  where
    go : (v : Result Unit Refusal) → verdict_of s ≡ v → judged v (fitted room (records_of (lines_of s))) ≡ judged v (Ok (length (records_of (lines_of s))))
    go (Ok u) z = rw (le-leb (length (records_of (lines_of s))) room (omega (arith, records_within s z, accepted_short s z, h)))
    go (Err e) z = refl
