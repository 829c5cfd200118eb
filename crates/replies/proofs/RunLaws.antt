-- Reading line by line: a line and what is left after it, the whole, and what the verdict makes of it. Assumes nothing.
use Prim.Native.Nat.{ℕ, ◌+◌, ◌-◌, ◌*◌, ◌<◌, ◌≤◌}
use mathlib.Core.Path.{◌≡◌, refl, sym, ap, ◌∙◌}
use mathlib.Core.List.{List, [], ◌∷◌}
use mathlib.Core.Bool.{false, cond}
use native.Mathlib.Nat.{add-zero}
use native.Mathlib.Omega.{arith}
use borrow.Author.Tests.{eq-eqb, ne_eqb, le-leb, lt-leb}
use lib.ListN.{length, take, drop, set, length-drop, drop_of_length-le}
use lib.Seq.{sets, drop-drop}
use Rattle.text.proofs.Slices.{part_from}
use Rattle.replies.specs.declared.Form.{Form}
use Rattle.replies.specs.declared.Form.TheVariants.{Nothing, Item, Group, Close, End, Wrong, Open}
use Rattle.replies.specs.Lines.{end_len, form_of, text_len, line_len, Line, is_last, lines_from}
use Rattle.replies.specs.Order.{on_turn}
use Rattle.replies.specs.Reading.{turn_by, record_by}
use Rattle.replies.specs.declared.Step.TheVariants as steps
use Rattle.replies.specs.declared.Stand.{Stand}
use Rattle.replies.specs.declared.Stand.TheVariants as stands
use Rattle.replies.specs.Steps.{ran, run, run_at, Ahead}
use Rattle.replies.proofs.LineLaws.{text_within, line_within, line_on, lines_step}
use Rattle.std.proofs.Common.{Ok, Err}
use Rattle.text.specs.Room.{refusal_at}

-- the form that the code saw
pub seen : (s : List ℕ) (at : ℕ) (r : Form) → r ≡ form_of (take (length s - at) (drop at s)) → {f : Form} → r ≡ f → form_of (drop at s) ≡ f
seen s at r e q = sym (ap form_of (part_from s at)) ∙ sym e ∙ q

-- ---- one line: f is its form, its text ends at p, and the next line begins at q

module _ (s : List ℕ) (at d w : ℕ) (room : List ℕ) (h : at < length s) (f : Form) (p q : ℕ) (form : form_of (drop at s) ≡ f) (ends : p ≡ at + text_len f)
    (next : q ≡ p + end_len (drop p s)) where
  some : 0 < length (drop at s)
  some = omega (arith, length-drop at s)

  -- its length, as the lines have it
  size : line_len (drop at s) ≡ text_len f + end_len (drop p s)
  unfolding line_len
  size =
      ap (λ (g : Form). text_len g + end_len (drop (text_len g) (drop at s))) form
      ∙ ap (λ (l : List ℕ). text_len f + end_len l) (drop-drop (text_len f) at s ∙ ap (λ (k : ℕ). drop k s) (sym ends))

  on : at + line_len (drop at s) ≡ q
  on = omega (arith, size)

  pub line_run : run_at s at d w room ≡
      on_turn (turn_by f) d (length s) at (λ n k. ran (Err (refusal_at n k)) room) (ran (Ok (w + length (record_by at f))) (sets room w (record_by at f)))
      (λ n. run n (length s) (w + length (record_by at f)) (sets room w (record_by at f)) (cond (is_last f) [] (lines_from 0 q (drop q s))))
  unfolding run
  line_run =
      ap (run d (length s) w room) (lines_step at (drop at s) some)
      ∙ ap (λ (l : List Line). run d (length s) w room (record { place = at; text = take (text_len (form_of (drop at s))) (drop at s); form = form_of (drop at s) } ∷ cond (is_last (form_of (drop at s))) [] l))
      (ap (lines_from 0 (at + line_len (drop at s))) (drop-drop (line_len (drop at s)) at s) ∙ ap (λ (k : ℕ). lines_from 0 k (drop k s)) on)
      ∙ ap (λ (g : Form). run d (length s) w room (record { place = at; text = take (text_len g) (drop at s); form = g } ∷ cond (is_last g) [] (lines_from 0 q (drop q s)))) form

  pub text_ends : p ≤ length s
  text_ends = omega (arith, text_within (drop at s), ap text_len form, length-drop at s)

  pub goes_on_lem : is_last f ≡ false → (at < q) × (q ≤ length s)
  goes_on_lem l =
      let a = line_on (drop at s) some (ap is_last form ∙ l) in
      let b = line_within (drop at s) in
      (omega (arith, on), omega (arith, on, length-drop at s))

-- ---- by its form: w' bytes of records then stand in room'

module _ (s : List ℕ) (at d w : ℕ) (room : List ℕ) (h : at < length s) where
  -- lines after which more is read
  module _ (p q w' : ℕ) (room' : List ℕ) (next : q ≡ p + end_len (drop p s)) where
    pub nothing_run : (n : ℕ) → form_of (drop at s) ≡ Nothing n → p ≡ at + n → run_at s at d w room ≡ run_at s q d w room
    nothing_run n e x = line_run s at d w room h (Nothing n) p q e x next ∙ ap (λ (k : ℕ). run_at s q d k room) (add-zero w)

    pub item_run : (k v : ℕ) → form_of (drop at s) ≡ Item k v → p ≡ at + (k + 1 + v) → w' ≡ w + length (record_by at (Item k v)) → room' ≡ sets room w (record_by at (Item k v))
        → run_at s at d w room ≡ run_at s q d w' room'
    item_run k v e x y z = line_run s at d w room h (Item k v) p q e x next ∙ rw (y, z)

    pub group_run : (n : ℕ) → form_of (drop at s) ≡ Group n → p ≡ at + (11 + n) → d < 8 → w' ≡ w + length (record_by at (Group n)) → room' ≡ sets room w (record_by at (Group n))
        → run_at s at d w room ≡ run_at s q (d + 1) w' room'
    group_run n e x l y z = line_run s at d w room h (Group n) p q e x next ∙ rw (lt-leb 8 d l, y, z)

    pub close_run : form_of (drop at s) ≡ Close → p ≡ at + 8 → (d ≡ 0 → ⊥) → w' ≡ w + 1 → room' ≡ set room w 66 → run_at s at d w room ≡ run_at s q (d - 1) w' room'
    close_run e x l y z = line_run s at d w room h Close p q e x next ∙ rw (ne_eqb d 0 l, y, z)

  -- lines that are the last
  module _ (f : Form) (e : form_of (drop at s) ≡ f) where
    last : run_at s at d w room ≡
        on_turn (turn_by f) d (length s) at (λ n k. ran (Err (refusal_at n k)) room) (ran (Ok (w + length (record_by at f))) (sets room w (record_by at f)))
        (λ n. run n (length s) (w + length (record_by at f)) (sets room w (record_by at f)) (cond (is_last f) [] (lines_from 0 (at + text_len f + end_len (drop (at + text_len f) s)) (drop (at + text_len f + end_len (drop (at + text_len f) s)) s))))
    last = line_run s at d w room h f (at + text_len f) (at + text_len f + end_len (drop (at + text_len f) s)) e refl refl

  pub deep_run : (n : ℕ) → form_of (drop at s) ≡ Group n → 8 ≤ d → run_at s at d w room ≡ ran (Err (refusal_at 23 at)) room
  deep_run n e l = last (Group n) e ∙ rw (le-leb 8 d l)

  pub lone_run : form_of (drop at s) ≡ Close → d ≡ 0 → run_at s at d w room ≡ ran (Err (refusal_at 22 at)) room
  lone_run e l = last Close e ∙ rw (eq-eqb d 0 l)

  pub end_run : (w' : ℕ) (room' : List ℕ) → form_of (drop at s) ≡ End → d < 1 → w' ≡ w + 1 → room' ≡ set room w 67 → run_at s at d w room ≡ ran (Ok w') room'
  end_run w' room' e l y z = last End e ∙ rw (eq-eqb d 0 (omega (arith, l)), y, z)

  pub early_run : form_of (drop at s) ≡ End → 1 ≤ d → run_at s at d w room ≡ ran (Err (refusal_at 24 at)) room
  early_run e l = last End e ∙ rw (ne_eqb d 0 (λ z. omega (arith, l, z)))

  pub wrong_run : form_of (drop at s) ≡ Wrong → run_at s at d w room ≡ ran (Err (refusal_at 21 at)) room
  wrong_run e = last Wrong e

  pub open_run : form_of (drop at s) ≡ Open → run_at s at d w room ≡ ran (Err (refusal_at 25 (length s))) room
  open_run e = last Open e

-- ---- by the form r that the code saw: what it does is what the line asks for, and leads where it may

module _ (s : List ℕ) (at d w : ℕ) (room : List ℕ) (g : (length s ≤ 65535) × (at < length s) × (w ≤ 9 * at)) (r : Form) (e : r ≡ form_of (take (length s - at) (drop at s))) where
  -- its text lies within the text
  pub fits : {f : Form} → r ≡ f → at + text_len f ≤ length s
  fits {f} i = text_ends s at d w room g.1 f (at + text_len f) _ (seen s at r e i) refl refl

  -- the next line begins at q, w' bytes of records then stand in room'
  module _ (q w' : ℕ) (room' : List ℕ) where
    -- p is where the text ends
    module _ (f : Form) (p : ℕ) (i : r ≡ f) (ends : p ≡ at + text_len f) (next : q ≡ p + end_len (drop p s)) (l : is_last f ≡ false) where
      onward : (at < q) × (q ≤ length s)
      onward = goes_on_lem s at d w room g.1 f p q (seen s at r e i) ends next l

    pub item_on : (k v : ℕ) → r ≡ Item k v → q ≡ at + k + 1 + v + end_len (drop (at + k + 1 + v) s) → w' ≡ w + length (record_by at (Item k v)) → room' ≡ sets room w (record_by at (Item k v))
        → (run_at s at d w room ≡ run_at s q d w' room') × Ahead s at d (Ok (steps.Next q w'))
    item_on k v i next y z =
        let p : at + k + 1 + v ≡ at + (k + 1 + v) = omega arith in
        let o = onward (Item k v) (at + k + 1 + v) i p next refl in
        (item_run s at d w room g.1 (at + k + 1 + v) q w' room' next k v (seen s at r e i) p y z, (o.0, o.1, omega (arith, y)))

    pub group_on : (n : ℕ) → r ≡ Group n → q ≡ at + 11 + n + end_len (drop (at + 11 + n) s) → d < 8 → w' ≡ w + length (record_by at (Group n)) → room' ≡ sets room w (record_by at (Group n))
        → (run_at s at d w room ≡ run_at s q (d + 1) w' room') × Ahead s at d (Ok (steps.Opened q w'))
    group_on n i next l y z =
        let p : at + 11 + n ≡ at + (11 + n) = omega arith in
        let o = onward (Group n) (at + 11 + n) i p next refl in
        (group_run s at d w room g.1 (at + 11 + n) q w' room' next n (seen s at r e i) p l y z, (o.0, o.1, omega (arith, y), l))

    pub close_on : r ≡ Close → q ≡ at + 8 + end_len (drop (at + 8) s) → (d ≡ 0 → ⊥) → w' ≡ w + 1 → room' ≡ set room w 66
        → (run_at s at d w room ≡ run_at s q (d - 1) w' room') × Ahead s at d (Ok (steps.Shut q w'))
    close_on i next l y z =
        let o = onward Close (at + 8) i refl next refl in
        (close_run s at d w room g.1 (at + 8) q w' room' next (seen s at r e i) refl l y z, (o.0, o.1, omega (arith, y), omega arith))

  pub nothing_on : (n q : ℕ) → r ≡ Nothing n → q ≡ at + n + end_len (drop (at + n) s) → (run_at s at d w room ≡ run_at s q d w room) × Ahead s at d (Ok (steps.Next q w))
  nothing_on n q i next =
      let o = onward q w room (Nothing n) (at + n) i refl next refl in
      (nothing_run s at d w room g.1 (at + n) q w room next n (seen s at r e i) refl, (o.0, o.1, omega arith))

-- ---- past the text

pub run_past : (s : List ℕ) (at d w : ℕ) (room : List ℕ) → length s ≤ at → run_at s at d w room ≡ ran (Err (refusal_at 25 (length s))) room
unfolding run lines_from
run_past s at d w room h = ap (λ (l : List ℕ). run d (length s) w room (lines_from 0 at l)) (drop_of_length-le s h)

-- ---- a group's lines

-- where a group's lines have led so far
abbrev pub Reached : List ℕ → ℕ → ℕ → Stand → Type 0
Reached s at d (stands.Next n w) = (at ≤ n) × (n ≤ length s) × (w ≤ 9 * n)
Reached s at d (stands.Shut n w) = (at < n) × (n ≤ length s) × (w ≤ 9 * n) × (1 ≤ d)
Reached s at d (stands.Ended w) = Unit {0}
