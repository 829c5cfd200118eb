-- Reading line by line answers what the verdict and the records of all lines say. Assumes nothing.
use Prim.Native.Nat.{ℕ, zero, suc, ◌+◌, ◌-◌, ◌<◌, ◌≤◌}
use mathlib.Core.Path.{◌≡◌, refl, sym, ap, ◌∙◌}
use mathlib.Core.List.{List, [], ◌∷◌, ◌++◌, map}
use mathlib.Core.Bool.{Bool, true, false, cond}
use native.Mathlib.Omega.{arith}
use borrow.Author.Tests.{lt-ltb, le-ltb}
use lib.ListN.{length, take, length-append}
use lib.Seq.{sets}
use lib.Dec.{eqb, leb}
use Rattle.text.specs.Room.{fitted, filled}
use Rattle.text.proofs.Tests.{no_case}
use Rattle.text.proofs.Writes.{sets_append, fitted_room, fitted_none, filled_none, filled_sets}
use Rattle.replies.specs.declared.Form.{Form}
use Rattle.replies.specs.declared.Form.TheVariants.{Nothing, Item, Group, Close, End, Wrong, Open}
use Rattle.replies.specs.Lines.{form_of, text_len, line_len, Line, line_at, is_last, lines_from, lines_of}
use Rattle.replies.specs.Order.{judge, judged, kept, flawed}
use Rattle.replies.specs.Reading.{turn_of, record_by, records_of, verdict_of, read_answer, read_room}
use Rattle.replies.specs.Steps.{run, run_at}
use Rattle.std.proofs.Common.{Result, Ok, Err}
use Rattle.text.specs.Room.{refusal_at}
use Rattle.text.specs.declared.Refusal.{Refusal}

-- what the reading of lines is to say
record Right (d e w : ℕ) (room : List ℕ) (ls : List Line) : Type 0 where
  says : (run d e w room ls).answer ≡ judged (judge d e (map turn_of ls)) (Ok (w + length (records_of ls)))
  fills : judge d e (map turn_of ls) ≡ Ok tt → (run d e w room ls).room ≡ sets room w (records_of ls)

no_fine : {P : Type 0} {n p : ℕ} → flawed n p ≡ Ok tt → P
no_fine e = let z : ◌≡◌ {A = ℕ} 0 1 = cc in absurd (omega arith)

abbrev line : ℕ → List ℕ → Form → Line
line p t f = record { place = p; text = t; form = f }

-- a line before lines that are read rightly: rec is its record
module _ (ls : List Line) (ih : (d e w : ℕ) (room : List ℕ) → Right d e w room ls) where
  more : (rec : List ℕ) (d e w : ℕ) (room : List ℕ)
      → (run d e (w + length rec) (sets room w rec) ls).answer ≡ judged (judge d e (map turn_of ls)) (Ok (w + length (rec ++ records_of ls)))
  more rec d e w room =
      let z : w + length rec + length (records_of ls) ≡ w + length (rec ++ records_of ls) = omega (arith, length-append rec (records_of ls)) in
      (ih d e (w + length rec) (sets room w rec)).says ∙ ap (λ (n : ℕ). judged (judge d e (map turn_of ls)) (Ok n)) z

  fill : (rec : List ℕ) (d e w : ℕ) (room : List ℕ) → judge d e (map turn_of ls) ≡ Ok tt → (run d e (w + length rec) (sets room w rec) ls).room ≡ sets room w (rec ++ records_of ls)
  fill rec d e w room f = (ih d e (w + length rec) (sets room w rec)).fills f ∙ sets_append rec (records_of ls) room w

  on : (p : ℕ) (t : List ℕ) (f : Form) → is_last f ≡ false → (d e w : ℕ) (room : List ℕ) → Right d e w room (line p t f ∷ ls)
  unfolding run judge records_of
  on p t (Nothing n) l d e w room = record { says = more [] d e w room; fills = fill [] d e w room }
  on p t (Item k v) l d e w room = record { says = more (record_by p (Item k v)) d e w room; fills = fill (record_by p (Item k v)) d e w room }
  on p t (Group n) l d e w room = go (leb 8 d) refl
    where
      go : (b : Bool) → leb 8 d ≡ b → Right d e w room (line p t (Group n) ∷ ls)
      go true h = record { says = rw h; fills = rw h (λ z. no_fine z) }
      go false h = record { says = rw h (more (record_by p (Group n)) (d + 1) e w room); fills = rw h (fill (record_by p (Group n)) (d + 1) e w room) }
  on p t Close l d e w room = go (eqb d 0) refl
    where
      go : (b : Bool) → eqb d 0 ≡ b → Right d e w room (line p t Close ∷ ls)
      go true h = record { says = rw h; fills = rw h (λ z. no_fine z) }
      go false h = record { says = rw h (more (record_by p Close) (d - 1) e w room); fills = rw h (fill (record_by p Close) (d - 1) e w room) }
  on p t End l d e w room = no_case l
  on p t Wrong l d e w room = no_case l
  on p t Open l d e w room = no_case l

-- a line that is the last
at_last : (p : ℕ) (t : List ℕ) (f : Form) → is_last f ≡ true → (d e w : ℕ) (room : List ℕ) → Right d e w room (line p t f ∷ [])
unfolding run judge records_of
at_last p t (Nothing n) l d e w room = no_case (sym l)
at_last p t (Item k v) l d e w room = no_case (sym l)
at_last p t (Group n) l d e w room = no_case (sym l)
at_last p t Close l d e w room = no_case (sym l)
at_last p t End l d e w room = go (eqb d 0) refl
  where
    go : (b : Bool) → eqb d 0 ≡ b → Right d e w room (line p t End ∷ [])
    go true h = record { says = rw h; fills = rw h (λ z. refl) }
    go false h = record { says = rw h; fills = rw h (λ z. no_fine z) }
at_last p t Wrong l d e w room = record { says = refl; fills = λ z. no_fine z }
at_last p t Open l d e w room = record { says = refl; fills = λ z. no_fine z }

-- all lines
all_right : (k p : ℕ) (s : List ℕ) (d e w : ℕ) (room : List ℕ) → Right d e w room (lines_from k p s)
unfolding lines_from run judge records_of
all_right k p [] d e w room = record { says = refl; fills = λ z. no_fine z }
all_right (suc k) p (b ∷ s) d e w room = all_right k (suc p) s d e w room
all_right zero p (b ∷ s) d e w room = go (is_last (form_of (b ∷ s))) refl (all_right (line_len (b ∷ s) - 1) (suc p) s)
  where
    go : (l : Bool) → is_last (form_of (b ∷ s)) ≡ l → ((d e w : ℕ) (room : List ℕ) → Right d e w room (lines_from (line_len (b ∷ s) - 1) (suc p) s))
        → Right d e w room (line_at p (b ∷ s) ∷ cond l [] (lines_from (line_len (b ∷ s) - 1) (suc p) s))
    go true h ih = at_last p (take (text_len (form_of (b ∷ s))) (b ∷ s)) (form_of (b ∷ s)) h d e w room
    go false h ih = on (lines_from (line_len (b ∷ s) - 1) (suc p) s) ih p (take (text_len (form_of (b ∷ s))) (b ∷ s)) (form_of (b ∷ s)) h d e w room

-- ---- a whole text

judged_wrote : (v : Result Unit Refusal) (m n : ℕ) → judged v (Ok m) ≡ Ok n → (v ≡ Ok tt) × (n ≡ m)
judged_wrote (Ok u) m n e = (refl, cc)
judged_wrote (Err r) m n e = let z : ◌≡◌ {A = ℕ} 0 1 = cc in absurd (omega arith)

judged_refused : (v : Result Unit Refusal) (m : ℕ) (r : Refusal) → judged v (Ok m) ≡ Err r → v ≡ Err r
judged_refused (Ok u) m r e = let z : ◌≡◌ {A = ℕ} 0 1 = cc in absurd (omega arith)
judged_refused (Err q) m r e = cc

pub read_long : (s out : List ℕ) → 65535 < length s → (Err (refusal_at 21 0) ≡ read_answer (length out) s) × (out ≡ read_room out s)
unfolding read_answer read_room verdict_of
read_long s out h = simp (lt-ltb 65535 (length s) h) (refl, refl)

-- what the reading into any room gave
module _ (s held out : List ℕ) (h : length s ≤ 65535) where
  whole : (run_at s 0 0 0 held).answer ≡ judged (verdict_of s) (Ok (length (records_of (lines_of s))))
  unfolding verdict_of lines_of
  whole =
      let z : 0 + length (records_of (lines_from 0 0 s)) ≡ length (records_of (lines_from 0 0 s)) = omega arith in
      (all_right 0 0 s 0 (length s) 0 held).says ∙ rw (le-ltb 65535 (length s) h, z)

  module _ (n : ℕ) (e : Ok n ≡ (run_at s 0 0 0 held).answer) where
    wrote : (verdict_of s ≡ Ok tt) × (n ≡ length (records_of (lines_of s)))
    wrote = judged_wrote (verdict_of s) (length (records_of (lines_of s))) n (sym (e ∙ whole))

    pub read_size : n ≡ length (records_of (lines_of s))
    read_size = wrote.1

    -- the records stand in any room that has been read into
    pub read_held : (room room' : List ℕ) → room' ≡ (run_at s 0 0 0 room).room → room' ≡ sets room 0 (records_of (lines_of s))
    unfolding lines_of verdict_of
    read_held room room' q = q ∙ (all_right 0 0 s 0 (length s) 0 room).fills (fine wrote.0)
      where
        fine : verdict_of s ≡ Ok tt → judge 0 (length s) (map turn_of (lines_from 0 0 s)) ≡ Ok tt
        fine v = rw (le-ltb 65535 (length s) h) at v

    pub read_none : length out < n → (Err (refusal_at 19 0) ≡ read_answer (length out) s) × (out ≡ read_room out s)
    unfolding read_answer read_room
    read_none l =
        let k : length out < length (records_of (lines_of s)) = omega (arith, wrote.1) in (
          sym (ap (λ (v : Result Unit Refusal). judged v (fitted (length out) (records_of (lines_of s)))) wrote.0 ∙ fitted_none (length out) (records_of (lines_of s)) k),
          sym (ap (λ (v : Result Unit Refusal). kept v out (filled out (records_of (lines_of s)))) wrote.0 ∙ filled_none out (records_of (lines_of s)) k),
        )

    pub read_fits : n ≤ length out → (out' : List ℕ) → out' ≡ sets out 0 (records_of (lines_of s)) → (Ok n ≡ read_answer (length out) s) × (out' ≡ read_room out s)
    unfolding read_answer read_room
    read_fits l out' q =
        let k : length (records_of (lines_of s)) ≤ length out = omega (arith, wrote.1) in (
          sym (ap (λ (v : Result Unit Refusal). judged v (fitted (length out) (records_of (lines_of s)))) wrote.0 ∙ fitted_room (length out) (records_of (lines_of s)) k ∙ ap Ok (sym wrote.1)),
          q ∙ filled_sets out (records_of (lines_of s)) k ∙ sym (ap (λ (v : Result Unit Refusal). kept v out (filled out (records_of (lines_of s)))) wrote.0),
        )

  pub read_refused : (r : Refusal) → Err r ≡ (run_at s 0 0 0 held).answer → (Err r ≡ read_answer (length out) s) × (out ≡ read_room out s)
  unfolding read_answer read_room
  read_refused r e =
      let v = judged_refused (verdict_of s) (length (records_of (lines_of s))) r (sym (e ∙ whole)) in
      (sym (ap (λ (u : Result Unit Refusal). judged u (fitted (length out) (records_of (lines_of s)))) v), sym (ap (λ (u : Result Unit Refusal). kept u out (filled out (records_of (lines_of s)))) v))

-- whatever room it was read into, the answer is the same
pub same_answer : (s held out : List ℕ) → length s ≤ 65535 → (run_at s 0 0 0 out).answer ≡ (run_at s 0 0 0 held).answer
same_answer s held out h = whole s out out h ∙ sym (whole s held out h)
