-- What is written reads back as the same items, for all records that the writer accepts; and what was read, made into plain items, written and read again
-- is the same items. Assumes nothing.
use Prim.Native.Nat.{ℕ, zero, suc, ◌+◌, ◌-◌, ◌≤◌}
use mathlib.Core.Path.{◌≡◌, refl, ap, ◌∙◌, subst}
use mathlib.Core.List.{List, [], ◌∷◌, map}
use mathlib.Core.Bool.{Bool, true, false, cond, ◌&&◌}
use mathlib.Core.Option.{Option, none, some, some-injective}
use borrow.Author.Tests.{le-ltb, ltb-false}
use lib.ListN.{length}
use lib.Dec.{ltb}
use Rattle.text.specs.Lists.{all_of}
use Rattle.text.proofs.Tests.{and_l, and_r, and_in}
use Rattle.text.proofs.Options.{none_some}
use Rattle.words.specs.Words.{reply_record_len}
use Rattle.forms.specs.Forms.{is_name}
use Rattle.replies.specs.Lines.{is_keyword, lines_of}
use Rattle.replies.specs.Order.{opens, closes, judge, on_turn, flawed}
use Rattle.replies.specs.Reading.{turn_of, verdict_of}
use Rattle.replies.specs.Items.{Told, item, group, endgroup, endoutput, told_in, unless_flawed, says_of}
use Rattle.replies.proofs.TurnLaws.{flawed_fine, turn_fine, turn_then, turn_same}
use Rattle.replying.specs.Records.{Asked, record_told, is_final, asked_from, asked_of}
use Rattle.replying.specs.Writing.{line_of, writing_of, turn_told, turn_or_wrong, turn_asked, with_told, told_asked, asked_verdict, verdict_then, size_verdict, written_by, write_verdict, asks_of}
use Rattle.replying.proofs.ToldLines.{right, to_end, lines_told, tells_all, writing_lines}
use Rattle.replying.proofs.ReadLines.{turns_from, lines_end, lines_fine}
use Rattle.std.proofs.Common.{Result, Ok, Err}
use Rattle.text.specs.Room.{refusal_at}
use Rattle.text.specs.declared.Refusal.{Refusal}

-- ---- what is told, and its turns

-- what is right does what its line does
pub turns_told : (p : ℕ) (ts : List Told) → all_of right ts ≡ true → map turn_of (lines_told p ts) ≡ turns_from p ts
unfolding all_of lines_told turns_from
turns_told p [] h = refl
turns_told p (t ∷ ts) h = go t (and_l (right t) (all_of right ts) h) (turns_told (p + length (line_of t)) ts (and_r (right t) (all_of right ts) h))
  where
    go : (t : Told) → right t ≡ true → map turn_of (lines_told (p + length (line_of t)) ts) ≡ turns_from (p + length (line_of t)) ts
        → map turn_of (lines_told p (t ∷ ts)) ≡ turns_from p (t ∷ ts)
    go (item k v) r ih = rw (r, ih)
    go (group n) r ih = rw (r, ih)
    go endgroup r ih = rw ih
    go endoutput r ih = rw ih

-- what follows the end does not matter
pub judge_end : (d e p : ℕ) (ts : List Told) → judge d e (turns_from p (to_end ts)) ≡ judge d e (turns_from p ts)
unfolding judge to_end turns_from
judge_end d e p [] = refl
judge_end d e p (item k v ∷ ts) = let q = p + length (line_of (item k v)) in turn_same (turn_told (item k v)) d e p (λ n. judge n e (turns_from q (to_end ts))) (λ n. judge n e (turns_from q ts)) (λ n. judge_end n e q ts)
judge_end d e p (group m ∷ ts) = let q = p + length (line_of (group m)) in turn_same (turn_told (group m)) d e p (λ n. judge n e (turns_from q (to_end ts))) (λ n. judge n e (turns_from q ts)) (λ n. judge_end n e q ts)
judge_end d e p (endgroup ∷ ts) = let q = p + length (line_of endgroup) in turn_same closes d e p (λ n. judge n e (turns_from q (to_end ts))) (λ n. judge n e (turns_from q ts)) (λ n. judge_end n e q ts)
judge_end d e p (endoutput ∷ ts) = refl

-- what is accepted is right up to its end
pub fine_right : (d e p : ℕ) (ts : List Told) → judge d e (turns_from p ts) ≡ Ok tt → all_of right (to_end ts) ≡ true
unfolding judge to_end turns_from all_of
fine_right d e p [] h = flawed_fine 25 e h
fine_right d e p (item k v ∷ ts) h = go (is_keyword k) refl (λ n. fine_right n e q ts)
  where
    q : ℕ
    q = p + length (line_of (item k v))

    go : (t : Bool) → is_keyword k ≡ t → ((n : ℕ) → judge n e (turns_from q ts) ≡ Ok tt → all_of right (to_end ts) ≡ true) → is_keyword k && all_of right (to_end ts) ≡ true
    go true z ih = and_in (is_keyword k) (all_of right (to_end ts)) z (ih d (rw z at h))
    go false z ih = flawed_fine 21 p (rw z at h)
fine_right d e p (group m ∷ ts) h = go (is_name m) refl (λ n. fine_right n e q ts)
  where
    q : ℕ
    q = p + length (line_of (group m))

    go : (t : Bool) → is_name m ≡ t → ((n : ℕ) → judge n e (turns_from q ts) ≡ Ok tt → all_of right (to_end ts) ≡ true) → is_name m && all_of right (to_end ts) ≡ true
    go true z ih = and_in (is_name m) (all_of right (to_end ts)) z (turn_then opens d e p (λ n. judge n e (turns_from q ts)) ih (λ y. cc) (rw z at h))
    go false z ih = flawed_fine 21 p (rw z at h)
fine_right d e p (endgroup ∷ ts) h = let q = p + length (line_of endgroup) in turn_then closes d e p (λ n. judge n e (turns_from q ts)) (λ n. fine_right n e q ts) (λ y. cc) h
fine_right d e p (endoutput ∷ ts) h = refl

-- ---- reading what is written

module _ (ts : List Told) (r : all_of right (to_end ts) ≡ true) where
  -- the turns of the lines that are read give the verdict of the turns of what is told
  pub writing_judge : (e : ℕ) → judge 0 e (map turn_of (lines_of (writing_of ts))) ≡ judge 0 e (turns_from 0 ts)
  unfolding lines_of
  writing_judge e = rw (writing_lines 0 ts r) (ap (judge 0 e) (turns_told 0 (to_end ts) r) ∙ judge_end 0 e 0 ts)

  -- so that is the reader's
  pub writing_verdict : length (writing_of ts) ≤ 65535 → verdict_of (writing_of ts) ≡ judge 0 (length (writing_of ts)) (turns_from 0 ts)
  unfolding verdict_of
  writing_verdict h = rw (le-ltb 65535 (length (writing_of ts)) h) (writing_judge (length (writing_of ts)))

  -- and what it reads is what is told, up to its end
  pub writing_told : told_in (lines_of (writing_of ts)) ≡ to_end ts
  unfolding lines_of
  writing_told = ap told_in (writing_lines 0 ts r) ∙ tells_all 0 (to_end ts)

-- what is accepted reads back
pub told_reads : (ts : List Told) → length (writing_of ts) ≤ 65535 → judge 0 (length (writing_of ts)) (turns_from 0 ts) ≡ Ok tt → says_of (writing_of ts) ≡ some (to_end ts)
unfolding says_of
told_reads ts h f =
    let r = fine_right 0 (length (writing_of ts)) 0 ts f in
    rw (writing_verdict ts r h, f, writing_told ts r)

-- ---- what the records ask for

pub asked_fine : (as' : List Asked) (d e e' q : ℕ) → judge d e (map turn_asked as') ≡ Ok tt → judge d e' (turns_from q (told_asked as')) ≡ Ok tt
unfolding judge told_asked turns_from
asked_fine [] d e e' q h = flawed_fine 25 e h
asked_fine (a ∷ as') d e e' q h = go a.told (λ n r. asked_fine as' n e e' r) h
  where
    go : (o : Option Told) → ((n r : ℕ) → judge n e (map turn_asked as') ≡ Ok tt → judge n e' (turns_from r (told_asked as')) ≡ Ok tt)
        → on_turn (turn_or_wrong o) d e a.place flawed (Ok tt) (λ n. judge n e (map turn_asked as')) ≡ Ok tt → judge d e' (turns_from q (with_told o (told_asked as'))) ≡ Ok tt
    go none ih z = flawed_fine 21 a.place z
    go (some t) ih z =
        let r = q + length (line_of t) in
        turn_fine (turn_told t) d e a.place e' q (λ n. judge n e (map turn_asked as')) (λ n. judge n e' (turns_from r (told_asked as'))) (λ n. ih n r) z

-- nothing is asked for after the end
pub asked_end : (k p : ℕ) (t r : List ℕ) → to_end (told_asked (asked_from k p t r)) ≡ told_asked (asked_from k p t r)
unfolding asked_from told_asked to_end
asked_end k p t [] = refl
asked_end (suc k) p t (b ∷ r) = asked_end k (suc p) t r
asked_end zero p t (b ∷ r) = go (record_told t (b ∷ r)) (asked_end (reply_record_len b - 1) (suc p) t r)
  where
    rest : List Asked
    rest = asked_from (reply_record_len b - 1) (suc p) t r

    go : (o : Option Told) → to_end (told_asked rest) ≡ told_asked rest → to_end (with_told o (told_asked (cond (is_final o) [] rest))) ≡ with_told o (told_asked (cond (is_final o) [] rest))
    go none ih = refl
    go (some (item x y)) ih = ap (λ (l : List Told). item x y ∷ l) ih
    go (some (group x)) ih = ap (λ (l : List Told). group x ∷ l) ih
    go (some endgroup) ih = ap (λ (l : List Told). endgroup ∷ l) ih
    go (some endoutput) ih = refl

-- ---- the verdicts' parts

-- what is said is what was accepted
pub record Said {A : Type 0} (v : Result Unit Refusal) (a b : A) : Type 0 where
  pub fine : v ≡ Ok tt
  pub same : a ≡ b

pub said : {A : Type 0} (v : Result Unit Refusal) (a b : A) → unless_flawed v a ≡ some b → Said v a b
said (Ok u) a b e = record { fine = refl; same = some-injective a b e }
said (Err r) a b e = none_some b e

pub then_fine : (v w : Result Unit Refusal) → verdict_then v w ≡ Ok tt → (v ≡ Ok tt) × (w ≡ Ok tt)
then_fine (Ok u) w e = (refl, e)
then_fine (Err r) w e = flawed_fine r.number r.place e

-- a verdict that first asks for a size
pub sized : (n : ℕ) (w : Result Unit Refusal) → cond (ltb 65535 n) (Err (refusal_at 21 0)) w ≡ Ok tt → (n ≤ 65535) × (w ≡ Ok tt)
sized n w h = go (ltb 65535 n) refl h
  where
    go : (t : Bool) → ltb 65535 n ≡ t → cond t (Err (refusal_at 21 0)) w ≡ Ok tt → (n ≤ 65535) × (w ≡ Ok tt)
    go true z k = flawed_fine 21 0 k
    go false z k = (ltb-false 65535 n z, k)

-- ---- the theorems

-- what is written reads back as the same items, for all records that the writer accepts
pub written_reads : (r t : List ℕ) (ts : List Told) → asks_of r t ≡ some ts → says_of (written_by r t) ≡ some ts
unfolding asks_of write_verdict asked_verdict size_verdict written_by asked_of
written_reads r t ts h =
    let as' = asked_from 0 0 t r in
    let us = told_asked as' in
    let a = said (verdict_then (asked_verdict r t) (size_verdict (writing_of us))) us ts h in
    let b = then_fine (asked_verdict r t) (size_verdict (writing_of us)) a.fine in
    let c = sized (length t) (judge 0 (length r) (map turn_asked as')) b.0 in
    let d = sized (length (writing_of us)) (Ok tt) b.1 in
    told_reads us d.0 (asked_fine as' 0 (length r) (length (writing_of us)) 0 c.1) ∙ ap some (asked_end 0 0 t r ∙ a.same)

-- what was read, made into plain items, written and read again is the same items
pub read_again : (s : List ℕ) (ts : List Told) → says_of s ≡ some ts → length (writing_of ts) ≤ 65535 → says_of (writing_of ts) ≡ some ts
unfolding says_of verdict_of lines_of
read_again s ts h l =
    let a = said (verdict_of s) (told_in (lines_of s)) ts h in
    let b = sized (length s) (judge 0 (length s) (map turn_of (lines_of s))) a.fine in
    let f = lines_fine 0 0 s 0 (length s) (length (writing_of ts)) 0 b.1 in
    let e : to_end ts ≡ ts = subst (λ (us : List Told). to_end us ≡ us) a.same (lines_end 0 0 s) in
    told_reads ts l (subst (λ (us : List Told). judge 0 (length (writing_of ts)) (turns_from 0 us) ≡ Ok tt) a.same f) ∙ ap some e
