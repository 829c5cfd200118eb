-- The writer refuses exactly what would not read back, and with the number with which it would. Assumes nothing.
use Prim.Native.Nat.{ℕ, zero, suc, ◌+◌, ◌-◌, ◌≤◌}
use mathlib.Core.Path.{◌≡◌, refl, sym, ap, ◌∙◌, subst}
use mathlib.Core.List.{List, [], ◌∷◌, ◌++◌, map}
use mathlib.Core.Bool.{Bool, true, false, cond}
use mathlib.Core.Option.{Option, none, some}
use native.Mathlib.Omega.{arith}
use native.Mathlib.Nat.{add-zero}
use borrow.Author.Tests.{le-ltb}
use lib.ListN.{length, length-append}
use Rattle.text.specs.Lists.{all_of}
use Rattle.text.proofs.Tests.{and_l, and_r, and_in, no_case}
use Rattle.words.specs.Words.{reply_record_len}
use Rattle.replies.specs.Lines.{lines_of}
use Rattle.replies.specs.Order.{Turn, judge, on_turn, flawed}
use Rattle.replies.specs.Reading.{turn_of, verdict_of}
use Rattle.replies.specs.Items.{Told, item, group, endgroup, endoutput, told_in, says_of}
use Rattle.replies.proofs.TurnLaws.{flawed_fine, turn_fine, number, number_place, turns_of, judge_same}
use Rattle.replying.specs.Records.{Asked, record_told, is_final, asked_from, asked_of}
use Rattle.replying.specs.Writing.{line_of, writing_of, turn_told, turn_or_wrong, turn_asked, with_told, told_asked, asked_verdict, size_verdict, written_by, write_verdict, asks_of}
use Rattle.replying.proofs.ToldLines.{right, to_end}
use Rattle.replying.proofs.ReadLines.{turns_from, lines_right}
use Rattle.replying.proofs.ReadBack.{writing_judge, writing_verdict, told_reads, said, sized, asked_end, written_reads}
use Rattle.std.proofs.Common.{Ok}

-- ---- of items

-- what is accepted is accepted at any places
pub fine_anywhere : (ts : List Told) (d e p e' p' : ℕ) → judge d e (turns_from p ts) ≡ Ok tt → judge d e' (turns_from p' ts) ≡ Ok tt
unfolding judge turns_from
fine_anywhere [] d e p e' p' h = flawed_fine 25 e h
fine_anywhere (t ∷ ts) d e p e' p' h =
    let q = p + length (line_of t) in
    let q' = p' + length (line_of t) in
    turn_fine (turn_told t) d e p e' p' (λ n. judge n e (turns_from q ts)) (λ n. judge n e' (turns_from q' ts)) (λ n. fine_anywhere ts n e q e' q') h

-- what is right is right up to its end
pub end_right : (ts : List Told) → all_of right ts ≡ true → all_of right (to_end ts) ≡ true
unfolding all_of to_end
end_right [] r = refl
end_right (item k v ∷ ts) r = let t = item k v in and_in (right t) (all_of right (to_end ts)) (and_l (right t) (all_of right ts) r) (end_right ts (and_r (right t) (all_of right ts) r))
end_right (group n ∷ ts) r = let t = group n in and_in (right t) (all_of right (to_end ts)) (and_l (right t) (all_of right ts) r) (end_right ts (and_r (right t) (all_of right ts) r))
end_right (endgroup ∷ ts) r = end_right ts r
end_right (endoutput ∷ ts) r = refl

-- what reads back was accepted
reads_right : (s : List ℕ) (ts : List Told) → says_of s ≡ some ts → (verdict_of s ≡ Ok tt) × (all_of right ts ≡ true) × (length s ≤ 65535)
unfolding says_of verdict_of lines_of
reads_right s ts h =
    let a = said (verdict_of s) (told_in (lines_of s)) ts h in
    let b = sized (length s) (judge 0 (length s) (map turn_of (lines_of s))) a.fine in
    (a.fine, subst (λ (us : List Told). all_of right us ≡ true) a.same (lines_right 0 0 s), b.0)

pub reads_fine : (ts : List Told) → says_of (writing_of ts) ≡ some (to_end ts) → judge 0 (length (writing_of ts)) (turns_from 0 ts) ≡ Ok tt
reads_fine ts h = let r = reads_right (writing_of ts) (to_end ts) h in sym (writing_verdict ts r.1 r.2) ∙ r.0

-- items in order are exactly those that read back, up to and with their first end
pub agrees : (ts : List Told) (e : ℕ) → length (writing_of ts) ≤ 65535
    → (judge 0 e (turns_from 0 ts) ≡ Ok tt → says_of (writing_of ts) ≡ some (to_end ts)) × (says_of (writing_of ts) ≡ some (to_end ts) → judge 0 e (turns_from 0 ts) ≡ Ok tt)
agrees ts e l =
    let n = length (writing_of ts) in
    ((λ h. told_reads ts l (fine_anywhere ts 0 e 0 n 0 h)), (λ h. fine_anywhere ts 0 n 0 e 0 (reads_fine ts h)))

-- items whose keywords and types are right are refused by the reader as they are by their turns, each at the place where its line begins
pub same_verdict : (ts : List Told) → all_of right ts ≡ true
    → judge 0 (length (writing_of ts)) (map turn_of (lines_of (writing_of ts))) ≡ judge 0 (length (writing_of ts)) (turns_from 0 ts)
same_verdict ts r = writing_judge ts (end_right ts r) (length (writing_of ts))

-- where a line begins: behind the writing of what stands before it
pub places_are : (p : ℕ) (xs ys : List Told) → turns_from p (xs ++ ys) ≡ turns_from p xs ++ turns_from (p + length (writing_of xs)) ys
unfolding turns_from writing_of
places_are p [] ys = rw add-zero
places_are p (t ∷ xs) ys =
    let q = p + length (line_of t) in
    let z : q + length (writing_of xs) ≡ p + length (line_of t ++ writing_of xs) = omega (arith, length-append (line_of t) (writing_of xs)) in
    ap (λ (l : List (ℕ × Turn)). (p, turn_told t) ∷ l) (places_are q xs ys ∙ ap (λ (j : ℕ). turns_from q xs ++ turns_from j ys) z)

-- ---- of records

-- what the records tell is accepted only where they are
asked_back : (k p : ℕ) (t r : List ℕ) (d e e' q : ℕ) → judge d e (turns_from q (told_asked (asked_from k p t r))) ≡ Ok tt → judge d e' (map turn_asked (asked_from k p t r)) ≡ Ok tt
unfolding asked_from told_asked turns_from judge
asked_back k p t [] d e e' q h = flawed_fine 25 e h
asked_back (suc k) p t (b ∷ r) d e e' q h = asked_back k (suc p) t r d e e' q h
asked_back zero p t (b ∷ r) d e e' q h = go (record_told t (b ∷ r)) (λ n j. asked_back (reply_record_len b - 1) (suc p) t r n e e' j) h
  where
    rest : List Asked
    rest = asked_from (reply_record_len b - 1) (suc p) t r

    left : (x : Bool) → ((n j : ℕ) → judge n e (turns_from j (told_asked rest)) ≡ Ok tt → judge n e' (map turn_asked rest) ≡ Ok tt)
        → (n j : ℕ) → judge n e (turns_from j (told_asked (cond x [] rest))) ≡ Ok tt → judge n e' (map turn_asked (cond x [] rest)) ≡ Ok tt
    left true ih n j z = flawed_fine 25 e z
    left false ih n j z = ih n j z

    go : (o : Option Told) → ((n j : ℕ) → judge n e (turns_from j (told_asked rest)) ≡ Ok tt → judge n e' (map turn_asked rest) ≡ Ok tt)
        → judge d e (turns_from q (with_told o (told_asked (cond (is_final o) [] rest)))) ≡ Ok tt
        → on_turn (turn_or_wrong o) d e' p flawed (Ok tt) (λ n. judge n e' (map turn_asked (cond (is_final o) [] rest))) ≡ Ok tt
    go none ih z = flawed_fine 25 e z
    go (some u) ih z =
        let j = q + length (line_of u) in
        let ls = cond (is_final (some u)) [] rest in
        turn_fine (turn_told u) d e q e' p (λ n. judge n e (turns_from j (told_asked ls))) (λ n. judge n e' (map turn_asked ls)) (λ n. left (is_final (some u)) ih n j) z

-- the writer accepts exactly the records whose writing reads back as what they tell
pub accepts_exactly : (r t : List ℕ) → length t ≤ 65535
    → (write_verdict r t ≡ Ok tt → says_of (written_by r t) ≡ some (told_asked (asked_of r t))) × (says_of (written_by r t) ≡ some (told_asked (asked_of r t)) → write_verdict r t ≡ Ok tt)
unfolding write_verdict asked_verdict size_verdict written_by asked_of asks_of
accepts_exactly r t l = ((λ h. written_reads r t us (rw h refl)), back)
  where
    us : List Told
    us = told_asked (asked_from 0 0 t r)

    back : says_of (writing_of us) ≡ some us → write_verdict r t ≡ Ok tt
    back h =
        let e = asked_end 0 0 t r in
        let f = reads_fine us (h ∙ ap some (sym e)) in
        let k = reads_right (writing_of us) us h in
        rw (le-ltb 65535 (length t) l, asked_back 0 0 t r 0 (length (writing_of us)) (length r) 0 f, le-ltb 65535 (length (writing_of us)) k.2) refl

-- ---- and the numbers: records that tell right items are refused with the number with which their writing would be

abbrev pub right_or : Option Told → Bool
right_or none = false
right_or (some t) = right t

abbrev pub right_asked : Asked → Bool
right_asked a = right_or a.told

asked_right : (as' : List Asked) → all_of right_asked as' ≡ true → all_of right (told_asked as') ≡ true
unfolding all_of told_asked
asked_right [] h = refl
asked_right (a ∷ as') h = go a.told (and_l (right_asked a) (all_of right_asked as') h) (asked_right as' (and_r (right_asked a) (all_of right_asked as') h))
  where
    go : (o : Option Told) → right_or o ≡ true → all_of right (told_asked as') ≡ true → all_of right (with_told o (told_asked as')) ≡ true
    go none r ih = no_case (sym r)
    go (some t) r ih = and_in (right t) (all_of right (told_asked as')) r ih

asked_turns : (q : ℕ) (as' : List Asked) → all_of right_asked as' ≡ true → turns_of (map turn_asked as') ≡ turns_of (turns_from q (told_asked as'))
unfolding all_of told_asked turns_from
asked_turns q [] h = refl
asked_turns q (a ∷ as') h = go a.told (and_l (right_asked a) (all_of right_asked as') h) (λ j. asked_turns j as' (and_r (right_asked a) (all_of right_asked as') h))
  where
    go : (o : Option Told) → right_or o ≡ true → ((j : ℕ) → turns_of (map turn_asked as') ≡ turns_of (turns_from j (told_asked as')))
        → turn_or_wrong o ∷ turns_of (map turn_asked as') ≡ turns_of (turns_from q (with_told o (told_asked as')))
    go none r ih = no_case (sym r)
    go (some t) r ih = ap (λ (l : List Turn). turn_told t ∷ l) (ih (q + length (line_of t)))

pub same_number : (r t : List ℕ) → length t ≤ 65535 → length (written_by r t) ≤ 65535 → all_of right_asked (asked_of r t) ≡ true
    → number (asked_verdict r t) ≡ number (verdict_of (written_by r t))
unfolding asked_verdict written_by
same_number r t l m h =
    let as' = asked_of r t in
    let us = told_asked as' in
    let n = length (writing_of us) in
    rw (le-ltb 65535 (length t) l)
    (judge_same number number_place 0 (length r) n (map turn_asked as') (turns_from 0 us) (asked_turns 0 as' h)
    ∙ ap number (sym (writing_verdict us (end_right us (asked_right as' h)) m)))
