-- The records that the reader gives, read over its own text as the writer reads records, tell the reply's items, their values raw: made plain, they are what
-- the reply says. Assumes nothing.
use Prim.Native.Nat.{ℕ, zero, suc, ◌+◌, ◌-◌, ◌/◌, ◌%◌, ◌≤◌}
use mathlib.Core.Path.{◌≡◌, refl, sym, ap, ◌∙◌}
use mathlib.Core.List.{List, [], ◌∷◌, ◌++◌, map}
use mathlib.Core.Bool.{Bool, true, false, cond}
use mathlib.Core.Option.{some}
use native.Mathlib.Omega.{arith}
use borrow.Author.Tests.{le-leb}
use lib.ListN.{length, take, drop, length-drop}
use lib.Seq.{take-take, drop-drop}
use Rattle.text.specs.Room.{be16}
use Rattle.text.proofs.Slices.{drop_take}
use Rattle.words.specs.Words.{reply_record_len}
use Rattle.replies.specs.declared.Form.{Form}
use Rattle.replies.specs.declared.Form.TheVariants.{Nothing, Item, Group, Close, End, Wrong, Open}
use Rattle.replies.specs.Lines.{form_of, text_len, line_len, Line, is_last, lines_from, lines_of}
use Rattle.replies.specs.Reading.{record_by, records_of}
use Rattle.replies.specs.Items.{Told, item, group, endgroup, endoutput, plain_of, told_by, told_in}
use Rattle.replies.proofs.LineLaws.{text_within}
use Rattle.replies.proofs.Places.{next}
use Rattle.replying.specs.Records.{record_told, asked_from, asked_of}
use Rattle.replying.specs.Writing.{told_asked}

-- an item with its value made plain
abbrev pub plain_told : Told → Told
plain_told (item k v) = item k (plain_of v)
plain_told (group n) = group n
plain_told endgroup = endgroup
plain_told endoutput = endoutput

-- two bytes are the number that was put into them
two_bytes : (n : ℕ) → be16 (n / 256) (n % 256) ≡ n
two_bytes n = omega arith

-- how long the records of a reply are
item_len : reply_record_len 64 ≡ 9
item_len = refl

group_len : reply_record_len 65 ≡ 5
group_len = refl

close_len : reply_record_len 66 ≡ 1
close_len = refl

end_len_lem : reply_record_len 67 ≡ 1
end_len_lem = refl

module _ (s : List ℕ) (p : ℕ) (r : List ℕ) where
  item_told : (k v : ℕ) → p + (k + 1 + v) ≤ length s → record_told s (record_by p (Item k v) ++ r) ≡ some (item (take k (drop p s)) (take v (drop (p + k + 1) s)))
  unfolding record_told
  item_told k v h =
      rw (item_len, le-leb 9 (suc (suc (suc (suc (suc (suc (suc (suc (suc (length r)))))))))) (omega arith), two_bytes p, two_bytes k, two_bytes (p + k + 1), two_bytes v)
      (simp (le-leb (p + k) (length s) (omega arith), le-leb (p + k + 1 + v) (length s) (omega arith)))

  group_told : (n : ℕ) → p + (11 + n) ≤ length s → record_told s (record_by p (Group n) ++ r) ≡ some (group (take n (drop (p + 11) s)))
  unfolding record_told
  group_told n h =
      rw (group_len, le-leb 5 (suc (suc (suc (suc (suc (length r)))))) (omega arith), two_bytes (p + 11), two_bytes n) (simp (le-leb (p + 11 + n) (length s) (omega arith)))

  close_told : record_told s (record_by p Close ++ r) ≡ some endgroup
  unfolding record_told
  close_told = rw (close_len, le-leb 1 (suc (length r)) (omega arith))

  end_told : record_told s (record_by p End ++ r) ≡ some endoutput
  unfolding record_told
  end_told = rw (end_len_lem, le-leb 1 (suc (length r)) (omega arith))

-- the parts of a line are those of its text
module _ (t : List ℕ) (p : ℕ) (x : List ℕ) where
  key_there : (k v : ℕ) → x ≡ take (k + 1 + v) (drop p t) → take k (drop p t) ≡ take k x
  key_there k v e = sym (ap (take k) e ∙ take-take k (k + 1 + v) (drop p t) (omega arith))

  value_there : (k v : ℕ) → x ≡ take (k + 1 + v) (drop p t) → take v (drop (p + k + 1) t) ≡ drop (k + 1) x
  value_there k v e =
      let z : k + 1 + v - (k + 1) ≡ v = omega arith in
      let y : p + (k + 1) ≡ p + k + 1 = omega arith in
      sym (ap (drop (k + 1)) e ∙ drop_take (k + 1) (k + 1 + v) (drop p t) ∙ ap (λ (n : ℕ). take n (drop (k + 1) (drop p t))) z
      ∙ ap (take v) (drop-drop (k + 1) p t ∙ ap (λ (n : ℕ). drop n t) y))

  type_there : (n : ℕ) → x ≡ take (11 + n) (drop p t) → take n (drop (p + 11) t) ≡ drop 11 x
  type_there n e =
      let z : 11 + n - 11 ≡ n = omega arith in
      sym (ap (drop 11) e ∙ drop_take 11 (11 + n) (drop p t) ∙ ap (λ (m : ℕ). take m (drop 11 (drop p t))) z ∙ ap (take n) (drop-drop 11 p t))

module _ (t : List ℕ) (x : List ℕ) (p q : ℕ) (ls : List Line) (ih : (q : ℕ) → map plain_told (told_asked (asked_from 0 q t (records_of ls))) ≡ told_in ls) where
  line_own : (f : Form) → x ≡ take (text_len f) (drop p t) → p + text_len f ≤ length t → (is_last f ≡ true → ls ≡ [])
      → map plain_told (told_asked (asked_from 0 q t (record_by p f ++ records_of ls))) ≡ told_by x f ++ told_in ls
  unfolding asked_from told_asked told_in
  line_own (Nothing n) e h l = ih q
  line_own (Item k v) e h l =
      rw (item_told t p (records_of ls) k v h) (rw (key_there t p x k v e, value_there t p x k v e) (ap (λ (us : List Told). item (take k x) (plain_of (drop (k + 1) x)) ∷ us) (ih _)))
  line_own (Group n) e h l =
      rw (group_told t p (records_of ls) n h) (rw (type_there t p x n e) (ap (λ (us : List Told). group (drop 11 x) ∷ us) (ih _)))
  line_own Close e h l = rw (close_told t p (records_of ls)) (ap (λ (us : List Told). endgroup ∷ us) (ih _))
  line_own End e h l = rw (end_told t p (records_of ls)) (sym (ap (λ (ks : List Line). endoutput ∷ told_in ks) (l refl)))
  line_own Wrong e h l = ih q
  line_own Open e h l = ih q

own_lines : (t : List ℕ) (k p : ℕ) (s : List ℕ) (q : ℕ) → drop p t ≡ s → map plain_told (told_asked (asked_from 0 q t (records_of (lines_from k p s)))) ≡ told_in (lines_from k p s)
unfolding lines_from records_of told_in told_asked asked_from
own_lines t k p [] q h = refl
own_lines t (suc k) p (b ∷ s) q h = own_lines t k (suc p) s q (next t p b s h)
own_lines t zero p (b ∷ s) q h =
    line_own t (take (text_len f) (b ∷ s)) p q ls (go (is_last f) (λ j. own_lines t n (suc p) s j (next t p b s h))) f (ap (take (text_len f)) (sym h)) within (λ z. rw z refl)
  where
    f : Form
    f = form_of (b ∷ s)

    n : ℕ
    n = line_len (b ∷ s) - 1

    rest : List Line
    rest = lines_from n (suc p) s

    ls : List Line
    ls = cond (is_last f) [] rest

    within : p + text_len f ≤ length t
    within = omega (arith, text_within (b ∷ s), ap length h, length-drop p t)

    go : (x : Bool) → ((j : ℕ) → map plain_told (told_asked (asked_from 0 j t (records_of rest))) ≡ told_in rest)
        → (j : ℕ) → map plain_told (told_asked (asked_from 0 j t (records_of (cond x [] rest)))) ≡ told_in (cond x [] rest)
    go true ih j = refl
    go false ih j = ih j

-- what the records tell, their values made plain, is what the lines tell
pub own_records : (s : List ℕ) → map plain_told (told_asked (asked_of (records_of (lines_of s)) s)) ≡ told_in (lines_of s)
unfolding asked_of lines_of
own_records s = own_lines s 0 0 s 0 refl
