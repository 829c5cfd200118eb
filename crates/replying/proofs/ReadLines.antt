-- What a read reply tells: its keywords and types are right, its end is told last, and where it is accepted, what it tells is accepted too. Assumes nothing.
use Prim.Native.Nat.{ℕ, zero, suc, ◌+◌, ◌-◌}
use mathlib.Core.Path.{◌≡◌, refl, sym, ap, ◌∙◌}
use mathlib.Core.List.{List, [], ◌∷◌, ◌++◌, map, append_assoc}
use mathlib.Core.Bool.{Bool, true, false, cond}
use native.Mathlib.Omega.{arith}
use lib.ListN.{length, take, drop, length-append}
use lib.Seq.{take_at, take-append_seam}
use Rattle.text.specs.Bytes.{bytes}
use Rattle.text.specs.Lists.{all_of}
use Rattle.text.proofs.AllAny.{all_append}
use Rattle.replies.specs.declared.Form.{Form}
use Rattle.replies.specs.declared.Form.TheVariants.{Nothing, Item, Group, Close, End, Wrong, Open}
use Rattle.replies.specs.Lines.{begin_word, form_of, text_len, line_len, Line, is_last, lines_from}
use Rattle.replies.specs.Order.{Turn, judge, on_turn, flawed}
use Rattle.replies.specs.Reading.{turn_by, turn_of}
use Rattle.replies.specs.Items.{Told, item, group, endgroup, endoutput, plain_of, told_by, told_in}
use Rattle.replies.proofs.Forms.{Row, nothing, item as is-item, group as is-group, close, end, wrong as is-wrong, open', row_of}
use Rattle.replies.proofs.TurnLaws.{flawed_fine, turn_fine}
use Rattle.replying.specs.Writing.{line_of, turn_told}
use Rattle.replying.proofs.ToldLines.{right, to_end}
use Rattle.std.proofs.Common.{Ok}

-- ---- what a line tells, by its form

-- a line's text, by its parts
key_part : (k v r : List ℕ) → take (length k) (take (length k + 1 + length v) (k ++ (61 ∷ (v ++ r)))) ≡ k
key_part k v r =
    let e : length (k ++ (61 ∷ v)) ≡ length k + 1 + length v = omega (arith, length-append k (61 ∷ v)) in
    ap (take (length k)) (ap (take (length k + 1 + length v)) (sym (append_assoc k (61 ∷ v) r)) ∙ take_at (k ++ (61 ∷ v)) r (length k + 1 + length v) e)
    ∙ take-append_seam k (61 ∷ v)

type_part : (n r : List ℕ) → drop 11 (take (11 + length n) (begin_word ++ (61 ∷ (n ++ r)))) ≡ n
unfolding bytes
type_part n r =
    let e : 11 + length n ≡ suc (suc (suc (suc (suc (suc (suc (suc (suc (suc (suc (length n))))))))))) = omega arith in
    ap (λ (j : ℕ). drop 11 (take j (begin_word ++ (61 ∷ (n ++ r))))) e ∙ take-append_seam n r

-- its keyword or type is right
row_right : (s : List ℕ) (f : Form) → Row s f → all_of right (told_by (take (text_len f) s) f) ≡ true
unfolding all_of
row_right _ _ (nothing t r c a e) = refl
row_right _ _ (is-item k v r h w e) = rw (key_part k v r) (rw h refl)
row_right _ _ (is-group n r h e) = rw (type_part n r) (rw h refl)
row_right _ _ (close r e) = refl
row_right _ _ (end r e) = refl
row_right _ _ (is-wrong s) = refl
row_right _ _ (open' s) = refl

pub lines_right : (k p : ℕ) (s : List ℕ) → all_of right (told_in (lines_from k p s)) ≡ true
unfolding lines_from told_in all_of
lines_right k p [] = refl
lines_right (suc k) p (b ∷ s) = lines_right k (suc p) s
lines_right zero p (b ∷ s) = go (is_last (form_of (b ∷ s))) (lines_right (line_len (b ∷ s) - 1) (suc p) s)
  where
    here : List Told
    here = told_by (take (text_len (form_of (b ∷ s))) (b ∷ s)) (form_of (b ∷ s))

    rest : List Line
    rest = lines_from (line_len (b ∷ s) - 1) (suc p) s

    go : (t : Bool) → all_of right (told_in rest) ≡ true → all_of right (here ++ told_in (cond t [] rest)) ≡ true
    go true ih = all_append right here [] (row_right (b ∷ s) (form_of (b ∷ s)) (row_of (b ∷ s))) refl
    go false ih = all_append right here (told_in rest) (row_right (b ∷ s) (form_of (b ∷ s)) (row_of (b ∷ s))) ih

-- nothing is told after the end
last_told : (x : List ℕ) (f : Form) (ls : List Line) → to_end (told_in ls) ≡ told_in ls → to_end (told_by x f ++ told_in (cond (is_last f) [] ls)) ≡ told_by x f ++ told_in (cond (is_last f) [] ls)
unfolding to_end told_in
last_told x (Nothing n) ls ih = ih
last_told x (Item k v) ls ih = ap (λ (l : List Told). item (take k x) (plain_of (drop (k + 1) x)) ∷ l) ih
last_told x (Group n) ls ih = ap (λ (l : List Told). group (drop 11 x) ∷ l) ih
last_told x Close ls ih = ap (λ (l : List Told). endgroup ∷ l) ih
last_told x End ls ih = refl
last_told x Wrong ls ih = refl
last_told x Open ls ih = refl

pub lines_end : (k p : ℕ) (s : List ℕ) → to_end (told_in (lines_from k p s)) ≡ told_in (lines_from k p s)
unfolding lines_from told_in to_end
lines_end k p [] = refl
lines_end (suc k) p (b ∷ s) = lines_end k (suc p) s
lines_end zero p (b ∷ s) =
    last_told (take (text_len (form_of (b ∷ s))) (b ∷ s)) (form_of (b ∷ s)) (lines_from (line_len (b ∷ s) - 1) (suc p) s) (lines_end (line_len (b ∷ s) - 1) (suc p) s)

-- ---- the turns of what is told, each at the place where its line begins

unfoldable pub turns_from : ℕ → List Told → List (ℕ × Turn)
turns_from p [] = []
turns_from p (t ∷ ts) = (p, turn_told t) ∷ turns_from (p + length (line_of t)) ts

module _ (d e e' p q : ℕ) (ls : List Line) (ih : (n q : ℕ) → judge n e (map turn_of ls) ≡ Ok tt → judge n e' (turns_from q (told_in ls)) ≡ Ok tt) where
  turn_told_lem : (t : Told) → on_turn (turn_told t) d e p flawed (Ok tt) (λ n. judge n e (map turn_of ls)) ≡ Ok tt → judge d e' (turns_from q (t ∷ told_in ls)) ≡ Ok tt
  unfolding judge turns_from
  turn_told_lem t h =
      turn_fine (turn_told t) d e p e' q (λ n. judge n e (map turn_of ls)) (λ n. judge n e' (turns_from (q + length (line_of t)) (told_in ls)))
      (λ n. ih n (q + length (line_of t))) h

  row_fine : (s : List ℕ) (f : Form) → Row s f → on_turn (turn_by f) d e p flawed (Ok tt) (λ n. judge n e (map turn_of ls)) ≡ Ok tt
      → judge d e' (turns_from q (told_by (take (text_len f) s) f ++ told_in ls)) ≡ Ok tt
  row_fine _ _ (nothing t r c a z) h = ih d q h
  row_fine _ _ (is-item k v r i w z) h =
      let y = plain_of (drop (length k + 1) (take (length k + 1 + length v) (k ++ (61 ∷ (v ++ r))))) in
      rw (key_part k v r) (turn_told_lem (item k y) (rw i h))
  row_fine _ _ (is-group n r i z) h = rw (type_part n r) (turn_told_lem (group n) (rw i h))
  row_fine _ _ (close r z) h = turn_told_lem endgroup h
  row_fine _ _ (end r z) h = turn_told_lem endoutput h
  row_fine _ _ (is-wrong s) h = flawed_fine 21 p h
  row_fine _ _ (open' s) h = flawed_fine 25 e h

-- what is accepted as read is accepted as told
pub lines_fine : (k p : ℕ) (s : List ℕ) (d e e' q : ℕ) → judge d e (map turn_of (lines_from k p s)) ≡ Ok tt → judge d e' (turns_from q (told_in (lines_from k p s))) ≡ Ok tt
unfolding lines_from told_in judge
lines_fine k p [] d e e' q h = flawed_fine 25 e h
lines_fine (suc k) p (b ∷ s) d e e' q h = lines_fine k (suc p) s d e e' q h
lines_fine zero p (b ∷ s) d e e' q h =
    row_fine d e e' p q (cond (is_last (form_of (b ∷ s))) [] rest) (go (is_last (form_of (b ∷ s))) (λ n r. lines_fine (line_len (b ∷ s) - 1) (suc p) s n e e' r)) (b ∷ s) (form_of (b ∷ s)) (row_of (b ∷ s)) h
  where
    rest : List Line
    rest = lines_from (line_len (b ∷ s) - 1) (suc p) s

    go : (t : Bool) → ((n q : ℕ) → judge n e (map turn_of rest) ≡ Ok tt → judge n e' (turns_from q (told_in rest)) ≡ Ok tt)
        → (n q : ℕ) → judge n e (map turn_of (cond t [] rest)) ≡ Ok tt → judge n e' (turns_from q (told_in (cond t [] rest))) ≡ Ok tt
    go true ih n q z = flawed_fine 25 e z
    go false ih n q z = ih n q z
