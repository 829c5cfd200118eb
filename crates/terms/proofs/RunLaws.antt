-- A run of ordinary bytes, outside quotes, changes nothing but the place. Assumes nothing.
use Prim.Native.Nat.{ℕ, zero, suc, ◌+◌, ◌-◌, ◌*◌, ◌≤◌}
use mathlib.Core.Path.{◌≡◌, refl, sym, ap, ◌∙◌}
use mathlib.Core.List.{List, [], ◌∷◌}
use mathlib.Core.Bool.{Bool, true, false, cond, not, ◌&&◌}
use native.Mathlib.Omega.{arith}
use lib.ListN.{length, take, drop, length-drop}
use Rattle.std.specs.Simd.{first_chunks}
use lib.Seq.{drop-drop}
use lib.Dec.{eqb}
use Rattle.text.specs.Lists.{all_of, any_of, run_len, walk}
use Rattle.text.proofs.Tests.{and_l, and_r}
use Rattle.text.proofs.Scans.{run_part}
use Rattle.text.proofs.Slices.{part_from}
use Rattle.terms.specs.declared.Mode.TheVariants.{Out}
use Rattle.terms.specs.Signs.{after, gives, signs, is_bare}
use Rattle.terms.specs.Rows.{end_mode, opened_at}
use Rattle.terms.specs.Scan.{term_len, ordinary}
use borrow.Author.Tests.{not-true}

-- what is known of such a byte
module _ (stop b : ℕ) (e : ordinary stop b ≡ true) where
  not_grave : eqb b 96 ≡ false
  unfolding ordinary
  not_grave = not-true (eqb b 96) (and_l (not (eqb b 96)) (not (eqb b 34) && not (eqb b stop)) e)

  not_quote : eqb b 34 ≡ false
  unfolding ordinary
  not_quote = not-true (eqb b 34) (and_l (not (eqb b 34)) (not (eqb b stop)) (and_r (not (eqb b 96)) (not (eqb b 34) && not (eqb b stop)) e))

  not_stop : eqb b stop ≡ false
  unfolding ordinary
  not_stop = not-true (eqb b stop) (and_r (not (eqb b 34)) (not (eqb b stop)) (and_r (not (eqb b 96)) (not (eqb b 34) && not (eqb b stop)) e))

  stays : after Out b ≡ Out
  unfolding after
  stays = simp (not_grave, not_quote)

run_term : (s : List ℕ) → run_len (ordinary 32) s + term_len Out (drop (run_len (ordinary 32) s) s) ≡ term_len Out s
unfolding run_len term_len
run_term [] = refl
run_term (b ∷ s) = go (ordinary 32 b) refl (run_term s)
  where
    go : (t : Bool) → ordinary 32 b ≡ t → run_len (ordinary 32) s + term_len Out (drop (run_len (ordinary 32) s) s) ≡ term_len Out s
        → run_len (ordinary 32) (b ∷ s) + term_len Out (drop (run_len (ordinary 32) (b ∷ s)) (b ∷ s)) ≡ term_len Out (b ∷ s)
    go true e ih = simp (e, not_stop 32 b e, stays 32 b e) (omega arith)
    go false e ih = ap (λ (x : Bool). cond x (suc (run_len (ordinary 32) s)) 0 + term_len Out (drop (cond x (suc (run_len (ordinary 32) s)) 0) (b ∷ s))) e ∙ unfold term_len in (let z : 0 + term_len Out (b ∷ s) ≡ term_len Out (b ∷ s) = omega arith in z)

-- a text's first term goes on past the run that it begins with as from there
pub term_run : (s : List ℕ) (n r : ℕ) → n ≡ run_len (ordinary 32) s → r ≡ term_len Out (take (length s - n) (drop n s)) → n + r ≡ term_len Out s
term_run s n r e f =
    let d = ap (term_len Out) (part_from s n) in
    let k = ap (λ (x : ℕ). term_len Out (drop x s)) e in
    omega (arith, run_term s)

-- the blocks of sixteen that a text begins with, as far as all their bytes pass a test
pub run_blocks : (f : ℕ → Bool) (k : ℕ) (s : List ℕ) → 16 * k ≤ length s
    → 16 * run_len (all_of f) (first_chunks 16 k s) + run_len f (drop (16 * run_len (all_of f) (first_chunks 16 k s)) s) ≡ run_len f s
unfolding run_len
run_blocks f zero s h = omega arith
run_blocks f (suc k) s h = go (all_of f (take 16 s)) refl (run_blocks f k (drop 16 s) (let e = length-drop 16 s in omega arith))
  where
    p : ℕ
    p = run_len (all_of f) (first_chunks 16 k (drop 16 s))

    go : (t : Bool) → all_of f (take 16 s) ≡ t → 16 * p + run_len f (drop (16 * p) (drop 16 s)) ≡ run_len f (drop 16 s)
        → 16 * cond t (suc p) 0 + run_len f (drop (16 * cond t (suc p) 0) s) ≡ run_len f s
    go true e ih =
        let d : drop (16 * p) (drop 16 s) ≡ drop (16 * suc p) s = drop-drop (16 * p) 16 s ∙ (let z : 16 + 16 * p ≡ 16 * suc p = omega arith in ap (λ (x : ℕ). drop x s) z) in
        let r = ap (run_len f) d in
        let z = run_part f s 0 16 (omega arith) e in
        omega arith
    go false e ih = omega arith

-- the mode at the end, and the quote that was opened last
run_mode : (stop : ℕ) (s : List ℕ) → end_mode Out (drop (run_len (ordinary stop) s) s) ≡ end_mode Out s
unfolding run_len end_mode walk
run_mode stop [] = refl
run_mode stop (b ∷ s) = go (ordinary stop b) refl (run_mode stop s)
  where
    go : (t : Bool) → ordinary stop b ≡ t → walk after Out (drop (run_len (ordinary stop) s) s) ≡ walk after Out s
        → walk after Out (drop (run_len (ordinary stop) (b ∷ s)) (b ∷ s)) ≡ walk after Out (b ∷ s)
    go true e ih = simp (e, stays stop b e) ih
    go false e ih = simp e

run_opened : (stop i q : ℕ) (s : List ℕ) → opened_at Out (i + run_len (ordinary stop) s) q (drop (run_len (ordinary stop) s) s) ≡ opened_at Out i q s
unfolding run_len opened_at
run_opened stop i q [] = refl
run_opened stop i q (b ∷ s) = go (ordinary stop b) refl (run_opened stop (i + 1) q s)
  where
    go : (t : Bool) → ordinary stop b ≡ t → opened_at Out (i + 1 + run_len (ordinary stop) s) q (drop (run_len (ordinary stop) s) s) ≡ opened_at Out (i + 1) q s
        → opened_at Out (i + run_len (ordinary stop) (b ∷ s)) q (drop (run_len (ordinary stop) (b ∷ s)) (b ∷ s)) ≡ opened_at Out i q (b ∷ s)
    go true e ih =
        let w : i + suc (run_len (ordinary stop) s) ≡ i + 1 + run_len (ordinary stop) s = omega arith in
        simp (e, not_quote stop b e, stays stop b e) (ap (λ (k : ℕ). opened_at Out k q (drop (run_len (ordinary stop) s) s)) w ∙ ih)
    go false e ih = simp e (ap (λ (k : ℕ). opened_at Out k q (b ∷ s)) (let z : i + 0 ≡ i = omega arith in z))

-- the same where the first n bytes are of the run that a line begins with
module _ (stop : ℕ) (l : List ℕ) (n : ℕ) (e : n + run_len (ordinary stop) (drop n l) ≡ run_len (ordinary stop) l) where
  rest : drop (run_len (ordinary stop) (drop n l)) (drop n l) ≡ drop (run_len (ordinary stop) l) l
  rest = drop-drop (run_len (ordinary stop) (drop n l)) n l ∙ ap (λ (k : ℕ). drop k l) e

  pub run_mode_from : end_mode Out (drop n l) ≡ end_mode Out l
  run_mode_from = sym (run_mode stop (drop n l)) ∙ ap (end_mode Out) rest ∙ run_mode stop l

  pub run_opened_from : opened_at Out n 0 (drop n l) ≡ opened_at Out 0 0 l
  run_opened_from =
      let z : run_len (ordinary stop) l ≡ 0 + run_len (ordinary stop) l = omega arith in
      sym (run_opened stop n 0 (drop n l))
      ∙ ap (λ (r : List ℕ). opened_at Out (n + run_len (ordinary stop) (drop n l)) 0 r) rest
      ∙ ap (λ (k : ℕ). opened_at Out k 0 (drop (run_len (ordinary stop) l) l)) (e ∙ z)
      ∙ run_opened stop 0 0 l

-- whether there is this bare byte
pub run_some : (n : ℕ) (s : List ℕ) → any_of (is_bare n) (signs Out (drop (run_len (ordinary n) s) s)) ≡ any_of (is_bare n) (signs Out s)
unfolding run_len signs any_of gives
run_some n [] = refl
run_some n (b ∷ s) = go (ordinary n b) refl (run_some n s)
  where
    go : (t : Bool) → ordinary n b ≡ t → any_of (is_bare n) (signs Out (drop (run_len (ordinary n) s) s)) ≡ any_of (is_bare n) (signs Out s)
        → any_of (is_bare n) (signs Out (drop (run_len (ordinary n) (b ∷ s)) (b ∷ s))) ≡ any_of (is_bare n) (signs Out (b ∷ s))
    go true e ih = simp (e, not_grave n b e, not_quote n b e, not_stop n b e, stays n b e) ih
    go false e ih = simp e
