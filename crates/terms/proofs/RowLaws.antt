-- Each of rows 1 to 5 is given exactly when its row holds and no earlier one does, with its place; a line is fine exactly when none holds. Assumes nothing.
use Prim.Native.Nat.{ℕ, zero, suc, ◌+◌, ◌-◌, ◌<◌, ◌≤◌}
use mathlib.Core.Path.{◌≡◌, refl, sym, ap, ◌∙◌, subst}
use mathlib.Core.List.{List, [], ◌∷◌, ◌++◌}
use mathlib.Core.Bool.{Bool, true, false, cond}
use native.Mathlib.Omega.{arith}
use native.Mathlib.Decide.{dec_lt}
use native.Mathlib.Nat.{add-zero}
use lib.ListN.{length, get_or, length-append}
use lib.Dec.{eqb}
use borrow.Author.Tests.{eqb-true, eqb-false, ne_eqb, lt-ltb, le-ltb}
use Rattle.text.specs.Bytes.{one_of, printable}
use Rattle.text.specs.Lists.{all_of, run_len, walk}
use Rattle.text.proofs.Tests.{no_case}
use Rattle.text.proofs.Classes.{other_byte}
use Rattle.text.proofs.Scans.{run_within, run_all, all_run, run_fails, walk_over}
use Rattle.terms.specs.declared.Mode.{Mode}
use Rattle.terms.specs.declared.Mode.TheVariants.{Out, OutGrave, In, InGrave}
use Rattle.terms.specs.Signs.{Sign, twelve, two, after, gives, at_end, signs, raw, raws}
use Rattle.terms.specs.Terms.{Term, terms_of}
use Rattle.terms.specs.Rows.{or_else, long_flaw, odd_flaw, end_mode, opens, opened_at, end_flaw, open_flaw, many_from, many_flaw, lexical_of}
use Rattle.terms.specs.RowWords.{line_signs, is_lone, ends_lone, turns, ends_open, marked, last_mark, start_of, Row1, Row2, Row3, Row4, Row5, NoRow}
use Rattle.terms.proofs.Paper.{twelve_grave, two_grave, as_the_paper_says}
use Rattle.terms.proofs.SignBytes.{pend, gives_width}
use Rattle.terms.proofs.ByteCases.{gives_case, end_case}
use Rattle.std.proofs.Common.{Result, Ok, Err}
use Rattle.text.specs.Room.{refusal_at}
use Rattle.text.specs.declared.Refusal.{Refusal}

-- ---- row 2: the first byte that fails a test stands where the run of those that pass ends

module _ (f : ℕ → Bool) where
  run_passes : (s : List ℕ) (i : ℕ) → i < run_len f s → f (get_or s i 0) ≡ true
  unfolding run_len
  run_passes [] i h = absurd (omega arith)
  run_passes (b ∷ s) i h = go (f b) refl i h (run_passes s)
    where
      go : (t : Bool) → f b ≡ t → (j : ℕ) → j < cond t (suc (run_len f s)) 0 → ((k : ℕ) → k < run_len f s → f (get_or s k 0) ≡ true) → f (get_or (b ∷ s) j 0) ≡ true
      go true p zero k ih = p
      go true p (suc j) k ih = ih j (omega arith)
      go false p j k ih = absurd (omega arith)

  first_run : (s : List ℕ) (p : ℕ) → p < length s → f (get_or s p 0) ≡ false → ((i : ℕ) → i < p → f (get_or s i 0) ≡ true) → run_len f s ≡ p
  unfolding run_len
  first_run [] p h e k = absurd (omega arith)
  first_run (b ∷ s) zero h e k = rw e
  first_run (b ∷ s) (suc p) h e k = rw (k 0 (omega arith)) (ap suc (first_run s p (omega arith) e (λ i g. k (suc i) (omega arith))))

-- ---- rows 3 and 4: the mode at the line's end

abbrev pub is_grave : Mode → Bool
is_grave Out = false
is_grave OutGrave = true
is_grave In = false
is_grave InGrave = true

abbrev pub is_in : Mode → Bool
is_in Out = false
is_in OutGrave = false
is_in In = true
is_in InGrave = true

abbrev lone : Bool → Sign → Bool
lone last x = is_lone x

-- a byte gives no sign that ends as a lone GRAVE
gives_no_lone : (m : Mode) (b : ℕ) → walk lone false (gives m b) ≡ false
unfolding walk
gives_no_lone m b =
    gives_case (λ k g n. walk lone false g ≡ false) b (λ _. refl) (λ _ _. refl) (λ p _. p) (λ _. refl) (λ p. other_byte (one_of twelve) 96 b false twelve_grave p)
    (λ _. refl) (λ _ _. refl) (λ p _. p) (λ _. refl) (λ p. other_byte (one_of two) 96 b false two_grave p) m

end_lone : (m : Mode) → walk lone false (at_end m) ≡ is_grave m
unfolding walk
end_lone = end_case (λ m z. walk lone false z ≡ is_grave m) refl refl refl refl

lone_mode : (m : Mode) (s : List ℕ) → walk lone false (signs m s) ≡ is_grave (end_mode m s)
unfolding signs end_mode walk
lone_mode m [] = end_lone m
lone_mode m (b ∷ s) =
    walk_over lone false (gives m b) (signs (after m b) s)
    ∙ ap (λ (q : Bool). walk lone q (signs (after m b) s)) (gives_no_lone m b)
    ∙ lone_mode (after m b) s

gives_turns : (m : Mode) (b : ℕ) → walk turns (is_in m) (gives m b) ≡ is_in (after m b)
unfolding walk
gives_turns m b =
    gives_case (λ k g n. walk turns (is_in k) g ≡ is_in n) b (λ _. refl) (λ _ _. refl) (λ _ _. refl) (λ _. refl) (λ _. refl) (λ _. refl) (λ _ _. refl) (λ _ _. refl) (λ _. refl)
    (λ _. refl) m

end_turns : (m : Mode) → walk turns (is_in m) (at_end m) ≡ is_in m
unfolding walk
end_turns = end_case (λ m z. walk turns (is_in m) z ≡ is_in m) refl refl refl refl

open_mode : (m : Mode) (s : List ℕ) → walk turns (is_in m) (signs m s) ≡ is_in (end_mode m s)
unfolding signs end_mode walk
open_mode m [] = end_turns m
open_mode m (b ∷ s) =
    walk_over turns (is_in m) (gives m b) (signs (after m b) s)
    ∙ ap (λ (q : Bool). walk turns q (signs (after m b) s)) (gives_turns m b)
    ∙ open_mode (after m b) s

pub lone_is : (line : List ℕ) → ends_lone (line_signs line) ≡ is_grave (end_mode Out line)
unfolding ends_lone
lone_is line = ap (λ (z : List Sign). walk lone false z) (sym (as_the_paper_says line)) ∙ lone_mode Out line

pub open_is : (line : List ℕ) → ends_open (line_signs line) ≡ is_in (end_mode Out line)
unfolding ends_open
open_is line = ap (λ (z : List Sign). walk turns false z) (sym (as_the_paper_says line)) ∙ open_mode Out line

-- ---- row 4's place: where a quote is open at the end, the last quote mark opened it

mark_over : (i q : ℕ) (a r : List Sign) → last_mark i q (a ++ r) ≡ last_mark (i + length (raws a)) (last_mark i q a) r
unfolding last_mark raws
mark_over i q [] r = ap (λ (k : ℕ). last_mark k q r) (sym (add-zero i))
mark_over i q (x ∷ a) r =
    let n = length-append (raw x) (raws a) in
    mark_over (i + length (raw x)) (marked x i q) a r ∙ ap (λ (k : ℕ). last_mark k (last_mark (i + length (raw x)) (marked x i q) a) r) (omega arith)

-- j is the place of the next byte, i that of the sign that is not told yet
mark_step : (m : Mode) (b i j q r : ℕ) → j ≡ i + pend m → (is_in m ≡ true → q ≡ r) → is_in (after m b) ≡ true → opens m b j q ≡ last_mark i r (gives m b)
unfolding last_mark
mark_step m b i j q r =
    gives_case (λ k g n. j ≡ i + pend k → (is_in k ≡ true → q ≡ r) → is_in n ≡ true → opens k b j q ≡ last_mark i r g) b (λ _ e h t. no_case (sym t)) (λ _ p e h t. rw p (omega arith))
    (λ _ _ e h t. no_case (sym t)) (λ _ e h t. no_case (sym t)) (λ _ e h t. no_case (sym t)) (λ _ e h t. h refl) (λ _ _ e h t. no_case (sym t)) (λ _ _ e h t. h refl) (λ _ e h t. h refl)
    (λ _ e h t. h refl) m

end_mark : (m : Mode) (i r : ℕ) → last_mark i r (at_end m) ≡ r
unfolding last_mark
end_mark m i r = end_case (λ k z. last_mark i r z ≡ r) refl refl refl refl m

mark_mode : (m : Mode) (s : List ℕ) (i j q r : ℕ) → j ≡ i + pend m → (is_in m ≡ true → q ≡ r) → is_in (end_mode m s) ≡ true → opened_at m j q s ≡ last_mark i r (signs m s)
unfolding opened_at signs end_mode walk
mark_mode m [] i j q r e h k = h k ∙ sym (end_mark m i r)
mark_mode m (b ∷ s) i j q r e h k =
    let w = gives_width m b in
    mark_mode (after m b) s (i + length (raws (gives m b))) (j + 1) (opens m b j q) (last_mark i r (gives m b)) (omega arith) (mark_step m b i j q r e h) k
    ∙ sym (mark_over i r (gives m b) (signs (after m b) s))

mark_is : (line : List ℕ) → is_in (end_mode Out line) ≡ true → opened_at Out 0 0 line ≡ last_mark 0 0 (line_signs line)
mark_is line k = mark_mode Out line 0 0 0 0 (omega arith) (λ e. refl) k ∙ ap (last_mark 0 0) (as_the_paper_says line)

-- what stands at the line's end
ends_lone_lem : (m : Mode) (n q : ℕ) → is_grave m ≡ true → end_flaw m n q ≡ Err (refusal_at 3 (n - 1))
ends_lone_lem Out n q e = no_case (sym e)
ends_lone_lem OutGrave n q e = refl
ends_lone_lem In n q e = no_case (sym e)
ends_lone_lem InGrave n q e = refl

ends_open_lem : (m : Mode) (n q : ℕ) → is_grave m ≡ false → is_in m ≡ true → end_flaw m n q ≡ Err (refusal_at 4 q)
ends_open_lem Out n q e f = no_case (sym f)
ends_open_lem OutGrave n q e f = no_case (sym f)
ends_open_lem In n q e f = refl
ends_open_lem InGrave n q e f = no_case e

ends_well : (m : Mode) (n q : ℕ) → is_grave m ≡ false → is_in m ≡ false → end_flaw m n q ≡ Ok tt
ends_well Out n q e f = refl
ends_well OutGrave n q e f = no_case e
ends_well In n q e f = no_case f
ends_well InGrave n q e f = no_case f

-- ---- row 5: k terms came before

pub many_few : (k : ℕ) (ts : List Term) → k + length ts ≤ 64 → many_from k ts ≡ Ok tt
unfolding many_from
many_few k [] h = refl
many_few k (t ∷ ts) h = rw (ne_eqb k 64 (λ z. omega arith)) (many_few (k + 1) ts (omega arith))

many_over : (k : ℕ) (ts : List Term) → k ≤ 64 → 64 < k + length ts → many_from k ts ≡ Err (refusal_at 5 (start_of (64 - k) ts))
unfolding many_from start_of
many_over k [] h g = absurd (omega arith)
many_over k (t ∷ ts) h g = go (eqb k 64) refl (λ z. many_over (k + 1) ts z (omega arith))
  where
    go : (x : Bool) → eqb k 64 ≡ x → (k + 1 ≤ 64 → many_from (k + 1) ts ≡ Err (refusal_at 5 (start_of (64 - (k + 1)) ts)))
        → cond (eqb k 64) (Err (refusal_at 5 t.start)) (many_from (k + 1) ts) ≡ Err (refusal_at 5 (start_of (64 - k) (t ∷ ts)))
    go true p ih = let z = eqb-true k 64 p in let e : 64 - k ≡ 0 = omega arith in rw (p, e)
    go false p ih =
        let n = eqb-false k 64 p in
        let e : 64 - k ≡ suc (64 - (k + 1)) = omega arith in
        rw (p, e) (ih (omega arith))

-- ---- EACH ROW GIVES ITS NUMBER AND ITS PLACE

give_1 : (line : List ℕ) (p : ℕ) → Row1 line p → lexical_of line ≡ Err (refusal_at 1 p)
unfolding lexical_of long_flaw
give_1 line p r = rw (lt-ltb 1024 (length line) r.over, r.at)

give_2 : (line : List ℕ) (p : ℕ) → Row2 line p → lexical_of line ≡ Err (refusal_at 2 p)
unfolding lexical_of long_flaw odd_flaw
give_2 line p r =
    let e : run_len printable line ≡ p = first_run printable line p r.within r.odd r.first in
    rw (le-ltb 1024 (length line) r.short, e, lt-ltb p (length line) r.within)

-- rows 1 and 2 passed
clean_line : (line : List ℕ) → length line ≤ 1024 → all_of printable line ≡ true → lexical_of line ≡ or_else (open_flaw line) (many_flaw line)
unfolding lexical_of long_flaw odd_flaw
clean_line line h e =
    let n : run_len printable line ≡ length line = all_run printable line e in
    rw (le-ltb 1024 (length line) h, n, le-ltb (length line) (length line) (omega arith))

give_3 : (line : List ℕ) (p : ℕ) → Row3 line p → lexical_of line ≡ Err (refusal_at 3 p)
unfolding open_flaw
give_3 line p r =
    clean_line line r.short r.clean
    ∙ ap (λ (v : Result Unit Refusal). or_else v (many_flaw line)) (ends_lone_lem (end_mode Out line) (length line) (opened_at Out 0 0 line) (sym (lone_is line) ∙ r.lone))
    ∙ ap (λ (p : ℕ). Err (refusal_at 3 p)) (sym r.at)

give_4 : (line : List ℕ) (p : ℕ) → Row4 line p → lexical_of line ≡ Err (refusal_at 4 p)
unfolding open_flaw
give_4 line p r =
    let k : is_in (end_mode Out line) ≡ true = sym (open_is line) ∙ r.opened in
    clean_line line r.short r.clean
    ∙ ap (λ (v : Result Unit Refusal). or_else v (many_flaw line)) (ends_open_lem (end_mode Out line) (length line) (opened_at Out 0 0 line) (sym (lone_is line) ∙ r.paired) k)
    ∙ ap (λ (p : ℕ). Err (refusal_at 4 p)) (mark_is line k ∙ sym r.at)

-- rows 3 and 4 passed too
closed_line : (line : List ℕ) → length line ≤ 1024 → all_of printable line ≡ true → ends_lone (line_signs line) ≡ false → ends_open (line_signs line) ≡ false
    → lexical_of line ≡ many_from 0 (terms_of line)
unfolding open_flaw many_flaw
closed_line line h e f g =
    clean_line line h e
    ∙ ap (λ (v : Result Unit Refusal). or_else v (many_from 0 (terms_of line))) (ends_well (end_mode Out line) (length line) (opened_at Out 0 0 line) (sym (lone_is line) ∙ f) (sym (open_is line) ∙ g))

give_5 : (line : List ℕ) (p : ℕ) → Row5 line p → lexical_of line ≡ Err (refusal_at 5 p)
give_5 line p r =
    let m = r.many in
    closed_line line r.short r.clean r.paired r.closed
    ∙ many_over 0 (terms_of line) (omega arith) (omega arith)
    ∙ ap (λ (p : ℕ). Err (refusal_at 5 p)) (sym r.at)

give_fine : (line : List ℕ) → NoRow line → lexical_of line ≡ Ok tt
give_fine line r = let f = r.few in closed_line line r.short r.clean r.paired r.closed ∙ many_few 0 (terms_of line) (omega arith)

-- ---- ONE OF THEM HOLDS

pub data Case (line : List ℕ) : Type 0 where
  is1 : Row1 line 1024 → Case line
  is2 : Row2 line (run_len printable line) → Case line
  is3 : Row3 line (length line - 1) → Case line
  is4 : Row4 line (last_mark 0 0 (line_signs line)) → Case line
  is5 : Row5 line (start_of 64 (terms_of line)) → Case line
  is_fine : NoRow line → Case line

pub judged : (line : List ℕ) → Case line
judged line = by (dec_lt 1024 (length line)) (dec_lt (run_len printable line) (length line)) (ends_lone (line_signs line)) (ends_open (line_signs line)) (dec_lt 64 (length (terms_of line))) refl refl
  where
    all : (run_len printable line < length line → ⊥) → all_of printable line ≡ true
    all h = let w = run_within printable line in run_all printable line (omega arith)

    by : Dec (1024 < length line) → Dec (run_len printable line < length line) → (x y : Bool) → Dec (64 < length (terms_of line)) → ends_lone (line_signs line) ≡ x → ends_open (line_signs line) ≡ y
        → Case line
    by (yes a) b x y c p q = is1 (record { over = a; at = refl })
    by (no a) (yes b) x y c p q = is2 (record { short = omega arith; within = b; odd = run_fails printable line 0 b; first = run_passes printable line })
    by (no a) (no b) true y c p q = is3 (record { short = omega arith; clean = all b; lone = p; at = refl })
    by (no a) (no b) false true c p q = is4 (record { short = omega arith; clean = all b; paired = p; opened = q; at = refl })
    by (no a) (no b) false false (yes c) p q = is5 (record { short = omega arith; clean = all b; paired = p; closed = q; many = c; at = refl })
    by (no a) (no b) false false (no c) p q = is_fine (record { short = omega arith; clean = all b; paired = p; closed = q; few = omega arith })

-- ---- EACH ROW IS GIVEN EXACTLY WHEN IT HOLDS AND NO EARLIER ONE DOES

clash : {P : Type 0} (n m : ℕ) {q p : ℕ} → eqb n m ≡ false → ◌≡◌ {A = Result Unit Refusal} (Err (refusal_at n q)) (Err (refusal_at m p)) → P
clash n m {q} {p} h e = absurd (eqb-false n m h (let r : refusal_at n q ≡ refusal_at m p = cc in ap (λ (r : Refusal). r.number) r))

flawed_fine : {P : Type 0} {n p : ℕ} → ◌≡◌ {A = Result Unit Refusal} (Err (refusal_at n p)) (Ok tt) → P
flawed_fine e = absurd (let z : ◌≡◌ {A = ℕ} 0 1 = cc in omega arith)

same_place : (n : ℕ) {q p : ℕ} → ◌≡◌ {A = Result Unit Refusal} (Err (refusal_at n q)) (Err (refusal_at n p)) → q ≡ p
same_place n {q} {p} e = let r : refusal_at n q ≡ refusal_at n p = cc in ap (λ (r : Refusal). r.place) r

-- what is given is the verdict of the row that holds
given_by : {P : Type 0} (line : List ℕ) {v : Result Unit Refusal} → lexical_of line ≡ v
    → (Row1 line 1024 → Err (refusal_at 1 1024) ≡ v → P)
    → (Row2 line (run_len printable line) → Err (refusal_at 2 (run_len printable line)) ≡ v → P)
    → (Row3 line (length line - 1) → Err (refusal_at 3 (length line - 1)) ≡ v → P)
    → (Row4 line (last_mark 0 0 (line_signs line)) → Err (refusal_at 4 (last_mark 0 0 (line_signs line))) ≡ v → P)
    → (Row5 line (start_of 64 (terms_of line)) → Err (refusal_at 5 (start_of 64 (terms_of line))) ≡ v → P)
    → (NoRow line → Ok tt ≡ v → P) → P
given_by {P = P} line {v = v} e one two' three four five fine = go (judged line)
  where
    go : Case line → P
    go (is1 r) = one r (sym (give_1 line 1024 r) ∙ e)
    go (is2 r) = two' r (sym (give_2 line (run_len printable line) r) ∙ e)
    go (is3 r) = three r (sym (give_3 line (length line - 1) r) ∙ e)
    go (is4 r) = four r (sym (give_4 line (last_mark 0 0 (line_signs line)) r) ∙ e)
    go (is5 r) = five r (sym (give_5 line (start_of 64 (terms_of line)) r) ∙ e)
    go (is_fine r) = fine r (sym (give_fine line r) ∙ e)

only_1 : (line : List ℕ) (p : ℕ) → lexical_of line ≡ Err (refusal_at 1 p) → Row1 line p
only_1 line p e =
    given_by line e (λ r z. subst (Row1 line) (same_place 1 z) r) (λ r z. clash 2 1 refl z) (λ r z. clash 3 1 refl z) (λ r z. clash 4 1 refl z) (λ r z. clash 5 1 refl z)
    (λ r z. flawed_fine (sym z))

only_2 : (line : List ℕ) (p : ℕ) → lexical_of line ≡ Err (refusal_at 2 p) → Row2 line p
only_2 line p e =
    given_by line e (λ r z. clash 1 2 refl z) (λ r z. subst (Row2 line) (same_place 2 z) r) (λ r z. clash 3 2 refl z) (λ r z. clash 4 2 refl z) (λ r z. clash 5 2 refl z)
    (λ r z. flawed_fine (sym z))

only_3 : (line : List ℕ) (p : ℕ) → lexical_of line ≡ Err (refusal_at 3 p) → Row3 line p
only_3 line p e =
    given_by line e (λ r z. clash 1 3 refl z) (λ r z. clash 2 3 refl z) (λ r z. subst (Row3 line) (same_place 3 z) r) (λ r z. clash 4 3 refl z) (λ r z. clash 5 3 refl z)
    (λ r z. flawed_fine (sym z))

only_4 : (line : List ℕ) (p : ℕ) → lexical_of line ≡ Err (refusal_at 4 p) → Row4 line p
only_4 line p e =
    given_by line e (λ r z. clash 1 4 refl z) (λ r z. clash 2 4 refl z) (λ r z. clash 3 4 refl z) (λ r z. subst (Row4 line) (same_place 4 z) r) (λ r z. clash 5 4 refl z)
    (λ r z. flawed_fine (sym z))

only_5 : (line : List ℕ) (p : ℕ) → lexical_of line ≡ Err (refusal_at 5 p) → Row5 line p
only_5 line p e =
    given_by line e (λ r z. clash 1 5 refl z) (λ r z. clash 2 5 refl z) (λ r z. clash 3 5 refl z) (λ r z. clash 4 5 refl z) (λ r z. subst (Row5 line) (same_place 5 z) r)
    (λ r z. flawed_fine (sym z))

only_fine : (line : List ℕ) → lexical_of line ≡ Ok tt → NoRow line
only_fine line e = given_by line e (λ r z. flawed_fine z) (λ r z. flawed_fine z) (λ r z. flawed_fine z) (λ r z. flawed_fine z) (λ r z. flawed_fine z) (λ r z. r)

pub row_1 : (line : List ℕ) (p : ℕ) → (Row1 line p → lexical_of line ≡ Err (refusal_at 1 p)) × (lexical_of line ≡ Err (refusal_at 1 p) → Row1 line p)
row_1 line p = (give_1 line p, only_1 line p)

pub row_2 : (line : List ℕ) (p : ℕ) → (Row2 line p → lexical_of line ≡ Err (refusal_at 2 p)) × (lexical_of line ≡ Err (refusal_at 2 p) → Row2 line p)
row_2 line p = (give_2 line p, only_2 line p)

pub row_3 : (line : List ℕ) (p : ℕ) → (Row3 line p → lexical_of line ≡ Err (refusal_at 3 p)) × (lexical_of line ≡ Err (refusal_at 3 p) → Row3 line p)
row_3 line p = (give_3 line p, only_3 line p)

pub row_4 : (line : List ℕ) (p : ℕ) → (Row4 line p → lexical_of line ≡ Err (refusal_at 4 p)) × (lexical_of line ≡ Err (refusal_at 4 p) → Row4 line p)
row_4 line p = (give_4 line p, only_4 line p)

pub row_5 : (line : List ℕ) (p : ℕ) → (Row5 line p → lexical_of line ≡ Err (refusal_at 5 p)) × (lexical_of line ≡ Err (refusal_at 5 p) → Row5 line p)
row_5 line p = (give_5 line p, only_5 line p)

pub no_row : (line : List ℕ) → (NoRow line → lexical_of line ≡ Ok tt) × (lexical_of line ≡ Ok tt → NoRow line)
no_row line = (give_fine line, only_fine line)
