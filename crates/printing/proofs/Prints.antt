-- Printing a capture, part after part, gives the text of its lines, and such calls come to their end. Assumes nothing.
use Prim.Native.Nat.{ℕ, zero, suc, ◌+◌, ◌-◌, ◌<◌, ◌≤◌}
use native.Mathlib.Omega.{arith}
use native.Mathlib.Nat.{le_refl}
use mathlib.Core.Path.{◌≡◌, refl, sym, ap, ◌∙◌, subst}
use mathlib.Core.List.{List, [], ◌∷◌, ◌++◌, append_assoc}
use mathlib.Core.Bool.{Bool, true, false, ◌&&◌, cond}
use lib.ListN.{length, take, drop, replicate, length-drop}
use lib.Seq.{drop-drop, take_all}
use lib.Dec.{leb}
use Rattle.text.proofs.Slices.{drop_take}
use Rattle.text.proofs.Writes.{take_wrote}
use borrow.Author.Tests.{lt-ltb}
use Rattle.text.proofs.Tests.{and_r}
use Rattle.text.specs.Room.{wrote}
use Rattle.joiner.specs.declared.Joiner.{Joiner}
use Rattle.joiner.specs.Step.{start}
use Rattle.joiner.specs.Lines.{Given, lines_of, ending_of}
use Rattle.joiner.specs.Join.{Ran, join_of, end_of}
use Rattle.joiner.specs.Calls.{given_of, end_as, Calls}
use Rattle.joiner.specs.Calls as calls
use Rattle.joiner.proofs.Capture.{calls_give}
use Rattle.lister.specs.Lister.{fit}
use Rattle.wording.specs.Words.{wording_from, wording_of}
use Rattle.printing.specs.Printing.{longest, may_call, may_print, lines_by, outcome_text, ran_text, Print, none_yet, and_then, print_from, print_of, PartPrint, printed_by, unprinted, part_print}
use Rattle.printing.specs.Prints.{lines_text, Prints, done, call}
use Rattle.printing.proofs.LoopLaws.{may_fit, fit_on, used_some, print_on, print_some}
use Rattle.std.proofs.Common.{Ok}
use Rattle.std.proofs.Common.{Result, Err, Option, Some, None}
use Rattle.text.specs.declared.Refusal.{Refusal}

-- ---- the text of what a call gives

given_text : (o : Result (Option ℕ) Refusal) (b : List ℕ) (l : List Given) → lines_text (given_of o b ++ l) ≡ outcome_text o b ++ lines_text l
unfolding lines_text outcome_text wording_of wording_from
given_text (Ok None) b l = refl
given_text (Ok (Some n)) b l = refl
given_text (Err e) b l = refl

given_lines : (o : Result (Option ℕ) Refusal) (b : List ℕ) (l : List Given) → length (given_of o b ++ l) ≡ lines_by o + length l
given_lines (Ok None) b l = omega arith
given_lines (Ok (Some n)) b l = omega arith
given_lines (Err e) b l = omega arith

-- ---- a print is some calls of the joiner

-- calls over what is left of a capture, and the text and the number of the lines that they give
record Gives (s : Joiner) (b c t : List ℕ) (k : ℕ) (s' : Joiner) : Type 0 where
  sizes : List ℕ
  lines : List Given
  calls : Calls sizes s b c lines s'
  text : t ≡ lines_text lines
  count : k ≡ length lines

one_more : (s s' : Joiner) (b c t p : List ℕ) (k n : ℕ) → p ≡ take n c
    → let R : Ran = join_of s b p in
    Gives R.answer.state R.buffer (drop R.answer.used c) t k s' → Gives s b c (ran_text R ++ t) (lines_by R.answer.outcome + k) s'
one_more s s' b c t p k n e =
    subst (λ (q : List ℕ). Gives (join_of s b q).answer.state (join_of s b q).buffer (drop (join_of s b q).answer.used c) t k s'
    → Gives s b c (ran_text (join_of s b q) ++ t) (lines_by (join_of s b q).answer.outcome + k) s') (sym e) made
  where
    made : Gives (join_of s b (take n c)).answer.state (join_of s b (take n c)).buffer (drop (join_of s b (take n c)).answer.used c) t k s'
        → Gives s b c (ran_text (join_of s b (take n c)) ++ t) (lines_by (join_of s b (take n c)).answer.outcome + k) s'
    made g =
        let R : Ran = join_of s b (take n c) in
        record {
          sizes = n ∷ g.sizes;
          lines = given_of R.answer.outcome R.buffer ++ g.lines;
          calls = calls.call n g.calls;
          text = ap (λ (u : List ℕ). ran_text R ++ u) g.text ∙ sym (given_text R.answer.outcome R.buffer g.lines);
          count = omega (arith, g.count, given_lines R.answer.outcome R.buffer g.lines);
        }

-- one call, and then what the others print
and_then_lem : (s s' : Joiner) (b c t p : List ℕ) (k n : ℕ) (Q : Print) → p ≡ take n c
    → let R : Ran = join_of s b p in
    (Gives Q.state Q.buffer (drop Q.used (drop R.answer.used c)) t k s'
    → Gives R.answer.state R.buffer (drop R.answer.used c) (Q.text ++ t) (Q.lines + k) s')
    → let P : Print = and_then R Q in
    Gives P.state P.buffer (drop P.used c) t k s' → Gives s b c (P.text ++ t) (P.lines + k) s'
and_then_lem s s' b c t p k n Q e h g =
    let R : Ran = join_of s b p in
    let o = one_more s s' b c (Q.text ++ t) p (Q.lines + k) n e
    (h (subst (λ (l : List ℕ). Gives Q.state Q.buffer l t k s') (sym (drop-drop Q.used R.answer.used c)) g)) in
    let q : lines_by R.answer.outcome + (Q.lines + k) ≡ lines_by R.answer.outcome + Q.lines + k = omega arith in
    subst (λ (u : List ℕ). Gives s b c u (lines_by R.answer.outcome + Q.lines + k) s') (sym (append_assoc (ran_text R) Q.text t))
    (subst (λ (v : ℕ). Gives s b c (ran_text R ++ (Q.text ++ t)) v s') q o)

-- no call: nothing is added
no_more : (s s' : Joiner) (b c t : List ℕ) (k : ℕ) → Gives s b c t k s' → Gives s b c t (0 + k) s'
no_more s s' b c t k g = let e : k ≡ 0 + k = omega arith in subst (λ (v : ℕ). Gives s b c t v s') e g

print_gives : (fuel : ℕ) (s s' : Joiner) (b c t p : List ℕ) (k n m : ℕ) → p ≡ take n c
    → let P : Print = print_from fuel s b p m in
    Gives P.state P.buffer (drop P.used c) t k s' → Gives s b c (P.text ++ t) (P.lines + k) s'
unfolding print_from
print_gives zero s s' b c t p k n m e = no_more s s' b c t k
print_gives (suc fuel) s s' b c t p k n m e =
    let R : Ran = join_of s b p in
    let f : drop R.answer.used p ≡ take (n - R.answer.used) (drop R.answer.used c) = ap (drop R.answer.used) e ∙ drop_take R.answer.used n c in
    go (may_call (length p) m)
    (print_gives fuel R.answer.state s' R.buffer (drop R.answer.used c) t (drop R.answer.used p) k (n - R.answer.used) (m - length (ran_text R)) f)
  where
    Q : Print
    Q = print_from fuel (join_of s b p).answer.state (join_of s b p).buffer (drop (join_of s b p).answer.used p) (m - length (ran_text (join_of s b p)))

    go : (w : Bool)
        → (Gives Q.state Q.buffer (drop Q.used (drop (join_of s b p).answer.used c)) t k s'
        → Gives (join_of s b p).answer.state (join_of s b p).buffer (drop (join_of s b p).answer.used c) (Q.text ++ t) (Q.lines + k) s')
        → let P : Print = cond w (and_then (join_of s b p) Q) (none_yet s b) in
        Gives P.state P.buffer (drop P.used c) t k s' → Gives s b c (P.text ++ t) (P.lines + k) s'
    go false h = no_more s s' b c t k
    go true h = and_then_lem s s' b c t p k n Q e h

-- ---- a call that writes is such a print, and its text is handed over

pub wrote_some : (s : Joiner) (b p out : List ℕ) (w : ℕ) → (part_print s b p out).answer.answer ≡ Ok w → may_print s b (length out) ≡ true
unfolding part_print
wrote_some s b p out w = go (may_print s b (length out))
  where
    go : (t : Bool) → (cond t (printed_by (print_of s b p (length out)) out) (unprinted s b out)).answer.answer ≡ Ok w → t ≡ true
    go true e = refl
    go false e = let z : ◌≡◌ {A = ℕ} 0 1 = cc in absurd (omega arith)

handed : (w : ℕ) (out : List ℕ) (P : Print) → (printed_by P out).answer.answer ≡ Ok w → take w (wrote out P.text) ≡ P.text
handed w out P e = let m : length P.text ≡ w = cc in ap (λ (v : ℕ). take v (wrote out P.text)) (sym m) ∙ take_wrote out P.text

call_gives : (s s' : Joiner) (b c t : List ℕ) (k n w : ℕ) (out : List ℕ) (A : PartPrint) → A ≡ printed_by (print_of s b (take n c) (length out)) out
    → A.answer.answer ≡ Ok w → Gives A.answer.state A.buffer (drop A.answer.used c) t k s'
    → Gives s b c (take w A.out ++ t) (A.answer.lines + k) s'
unfolding print_of
call_gives s s' b c t k n w out A e =
    subst (λ (B : PartPrint). B.answer.answer ≡ Ok w → Gives B.answer.state B.buffer (drop B.answer.used c) t k s'
    → Gives s b c (take w B.out ++ t) (B.answer.lines + k) s') (sym e)
    (λ f g. subst (λ (u : List ℕ). Gives s b c (u ++ t) (P.lines + k) s') (sym (handed w out P f))
    (print_gives (length (take n c)) s s' b c t (take n c) k n (length out) refl g))
  where
    P : Print
    P = print_from (length (take n c)) s b (take n c) (length out)

-- ---- THE THEOREM: whatever the parts and the rooms, all that is handed over is the text of the capture's lines, as many are told as there are, and then
-- the end says what the capture's end says

give : {s s' : Joiner} {b c t : List ℕ} {k : ℕ} → Prints s b c t k s' → Gives s b c t k s'
unfolding lines_text
give {s = s} done = record { sizes = []; lines = []; calls = calls.done; text = refl; count = refl }
give {s = s} {s' = s'} {b = b} {c = c} (call n out w e d) =
    call_gives s s' b c _ _ n w out (part_print s b (take n c) out) (print_some s b (take n c) out (wrote_some s b (take n c) out w e)) e (give d)

pub prints_lines : (b c t : List ℕ) (k : ℕ) (s : Joiner) → length b ≡ 1024 → Prints start b c t k s
    → (t ≡ lines_text (lines_of c)) × (k ≡ length (lines_of c)) × (end_of s ≡ end_as (ending_of c))
prints_lines b c t k s h d =
    let g = give d in
    let e = calls_give g.sizes b c g.lines s h g.calls in
    (g.text ∙ ap lines_text e.0, g.count ∙ ap length e.0, e.2)

-- ---- such calls come to their end: a call that writes uses one byte or more of those that are left, and leaves what the next one does not refuse

may_some : (s : Joiner) (b p : List ℕ) (room : ℕ) → may_print s b room ≡ true → 0 < length p → may_call (length p) room ≡ true
may_some s b p room e h =
    ap (λ (t : Bool). t && leb longest room) (lt-ltb 0 (length p) h) ∙ and_r (fit s b) (leb longest room) e

from_fit : (fuel : ℕ) (s : Joiner) (b p : List ℕ) (room : ℕ) → fit s b ≡ true
    → fit (print_from fuel s b p room).state (print_from fuel s b p room).buffer ≡ true
unfolding print_from
from_fit zero s b p room f = f
from_fit (suc fuel) s b p room f =
    let R : Ran = join_of s b p in
    go (may_call (length p) room) (from_fit fuel R.answer.state R.buffer (drop R.answer.used p) (room - length (ran_text R)) (fit_on s b p f))
  where
    Q : Print
    Q = print_from fuel (join_of s b p).answer.state (join_of s b p).buffer (drop (join_of s b p).answer.used p) (room - length (ran_text (join_of s b p)))

    go : (w : Bool) → fit Q.state Q.buffer ≡ true
        → let P : Print = cond w (and_then (join_of s b p) Q) (none_yet s b) in
        fit P.state P.buffer ≡ true
    go true h = h
    go false h = f

module _ (s : Joiner) (b p out : List ℕ) (w : ℕ) (e : (part_print s b p out).answer.answer ≡ Ok w) where
  printed_so : part_print s b p out ≡ printed_by (print_of s b p (length out)) out
  printed_so = print_some s b p out (wrote_some s b p out w e)

  fitting : fit s b ≡ true
  fitting = may_fit s b (length out) (wrote_some s b p out w e)

  pub print_uses : 0 < length p → 0 < (part_print s b p out).answer.used
  print_uses h =
      omega (
        arith,
        ap (λ (A : PartPrint). A.answer.used) printed_so,
        ap (λ (P : Print). P.used) (print_on s b p (length out) fitting (may_some s b p (length out) (wrote_some s b p out w e) h)),
        used_some s b p fitting h,
      )

  pub print_fit : fit (part_print s b p out).answer.state (part_print s b p out).buffer ≡ true
  unfolding print_of
  print_fit = ap (λ (A : PartPrint). fit A.answer.state A.buffer) printed_so ∙ from_fit (length p) s b p (length out) fitting

abbrev Printable : Joiner → List ℕ → List ℕ → Type 0
Printable s b c = (t : List ℕ) × (k : ℕ) × (s' : Joiner) × Prints s b c t k s'

-- room for any line's text is enough
enough : List ℕ
enough = replicate longest 0

fit_wrote : (s : Joiner) (b p : List ℕ) → fit s b ≡ true
    → (part_print s b p enough).answer.answer ≡ Ok (length (print_of s b p (length enough)).text)
unfolding enough
fit_wrote s b p f = ap (λ (A : PartPrint). A.answer.answer) (print_some s b p enough (ap (λ (t : Bool). t && leb longest (length enough)) f))

to_end_lem : (fuel : ℕ) (s : Joiner) (b c : List ℕ) → length c ≤ fuel → fit s b ≡ true → Printable s b c
to_end_lem zero s b [] h f = ([], 0, s, done)
to_end_lem zero s b (x ∷ xs) h f = absurd (omega arith)
to_end_lem (suc fuel) s b [] h f = ([], 0, s, done)
to_end_lem (suc fuel) s b (x ∷ xs) h f =
    let c : List ℕ = x ∷ xs in
    let n : ℕ = length c in
    let A : PartPrint = part_print s b (take n c) enough in
    let w : ℕ = length (print_of s b (take n c) (length enough)).text in
    let i : A.answer.answer ≡ Ok w = fit_wrote s b (take n c) f in
    let e : take n c ≡ c = take_all n c (le_refl n) in
    let u : 0 < A.answer.used = print_uses s b (take n c) enough w i (omega (arith, ap length e)) in
    let r = to_end_lem fuel A.answer.state A.buffer (drop A.answer.used c) (omega (arith, length-drop A.answer.used c)) (print_fit s b (take n c) enough w i) in
    (take w A.out ++ r.0, A.answer.lines + r.1, r.2, call n enough w i r.3)

-- from whatever calls before left, as long as the joiner does not refuse it
pub prints_run : (s : Joiner) (b c : List ℕ) → fit s b ≡ true → (t : List ℕ) × (k : ℕ) × (s' : Joiner) × Prints s b c t k s'
prints_run s b c f = to_end_lem (length c) s b c (le_refl (length c)) f
