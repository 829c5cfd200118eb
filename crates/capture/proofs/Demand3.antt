-- Demand 3: two captures, each read whole from a fresh start in any division into calls, give the same answers from the line after the first end of
-- line of a tail that both share, and at the end; and the lines that ended inside a beginning that both share are answered alike.
-- Assumes nothing.
use Prim.Native.Nat.{ℕ, suc, ◌+◌, ◌<◌, ◌≤◌}
use native.Mathlib.Omega.{arith}
use native.Mathlib.Nat.{add-zero}
use mathlib.Core.Path.{◌≡◌, refl, sym, ap, ◌∙◌, subst}
use mathlib.Core.List.{List, [], ◌∷◌, ◌++◌}
use mathlib.Core.Bool.{true}
use lib.ListN.{length, take, drop, length-append}
use lib.Seq.{take-append_seam, drop-append_seam}
use Rattle.reading.specs.Reading.{Reading}
use Rattle.reading.proofs.Folds.{long_left}
use Rattle.reading.specs.Records.{answer_in, target_in, part_at, target_part}
use Rattle.canonical.specs.Canonical.{writing_answer}
use Rattle.joiner.specs.Lines.{Given, line_or_refused, nothing_open, lines_from, lines_of, open_after, ending_of, trusted, fresh_after}
use Rattle.joiner.specs.Calls.{end_as}
use Rattle.joiner.proofs.Capture.{calls_give, calls_run}
use Rattle.joiner.proofs.Trust.{lines_of_append, with_byte, trusted_ends, trusted_lines, same_ending}
use Rattle.capture.specs.Answers.{Lent, SameLent, WholeAnswer, line_answer, answer_to, answers_from, answers_of}
use Rattle.capture.specs.Trust.{Run, run_answers, run_end, ended_by}
use Rattle.capture.proofs.Sizes.{same_answer}
use Rattle.std.proofs.Common.{Err}
use Rattle.text.specs.Room.{refusal_at}

-- ---- a line of over 1,024 bytes that is handed in directly: the functions answer refusal 1, as joining does

long_target : (t : List ℕ) → 1024 < length t → target_part t ≡ []
unfolding target_part
long_target t h = ap (λ (r : Reading). part_at t (target_in r)) (long_left t h)

pub long_line : (l : Lent) (t : List ℕ) → 1024 < length t
    → ((line_answer l t).read ≡ Err (refusal_at 1 1024)) × ((line_answer l t).canonical ≡ Err (refusal_at 1 1024)) × ((line_answer l t).target ≡ [])
unfolding line_answer
long_line l t h = (
  ap (answer_in (length l.for_records)) (long_left t h),
  ap (writing_answer (length l.for_writing)) (long_left t h),
  long_target t h,
)

-- ---- a run of calls gives the capture's answers and its end, however it is divided; and every division, however it begins, has its run

run_lines : (c : List ℕ) (r : Run c) → (r.lines ≡ lines_of c) × (run_end c r ≡ end_as (ending_of c))
run_lines c r = let g = calls_give r.sizes r.buffer c r.lines r.last r.long r.calls in (g.0, g.2)

pub run_answers_lem : (f : ℕ → Lent) (c : List ℕ) (r : Run c) → run_answers f c r ≡ answers_of f c
unfolding answers_of
run_answers_lem f c r = ap (answers_from f 0) (run_lines c r).0

pub run_end_lem : (c : List ℕ) (r : Run c) → run_end c r ≡ end_as (ending_of c)
run_end_lem c r = (run_lines c r).1

-- the first calls may see as many bytes as they like, also none
pub run_exists : (c b ns : List ℕ) → length b ≡ 1024 → (r : Run c) × (r.buffer ≡ b) × (ms : List ℕ) × (r.sizes ≡ ns ++ ms)
run_exists c b ns h =
    let d = calls_run ns b c h in
    (record { buffer = b; long = h; sizes = ns ++ d.0; lines = d.1; last = d.2; calls = d.3 }, refl, d.0, refl)

-- ---- answers of lines: one each; in two parts; the same where what is lent is the same

answers_length : (f : ℕ → Lent) (k : ℕ) (l : List Given) → length (answers_from f k l) ≡ length l
unfolding answers_from
answers_length f k [] = refl
answers_length f k (g ∷ gs) = ap suc (answers_length f (suc k) gs)

answers_append : (f : ℕ → Lent) (k : ℕ) (a b : List Given) → answers_from f k (a ++ b) ≡ answers_from f k a ++ answers_from f (k + length a) b
unfolding answers_from
answers_append f k [] b = ap (λ (n : ℕ). answers_from f n b) (sym (add-zero k))
answers_append f k (g ∷ gs) b =
    ap (λ (l : List WholeAnswer). answers_from f k (g ∷ []) ++ l) (answers_append f (suc k) gs b)
    ∙ ap (λ (n : ℕ). answers_from f k (g ∷ gs) ++ answers_from f n b) (omega arith)

answers_both : (f : ℕ → Lent) (a b : List Given) → answers_from f 0 (a ++ b) ≡ answers_from f 0 a ++ answers_from f (length a) b
answers_both f a b = answers_append f 0 a b ∙ ap (λ (n : ℕ). answers_from f 0 a ++ answers_from f n b) (omega arith)

answers_same : (f g : ℕ → Lent) (j k : ℕ) (l : List Given) → ((i : ℕ) → i < length l → SameLent (f (j + i)) (g (k + i))) → answers_from f j l ≡ answers_from g k l
unfolding answers_from
answers_same f g j k [] h = refl
answers_same f g j k (x ∷ xs) h =
    ap (λ (a : WholeAnswer). a ∷ answers_from f (suc j) xs)
    (ap (λ (n : ℕ). answer_to (f n) x) (sym (add-zero j)) ∙ same_answer (f (j + 0)) (g (k + 0)) (h 0 (omega arith)) x ∙ ap (λ (n : ℕ). answer_to (g n) x) (add-zero k))
    ∙ ap (λ (l : List WholeAnswer). answer_to (g k) x ∷ l)
    (answers_same f g (suc j) (suc k) xs (λ (i : ℕ) (m : i < length xs). later i (h (suc i) (omega arith))))
  where
    later : (i : ℕ) → SameLent (f (j + suc i)) (g (k + suc i)) → SameLent (f (suc j + i)) (g (suc k + i))
    later i s =
        let e : j + suc i ≡ suc j + i = omega arith in
        let d : k + suc i ≡ suc k + i = omega arith in
        subst (λ (n : ℕ). SameLent (f n) (g (suc k + i))) e (subst (λ (n : ℕ). SameLent (f (j + suc i)) (g n)) d s)

-- ---- a tail that both share

-- what a run answers: the lines that ended by the tail's first end of line, then those of the rest of the tail
run_split : (p rest : List ℕ) (x e : ℕ) → trusted x e ≡ true → (f : ℕ → Lent) (r : Run (p ++ (x ∷ e ∷ rest)))
    → run_answers f _ r
    ≡ answers_from f 0 (lines_of (p ++ (x ∷ e ∷ []))) ++ answers_from f (ended_by p x e) (lines_from (fresh_after e) rest)
run_split p rest x e h f r =
    ap (answers_from f 0) ((run_lines _ r).0 ∙ trusted_lines x e h p rest)
    ∙ answers_both f (lines_of (p ++ (x ∷ e ∷ []))) (lines_from (fresh_after e) rest)

ended_length : (p : List ℕ) (x e : ℕ) (f : ℕ → Lent) → length (answers_from f 0 (lines_of (p ++ (x ∷ e ∷ [])))) ≡ ended_by p x e
ended_length p x e f = answers_length f 0 (lines_of (p ++ (x ∷ e ∷ [])))

run_length : (p rest : List ℕ) (x e : ℕ) → trusted x e ≡ true → (f : ℕ → Lent) (r : Run (p ++ (x ∷ e ∷ rest)))
    → length (run_answers f _ r) ≡ ended_by p x e + length (lines_from (fresh_after e) rest)
run_length p rest x e h f r =
    ap length (run_split p rest x e h f r)
    ∙ length-append (answers_from f 0 (lines_of (p ++ (x ∷ e ∷ [])))) (answers_from f (ended_by p x e) (lines_from (fresh_after e) rest))
    ∙ omega (arith, ended_length p x e f, answers_length f (ended_by p x e) (lines_from (fresh_after e) rest))

run_after : (p rest : List ℕ) (x e : ℕ) → trusted x e ≡ true → (f : ℕ → Lent) (r : Run (p ++ (x ∷ e ∷ rest)))
    → drop (ended_by p x e) (run_answers f _ r) ≡ answers_from f (ended_by p x e) (lines_from (fresh_after e) rest)
run_after p rest x e h f r =
    ap (drop (ended_by p x e)) (run_split p rest x e h f r)
    ∙ ap (λ (n : ℕ). drop n (answers_from f 0 (lines_of (p ++ (x ∷ e ∷ []))) ++ answers_from f (ended_by p x e) (lines_from (fresh_after e) rest)))
    (sym (ended_length p x e f))
    ∙ drop-append_seam (answers_from f 0 (lines_of (p ++ (x ∷ e ∷ [])))) (answers_from f (ended_by p x e) (lines_from (fresh_after e) rest))

-- the line of the tail's first end of line has been answered in both, so "the line after" is counted from a line that there is
pub tail_reached : (p rest : List ℕ) (x e : ℕ) → trusted x e ≡ true → (r : Run (p ++ (x ∷ e ∷ rest))) (f : ℕ → Lent)
    → (1 ≤ ended_by p x e) × (ended_by p x e ≤ length (run_answers f _ r))
tail_reached p rest x e h r f = (
  omega (arith, ap length (trusted_ends x e h p), length-append (lines_of p) (line_or_refused (with_byte (open_after nothing_open p) x) ∷ [])),
  omega (arith, run_length p rest x e h f r),
)

-- THE THEOREM: from the line after the tail's first end of line onward the answers are the same, in number, order and content, where at each of these
-- lines the same is lent; and so is the end
pub tail_trusted : (p q : List ℕ) (x e : ℕ) (rest : List ℕ) → trusted x e ≡ true
    → (r : Run (p ++ (x ∷ e ∷ rest))) (r' : Run (q ++ (x ∷ e ∷ rest))) (f g : ℕ → Lent)
    → ((k : ℕ) → ended_by p x e + k < length (run_answers f _ r) → SameLent (f (ended_by p x e + k)) (g (ended_by q x e + k)))
    → (drop (ended_by p x e) (run_answers f _ r) ≡ drop (ended_by q x e) (run_answers g _ r')) × (run_end _ r ≡ run_end _ r')
tail_trusted p q x e rest h r r' f g same = (
  run_after p rest x e h f r
      ∙ answers_same f g (ended_by p x e) (ended_by q x e) (lines_from (fresh_after e) rest)
      (λ (k : ℕ) (m : k < length (lines_from (fresh_after e) rest)). same k (omega (arith, run_length p rest x e h f r)))
      ∙ sym (run_after q rest x e h g r'),
  run_end_lem _ r ∙ ap end_as (same_ending x e h p q rest) ∙ sym (run_end_lem _ r'),
)

-- ---- a beginning that both share

run_begins : (c d : List ℕ) (f : ℕ → Lent) (r : Run (c ++ d)) → take (length (lines_of c)) (run_answers f _ r) ≡ answers_from f 0 (lines_of c)
run_begins c d f r =
    let a = answers_from f 0 (lines_of c) in
    let b = answers_from f (length (lines_of c)) (lines_from (open_after nothing_open c) d) in
    ap (take (length (lines_of c)))
    (ap (answers_from f 0) ((run_lines _ r).0 ∙ lines_of_append c d) ∙ answers_both f (lines_of c) (lines_from (open_after nothing_open c) d))
    ∙ ap (λ (n : ℕ). take n (a ++ b)) (sym (answers_length f 0 (lines_of c)))
    ∙ take-append_seam a b

-- the lines that ended inside it are answered, and alike, where at each of them the same is lent; with d empty, the first capture is a beginning of the
-- second
pub beginning_trusted : (c d d' : List ℕ) (r : Run (c ++ d)) (r' : Run (c ++ d')) (f g : ℕ → Lent)
    → ((k : ℕ) → k < length (lines_of c) → SameLent (f k) (g k))
    → take (length (lines_of c)) (run_answers f _ r) ≡ take (length (lines_of c)) (run_answers g _ r')
beginning_trusted c d d' r r' f g same =
    run_begins c d f r
    ∙ answers_same f g 0 0 (lines_of c) (λ (k : ℕ) (m : k < length (lines_of c)). let e : k ≡ 0 + k = omega arith in subst (λ (n : ℕ). SameLent (f n) (g n)) e (same k m))
    ∙ sym (run_begins c d' g r')

pub beginning_reached : (c d : List ℕ) (r : Run (c ++ d)) (f : ℕ → Lent) → length (lines_of c) ≤ length (run_answers f _ r)
beginning_reached c d r f =
    omega (
      arith,
      answers_length f 0 r.lines,
      ap length ((run_lines _ r).0 ∙ lines_of_append c d),
      length-append (lines_of c) (lines_from (open_after nothing_open c) d),
    )
