-- Past the text held, or the line just ended, a call leaves the buffer as it was.
-- Assumes nothing.
use Prim.Native.Nat.{ℕ, suc, ◌+◌, ◌-◌, ◌<◌, ◌≤◌}
use native.Mathlib.Omega.{arith}
use native.Mathlib.Nat.{le_refl}
use native.Mathlib.Numerals.{add-one}
use mathlib.Core.Path.{◌≡◌, refl, sym, ap, ◌∙◌}
use mathlib.Core.List.{List, [], ◌∷◌}
use mathlib.Core.Bool.{Bool, true, false, ◌&&◌, cond, false≢true, true≢false}
use mathlib.Core.Logic.{⊎_elim}
use lib.ListN.{length, drop, set, length-set}
use lib.Dec.{eqb}
use borrow.Author.Tests.{eqb-true, eq-eqb}
use lib.Seq.{drop-set-lt, drop-drop, set_out}
use Rattle.joiner.specs.declared.Joiner.{Joiner}
use Rattle.joiner.specs.Lines.{ByteKind, CR, LF, GRAVE, plain, byte_kind}
use Rattle.joiner.specs.Step.{byte_step, step_by, st, more, stored, reachable}
use Rattle.joiner.specs.Join.{Ran, ran, run, join_of}
use Rattle.joiner.proofs.Laws.{is_more, cons_more, cons_stop}
use Rattle.joiner.proofs.Reach.{Fine, to_fine, of_fine, fine_step, room, more_room, more_full}
use Rattle.std.proofs.Common.{Result, Ok, Err, Option, Some, None}
use Rattle.text.specs.Room.{refusal_at}
use Rattle.text.specs.declared.Refusal.{Refusal}

-- how far the text reaches: what is held, or the line just ended
abbrev pub reach : Result (Option ℕ) Refusal → ℕ → ℕ
reach (Ok None) h = h
reach (Ok (Some n)) h = n
reach (Err e) h = e.place

-- what agrees from h on agrees from any later place on
later : (h k : ℕ) (b c : List ℕ) → h ≤ k → drop h b ≡ drop h c → drop k b ≡ drop k c
later h k b c l e =
    let s : k ≡ h + (k - h) = omega arith in
    ap (λ (m : ℕ). drop m b) s ∙ sym (drop-drop (k - h) h b) ∙ ap (drop (k - h)) e ∙ drop-drop (k - h) h c ∙ ap (λ (m : ℕ). drop m c) (sym s)

-- one byte that is stored
pub record Kept (h k : ℕ) (b c : List ℕ) : Type 0 where
  pub up : h ≤ k
  pub same : drop k c ≡ drop k b
  pub long : length c ≡ length b

kept_none : (h : ℕ) (b : List ℕ) → Kept h h b b
kept_none h b = record { up = le_refl h; same = refl; long = refl }

kept_then : {h k m : ℕ} {b c d : List ℕ} → Kept h k b c → Kept k m c d → Kept h m b d
kept_then {h} {k} {m} {b} {c} {d} p q =
    record { up = omega (arith, p.up, q.up); same = q.same ∙ later k m c b q.up p.same; long = q.long ∙ p.long }

kept_push : (h : ℕ) (b : List ℕ) (x : ℕ) → length b ≡ 1024 → Kept h (more h) b (set b h x)
kept_push h b x l = ⊎_elim small large (room h)
  where
    small : h < 1024 → Kept h (more h) b (set b h x)
    small w =
        let e : more h ≡ suc h = more_room h w ∙ add-one h in
        record { up = rw e (omega arith); same = rw e (drop-set-lt (suc h) b h x (le_refl (suc h))); long = length-set b h x }

    large : 1024 ≤ h → Kept h (more h) b (set b h x)
    large w =
        record { up = rw (more_full h w) (le_refl h); same = ap (drop (more h)) (set_out b h x (omega (arith, l))); long = length-set b h x }

-- a byte that ends no line, and one that does
by_more : (k : ByteKind) (h : ℕ) (g r v : Bool) (x : ℕ) (b : List ℕ) → length b ≡ 1024 → is_more (step_by k g r x (st h g r v)).out ≡ true
    → Kept h (step_by k g r x (st h g r v)).state.held b (stored h b (step_by k g r x (st h g r v)).put)
by_more CR h true r v x b l e = kept_none h b
by_more CR h false r true x b l e = absurd (false≢true e)
by_more CR h false r false x b l e = absurd (false≢true e)
by_more LF h g true v x b l e = kept_none h b
by_more LF h true false v x b l e = kept_none h b
by_more LF h false false true x b l e = absurd (false≢true e)
by_more LF h false false false x b l e = absurd (false≢true e)
by_more GRAVE h true r v x b l e = kept_then (kept_push h b 96 l) (kept_push (more h) (set b h 96) x (length-set b h 96 ∙ l))
by_more GRAVE h false r v x b l e = kept_none h b
by_more plain h true r v x b l e = kept_then (kept_push h b 96 l) (kept_push (more h) (set b h 96) x (length-set b h 96 ∙ l))
by_more plain h false r v x b l e = kept_push h b x l

by_stop : (k : ByteKind) (h : ℕ) (g r v : Bool) (x : ℕ) (b : List ℕ) → Fine (st h g r v) → is_more (step_by k g r x (st h g r v)).out ≡ false
    → Kept h (reach (step_by k g r x (st h g r v)).out (step_by k g r x (st h g r v)).state.held) b (stored h b (step_by k g r x (st h g r v)).put)
by_stop CR h true r v x b f e = absurd (true≢false e)
by_stop CR h false r true x b f e = record { up = f.within; same = refl; long = refl }
by_stop CR h false r false x b f e = kept_none h b
by_stop LF h g true v x b f e = absurd (true≢false e)
by_stop LF h true false v x b f e = absurd (true≢false e)
by_stop LF h false false true x b f e = record { up = f.within; same = refl; long = refl }
by_stop LF h false false false x b f e = kept_none h b
by_stop GRAVE h true r v x b f e = absurd (true≢false e)
by_stop GRAVE h false r v x b f e = absurd (true≢false e)
by_stop plain h true r v x b f e = absurd (true≢false e)
by_stop plain h false r v x b f e = absurd (true≢false e)

pub past : (n : ℕ) (s : Joiner) (b p : List ℕ) → Fine s → length b ≡ 1024
    → Kept s.held (reach (run n s b p).answer.outcome (run n s b p).answer.state.held) b (run n s b p).buffer
unfolding run byte_step
past n s b [] f l = kept_none s.held b
past n s b (x ∷ xs) f l = go (is_more (byte_step s x).out) refl
    (λ (h : length (stored s.held b (byte_step s x).put) ≡ 1024). past (suc n) (byte_step s x).state (stored s.held b (byte_step s x).put) xs (fine_step s x f) h)
  where
    s' : Joiner
    s' = (byte_step s x).state

    b' : List ℕ
    b' = stored s.held b (byte_step s x).put

    go : (m : Bool) → is_more (byte_step s x).out ≡ m
        → (length b' ≡ 1024 → Kept s'.held (reach (run (suc n) s' b' xs).answer.outcome (run (suc n) s' b' xs).answer.state.held) b' (run (suc n) s' b' xs).buffer)
        → Kept s.held (reach (run n s b (x ∷ xs)).answer.outcome (run n s b (x ∷ xs)).answer.state.held) b (run n s b (x ∷ xs)).buffer
    go true e r =
        let q : Kept s.held s'.held b b' = by_more (byte_kind x) s.held s.grave s.cr s.over x b l e in
        rw (cons_more n s b x xs e) (kept_then q (r (q.long ∙ l)))
    go false e r = rw (cons_stop n s b x xs e) (by_stop (byte_kind x) s.held s.grave s.cr s.over x b f e)

-- THE THEOREM: a call, from any state, on a buffer of any length and any part, leaves the buffer past the text held, or past the line
-- just ended, as it was; where it is refused as 19, the whole of it
pub past_join : (s : Joiner) (b p : List ℕ)
    → let R : Ran = join_of s b p in
    let k : ℕ = reach R.answer.outcome R.answer.state.held in
    drop k R.buffer ≡ drop k b
unfolding join_of
past_join s b p = go (eqb (length b) 1024) (reachable s) refl refl
  where
    go : (t u : Bool) → eqb (length b) 1024 ≡ t → reachable s ≡ u
        → let R : Ran = cond (t && u) (run 0 s b p) (ran s 0 (Err (refusal_at 19 0)) b) in
        let k : ℕ = reach R.answer.outcome R.answer.state.held in
        drop k R.buffer ≡ drop k b
    go true true e f = (past 0 s b p (to_fine s f) (eqb-true (length b) 1024 e)).same
    go true false e f = refl
    go false u e f = refl

-- a call on an empty part uses none and changes nothing
pub empty_part : (s : Joiner) (b : List ℕ) → ((join_of s b []).answer.state ≡ s) × ((join_of s b []).answer.used ≡ 0) × ((join_of s b []).buffer ≡ b)
unfolding join_of run
empty_part s b = go (eqb (length b) 1024 && reachable s)
  where
    go : (t : Bool)
        → let R : Ran = cond t (ran s 0 (Ok None) b) (ran s 0 (Err (refusal_at 19 0)) b) in
        (R.answer.state ≡ s) × (R.answer.used ≡ 0) × (R.buffer ≡ b)
    go true = (refl, refl, refl)
    go false = (refl, refl, refl)

-- a buffer of another length, or a state that no capture leads to, is refused as 19 with nothing used and nothing changed
pub refused_whole : (s : Joiner) (b p : List ℕ) → eqb (length b) 1024 && reachable s ≡ false → join_of s b p ≡ ran s 0 (Err (refusal_at 19 0)) b
unfolding join_of
refused_whole s b p e = rw e

-- a call that ends no line uses the whole part
run_all : (n : ℕ) (s : Joiner) (b p : List ℕ) → is_more (run n s b p).answer.outcome ≡ true → (run n s b p).answer.used ≡ n + length p
unfolding run
run_all n s b [] = λ e. omega arith
run_all n s b (x ∷ xs) = go (is_more (byte_step s x).out) refl (run_all (suc n) (byte_step s x).state (stored s.held b (byte_step s x).put) xs)
  where
    R : Ran
    R = run (suc n) (byte_step s x).state (stored s.held b (byte_step s x).put) xs

    go : (m : Bool) → is_more (byte_step s x).out ≡ m
        → (is_more R.answer.outcome ≡ true → R.answer.used ≡ suc n + length xs)
        → is_more (run n s b (x ∷ xs)).answer.outcome ≡ true → (run n s b (x ∷ xs)).answer.used ≡ n + suc (length xs)
    go true e r = rw (cons_more n s b x xs e) (λ h. omega (arith, r h))
    go false e r = rw (cons_stop n s b x xs e) (λ h. absurd (false≢true (sym e ∙ h)))

pub more_uses_all : (s : Joiner) (b p : List ℕ) → is_more (join_of s b p).answer.outcome ≡ true → (join_of s b p).answer.used ≡ length p
unfolding join_of
more_uses_all s b p = go (eqb (length b) 1024 && reachable s)
  where
    go : (t : Bool)
        → let R : Ran = cond t (run 0 s b p) (ran s 0 (Err (refusal_at 19 0)) b) in
        is_more R.answer.outcome ≡ true → R.answer.used ≡ length p
    go true h = omega (arith, run_all 0 s b p h)
    go false h = absurd (false≢true h)

-- ---- a call that is not refused leaves a state and a buffer that the next call does not refuse, and uses a byte or more where there is one

run_low : (n : ℕ) (s : Joiner) (b p : List ℕ) → n ≤ (run n s b p).answer.used
unfolding run
run_low n s b [] = le_refl n
run_low n s b (x ∷ xs) = go (is_more (byte_step s x).out) refl (run_low (suc n) (byte_step s x).state (stored s.held b (byte_step s x).put) xs)
  where
    go : (m : Bool) → is_more (byte_step s x).out ≡ m
        → suc n ≤ (run (suc n) (byte_step s x).state (stored s.held b (byte_step s x).put) xs).answer.used
        → n ≤ (run n s b (x ∷ xs)).answer.used
    go true e r = rw (cons_more n s b x xs e) (omega arith)
    go false e r = rw (cons_stop n s b x xs e) (omega arith)

run_some : (n : ℕ) (s : Joiner) (b p : List ℕ) → 0 < length p → n < (run n s b p).answer.used
run_some n s b [] h = absurd (omega arith)
run_some n s b (x ∷ xs) h = go (is_more (byte_step s x).out) refl
  where
    go : (m : Bool) → is_more (byte_step s x).out ≡ m → n < (run n s b (x ∷ xs)).answer.used
    go true e =
        rw (cons_more n s b x xs e)
        (omega (arith, run_low (suc n) (byte_step s x).state (stored s.held b (byte_step s x).put) xs))
    go false e = rw (cons_stop n s b x xs e) (omega arith)

run_fine : (n : ℕ) (s : Joiner) (b p : List ℕ) → Fine s → Fine (run n s b p).answer.state
unfolding run
run_fine n s b [] f = f
run_fine n s b (x ∷ xs) f =
    go (is_more (byte_step s x).out) refl (run_fine (suc n) (byte_step s x).state (stored s.held b (byte_step s x).put) xs (fine_step s x f))
  where
    go : (m : Bool) → is_more (byte_step s x).out ≡ m
        → Fine (run (suc n) (byte_step s x).state (stored s.held b (byte_step s x).put) xs).answer.state
        → Fine (run n s b (x ∷ xs)).answer.state
    go true e r = rw (cons_more n s b x xs e) r
    go false e r = rw (cons_stop n s b x xs e) (fine_step s x f)

pub goes_on_lem : (s : Joiner) (b p : List ℕ) → length b ≡ 1024 → reachable s ≡ true
    → let R : Ran = join_of s b p in
    (length R.buffer ≡ 1024) × (reachable R.answer.state ≡ true) × (0 < length p → 0 < R.answer.used)
unfolding join_of
goes_on_lem s b p l h =
    let f = to_fine s h in
    rw (eq-eqb (length b) 1024 l, h)
    ((past 0 s b p f l).long ∙ l, of_fine (run 0 s b p).answer.state (run_fine 0 s b p f), run_some 0 s b p)
