-- The states that are not refused are exactly those that some capture leads to.
-- Assumes nothing.
use Prim.Native.Nat.{ℕ, zero, suc, ◌+◌, ◌<◌, ◌≤◌}
use native.Mathlib.Nat.{add-zero}
use native.Mathlib.Omega.{arith}
use mathlib.Core.Path.{◌≡◌, refl, ap, ◌∙◌, subst}
use mathlib.Core.List.{List, [], ◌∷◌, ◌++◌, foldl-append}
use mathlib.Core.Bool.{Bool, true, false, not, ◌&&◌, ◌||◌, false≢true}
use mathlib.Core.Logic.{◌⊎◌, inl, inr, ⊎_elim}
use lib.ListN.{replicate}
use lib.Dec.{ltb, leb}
use borrow.Author.Tests.{lt-ltb, le-ltb, le-leb, lt-leb, ltb-true, ltb-false, leb-true}
use Rattle.joiner.specs.declared.Joiner.{Joiner}
use Rattle.joiner.specs.declared.Stepped.{Stepped}
use Rattle.joiner.specs.Lines.{ByteKind, CR, LF, GRAVE, plain, byte_kind}
use Rattle.joiner.specs.Step.{byte_step, step_by, st, start, reachable, more, pushed, state_after, stepped_of}

pub after_append : (s : Joiner) (p q : List ℕ) → state_after s (p ++ q) ≡ state_after (state_after s p) q
unfolding state_after
after_append s p q = foldl-append _ s p q

-- there is room, or the buffer is full
pub room : (n : ℕ) → (n < 1024) ⊎ (1024 ≤ n)
room n = go (ltb n 1024) refl
  where
    go : (t : Bool) → ltb n 1024 ≡ t → (n < 1024) ⊎ (1024 ≤ n)
    go true e = inl (ltb-true n 1024 e)
    go false e = inr (ltb-false n 1024 e)

pub more_room : (n : ℕ) → n < 1024 → more n ≡ n + 1
unfolding more
more_room n h = simp (lt-ltb n 1024 h)

pub more_full : (n : ℕ) → 1024 ≤ n → more n ≡ n
unfolding more
more_full n h = simp (le-ltb n 1024 h)

-- ---- `reachable` as facts

pub record Fine (s : Joiner) : Type 0 where
  pub within : s.held ≤ 1024
  pub full : s.over ≡ true → 1024 ≤ s.held
  pub apart : s.grave ≡ true → s.cr ≡ true → ⊥

-- ---- a byte keeps a state fine

fine_push : (h : ℕ) (g r o : Bool) → Fine (st h g r o) → Fine (pushed (st h g r o))
fine_push h g r o f =
    ⊎_elim
    (λ (l : h < 1024). record {
      within = rw (more_room h l) (omega arith);
      full = λ e. let w : 1024 ≤ h = f.full (simp (lt-leb 1024 h l) at e) in absurd (omega arith);
      apart = f.apart;
    })
    (λ (l : 1024 ≤ h). record { within = rw (more_full h l) f.within; full = λ e. rw (more_full h l) l; apart = f.apart })
    (room h)

-- the flags may be cleared
fine_clear : (h : ℕ) (g r o : Bool) → Fine (st h g r o) → (r' : Bool) → Fine (st h false r' o)
fine_clear h g r o f r' = record { within = f.within; full = f.full; apart = λ e _. false≢true e }

fine_fresh : (r : Bool) → Fine (st 0 false r false)
fine_fresh r = record { within = omega arith; full = λ e. absurd (false≢true e); apart = λ e _. false≢true e }

pub fine_start : Fine start
fine_start = fine_fresh false

fine_by : (k : ByteKind) (h : ℕ) (g r o : Bool) (x : ℕ) → Fine (st h g r o) → Fine (step_by k g r x (st h g r o)).state
fine_by CR h true r o x f = fine_clear h true r o f true
fine_by CR h false r o x f = fine_fresh true
fine_by LF h g true o x f = record { within = f.within; full = f.full; apart = λ _ e. false≢true e }
fine_by LF h true false o x f = fine_clear h true false o f false
fine_by LF h false false o x f = fine_fresh false
fine_by GRAVE h true r o x f = fine_push _ _ _ _ (fine_push h false false o (fine_clear h true r o f false))
fine_by GRAVE h false r o x f = record { within = f.within; full = f.full; apart = λ _ e. false≢true e }
fine_by plain h true r o x f = fine_push _ _ _ _ (fine_push h false false o (fine_clear h true r o f false))
fine_by plain h false r o x f = fine_push h false false o (fine_clear h false r o f false)

pub fine_step : (s : Joiner) (x : ℕ) → Fine s → Fine (byte_step s x).state
unfolding byte_step
fine_step s x f = fine_by (byte_kind x) s.held s.grave s.cr s.over x f

pub fine_after : (s : Joiner) (p : List ℕ) → Fine s → Fine (state_after s p)
unfolding state_after
fine_after s [] f = f
fine_after s (x ∷ xs) f = fine_after (byte_step s x).state xs (fine_step s x f)

-- ---- `reachable` says that a state is fine

both : (a b : Bool) → a && b ≡ true → (a ≡ true) × (b ≡ true)
both true b e = (refl, e)
both false b e = absurd (false≢true e)

pub to_fine : (s : Joiner) → reachable s ≡ true → Fine s
unfolding reachable
to_fine s e =
    let q = both (leb s.held 1024 && (not s.over || leb 1024 s.held)) (not (s.grave && s.cr)) e in
    let p = both (leb s.held 1024) (not s.over || leb 1024 s.held) q.0 in
    record {
      within = leb-true s.held 1024 p.0;
      full = λ o. leb-true 1024 s.held (simp o at p.1);
      apart = λ g r. false≢true (simp (g, r) at q.1);
    }

pub of_fine : (s : Joiner) → Fine s → reachable s ≡ true
unfolding reachable
of_fine s f = simp (le-leb s.held 1024 f.within) (go s.grave s.cr s.over f.full f.apart)
  where
    go : (g r o : Bool) → (o ≡ true → 1024 ≤ s.held) → (g ≡ true → r ≡ true → ⊥) → (not o || leb 1024 s.held) && not (g && r) ≡ true
    go true true o a b = absurd (b refl refl)
    go true false true a b = simp (le-leb 1024 s.held (a refl))
    go true false false a b = refl
    go false r true a b = simp (le-leb 1024 s.held (a refl))
    go false r false a b = refl

-- another number of bytes may be held
pub held_reachable : (s : Joiner) (h : ℕ) → reachable s ≡ true → h ≤ 1024 → (s.over ≡ true → 1024 ≤ h) → reachable (st h s.grave s.cr s.over) ≡ true
held_reachable s h r w f = of_fine _ (record { within = w; full = f; apart = (to_fine s r).apart })

-- what `step` answers is a state that is not refused
pub step_reachable : (s : Joiner) (x : ℕ) (r : Stepped) → reachable s ≡ true → r ≡ stepped_of (byte_step s x) → reachable r.state ≡ true
step_reachable s x r h e = rw e (of_fine (byte_step s x).state (fine_step s x (to_fine s h)))

-- ---- a capture for each fine state

one_more : (k : ℕ) → k < 1024 → (byte_step (st k false false false) 97).state ≡ st (k + 1) false false false
unfolding byte_step byte_kind
one_more k h = simp (more_room k h, lt-leb 1024 k h)

fill : (n k : ℕ) → k + n ≤ 1024 → state_after (st k false false false) (replicate n 97) ≡ st (k + n) false false false
unfolding state_after
fill zero k h = rw (add-zero k)
fill (suc n) k h =
    ap (λ (s : Joiner). state_after s (replicate n 97)) (one_more k (omega arith))
    ∙ fill n (k + 1) (omega arith)
    ∙ ap (λ (m : ℕ). st m false false false) (omega arith)

abbrev pub Leads : Joiner → Type 0
Leads s = (p : List ℕ) × (state_after start p ≡ s)

-- no flag but the last
filled : (h : ℕ) → h ≤ 1024 → state_after start (replicate h 97) ≡ st h false false false
filled h a = fill h 0 (omega arith) ∙ ap (λ (m : ℕ). st m false false false) (omega arith)

too_long : (h : ℕ) → 1024 ≤ h → state_after (st h false false false) (97 ∷ []) ≡ st h false false true
unfolding state_after byte_step byte_kind
too_long h a = simp (more_full h a, le-leb 1024 h a)

unmarked : (h : ℕ) (o : Bool) → h ≤ 1024 → (o ≡ true → 1024 ≤ h) → Leads (st h false false o)
unmarked h false a b = (replicate h 97, filled h a)
unmarked h true a b = (
  replicate h 97 ++ (97 ∷ []),
  after_append start (replicate h 97) (97 ∷ []) ∙ ap (λ (s : Joiner). state_after s (97 ∷ [])) (filled h a) ∙ too_long h (b refl),
)

-- the flags, by a GRAVE or a GRAVE and a CR
marked : (h : ℕ) (g r o : Bool) → (g ≡ true → r ≡ true → ⊥) → Leads (st h false false o) → Leads (st h g r o)
unfolding state_after byte_step byte_kind
marked h true true o a l = absurd (a refl refl)
marked h true false o a l = (l.0 ++ (96 ∷ []), after_append start l.0 (96 ∷ []) ∙ ap (λ (s : Joiner). state_after s (96 ∷ [])) l.1)
marked h false true o a l = (l.0 ++ (96 ∷ 13 ∷ []), after_append start l.0 (96 ∷ 13 ∷ []) ∙ ap (λ (s : Joiner). state_after s (96 ∷ 13 ∷ [])) l.1)
marked h false false o a l = l

-- THE THEOREM: a state is one that `reachable` says exactly where some capture leads to it
pub reachable_leads : (s : Joiner) → (reachable s ≡ true → Leads s) × (Leads s → reachable s ≡ true)
reachable_leads s = (
  λ e.
      let f = to_fine s e in
      marked s.held s.grave s.cr s.over f.apart (unmarked s.held s.over f.within f.full),
  λ l. of_fine s (subst Fine l.1 (fine_after start l.0 (fine_fresh false))),
)
