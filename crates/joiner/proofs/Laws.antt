-- Laws of the definitions of `specs/`: what a byte does by its kind, what a call does with one byte more.
-- Assumes nothing.
use Prim.Native.Nat.{ℕ, suc, ◌+◌, ◌<◌, ◌≤◌}
use mathlib.Core.Path.{◌≡◌, refl, sym, ap, ◌∙◌}
use mathlib.Core.List.{List, [], ◌∷◌}
use mathlib.Core.Bool.{Bool, true, false, cond, ◌&&◌, false≢true, true≢false}
use lib.ListN.{length, get_or, drop, set, drop_of_length-le}
use lib.Seq.{drop-cons}
use lib.Dec.{eqb}
use native.Mathlib.Omega.{arith}
use native.Mathlib.Numerals.{add-one}
use borrow.Author.Tests.{ne_eqb, eqb-true, lt-ltb, lt-leb}
use Rattle.joiner.specs.declared.Joiner.{Joiner}
use Rattle.joiner.specs.declared.Stepped.{Stepped}
use Rattle.joiner.specs.Lines.{ByteKind, CR, LF, GRAVE, plain, byte_kind, is_plain_byte}
use Rattle.joiner.specs.Step.{byte_step, step_by, end_step, marks, gets, stored, pushed, st, stepped_of, reachable, more, Effect}
use Rattle.joiner.specs.Join.{Ran, ran, run, go_on, join_of}
use Rattle.std.proofs.Common.{Result, Ok, Err, Option, Some, None}
use Rattle.text.specs.Room.{refusal_at}
use Rattle.text.specs.declared.Refusal.{Refusal}

-- ---- a byte's kind

pub kind_cr : (x : ℕ) → x ≡ 13 → byte_kind x ≡ CR
unfolding byte_kind
kind_cr x e = simp e

pub kind_lf : (x : ℕ) → x ≡ 10 → byte_kind x ≡ LF
unfolding byte_kind
kind_lf x e = simp e

pub kind_grave : (x : ℕ) → x ≡ 96 → byte_kind x ≡ GRAVE
unfolding byte_kind
kind_grave x e = simp e

pub kind_plain : (x : ℕ) → (x ≡ 13 → ⊥) → (x ≡ 10 → ⊥) → (x ≡ 96 → ⊥) → byte_kind x ≡ plain
unfolding byte_kind
kind_plain x a b c = simp (ne_eqb x 13 a, ne_eqb x 10 b, ne_eqb x 96 c)

pub is_plain_lem : (k : ByteKind) → is_plain_byte k ≡ true → k ≡ plain
is_plain_lem CR e = absurd (false≢true e)
is_plain_lem LF e = absurd (false≢true e)
is_plain_lem GRAVE e = absurd (false≢true e)
is_plain_lem plain e = refl

-- ---- what a byte does

-- what `step` ensures
abbrev pub Done : Joiner → List ℕ → ℕ → Stepped → List ℕ → Type 0
Done s b x r b' = (r ≡ stepped_of (byte_step s x)) × (b' ≡ stored s.held b (byte_step s x).put)

module _ (s : Joiner) (x : ℕ) where
  pub step_cr : x ≡ 13 → byte_step s x ≡ end_step true s
  unfolding byte_step
  step_cr e = simp (kind_cr x e)

  pub step_lf_dropped : x ≡ 10 → s.cr ≡ true → byte_step s x ≡ marks s.grave s
  unfolding byte_step
  step_lf_dropped e r = simp (kind_lf x e, r)

  pub step_lf : x ≡ 10 → s.cr ≡ false → byte_step s x ≡ end_step false s
  unfolding byte_step
  step_lf e r = simp (kind_lf x e, r)

  pub step_waits : x ≡ 96 → s.grave ≡ false → byte_step s x ≡ marks true s
  unfolding byte_step
  step_waits e g = simp (kind_grave x e, g)

  pub step_plain : (x ≡ 13 → ⊥) → (x ≡ 10 → ⊥) → (x ≡ 96 → ⊥) → s.grave ≡ false → byte_step s x ≡ gets (x ∷ []) s
  unfolding byte_step
  step_plain a b c g = simp (kind_plain x a b c, g)

  pub step_pair : (x ≡ 13 → ⊥) → (x ≡ 10 → ⊥) → s.grave ≡ true → byte_step s x ≡ gets (96 ∷ x ∷ []) s
  unfolding byte_step byte_kind
  step_pair a b g = simp (ne_eqb x 13 a, ne_eqb x 10 b, g) (go (eqb x 96))
    where
      go : (t : Bool) → step_by (cond t GRAVE plain) true s.cr x s ≡ gets (96 ∷ x ∷ []) s
      go true = refl
      go false = refl

-- ---- what an end of line does

module _ (s : Joiner) (r : Bool) where
  pub end_joins : s.grave ≡ true → record { state = st s.held false r s.over; outcome = Ok None } ≡ stepped_of (end_step r s)
  end_joins g = simp g

  pub end_refused : (m : Joiner) → m ≡ st 0 false r false → s.grave ≡ false → s.over ≡ true → record { state = m; outcome = Err (refusal_at 1 1024) } ≡ stepped_of (end_step r s)
  end_refused m e g o = simp (e, g, o)

  pub end_line : (m : Joiner) → m ≡ st 0 false r false → s.grave ≡ false → s.over ≡ false → record { state = m; outcome = Ok (Some s.held) } ≡ stepped_of (end_step r s)
  end_line m e g o = simp (e, g, o)

-- ---- what `step` leaves behind, from what its calls of `marked` and `push` left behind

module _ (s m r₁ : Joiner) (b b₁ : List ℕ) (x : ℕ) (e : m ≡ (marks false s).state) where
  pub plain_done : (x ≡ 13 → ⊥) → (x ≡ 10 → ⊥) → (x ≡ 96 → ⊥) → s.grave ≡ false → r₁ ≡ pushed m → b₁ ≡ set b m.held x
      → Done s b x (record { state = r₁; outcome = Ok None }) b₁
  plain_done h₁ h₂ h₃ g e₁ f₁ = rw (step_plain s x h₁ h₂ h₃ g) (rw (e₁, e) refl, rw (f₁, e) refl)

  pub pair_done : (r₂ : Joiner) (b₂ : List ℕ) → (x ≡ 13 → ⊥) → (x ≡ 10 → ⊥) → s.grave ≡ true
      → r₁ ≡ pushed m → b₁ ≡ set b m.held 96 → r₂ ≡ pushed r₁ → b₂ ≡ set b₁ r₁.held x
      → Done s b x (record { state = r₂; outcome = Ok None }) b₂
  pair_done r₂ b₂ h₁ h₂ g e₁ f₁ e₂ f₂ = rw (step_pair s x h₁ h₂ g) (rw (e₂, e₁, e) refl, rw (f₂, f₁, e₁, e) refl)

-- ---- a call, with one byte more

abbrev pub is_more : Result (Option ℕ) Refusal → Bool
is_more (Ok None) = true
is_more (Ok (Some k)) = false
is_more (Err e) = false

on_more : (o : Result (Option ℕ) Refusal) {r : Ran} (d : Ran) → is_more o ≡ true → go_on o r d ≡ r
on_more (Ok None) d e = refl
on_more (Ok (Some k)) d e = absurd (false≢true e)
on_more (Err r) d e = absurd (false≢true e)

on_stop : (o : Result (Option ℕ) Refusal) (r : Ran) {d : Ran} → is_more o ≡ false → go_on o r d ≡ d
on_stop (Ok None) r e = absurd (true≢false e)
on_stop (Ok (Some k)) r e = refl
on_stop (Err x) r e = refl

module _ (n : ℕ) (s : Joiner) (b : List ℕ) (x : ℕ) (xs : List ℕ) where
  pub cons_more : is_more (byte_step s x).out ≡ true
      → run n s b (x ∷ xs) ≡ run (suc n) (byte_step s x).state (stored s.held b (byte_step s x).put) xs
  unfolding run
  cons_more e = on_more (byte_step s x).out _ e

  pub cons_stop : is_more (byte_step s x).out ≡ false
      → run n s b (x ∷ xs) ≡ ran (byte_step s x).state (suc n) (byte_step s x).out (stored s.held b (byte_step s x).put)
  unfolding run
  cons_stop e = on_stop (byte_step s x).out _ e

-- ---- a turn of the loop of `take`: what is known of the byte's step, and where the call then is

module _ (R : Ran) (i : ℕ) (s : Joiner) (b p : List ℕ) (h : i < length p) (inv : R ≡ run i s b (drop i p))
    (r : Stepped) (b' : List ℕ) (d : Done s b (get_or p i 0) r b') where
  pub turn_more : is_more r.outcome ≡ true → R ≡ run (i + 1) r.state b' (drop (i + 1) p)
  turn_more m =
      inv
      ∙ ap (run i s b) (drop-cons p i 0 h)
      ∙ cons_more i s b (get_or p i 0) (drop (suc i) p) (ap (λ (q : Stepped). is_more q.outcome) (sym d.0) ∙ m)
      ∙ rw (d.0, d.1, add-one i) refl

  pub turn_stop : is_more r.outcome ≡ false → R ≡ ran r.state (i + 1) r.outcome b'
  turn_stop m =
      inv
      ∙ ap (run i s b) (drop-cons p i 0 h)
      ∙ cons_stop i s b (get_or p i 0) (drop (suc i) p) (ap (λ (q : Stepped). is_more q.outcome) (sym d.0) ∙ m)
      ∙ rw (d.0, d.1, add-one i) refl

-- a turn of the second loop of `pass`: a plain byte where there is room
pub plain_step : (h x : ℕ) → h < 1024 → byte_kind x ≡ plain
    → byte_step (st h false false false) x ≡ record { state = st (h + 1) false false false; put = x ∷ []; out = Ok None }
unfolding byte_step more
plain_step h x l e = simp (e, lt-ltb h 1024 l, lt-leb 1024 h l)

pub turn_plain : (R : Ran) (i h : ℕ) (b p : List ℕ) → i < length p → h < 1024 → R ≡ run i (st h false false false) b (drop i p)
    → is_plain_byte (byte_kind (get_or p i 0)) ≡ true → R ≡ run (i + 1) (st (h + 1) false false false) (set b h (get_or p i 0)) (drop (i + 1) p)
turn_plain R i h b p l m inv e =
    let x : ℕ = get_or p i 0 in
    let s : Joiner = st h false false false in
    let f = plain_step h x m (is_plain_lem (byte_kind x) e) in
    inv
    ∙ ap (run i s b) (drop-cons p i 0 l)
    ∙ cons_more i s b x (drop (suc i) p) (ap (λ (t : Effect). is_more t.out) f)
    ∙ ap (λ (t : Effect). run (suc i) t.state (stored h b t.put) (drop (suc i) p)) f
    ∙ rw (add-one i) refl

-- a call that is not refused has a buffer of 1,024 bytes, and answers as its run does
pub fits_length : (s : Joiner) (b : List ℕ) → eqb (length b) 1024 && reachable s ≡ true → length b ≡ 1024
fits_length s b e = go (eqb (length b) 1024) (eqb-true (length b) 1024) e
  where
    go : (t : Bool) → (t ≡ true → length b ≡ 1024) → t && reachable s ≡ true → length b ≡ 1024
    go true k e = k refl
    go false k e = absurd (false≢true e)

pub fits_state : (s : Joiner) (b : List ℕ) → eqb (length b) 1024 && reachable s ≡ true → reachable s ≡ true
fits_state s b e = go (eqb (length b) 1024) e
  where
    go : (t : Bool) → t && reachable s ≡ true → reachable s ≡ true
    go true e = e
    go false e = absurd (false≢true e)

-- the part is used up
pub run_end_lem : (n : ℕ) (s : Joiner) (b p : List ℕ) → length p ≤ n → run n s b (drop n p) ≡ ran s n (Ok None) b
unfolding run
run_end_lem n s b p h = rw (drop_of_length-le p h)

-- no more is used than there is
run_used : (n : ℕ) (s : Joiner) (b p : List ℕ) → (run n s b p).answer.used ≤ n + length p
unfolding run
run_used n s b [] = omega arith
run_used n s b (x ∷ xs) = go (is_more (byte_step s x).out) refl (run_used (suc n) (byte_step s x).state (stored s.held b (byte_step s x).put) xs)
  where
    go : (m : Bool) → is_more (byte_step s x).out ≡ m
        → (run (suc n) (byte_step s x).state (stored s.held b (byte_step s x).put) xs).answer.used ≤ suc n + length xs
        → (run n s b (x ∷ xs)).answer.used ≤ n + suc (length xs)
    go true e r = rw (cons_more n s b x xs e) (omega arith)
    go false e r = rw (cons_stop n s b x xs e) (omega arith)

pub used_within : (s : Joiner) (b p : List ℕ) → (join_of s b p).answer.used ≤ length p
unfolding join_of
used_within s b p = go (eqb (length b) 1024 && reachable s)
  where
    go : (t : Bool) → (cond t (run 0 s b p) (ran s 0 (Err (refusal_at 19 0)) b)).answer.used ≤ length p
    go true = omega (arith, run_used 0 s b p)
    go false = omega arith
