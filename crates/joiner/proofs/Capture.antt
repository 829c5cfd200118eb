-- The lines that calls give are those of the capture, and its end, whatever beginnings of what is left they see; and such calls come to their end.
-- Assumes nothing.
use Prim.Native.Nat.{ℕ, zero, suc, ◌+◌, ◌<◌, ◌≤◌, min}
use native.Mathlib.Omega.{arith}
use mathlib.Core.Path.{◌≡◌, refl, sym, ap, ◌∙◌}
use mathlib.Core.List.{List, [], ◌∷◌, ◌++◌, append_assoc}
use mathlib.Core.Bool.{Bool, true, false, ◌||◌, cond, false≢true}
use mathlib.Core.Logic.{⊎_elim}
use lib.ListN.{length, take, drop, set, length-set, length-append, length-drop, take-append-drop}
use lib.Seq.{take_all, take-suc-set, take-append-le, set_out}
use lib.Dec.{ltb, leb}
use native.Mathlib.Numerals.{add-one}
use native.Mathlib.Nat.{le_refl, min-eq_left, min-eq_right}
use borrow.Author.Tests.{lt-ltb, le-ltb, le-leb, lt-leb, ltb-true, ltb-false, eq-eqb}
use Rattle.joiner.specs.declared.Joiner.{Joiner}
use Rattle.joiner.specs.Step.{byte_step, step_by, st, start, more, stored, line_of, state_after, Effect}
use Rattle.joiner.specs.declared.End.TheVariants
use Rattle.joiner.specs.Join.{Ran, run, join_of, end_of}
use Rattle.joiner.specs.Lines.{ByteKind, CR, LF, GRAVE, plain, byte_kind, Given, line, refused, Open, open', Next, line_or_refused, next_by, next_open, lines_from, lines_of}
use Rattle.joiner.specs.Lines.{cut, nothing, open_after, ending_from, ending_of}
use Rattle.joiner.specs.Calls.{given_of, end_as, Calls, done, call}
use Rattle.joiner.proofs.Laws.{is_more, cons_more, cons_stop}
use Rattle.joiner.proofs.Reach.{Fine, fine_start, fine_step, of_fine, room, more_room, more_full}
use Rattle.std.proofs.Common.{Result, Ok, Err, Option, Some, None}
use Rattle.text.specs.declared.Refusal.{Refusal}

-- ---- what the buffer and the count hold of the text

record Core (h : ℕ) (v : Bool) (b t : List ℕ) : Type 0 where
  long : length b ≡ 1024
  held : h ≡ min (length t) 1024
  over : v ≡ ltb 1024 (length t)
  text : take h b ≡ take 1024 t

core_fresh : (b : List ℕ) → length b ≡ 1024 → Core 0 false b []
core_fresh b l = record { long = l; held = refl; over = refl; text = refl }

snoc_length : (t : List ℕ) (x : ℕ) → length (t ++ (x ∷ [])) ≡ length t + 1
snoc_length t x = length-append t (x ∷ [])

-- one byte more
core_room : (h : ℕ) (v : Bool) (b t : List ℕ) (x : ℕ) → length t < 1024 → Core h v b t → Core (more h) (leb 1024 h || v) (set b h x) (t ++ (x ∷ []))
core_room h v b t x l c =
    let e : h ≡ length t = c.held ∙ min-eq_left (omega arith) in
    let i : h < length b = omega (arith, c.long) in
    let w : take h b ≡ t = c.text ∙ take_all 1024 t (omega arith) in
    record {
      long = length-set b h x ∙ c.long;
      held = more_room h (omega arith) ∙ sym (min-eq_left (omega (arith, snoc_length t x)) ∙ snoc_length t x ∙ omega arith);
      over = rw (lt-leb 1024 h (omega arith)) (c.over ∙ le-ltb 1024 (length t) (omega arith) ∙ sym (le-ltb 1024 (length (t ++ (x ∷ []))) (omega (arith, snoc_length t x))));
      text = ap (λ (k : ℕ). take k (set b h x)) (more_room h (omega arith) ∙ add-one h) ∙ take-suc-set b h x i ∙ ap (λ (u : List ℕ). u ++ (x ∷ [])) w ∙ sym (take_all 1024 (t ++ (x ∷ [])) (omega (arith, snoc_length t x)));
    }

core_full : (h : ℕ) (v : Bool) (b t : List ℕ) (x : ℕ) → 1024 ≤ length t → Core h v b t → Core (more h) (leb 1024 h || v) (set b h x) (t ++ (x ∷ []))
core_full h v b t x l c =
    let e : h ≡ 1024 = c.held ∙ min-eq_right l in
    record {
      long = length-set b h x ∙ c.long;
      held = more_full h (omega arith) ∙ e ∙ sym (min-eq_right (omega (arith, snoc_length t x)));
      over = rw (le-leb 1024 h (omega arith)) (sym (lt-ltb 1024 (length (t ++ (x ∷ []))) (omega (arith, snoc_length t x))));
      text = ap (λ (k : ℕ). take k (set b h x)) (more_full h (omega arith)) ∙ ap (take h) (set_out b h x (omega (arith, c.long))) ∙ c.text ∙ sym (take-append-le 1024 t (x ∷ []) l);
    }

core_push : (h : ℕ) (v : Bool) (b t : List ℕ) (x : ℕ) → Core h v b t → Core (more h) (leb 1024 h || v) (set b h x) (t ++ (x ∷ []))
core_push h v b t x c = ⊎_elim (λ (l : length t < 1024). core_room h v b t x l c) (λ (l : 1024 ≤ length t). core_full h v b t x l c) (room (length t))

core_pair : (h : ℕ) (v : Bool) (b t : List ℕ) (x : ℕ) → Core h v b t
    → Core (more (more h)) (leb 1024 (more h) || (leb 1024 h || v)) (set (set b h 96) (more h) x) (t ++ (96 ∷ x ∷ []))
core_pair h v b t x c =
    rw (← (append_assoc t (96 ∷ []) (x ∷ []))) (core_push (more h) (leb 1024 h || v) (set b h 96) (t ++ (96 ∷ [])) x (core_push h v b t 96 c))

-- a line that ends: what the outcome says of the buffer is the text, or its first 1,024 bytes
core_given : (h : ℕ) (v : Bool) (b t : List ℕ) → Core h v b t → given_of (line_of v h) b ≡ line_or_refused t ∷ []
unfolding line_or_refused
core_given h v b t c = go v c.over
  where
    go : (w : Bool) → w ≡ ltb 1024 (length t) → given_of (line_of w h) b ≡ line_or_refused t ∷ []
    go true e =
        let l : 1024 < length t = ltb-true 1024 (length t) (sym e) in
        let m : 1024 ≡ h = sym (c.held ∙ min-eq_right (omega arith)) in
        rw (lt-ltb 1024 (length t) l) (ap (λ (u : List ℕ). refused 1 1024 u ∷ []) (ap (λ (k : ℕ). take k b) m ∙ c.text))
    go false e =
        let l : length t ≤ 1024 = ltb-false 1024 (length t) (sym e) in
        rw (le-ltb 1024 (length t) l) (ap (λ (u : List ℕ). line u ∷ []) (c.text ∙ take_all 1024 t l))

-- ---- one byte, in the code and in the text

record By (T : Effect) (N : Next) (b : List ℕ) : Type 0 where
  core : Core T.state.held T.state.over b N.left.text
  flags : N.left ≡ open' N.left.text T.state.grave T.state.cr
  given : given_of T.out b ≡ N.given

by : (k : ByteKind) (h : ℕ) (g r v : Bool) (x : ℕ) (b t : List ℕ) → Core h v b t
    → By (step_by k g r x (st h g r v)) (next_by k g r x t) (stored h b (step_by k g r x (st h g r v)).put)
by CR h true r v x b t c = record { core = c; flags = refl; given = refl }
by CR h false r v x b t c = record { core = core_fresh b c.long; flags = refl; given = core_given h v b t c }
by LF h g true v x b t c = record { core = c; flags = refl; given = refl }
by LF h true false v x b t c = record { core = c; flags = refl; given = refl }
by LF h false false v x b t c = record { core = core_fresh b c.long; flags = refl; given = core_given h v b t c }
by GRAVE h true r v x b t c = record { core = core_pair h v b t x c; flags = refl; given = refl }
by GRAVE h false r v x b t c = record { core = c; flags = refl; given = refl }
by plain h true r v x b t c = record { core = core_pair h v b t x c; flags = refl; given = refl }
by plain h false r v x b t c = record { core = core_push h v b t x c; flags = refl; given = refl }

by_byte : (s : Joiner) (b t : List ℕ) (x : ℕ) → Core s.held s.over b t
    → By (byte_step s x) (next_open (open' t s.grave s.cr) x) (stored s.held b (byte_step s x).put)
unfolding byte_step next_open
by_byte s b t x c = by (byte_kind x) s.held s.grave s.cr s.over x b t c

-- ---- a call: it gives the lines of what it used, and what is left of the capture gives the rest

record Ends (n : ℕ) (s : Joiner) (t p q : List ℕ) (R : Ran) : Type 0 where
  count : ℕ
  used : R.answer.used ≡ n + count
  some : 0 < length p → 0 < count
  fine : Fine R.answer.state
  text : List ℕ
  core : Core R.answer.state.held R.answer.state.over R.buffer text
  lines : lines_from (open' t s.grave s.cr) (p ++ q)
      ≡ given_of R.answer.outcome R.buffer
      ++ lines_from (open' text R.answer.state.grave R.answer.state.cr) (drop count (p ++ q))
  state : state_after s (p ++ q) ≡ state_after R.answer.state (drop count (p ++ q))
  left : open_after (open' t s.grave s.cr) (p ++ q)
      ≡ open_after (open' text R.answer.state.grave R.answer.state.cr) (drop count (p ++ q))

given_more : (o : Result (Option ℕ) Refusal) (b : List ℕ) → is_more o ≡ true → given_of o b ≡ []
given_more (Ok None) b e = refl
given_more (Ok (Some k)) b e = absurd (false≢true e)
given_more (Err r) b e = absurd (false≢true e)

-- the first byte's part in the lines
first : (s : Joiner) (b t : List ℕ) (x : ℕ) (xs : List ℕ) → (c : Core s.held s.over b t)
    → lines_from (open' t s.grave s.cr) (x ∷ xs)
    ≡ given_of (byte_step s x).out (stored s.held b (byte_step s x).put)
    ++ lines_from (open' (next_open (open' t s.grave s.cr) x).left.text (byte_step s x).state.grave (byte_step s x).state.cr) xs
unfolding lines_from
first s b t x xs c =
    let y = by_byte s b t x c in
    ap (λ (o : Open). (next_open (open' t s.grave s.cr) x).given ++ lines_from o xs) y.flags
    ∙ ap (λ (l : List Given). l ++ lines_from (open' (next_open (open' t s.grave s.cr) x).left.text (byte_step s x).state.grave (byte_step s x).state.cr) xs)
    (sym y.given)

-- and in what is left open
first_left : (s : Joiner) (b t : List ℕ) (x : ℕ) (xs : List ℕ) → (c : Core s.held s.over b t)
    → open_after (open' t s.grave s.cr) (x ∷ xs)
    ≡ open_after (open' (next_open (open' t s.grave s.cr) x).left.text (byte_step s x).state.grave (byte_step s x).state.cr) xs
unfolding open_after
first_left s b t x xs c = ap (λ (o : Open). open_after o xs) (by_byte s b t x c).flags

ends : (n : ℕ) (s : Joiner) (b t p q : List ℕ) → Fine s → Core s.held s.over b t → Ends n s t p q (run n s b p)
unfolding run state_after
ends n s b t [] q f c =
    record { count = 0; used = omega arith; some = λ h. absurd (omega arith); fine = f; text = t; core = c; lines = refl; state = refl; left = refl }
ends n s b t (x ∷ xs) q f c = go (is_more (byte_step s x).out) refl (ends (suc n) (byte_step s x).state _ _ xs q (fine_step s x f) (by_byte s b t x c).core)
  where
    s' : Joiner
    s' = (byte_step s x).state

    b' : List ℕ
    b' = stored s.held b (byte_step s x).put

    t' : List ℕ
    t' = (next_open (open' t s.grave s.cr) x).left.text

    go : (m : Bool) → is_more (byte_step s x).out ≡ m → Ends (suc n) s' t' xs q (run (suc n) s' b' xs) → Ends n s t (x ∷ xs) q (run n s b (x ∷ xs))
    go true e r = rw (cons_more n s b x xs e) (record {
      count = suc r.count;
      used = omega (arith, r.used);
      some = λ _. omega arith;
      fine = r.fine;
      text = r.text;
      core = r.core;
      lines = first s b t x (xs ++ q) c ∙ rw (given_more (byte_step s x).out b' e) r.lines;
      state = r.state;
      left = first_left s b t x (xs ++ q) c ∙ r.left;
    })
    go false e r = rw (cons_stop n s b x xs e) (record {
      count = 1;
      used = omega arith;
      some = λ _. omega arith;
      fine = fine_step s x f;
      text = t';
      core = (by_byte s b t x c).core;
      lines = first s b t x (xs ++ q) c;
      state = refl;
      left = first_left s b t x (xs ++ q) c;
    })

-- a call of the code, from a state that is fine and a buffer that holds the text
join_ends : (s : Joiner) (b t p q : List ℕ) → Fine s → Core s.held s.over b t → Ends 0 s t p q (join_of s b p)
unfolding join_of
join_ends s b t p q f c = rw (eq-eqb (length b) 1024 c.long, of_fine s f) (ends 0 s b t p q f c)

-- ---- the end: what the state says is what the text says

some_held : (t : List ℕ) → ltb 0 (min (length t) 1024) ≡ ltb 0 (length t)
some_held [] = refl
some_held (x ∷ xs) = lt-ltb 0 (min (suc (length xs)) 1024) (omega arith) ∙ sym (lt-ltb 0 (suc (length xs)) (omega arith))

end_as_lem : (s : Joiner) (b t : List ℕ) → Fine s → Core s.held s.over b t → end_of s ≡ end_as (ending_from (open' t s.grave s.cr) [])
unfolding end_of ending_from open_after
end_as_lem s b t f c = rw (of_fine s f, c.held, some_held t) (go (ltb 0 (length t) || s.grave))
  where
    go : (w : Bool) → cond w (Ok TheVariants.Cut) (Ok TheVariants.Nothing) ≡ end_as (cond w cut nothing)
    go true = refl
    go false = refl

same_end : (o o' : Open) (c c' : List ℕ) → open_after o c ≡ open_after o' c' → ending_from o c ≡ ending_from o' c'
unfolding ending_from
same_end o o' c c' e = rw e

-- ---- THE THEOREM: calls that see the capture in any beginnings of what is left give its lines, an over-long one refused as 1, leave the state that it
-- leads to, and then the end says what the capture's end says

pub record Gives (o : Open) (s s' : Joiner) (c : List ℕ) (l : List Given) : Type 0 where
  pub lines : l ≡ lines_from o c
  pub state : s' ≡ state_after s c
  pub end : end_of s' ≡ end_as (ending_from o c)

from : {ns b c : List ℕ} {s s' : Joiner} {l : List Given} (t : List ℕ) → Fine s → Core s.held s.over b t → Calls ns s b c l s'
    → Gives (open' t s.grave s.cr) s s' c l
unfolding lines_from state_after
from {b = b} {s = s} t f k done = record { lines = refl; state = refl; end = end_as_lem s b t f k }
from {b = b} {c = c} {s = s} t f k (call n d) =
    let r = join_ends s b t (take n c) (drop n c) f k in
    let e : take n c ++ drop n c ≡ c = take-append-drop n c in
    let u : (join_of s b (take n c)).answer.used ≡ r.count = omega (arith, r.used) in
    let i = from r.text r.fine r.core d in
    record {
      lines = ap (λ (m : List Given). given_of (join_of s b (take n c)).answer.outcome (join_of s b (take n c)).buffer ++ m) (rw u at i.lines) ∙ sym (rw e at r.lines);
      state = (rw u at i.state) ∙ sym (rw e at r.state);
      end = (rw u at i.end) ∙ ap end_as (same_end _ _ _ _ (sym (rw e at r.left)));
    }

pub calls_give : (ns b c : List ℕ) (l : List Given) (s : Joiner) → length b ≡ 1024 → Calls ns start b c l s
    → (l ≡ lines_of c) × (s ≡ state_after start c) × (end_of s ≡ end_as (ending_of c))
unfolding lines_of ending_of
calls_give ns b c l s h d =
    let g = from [] fine_start (core_fresh b h) d in
    (g.lines, g.state, g.end)

-- so cutting a capture elsewhere changes no line, and not the state at its end
pub cut_elsewhere : (ns ms b b' c : List ℕ) (l l' : List Given) (s s' : Joiner) → length b ≡ 1024 → length b' ≡ 1024
    → Calls ns start b c l s → Calls ms start b' c l' s' → (l ≡ l') × (s ≡ s')
cut_elsewhere ns ms b b' c l l' s s' h h' d d' =
    let x = calls_give ns b c l s h d in
    let y = calls_give ms b' c l' s' h' d' in
    (x.0 ∙ sym y.0, x.1 ∙ sym y.1)

-- ---- such calls come to their end, whatever the first ones see: a call that sees a byte uses one or more

Runs : List ℕ → Joiner → List ℕ → List ℕ → Type 0
Runs ns s b c = (ms : List ℕ) × (l : List Given) × (s' : Joiner) × Calls (ns ++ ms) s b c l s'

to_end_lem : (fuel : ℕ) (s : Joiner) (b t c : List ℕ) → length c ≤ fuel → Fine s → Core s.held s.over b t → Runs [] s b c
unfolding Runs
to_end_lem zero s b t [] h f k = ([], [], s, done)
to_end_lem zero s b t (x ∷ xs) h f k = absurd (omega arith)
to_end_lem (suc fuel) s b t [] h f k = ([], [], s, done)
to_end_lem (suc fuel) s b t (x ∷ xs) h f k =
    let c : List ℕ = x ∷ xs in
    let n : ℕ = length c in
    let e = join_ends s b t (take n c) (drop n c) f k in
    let u : 0 < (join_of s b (take n c)).answer.used = omega (arith, e.used, e.some (omega (arith, ap length (take_all n c (le_refl n))))) in
    let r = to_end_lem fuel (join_of s b (take n c)).answer.state (join_of s b (take n c)).buffer e.text (drop (join_of s b (take n c)).answer.used c)
    (omega (arith, length-drop (join_of s b (take n c)).answer.used c)) e.fine e.core in
    (n ∷ r.0, given_of (join_of s b (take n c)).answer.outcome (join_of s b (take n c)).buffer ++ r.1, r.2, call n r.3)

runs : (ns : List ℕ) (s : Joiner) (b t c : List ℕ) → Fine s → Core s.held s.over b t → Runs ns s b c
unfolding Runs
runs [] s b t c f k = to_end_lem (length c) s b t c (le_refl (length c)) f k
runs (n ∷ ns) s b t c f k =
    let e = join_ends s b t (take n c) (drop n c) f k in
    let r = runs ns (join_of s b (take n c)).answer.state (join_of s b (take n c)).buffer e.text (drop (join_of s b (take n c)).answer.used c) e.fine e.core in
    (r.0, given_of (join_of s b (take n c)).answer.outcome (join_of s b (take n c)).buffer ++ r.1, r.2, call n r.3)

pub calls_run : (ns b c : List ℕ) → length b ≡ 1024 → (ms : List ℕ) × (l : List Given) × (s : Joiner) × Calls (ns ++ ms) start b c l s
unfolding Runs
calls_run ns b c h = runs ns start b [] c fine_start (core_fresh b h)
