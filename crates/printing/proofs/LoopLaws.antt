-- Laws of call after call: what is left answers as the whole. Assumes nothing.
use Prim.Native.Nat.{ℕ, zero, suc, ◌+◌, ◌-◌, ◌<◌, ◌≤◌}
use native.Mathlib.Omega.{arith}
use native.Mathlib.Nat.{le_refl}
use mathlib.Core.Path.{◌≡◌, refl, sym, ap, ◌∙◌, subst}
use mathlib.Core.List.{List, [], ◌∷◌, ◌++◌, append_assoc, append-nil}
use mathlib.Core.Bool.{Bool, true, false, ◌&&◌}
use lib.ListN.{length, take, drop, length-append, length-drop, drop_of_length-le}
use lib.Seq.{sets, sets-eq, length-sets, drop-drop}
use lib.Dec.{leb, ltb}
use borrow.Author.Tests.{eq-eqb, ltb-true, leb-true, le-ltb}
use Rattle.text.specs.Room.{wrote}
use Rattle.text.proofs.Tests.{and_r, no_case}
use Rattle.text.proofs.Slices.{part_from}
use Rattle.text.proofs.Writes.{sets_append, sets_fill}
use Rattle.joiner.specs.declared.Joiner.{Joiner}
use Rattle.joiner.specs.Step.{reachable}
use Rattle.joiner.specs.Join.{Ran, join_of}
use Rattle.joiner.proofs.Laws.{fits_length, fits_state, used_within}
use Rattle.joiner.proofs.Past.{goes_on_lem}
use Rattle.lister.specs.Lister.{fit}
use Rattle.printing.specs.declared.Printed.{Printed}
use Rattle.printing.specs.declared.Called.{Called}
use Rattle.printing.specs.Printing.{longest, may_call, may_print, lines_by, ran_text, Print, none_yet, and_then, print_from, print_of, printed, printed_by, unprinted, part_print}
use Rattle.printing.specs.Steps.{called_by}
use Rattle.printing.proofs.LineText.{text_fits}
use Rattle.std.proofs.Common.{Ok}
use Rattle.std.proofs.Common.{Result, Err, Option, Some, None}
use Rattle.text.specs.declared.Refusal.{Refusal}

-- ---- one call more

pub may_left : (left room : ℕ) → may_call left room ≡ true → 0 < left
may_left left room e = go (ltb 0 left) refl e
  where
    go : (t : Bool) → ltb 0 left ≡ t → t && leb longest room ≡ true → 0 < left
    go true q h = ltb-true 0 left q
    go false q h = no_case (sym h)

pub may_room : (left room : ℕ) → may_call left room ≡ true → longest ≤ room
may_room left room e = leb-true longest room (and_r (ltb 0 left) (leb longest room) e)

-- a call leaves what the next one does not refuse
pub fit_on : (s : Joiner) (b p : List ℕ) → fit s b ≡ true → fit (join_of s b p).answer.state (join_of s b p).buffer ≡ true
fit_on s b p f =
    let g = goes_on_lem s b p (fits_length s b f) (fits_state s b f) in
    ap (λ (t : Bool). t && reachable (join_of s b p).answer.state) (eq-eqb (length (join_of s b p).buffer) 1024 g.0) ∙ g.1

pub used_some : (s : Joiner) (b p : List ℕ) → fit s b ≡ true → 0 < length p → 0 < (join_of s b p).answer.used
used_some s b p f h = (goes_on_lem s b p (fits_length s b f) (fits_state s b f)).2 h

pub print_end : (n : ℕ) (s : Joiner) (b p : List ℕ) (room : ℕ) → may_call (length p) room ≡ false → print_from n s b p room ≡ none_yet s b
unfolding print_from
print_end zero s b p room e = refl
print_end (suc n) s b p room e = rw e refl

pub print_stop : (s : Joiner) (b p : List ℕ) (room : ℕ) → may_call (length p) room ≡ false → print_of s b p room ≡ none_yet s b
unfolding print_of
print_stop s b p room e = print_end (length p) s b p room e

-- as many turns as bytes are enough
pub print_fuel : (n m : ℕ) (s : Joiner) (b p : List ℕ) (room : ℕ) → length p ≤ n → length p ≤ m → fit s b ≡ true
    → print_from n s b p room ≡ print_from m s b p room
unfolding print_from
print_fuel zero m s b p room h l f =
    sym (print_end m s b p room (ap (λ (t : Bool). t && leb longest room) (le-ltb 0 (length p) h)))
print_fuel (suc n) zero s b p room h l f =
    print_end (suc n) s b p room (ap (λ (t : Bool). t && leb longest room) (le-ltb 0 (length p) l))
print_fuel (suc n) (suc m) s b p room h l f =
    let R = join_of s b p in
    go (may_call (length p) room) refl (λ (i : length (drop R.answer.used p) ≤ n) (j : length (drop R.answer.used p) ≤ m).
    print_fuel n m R.answer.state R.buffer (drop R.answer.used p) (room - length (ran_text R)) i j (fit_on s b p f))
  where
    after : ℕ → Print
    after k = print_from k (join_of s b p).answer.state (join_of s b p).buffer (drop (join_of s b p).answer.used p) (room - length (ran_text (join_of s b p)))

    less : (k : ℕ) → 0 < length p → length p ≤ suc k → length (drop (join_of s b p).answer.used p) ≤ k
    less k i j = omega (arith, length-drop (join_of s b p).answer.used p, used_some s b p f i)

    go : (t : Bool) → may_call (length p) room ≡ t
        → (length (drop (join_of s b p).answer.used p) ≤ n → length (drop (join_of s b p).answer.used p) ≤ m → after n ≡ after m)
        → print_from (suc n) s b p room ≡ print_from (suc m) s b p room
    go true e r = let i = may_left (length p) room e in rw e (ap (and_then (join_of s b p)) (r (less n i h) (less m i l)))
    go false e r = rw e refl

pub print_on : (s : Joiner) (b p : List ℕ) (room : ℕ) → fit s b ≡ true → may_call (length p) room ≡ true
    → let R : Ran = join_of s b p in
    print_of s b p room ≡ and_then R (print_of R.answer.state R.buffer (drop R.answer.used p) (room - length (ran_text R)))
unfolding print_of print_from
print_on s b [] room f e = no_case (sym e)
print_on s b (x ∷ xs) room f e =
    let p : List ℕ = x ∷ xs in
    let R : Ran = join_of s b p in
    rw e (ap (and_then R) (print_fuel (length xs) (length (drop R.answer.used p)) R.answer.state R.buffer (drop R.answer.used p) (room - length (ran_text R))
    (omega (arith, length-drop R.answer.used p, used_some s b p f (omega arith))) (le_refl (length (drop R.answer.used p))) (fit_on s b p f)))

-- ---- what is left answers as the whole: of the whole W, what is done and what P still gives

pub record Left (W : Print) (out₀ : List ℕ) (P : Print) (out : List ℕ) (at k n : ℕ) : Type 0 where
  pub state : W.state ≡ P.state
  pub buffer : W.buffer ≡ P.buffer
  pub used : W.used ≡ at + P.used
  pub lines : W.lines ≡ k + P.lines
  pub count : length W.text ≡ n + length P.text
  pub text : sets out n P.text ≡ sets out₀ 0 W.text

pub left_start : (W : Print) (out : List ℕ) → Left W out W out 0 0 0
left_start W out = record { state = refl; buffer = refl; used = omega arith; lines = omega arith; count = omega arith; text = refl }

left_on : (W : Print) (out₀ : List ℕ) (R : Ran) (P : Print) (out out' : List ℕ) (at lines n : ℕ) → Left W out₀ (and_then R P) out at lines n
    → out' ≡ sets out n (ran_text R) → Left W out₀ P out' (at + R.answer.used) (lines + lines_by R.answer.outcome) (n + length (ran_text R))
left_on W out₀ R P out out' at lines n l e =
    record {
      state = l.state;
      buffer = l.buffer;
      used = omega (arith, l.used);
      lines = omega (arith, l.lines);
      count = omega (arith, l.count, length-append (ran_text R) P.text);
      text = ap (λ (o : List ℕ). sets o (n + length (ran_text R)) P.text) e ∙ sets_append (ran_text R) P.text out n ∙ l.text;
    }

pub left_end : (W : Print) (out₀ : List ℕ) (s : Joiner) (b out : List ℕ) (at lines n : ℕ) → Left W out₀ (none_yet s b) out at lines n → n ≤ length out
    → length out ≡ length out₀
    → (◌≡◌ {A = Printed} (printed s at lines (Ok n)) (printed_by W out₀).answer) × ((b ≡ W.buffer) × (out ≡ wrote out₀ W.text))
left_end W out₀ s b out at lines n l h e =
    let u : at ≡ W.used = omega (arith, l.used) in
    let v : lines ≡ W.lines = omega (arith, l.lines) in
    let w : n ≡ length W.text = omega (arith, l.count) in (
      ap (λ (q : Joiner). printed q at lines (Ok n)) (sym l.state)
          ∙ ap (λ (k : ℕ). printed W.state k lines (Ok n)) u
          ∙ ap (λ (k : ℕ). printed W.state W.used k (Ok n)) v
          ∙ ap (λ (k : ℕ). printed W.state W.used W.lines (Ok k)) w,
      (sym l.buffer, l.text ∙ sets_fill out₀ W.text (omega arith)),
    )

-- a part of the room comes back with a text at its start
pub part_back : (out ys t : List ℕ) (n : ℕ) → n + length t ≤ length out → ys ≡ wrote (take (length out - n) (drop n out)) t
    → take n out ++ (ys ++ drop (length out - n) (drop n out)) ≡ sets out n t
unfolding wrote
part_back out ys t n h e =
    let z : drop (length out - n) (drop n out) ≡ [] = drop_of_length-le (drop n out) {i = length out - n} (omega (arith, length-drop n out)) in
    ap (λ (r : List ℕ). take n out ++ (ys ++ r)) z
    ∙ ap (λ (r : List ℕ). take n out ++ r) (append-nil ys ∙ e ∙ ap (λ (r : List ℕ). t ++ drop (length t) r) (part_from out n) ∙ ap (λ (r : List ℕ). t ++ r) (drop-drop (length t) n out))
    ∙ sym (append_assoc (take n out) t (drop (n + length t) out))
    ∙ sym (sets-eq t out n h)

-- ---- a turn of the loop

pub record Turn (s₀ : Joiner) (b₀ part out₀ : List ℕ) (s : Joiner) (b out : List ℕ) (at lines n : ℕ) : Type 0 where
  pub within : at ≤ length part
  pub few : lines ≤ at
  pub room : n ≤ length out
  pub same : length out ≡ length out₀
  pub fits : fit s b ≡ true
  pub left : Left (print_of s₀ b₀ part (length out₀)) out₀ (print_of s b (drop at part) (length out - n)) out at lines n

pub may_fit : (s : Joiner) (b : List ℕ) (room : ℕ) → may_print s b room ≡ true → fit s b ≡ true
may_fit s b room e = go (fit s b) refl e
  where
    go : (t : Bool) → fit s b ≡ t → t && leb longest room ≡ true → fit s b ≡ true
    go true q h = q
    go false q h = no_case (sym h)

pub turn_start : (s : Joiner) (b p out : List ℕ) → may_print s b (length out) ≡ true → Turn s b p out s b out 0 0 0
turn_start s b p out e =
    let z : length out - 0 ≡ length out = omega arith in
    record {
      within = omega arith;
      few = omega arith;
      room = omega arith;
      same = refl;
      fits = may_fit s b (length out) e;
      left = rw z (left_start (print_of s b p (length out)) out);
    }

pub one_line : (o : Result (Option ℕ) Refusal) → lines_by o ≤ 1
one_line (Ok None) = omega arith
one_line (Ok (Some k)) = omega arith
one_line (Err e) = omega arith

-- what a call tells of the rest of the part and of the room
pub record Counts (part out : List ℕ) (at lines n : ℕ) (c : Called) : Type 0 where
  pub some : 0 < c.used
  pub within : at + c.used ≤ length part
  pub few : lines + c.lines ≤ at + c.used
  pub fits : n + c.text ≤ length out

module _ {s₀ : Joiner} {b₀ part out₀ : List ℕ} {s : Joiner} {b out : List ℕ} {at lines n : ℕ} (T : Turn s₀ b₀ part out₀ s b out at lines n)
    (may : may_call (length part - at) (length out - n) ≡ true) where
  pub turn_room : longest ≤ length out - n
  turn_room = may_room (length part - at) (length out - n) may

  -- a call on p, which is the rest of the part
  module _ (p : List ℕ) (is : p ≡ drop at part) where
    call_counts : Counts part out at lines n (called_by (join_of s b p))
    call_counts =
        let l : length p ≡ length part - at = ap length is ∙ length-drop at part in
        let u = used_some s b p T.fits (omega (arith, l, may_left (length part - at) (length out - n) may)) in
        record {
          some = u;
          within = omega (arith, used_within s b p, l, T.within);
          few = omega (arith, T.few, u, one_line (join_of s b p).answer.outcome);
          fits = omega (arith, turn_room, text_fits (join_of s b p).answer.outcome (join_of s b p).buffer);
        }

    call_left : (out' : List ℕ) → out' ≡ sets out n (ran_text (join_of s b p))
        → let R : Ran = join_of s b p in
        Left (print_of s₀ b₀ part (length out₀)) out₀ (print_of R.answer.state R.buffer (drop (at + R.answer.used) part) (length out' - (n + length (ran_text R)))) out'
        (at + R.answer.used) (lines + lines_by R.answer.outcome) (n + length (ran_text R))
    call_left out' e =
        let R : Ran = join_of s b p in
        let W : Print = print_of s₀ b₀ part (length out₀) in
        let m : may_call (length p) (length out - n) ≡ true = ap (λ (k : ℕ). may_call k (length out - n)) (ap length is ∙ length-drop at part) ∙ may in
        let q : print_of s b (drop at part) (length out - n) ≡ and_then R (print_of R.answer.state R.buffer (drop R.answer.used p) (length out - n - length (ran_text R))) =
        ap (λ (l : List ℕ). print_of s b l (length out - n)) (sym is) ∙ print_on s b p (length out - n) T.fits m in
        let d : drop R.answer.used p ≡ drop (at + R.answer.used) part = ap (drop R.answer.used) is ∙ drop-drop R.answer.used at part in
        let k : length out - n - length (ran_text R) ≡ length out' - (n + length (ran_text R)) = omega (arith, ap length e, length-sets out n (ran_text R)) in
        let l = left_on W out₀ R _ out out' at lines n (subst (λ (P : Print). Left W out₀ P out at lines n) q T.left) e in
        subst (λ (r : ℕ). Left W out₀ (print_of R.answer.state R.buffer (drop (at + R.answer.used) part) r) out' (at + R.answer.used) (lines + lines_by R.answer.outcome) (n + length (ran_text R))) k
        (subst (λ (r : List ℕ). Left W out₀ (print_of R.answer.state R.buffer r (length out - n - length (ran_text R))) out' (at + R.answer.used) (lines + lines_by R.answer.outcome) (n + length (ran_text R))) d l)

    call_turn : (out' : List ℕ) → out' ≡ sets out n (ran_text (join_of s b p))
        → let R : Ran = join_of s b p in
        Turn s₀ b₀ part out₀ R.answer.state R.buffer out' (at + R.answer.used) (lines + lines_by R.answer.outcome) (n + length (ran_text R))
    call_turn out' e =
        let same : length out' ≡ length out = ap length e ∙ length-sets out n (ran_text (join_of s b p)) in
        record {
          within = call_counts.within;
          few = call_counts.few;
          room = omega (arith, call_counts.fits, same);
          same = same ∙ T.same;
          fits = fit_on s b p T.fits;
          left = call_left out' e;
        }

  -- the call as the code makes it, and what it tells
  module _ (c : Called) (e : c ≡ called_by (join_of s b (take (length part - at) (drop at part)))) where
    pub turn_counts : Counts part out at lines n c
    turn_counts = subst (Counts part out at lines n) (sym e) (call_counts (take (length part - at) (drop at part)) (part_from part at))

    -- with the rest of the room
    pub turn_on : (b' ys : List ℕ) → b' ≡ (join_of s b (take (length part - at) (drop at part))).buffer
        → ys ≡ wrote (take (length out - n) (drop n out)) (ran_text (join_of s b (take (length part - at) (drop at part))))
        → Turn s₀ b₀ part out₀ c.state b' (take n out ++ (ys ++ drop (length out - n) (drop n out))) (at + c.used) (lines + c.lines) (n + c.text)
    turn_on b' ys eb ey =
        let p : List ℕ = take (length part - at) (drop at part) in
        let R : Ran = join_of s b p in
        let o : List ℕ = take n out ++ (ys ++ drop (length out - n) (drop n out)) in
        let t = call_turn p (part_from part at) o (part_back out ys (ran_text R) n (call_counts p (part_from part at)).fits ey) in
        subst (λ (q : Called). Turn s₀ b₀ part out₀ q.state b' o (at + q.used) (lines + q.lines) (n + q.text)) (sym e)
        (subst (λ (d : List ℕ). Turn s₀ b₀ part out₀ R.answer.state d o (at + R.answer.used) (lines + lines_by R.answer.outcome) (n + length (ran_text R))) (sym eb) t)

-- no call more
pub turn_end : {s₀ : Joiner} {b₀ part out₀ : List ℕ} {s : Joiner} {b out : List ℕ} {at lines n : ℕ} → Turn s₀ b₀ part out₀ s b out at lines n
    → may_call (length part - at) (length out - n) ≡ false → may_print s₀ b₀ (length out₀) ≡ true
    → (◌≡◌ {A = Printed} (printed s at lines (Ok n)) (part_print s₀ b₀ part out₀).answer)
    × ((b ≡ (part_print s₀ b₀ part out₀).buffer) × (out ≡ (part_print s₀ b₀ part out₀).out))
unfolding part_print
turn_end {s₀} {b₀} {part} {out₀} {s} {b} {out} {at} {lines} {n} T h g =
    let W : Print = print_of s₀ b₀ part (length out₀) in
    let m : may_call (length (drop at part)) (length out - n) ≡ false = ap (λ (k : ℕ). may_call k (length out - n)) (length-drop at part) ∙ h in
    let q : print_of s b (drop at part) (length out - n) ≡ none_yet s b = print_stop s b (drop at part) (length out - n) m in
    rw g (left_end W out₀ s b out at lines n (subst (λ (P : Print). Left W out₀ P out at lines n) q T.left) T.room T.same)

-- a part that is not printed
pub print_none : (s : Joiner) (b p out : List ℕ) → may_print s b (length out) ≡ false → part_print s b p out ≡ unprinted s b out
unfolding part_print
print_none s b p out e = rw e refl

-- and one that is
pub print_some : (s : Joiner) (b p out : List ℕ) → may_print s b (length out) ≡ true → part_print s b p out ≡ printed_by (print_of s b p (length out)) out
unfolding part_print
print_some s b p out e = rw e refl
