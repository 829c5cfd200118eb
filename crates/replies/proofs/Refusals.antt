-- Each refusal is given exactly where its condition holds and no earlier one does, the first in reading order; 25 is last; and nothing is refused exactly where
-- the end comes outside groups before any trouble. Assumes nothing.
use Prim.Native.Nat.{ℕ, ◌+◌, ◌-◌, ◌<◌, ◌≤◌}
use mathlib.Core.Path.{◌≡◌, refl, sym, ap, ◌∙◌}
use mathlib.Core.List.{List, [], ◌∷◌, ◌++◌, map}
use mathlib.Core.Bool.{Bool, true, false, cond, not, ◌&&◌}
use mathlib.Core.Option.{none, some}
use mathlib.Core.Logic.{◌⊎◌, inl, inr}
use borrow.Author.Tests.{eqb-true, le-ltb, lt-ltb}
use lib.ListN.{length}
use lib.Dec.{eqb, leb}
use Rattle.text.proofs.Tests.{and_l, and_r, and_in, no_case}
use Rattle.text.proofs.Options.{none_some}
use Rattle.text.proofs.Refusals.{same_number, same_place}
use Rattle.replies.specs.Lines.{lines_of}
use Rattle.replies.specs.Order.{Turn, passes, opens, closes, ends, wrong, unclosed, on_turn, judge, flawed}
use Rattle.replies.specs.Reading.{turn_of, verdict_of}
use Rattle.replies.specs.Troubles.{trouble, trouble_place, depth_by, depth_after, is_ending, is_none, calm, Troubled, Endless, Ended}
use Rattle.replies.proofs.TurnLaws.{flawed_fine}
use Rattle.std.proofs.Common.{Result, Ok}
use Rattle.text.specs.declared.Refusal.{Refusal as TextRefusal}

-- a turn without trouble that is not the end goes on
abbrev is_calm : ℕ → Turn → Bool
is_calm d u = is_none (trouble d u) && not (is_ending u)

calm_on : (u : Turn) (d e p : ℕ) (f : ℕ → Result Unit TextRefusal) → is_calm d u ≡ true → on_turn u d e p flawed (Ok tt) f ≡ f (depth_by d u)
calm_on passes d e p f h = refl
calm_on opens d e p f h = go (leb 8 d) h
  where
    go : (t : Bool) → is_none (cond t (some 23) none) && true ≡ true → cond t (flawed 23 p) (f (d + 1)) ≡ f (d + 1)
    go true z = no_case (sym z)
    go false z = refl
calm_on closes d e p f h = go (eqb d 0) h
  where
    go : (t : Bool) → is_none (cond t (some 22) none) && true ≡ true → cond t (flawed 22 p) (f (d - 1)) ≡ f (d - 1)
    go true z = no_case (sym z)
    go false z = refl
calm_on ends d e p f h = no_case (sym (and_r (is_none (trouble d ends)) false h))
calm_on wrong d e p f h = no_case (sym h)
calm_on unclosed d e p f h = no_case (sym h)

-- what is calm is passed over
pub calm_over : (d e : ℕ) (xs ys : List (ℕ × Turn)) → calm d xs ≡ true → judge d e (xs ++ ys) ≡ judge (depth_after d xs) e ys
unfolding judge calm depth_after
calm_over d e [] ys h = refl
calm_over d e (l ∷ xs) ys h =
    calm_on l.1 d e l.0 (λ n. judge n e (xs ++ ys)) (and_l (is_calm d l.1) (calm (depth_by d l.1) xs) h)
    ∙ calm_over (depth_by d l.1) e xs ys (and_r (is_calm d l.1) (calm (depth_by d l.1) xs) h)

-- a turn in trouble is refused
trouble_stops : (u : Turn) (d e p n : ℕ) (f : ℕ → Result Unit TextRefusal) → trouble d u ≡ some n → on_turn u d e p flawed (Ok tt) f ≡ flawed n (trouble_place e p u)
trouble_stops passes d e p n f h = none_some n h
trouble_stops opens d e p n f h = go (leb 8 d) h
  where
    go : (t : Bool) → cond t (some 23) none ≡ some n → cond t (flawed 23 p) (f (d + 1)) ≡ flawed n p
    go true z = cc
    go false z = none_some n z
trouble_stops closes d e p n f h = go (eqb d 0) h
  where
    go : (t : Bool) → cond t (some 22) none ≡ some n → cond t (flawed 22 p) (f (d - 1)) ≡ flawed n p
    go true z = cc
    go false z = none_some n z
trouble_stops ends d e p n f h = go (eqb d 0) h
  where
    go : (t : Bool) → cond t none (some 24) ≡ some n → cond t (Ok tt) (flawed 24 p) ≡ flawed n p
    go true z = none_some n z
    go false z = cc
trouble_stops wrong d e p n f h = cc
trouble_stops unclosed d e p n f h = cc

-- ---- what is refused

abbrev pub Refusal : ℕ → ℕ → List (ℕ × Turn) → ℕ → ℕ → Type 0
Refusal d e ls n p = Troubled d e ls n p ⊎ Endless d e ls n p

troubled_gives : (d e : ℕ) (ls : List (ℕ × Turn)) (n p : ℕ) → Troubled d e ls n p → judge d e ls ≡ flawed n p
unfolding judge
troubled_gives d e ls n p r =
    ap (judge d e) r.all
    ∙ calm_over d e r.before ((r.place, r.turn) ∷ r.after) r.quiet
    ∙ trouble_stops r.turn (depth_after d r.before) e r.place n (λ m. judge m e r.after) r.is
    ∙ ap (flawed n) r.at

endless_gives : (d e : ℕ) (ls : List (ℕ × Turn)) (n p : ℕ) → calm d ls ≡ true → 25 ≡ n → e ≡ p → judge d e ls ≡ flawed n p
unfolding judge calm
endless_gives d e [] n p q i a = cc
endless_gives d e (l ∷ ls) n p q i a =
    calm_on l.1 d e l.0 (λ m. judge m e ls) (and_l (is_calm d l.1) (calm (depth_by d l.1) ls) q)
    ∙ endless_gives (depth_by d l.1) e ls n p (and_r (is_calm d l.1) (calm (depth_by d l.1) ls) q) i a

-- one calm turn more before it
calmer : (d e q : ℕ) (u : Turn) (ls : List (ℕ × Turn)) (n p : ℕ) → is_calm d u ≡ true → Refusal (depth_by d u) e ls n p → Refusal d e ((q, u) ∷ ls) n p
unfolding calm depth_after
calmer d e q u ls n p c (inl r) =
    inl (record {
      before = (q, u) ∷ r.before;
      place = r.place;
      turn = r.turn;
      after = r.after;
      all = ap (λ (l : List (ℕ × Turn)). (q, u) ∷ l) r.all;
      quiet = and_in (is_calm d u) (calm (depth_by d u) r.before) c r.quiet;
      is = r.is;
      at = r.at;
    })
calmer d e q u ls n p c (inr r) = inr (record { quiet = and_in (is_calm d u) (calm (depth_by d u) ls) c r.quiet; is = r.is; at = r.at })

-- trouble at once
at_once : (d e q : ℕ) (u : Turn) (ls : List (ℕ × Turn)) (m n p : ℕ) → trouble d u ≡ some m → flawed m (trouble_place e q u) ≡ flawed n p → Refusal d e ((q, u) ∷ ls) n p
unfolding calm depth_after
at_once d e q u ls m n p t z =
    inl (record { before = []; place = q; turn = u; after = ls; all = refl; quiet = refl; is = t ∙ ap some (same_number z); at = same_place z })

fine_flawed : {P : Type 0} (n p : ℕ) → Ok tt ≡ flawed n p → P
fine_flawed n p z = flawed_fine n p (sym z)

pub refusal_from : (d e : ℕ) (ls : List (ℕ × Turn)) (n p : ℕ) → judge d e ls ≡ flawed n p → Refusal d e ls n p
unfolding judge calm
refusal_from d e [] n p h = inr (record { quiet = refl; is = same_number h; at = same_place h })
refusal_from d e ((q, passes) ∷ ls) n p h = calmer d e q passes ls n p refl (refusal_from d e ls n p h)
refusal_from d e ((q, opens) ∷ ls) n p h = go (leb 8 d) refl h (refusal_from (d + 1) e ls n p)
  where
    go : (t : Bool) → leb 8 d ≡ t → cond t (flawed 23 q) (judge (d + 1) e ls) ≡ flawed n p → (judge (d + 1) e ls ≡ flawed n p → Refusal (d + 1) e ls n p) → Refusal d e ((q, opens) ∷ ls) n p
    go true z k ih = at_once d e q opens ls 23 n p (rw z) k
    go false z k ih = calmer d e q opens ls n p (rw z) (ih k)
refusal_from d e ((q, closes) ∷ ls) n p h = go (eqb d 0) refl h (refusal_from (d - 1) e ls n p)
  where
    go : (t : Bool) → eqb d 0 ≡ t → cond t (flawed 22 q) (judge (d - 1) e ls) ≡ flawed n p → (judge (d - 1) e ls ≡ flawed n p → Refusal (d - 1) e ls n p) → Refusal d e ((q, closes) ∷ ls) n p
    go true z k ih = at_once d e q closes ls 22 n p (rw z) k
    go false z k ih = calmer d e q closes ls n p (rw z) (ih k)
refusal_from d e ((q, ends) ∷ ls) n p h = go (eqb d 0) refl h
  where
    go : (t : Bool) → eqb d 0 ≡ t → cond t (Ok tt) (flawed 24 q) ≡ flawed n p → Refusal d e ((q, ends) ∷ ls) n p
    go true z k = fine_flawed n p k
    go false z k = at_once d e q ends ls 24 n p (rw z) k
refusal_from d e ((q, wrong) ∷ ls) n p h = at_once d e q wrong ls 21 n p refl h
refusal_from d e ((q, unclosed) ∷ ls) n p h = at_once d e q unclosed ls 25 n p refl h

pub refusal_gives : (d e : ℕ) (ls : List (ℕ × Turn)) (n p : ℕ) → Refusal d e ls n p → judge d e ls ≡ flawed n p
refusal_gives d e ls n p (inl r) = troubled_gives d e ls n p r
refusal_gives d e ls n p (inr r) = endless_gives d e ls n p r.quiet r.is r.at

-- ---- what is not refused

pub ended_gives : (d e : ℕ) (ls : List (ℕ × Turn)) → Ended d ls → judge d e ls ≡ Ok tt
unfolding judge
ended_gives d e ls r =
    ap (judge d e) r.all
    ∙ calm_over d e r.before ((r.place, ends) ∷ r.after) r.quiet
    ∙ rw r.out refl

ended_on : (d q : ℕ) (u : Turn) (ls : List (ℕ × Turn)) → is_calm d u ≡ true → Ended (depth_by d u) ls → Ended d ((q, u) ∷ ls)
unfolding calm depth_after
ended_on d q u ls c r =
    record {
      before = (q, u) ∷ r.before;
      place = r.place;
      after = r.after;
      all = ap (λ (l : List (ℕ × Turn)). (q, u) ∷ l) r.all;
      quiet = and_in (is_calm d u) (calm (depth_by d u) r.before) c r.quiet;
      out = r.out;
    }

pub ended_from : (d e : ℕ) (ls : List (ℕ × Turn)) → judge d e ls ≡ Ok tt → Ended d ls
unfolding judge calm depth_after
ended_from d e [] h = flawed_fine 25 e h
ended_from d e ((q, passes) ∷ ls) h = ended_on d q passes ls refl (ended_from d e ls h)
ended_from d e ((q, opens) ∷ ls) h = go (leb 8 d) refl h (ended_from (d + 1) e ls)
  where
    go : (t : Bool) → leb 8 d ≡ t → cond t (flawed 23 q) (judge (d + 1) e ls) ≡ Ok tt → (judge (d + 1) e ls ≡ Ok tt → Ended (d + 1) ls) → Ended d ((q, opens) ∷ ls)
    go true z k ih = flawed_fine 23 q k
    go false z k ih = ended_on d q opens ls (rw z) (ih k)
ended_from d e ((q, closes) ∷ ls) h = go (eqb d 0) refl h (ended_from (d - 1) e ls)
  where
    go : (t : Bool) → eqb d 0 ≡ t → cond t (flawed 22 q) (judge (d - 1) e ls) ≡ Ok tt → (judge (d - 1) e ls ≡ Ok tt → Ended (d - 1) ls) → Ended d ((q, closes) ∷ ls)
    go true z k ih = flawed_fine 22 q k
    go false z k ih = ended_on d q closes ls (rw z) (ih k)
ended_from d e ((q, ends) ∷ ls) h = go (eqb d 0) refl h
  where
    go : (t : Bool) → eqb d 0 ≡ t → cond t (Ok tt) (flawed 24 q) ≡ Ok tt → Ended d ((q, ends) ∷ ls)
    go true z k = record { before = []; place = q; after = ls; all = refl; quiet = refl; out = eqb-true d 0 z }
    go false z k = flawed_fine 24 q k
ended_from d e ((q, wrong) ∷ ls) h = flawed_fine 21 q h
ended_from d e ((q, unclosed) ∷ ls) h = flawed_fine 25 e h

-- ---- the reader's verdict

-- a text of over 65,535 bytes
pub long_refused : (s : List ℕ) → 65535 < length s → verdict_of s ≡ flawed 21 0
unfolding verdict_of
long_refused s h = rw (lt-ltb 65535 (length s) h)

-- any other: refused exactly by its first trouble, or by 25 where there is none and no end
module _ (s : List ℕ) (h : length s ≤ 65535) where
  pub verdict_is : verdict_of s ≡ judge 0 (length s) (map turn_of (lines_of s))
  unfolding verdict_of
  verdict_is = rw (le-ltb 65535 (length s) h)

  pub reply_refused : (n p : ℕ) → (verdict_of s ≡ flawed n p → Refusal 0 (length s) (map turn_of (lines_of s)) n p) × (Refusal 0 (length s) (map turn_of (lines_of s)) n p → verdict_of s ≡ flawed n p)
  reply_refused n p =
      let ls = map turn_of (lines_of s) in
      ((λ z. refusal_from 0 (length s) ls n p (sym verdict_is ∙ z)), (λ r. verdict_is ∙ refusal_gives 0 (length s) ls n p r))

  pub reply_accepted : (verdict_of s ≡ Ok tt → Ended 0 (map turn_of (lines_of s))) × (Ended 0 (map turn_of (lines_of s)) → verdict_of s ≡ Ok tt)
  reply_accepted =
      let ls = map turn_of (lines_of s) in
      ((λ z. ended_from 0 (length s) ls (sym verdict_is ∙ z)), (λ r. verdict_is ∙ ended_gives 0 (length s) ls r))
