-- Laws of the order of turns: what follows matters only where a turn goes on, and places only to refusals. Assumes nothing.
use Prim.Native.Nat.{ℕ, ◌+◌, ◌-◌}
use mathlib.Core.Path.{◌≡◌, refl, sym, ap, ◌∙◌}
use mathlib.Core.List.{List, [], ◌∷◌, map}
use mathlib.Core.Bool.{Bool, true, false, cond}
use lib.Dec.{eqb, leb}
use Rattle.text.proofs.Tests.{no_case}
use Rattle.replies.specs.Order.{Turn, passes, opens, closes, ends, wrong, unclosed, on_turn, judge, flawed}
use Rattle.std.proofs.Common.{Result, Ok, Err}
use Rattle.text.specs.declared.Refusal.{Refusal}

abbrev pub is_fine : Result Unit Refusal → Bool
is_fine (Ok u) = true
is_fine (Err e) = false

-- turns without their places, and with places that do not matter
abbrev pub turns_of : List (ℕ × Turn) → List Turn
turns_of ls = map (λ (l : ℕ × Turn). l.1) ls

abbrev pub unplaced : List Turn → List (ℕ × Turn)
unplaced us = map (λ (u : Turn). (0, u)) us

-- a refusal accepts nothing
pub flawed_fine : {P : Type 0} (n p : ℕ) → flawed n p ≡ Ok tt → P
flawed_fine n p e = no_case (sym (ap is_fine e))

-- the number of a refusal, 0 for none
abbrev pub number : Result Unit Refusal → ℕ
number (Ok u) = 0
number (Err e) = e.number

-- where a turn is accepted with what follows, it is with what follows as well, at any place
pub turn_fine : (u : Turn) (d e p e' p' : ℕ) (f g : ℕ → Result Unit Refusal) → ((n : ℕ) → f n ≡ Ok tt → g n ≡ Ok tt) → on_turn u d e p flawed (Ok tt) f ≡ Ok tt → on_turn u d e' p' flawed (Ok tt) g ≡ Ok tt
turn_fine passes d e p e' p' f g m h = m d h
turn_fine opens d e p e' p' f g m h = go (leb 8 d) h
  where
    go : (t : Bool) → cond t (flawed 23 p) (f (d + 1)) ≡ Ok tt → cond t (flawed 23 p') (g (d + 1)) ≡ Ok tt
    go true k = flawed_fine 23 p k
    go false k = m (d + 1) k
turn_fine closes d e p e' p' f g m h = go (eqb d 0) h
  where
    go : (t : Bool) → cond t (flawed 22 p) (f (d - 1)) ≡ Ok tt → cond t (flawed 22 p') (g (d - 1)) ≡ Ok tt
    go true k = flawed_fine 22 p k
    go false k = m (d - 1) k
turn_fine ends d e p e' p' f g m h = go (eqb d 0) h
  where
    go : (t : Bool) → cond t (Ok tt) (flawed 24 p) ≡ Ok tt → cond t (Ok tt) (flawed 24 p') ≡ Ok tt
    go true k = refl
    go false k = flawed_fine 24 p k
turn_fine wrong d e p e' p' f g m h = flawed_fine 21 p h
turn_fine unclosed d e p e' p' f g m h = flawed_fine 25 e h

-- a turn that is accepted ends all, or goes on to what is accepted
pub turn_then : {P : Type 0} (u : Turn) (d e p : ℕ) (f : ℕ → Result Unit Refusal) → ((n : ℕ) → f n ≡ Ok tt → P) → (u ≡ ends → P) → on_turn u d e p flawed (Ok tt) f ≡ Ok tt → P
turn_then passes d e p f on done h = on d h
turn_then {P} opens d e p f on done h = go (leb 8 d) h
  where
    go : (t : Bool) → cond t (flawed 23 p) (f (d + 1)) ≡ Ok tt → P
    go true k = flawed_fine 23 p k
    go false k = on (d + 1) k
turn_then {P} closes d e p f on done h = go (eqb d 0) h
  where
    go : (t : Bool) → cond t (flawed 22 p) (f (d - 1)) ≡ Ok tt → P
    go true k = flawed_fine 22 p k
    go false k = on (d - 1) k
turn_then ends d e p f on done h = done refl
turn_then wrong d e p f on done h = flawed_fine 21 p h
turn_then unclosed d e p f on done h = flawed_fine 25 e h

-- what follows may be put for what is the same
pub turn_same : (u : Turn) (d e p : ℕ) (f g : ℕ → Result Unit Refusal) → ((n : ℕ) → f n ≡ g n) → on_turn u d e p flawed (Ok tt) f ≡ on_turn u d e p flawed (Ok tt) g
turn_same passes d e p f g m = m d
turn_same opens d e p f g m = ap (cond (leb 8 d) (flawed 23 p)) (m (d + 1))
turn_same closes d e p f g m = ap (cond (eqb d 0) (flawed 22 p)) (m (d - 1))
turn_same ends d e p f g m = refl
turn_same wrong d e p f g m = refl
turn_same unclosed d e p f g m = refl

-- what is looked at of a verdict: anything but a refusal's place
module _ {B : Type 0} (look : Result Unit Refusal → B) (same : (n p q : ℕ) → look (flawed n p) ≡ look (flawed n q)) where
  pub turn_look : (u : Turn) (d e p e' p' : ℕ) (f g : ℕ → Result Unit Refusal) → ((n : ℕ) → look (f n) ≡ look (g n)) → look (on_turn u d e p flawed (Ok tt) f) ≡ look (on_turn u d e' p' flawed (Ok tt) g)
  turn_look passes d e p e' p' f g m = m d
  turn_look opens d e p e' p' f g m = go (leb 8 d)
    where
      go : (t : Bool) → look (cond t (flawed 23 p) (f (d + 1))) ≡ look (cond t (flawed 23 p') (g (d + 1)))
      go true = same 23 p p'
      go false = m (d + 1)
  turn_look closes d e p e' p' f g m = go (eqb d 0)
    where
      go : (t : Bool) → look (cond t (flawed 22 p) (f (d - 1))) ≡ look (cond t (flawed 22 p') (g (d - 1)))
      go true = same 22 p p'
      go false = m (d - 1)
  turn_look ends d e p e' p' f g m = go (eqb d 0)
    where
      go : (t : Bool) → look (cond t (Ok tt) (flawed 24 p)) ≡ look (cond t (Ok tt) (flawed 24 p'))
      go true = refl
      go false = same 24 p p'
  turn_look wrong d e p e' p' f g m = same 21 p p'
  turn_look unclosed d e p e' p' f g m = same 25 e e'

  -- it depends on the turns alone
  judge_look : (d e : ℕ) (ls : List (ℕ × Turn)) → look (judge d e ls) ≡ look (judge d 0 (unplaced (turns_of ls)))
  unfolding judge
  judge_look d e [] = same 25 e 0
  judge_look d e (l ∷ ls) = turn_look l.1 d e l.0 0 0 (λ n. judge n e ls) (λ n. judge n 0 (unplaced (turns_of ls))) (λ n. judge_look n e ls)

  pub judge_same : (d e e' : ℕ) (ls ls' : List (ℕ × Turn)) → turns_of ls ≡ turns_of ls' → look (judge d e ls) ≡ look (judge d e' ls')
  judge_same d e e' ls ls' h = judge_look d e ls ∙ ap (λ (us : List Turn). look (judge d 0 (unplaced us))) h ∙ sym (judge_look d e' ls')

-- its number is such
pub number_place : (n p q : ℕ) → number (flawed n p) ≡ number (flawed n q)
number_place n p q = refl
