-- The refusals one by one: what is wrong with a turn at a depth, and what comes before the first that is.
use Rattle.std.specs.Prelude.{ℕ, ◌+◌, ◌-◌, ◌≡◌, List, [], ◌∷◌, ◌++◌, Bool, true, false, cond, not, ◌&&◌, eqb, leb}
use Rattle.std.proofs.Math.Option.{Option, none, some}
use Rattle.replies.specs.Order.{Turn, passes, opens, closes, ends, wrong, unclosed}

-- 21 no such form, 22 `endgroup` without a group, 23 depth over 8, 24 `endoutput` in an open group, 25 an open quote
abbrev pub trouble : ℕ → Turn → Option ℕ
trouble d passes = none
trouble d opens = cond (leb 8 d) (some 23) none
trouble d closes = cond (eqb d 0) (some 22) none
trouble d ends = cond (eqb d 0) none (some 24)
trouble d wrong = some 21
trouble d unclosed = some 25

-- its place is the turn's own; for 25 it is the end
abbrev pub trouble_place : ℕ → ℕ → Turn → ℕ
trouble_place e p passes = p
trouble_place e p opens = p
trouble_place e p closes = p
trouble_place e p ends = p
trouble_place e p wrong = p
trouble_place e p unclosed = e

-- the depth after a turn, and after some
abbrev pub depth_by : ℕ → Turn → ℕ
depth_by d passes = d
depth_by d opens = d + 1
depth_by d closes = d - 1
depth_by d ends = d
depth_by d wrong = d
depth_by d unclosed = d

unfoldable pub depth_after : ℕ → List (ℕ × Turn) → ℕ
depth_after d [] = d
depth_after d (l ∷ ls) = depth_after (depth_by d l.1) ls

-- no trouble, and not the end
abbrev pub is_ending : Turn → Bool
is_ending passes = false
is_ending opens = false
is_ending closes = false
is_ending ends = true
is_ending wrong = false
is_ending unclosed = false

abbrev pub is_none : Option ℕ → Bool
is_none none = true
is_none (some n) = false

unfoldable pub calm : ℕ → List (ℕ × Turn) → Bool
calm d [] = true
calm d (l ∷ ls) = (is_none (trouble d l.1) && not (is_ending l.1)) && calm (depth_by d l.1) ls

-- the first turn in trouble, n at p; and before it neither trouble nor the end
pub record Troubled (d e : ℕ) (ls : List (ℕ × Turn)) (n p : ℕ) : Type 0 where
  pub before : List (ℕ × Turn)
  pub place : ℕ
  pub turn : Turn
  pub after : List (ℕ × Turn)
  pub all : ls ≡ before ++ ((place, turn) ∷ after)
  pub quiet : calm d before ≡ true
  pub is : trouble (depth_after d before) turn ≡ some n
  pub at : trouble_place e place turn ≡ p

-- neither trouble nor the end in all of them: 25 at the end
pub record Endless (d e : ℕ) (ls : List (ℕ × Turn)) (n p : ℕ) : Type 0 where
  pub quiet : calm d ls ≡ true
  pub is : 25 ≡ n
  pub at : e ≡ p

-- the end, outside groups; and before it neither trouble nor an end
pub record Ended (d : ℕ) (ls : List (ℕ × Turn)) : Type 0 where
  pub before : List (ℕ × Turn)
  pub place : ℕ
  pub after : List (ℕ × Turn)
  pub all : ls ≡ before ++ ((place, ends) ∷ after)
  pub quiet : calm d before ≡ true
  pub out : depth_after d before ≡ 0
