-- What reading a reply answers: its records stand in the room, and a refusal's place fits two bytes. Assumes nothing.
use Rattle.std.proofs.Common.{◌≡◌, ℕ, zero, suc, ◌+◌, ◌-◌, ◌<◌, ◌≤◌, Bool, true, false, cond, eqb, ltb, leb, List, [], ◌∷◌, map, length, sym, refl, ◌∙◌, subst, arith, ltb-false, leb-true, Result, Ok, Err}
use Rattle.text.specs.Room.{fitted, refusal_at}
use Rattle.replies.specs.Lines.{form_of, line_len, Line, is_last, lines_from, lines_of}
use Rattle.replies.specs.Order.{Turn, passes, opens, closes, ends, wrong, unclosed, on_turn, flawed, judge, judged}
use Rattle.replies.specs.Reading.{turn_of, records_of, verdict_of, read_answer}
use Rattle.replies.proofs.Places.{Each}
use Rattle.text.specs.declared.Refusal.{Refusal}

-- ---- places

-- a verdict's place fits two bytes
abbrev Placed : Result Unit Refusal → Type 0
Placed (Ok u) = Unit {0}
Placed (Err e) = e.place < 65536

-- every line stands before the end
places : (k p e : ℕ) (s : List ℕ) → p + length s ≤ e → Each (λ (l : Line). l.place < e) (lines_from k p s)
unfolding lines_from
places k p e [] h = tt
places (suc k) p e (b ∷ s) h = places k (suc p) e s (omega arith)
places zero p e (b ∷ s) h = (omega arith, go (is_last (form_of (b ∷ s))) (places (line_len (b ∷ s) - 1) (suc p) e s (omega arith)))
  where
    rest : List Line
    rest = lines_from (line_len (b ∷ s) - 1) (suc p) s

    go : (x : Bool) → Each (λ (l : Line). l.place < e) rest → Each (λ (l : Line). l.place < e) (cond x [] rest)
    go true r = tt
    go false r = r

turn_placed : (u : Turn) (d e p : ℕ) (f : ℕ → Result Unit Refusal) → e < 65536 → p < 65536 → ((n : ℕ) → Placed (f n)) → Placed (on_turn u d e p flawed (Ok tt) f)
turn_placed passes d e p f h l on = on d
turn_placed opens d e p f h l on = go (leb 8 d)
  where
    go : (t : Bool) → Placed (cond t (Err (refusal_at 23 p)) (f (d + 1)))
    go true = l
    go false = on (d + 1)
turn_placed closes d e p f h l on = go (eqb d 0)
  where
    go : (t : Bool) → Placed (cond t (Err (refusal_at 22 p)) (f (d - 1)))
    go true = l
    go false = on (d - 1)
turn_placed ends d e p f h l on = go (eqb d 0)
  where
    go : (t : Bool) → Placed (cond t (Ok tt) (Err (refusal_at 24 p)))
    go true = tt
    go false = l
turn_placed wrong d e p f h l on = l
turn_placed unclosed d e p f h l on = h

judge_placed : (d e : ℕ) (ls : List Line) → e < 65536 → Each (λ (l : Line). l.place < e) ls → Placed (judge d e (map turn_of ls))
unfolding judge
judge_placed d e [] h w = h
judge_placed d e (l ∷ ls) h w = turn_placed (turn_of l).1 d e l.place (λ n. judge n e (map turn_of ls)) h (omega (arith, w.0)) (λ n. judge_placed n e ls h w.1)

verdict_placed : (s : List ℕ) → Placed (verdict_of s)
unfolding verdict_of lines_of
verdict_placed s = go (ltb 65535 (length s)) refl
  where
    go : (t : Bool) → ltb 65535 (length s) ≡ t → Placed (cond t (Err (refusal_at 21 0)) (judge 0 (length s) (map turn_of (lines_of s))))
    go true e = omega arith
    go false e = judge_placed 0 (length s) (lines_of s) (omega (arith, ltb-false 65535 (length s) e)) (places 0 0 (length s) s (omega arith))

-- ---- the answer

abbrev Bounded : ℕ → Result ℕ Refusal → Type 0
Bounded room (Ok n) = n ≤ room
Bounded room (Err e) = e.place < 65536

fit_bounded : (room : ℕ) (t : List ℕ) → Bounded room (fitted room t)
unfolding fitted
fit_bounded room t = go (leb (length t) room) refl
  where
    go : (b : Bool) → leb (length t) room ≡ b → Bounded room (cond b (Ok (length t)) (Err (refusal_at 19 0)))
    go true e = leb-true (length t) room e
    go false e = omega arith

judged_bounded : (room : ℕ) (v : Result Unit Refusal) (a : Result ℕ Refusal) → Placed v → Bounded room a → Bounded room (judged v a)
judged_bounded room (Ok u) a p b = b
judged_bounded room (Err e) a p b = p

bounded : (room : ℕ) (s : List ℕ) → Bounded room (read_answer room s)
unfolding read_answer
bounded room s = judged_bounded room (verdict_of s) (fitted room (records_of (lines_of s))) (verdict_placed s) (fit_bounded room (records_of (lines_of s)))

module _ (a : Result ℕ Refusal) (room : ℕ) (s : List ℕ) (e : a ≡ read_answer room s) where
  pub read_within : (n : ℕ) → a ≡ Ok n → n ≤ room
  read_within n q = subst (Bounded room) (sym e ∙ q) (bounded room s)

  pub read_placed : (r : Refusal) → a ≡ Err r → r.place < 65536
  read_placed r q = subst (Bounded room) (sym e ∙ q) (bounded room s)
