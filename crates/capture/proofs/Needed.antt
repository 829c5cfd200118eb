-- Which parts of demand 3's condition are needed: for each of them two captures with a tail that meets all the others, and that differ after it. A tail that
-- begins with GRAVE; one that begins with CR LF; one whose second byte is no end of line. (An LF first, or a CR before another CR, does no harm:
-- joiner's Wider.) Assumes nothing.
use Prim.Native.Nat.{ℕ}
use mathlib.Core.Path.{◌≡◌, sym, ap, ◌∙◌}
use mathlib.Core.List.{List, [], ◌∷◌, ◌++◌}
use mathlib.Core.Bool.{Bool, true, false, true≢false, false≢true}
use lib.ListN.{drop, get_or}
use lib.Dec.{eqb}
use Rattle.joiner.specs.declared.End.{End}
use Rattle.joiner.specs.declared.End.TheVariants as end'
use Rattle.joiner.specs.Lines.{byte_kind, line_or_refused, next_open, lines_from, lines_of, open_after, ending_from, ending_of}
use Rattle.capture.specs.Answers.{Lent, WholeAnswer, answered, not_joined, answers_from, answers_of}
use Rattle.capture.specs.Trust.{Run, run_answers, run_end, ended_by}
use Rattle.capture.proofs.Demand3.{run_answers_lem, run_end_lem}
use Rattle.std.proofs.Common.{Result, Ok, Err}
use Rattle.text.specs.declared.Refusal.{Refusal}

abbrev is_cut : Result End Refusal → Bool
is_cut (Ok end'.Nothing) = false
is_cut (Ok end'.Cut) = true
is_cut (Err e) = false

-- GRAVE LF after `x` joins, after `x` GRAVE it is an escaped GRAVE and an end of line: the first capture is cut, the second is not
pub grave_differs : (r : Run ((120 ∷ []) ++ (96 ∷ 10 ∷ []))) (r' : Run ((120 ∷ 96 ∷ []) ++ (96 ∷ 10 ∷ []))) → run_end _ r ≡ run_end _ r' → ⊥
unfolding ending_of ending_from open_after next_open byte_kind
grave_differs r r' e = true≢false (ap is_cut (sym (run_end_lem _ r) ∙ e ∙ run_end_lem _ r'))

-- CR LF after `x` is one end of line, after `x` GRAVE it joins
pub cr_lf_differs : (r : Run ((120 ∷ []) ++ (13 ∷ 10 ∷ []))) (r' : Run ((120 ∷ 96 ∷ []) ++ (13 ∷ 10 ∷ []))) → run_end _ r ≡ run_end _ r' → ⊥
unfolding ending_of ending_from open_after next_open byte_kind
cr_lf_differs r r' e = false≢true (ap is_cut (sym (run_end_lem _ r) ∙ e ∙ run_end_lem _ r'))

-- the first byte of a line that was answered
abbrev byte_in : WholeAnswer → ℕ
byte_in (answered t a) = get_or t 0 0
byte_in (not_joined k p t) = get_or t 0 0

abbrev first_byte : List WholeAnswer → ℕ
first_byte [] = 0
first_byte (a ∷ as') = byte_in a

-- `ab` and then LF ends a line of which part came before: `cab` in one capture, `dab` in the other
pub end_differs : (r : Run ((99 ∷ []) ++ (97 ∷ 98 ∷ 10 ∷ []))) (r' : Run ((100 ∷ []) ++ (97 ∷ 98 ∷ 10 ∷ []))) (f : ℕ → Lent)
    → drop (ended_by (99 ∷ []) 97 98) (run_answers f _ r) ≡ drop (ended_by (100 ∷ []) 97 98) (run_answers f _ r') → ⊥
unfolding answers_of answers_from lines_of lines_from line_or_refused next_open byte_kind
end_differs r r' f e =
    true≢false
    (ap (λ (l : List WholeAnswer). eqb (first_byte l) 99)
    (sym (ap (drop (ended_by (99 ∷ []) 97 98)) (run_answers_lem f _ r)) ∙ e ∙ ap (drop (ended_by (100 ∷ []) 97 98)) (run_answers_lem f _ r')))
