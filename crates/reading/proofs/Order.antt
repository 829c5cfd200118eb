-- "Each is given exactly when its row holds and no earlier one does": of a term, and of a line. Assumes nothing.
use Prim.Native.Nat.{ℕ, ◌+◌}
use mathlib.Core.Path.{◌≡◌, refl, sym, ap, ◌∙◌}
use mathlib.Core.List.{List, [], ◌∷◌, ◌++◌}
use mathlib.Core.Bool.{Bool, true, false, cond, not, ◌&&◌}
use mathlib.Core.Option.{Option, none, some, some-injective}
use native.Mathlib.Omega.{arith}
use lib.ListN.{length, drop, get_or}
use lib.Dec.{eqb, leb}
use borrow.Author.Tests.{eqb-true, eq-eqb, not-true}
use Rattle.text.proofs.Tests.{and_l, and_r, no_case}
use Rattle.terms.specs.Signs.{Sign, raws}
use Rattle.terms.specs.Terms.{Term, terms_of}
use Rattle.terms.specs.Rows.{lexical_of}
use Rattle.words.specs.Words.{verb_of, option_of, kind_of}
use Rattle.support.specs.Table15.{allowed}
use Rattle.forms.specs.Forms.{starts, has_eq, property_of, topic_of}
use Rattle.forms.specs.Targets.{target_of}
use Rattle.forms.specs.Answers.{is_some}
use Rattle.reach.specs.declared.Form.{Form}
use Rattle.reach.specs.Forms.{is_of}
use Rattle.reach.specs.Reach.{reach_of}
use Rattle.reach.proofs.Far.{longest_only}
use Rattle.reach.proofs.Longest.{longest}
use Rattle.reading.specs.declared.Phase.{Phase}
use Rattle.reading.specs.declared.Phase.TheVariants.{First, Options, Waits, Rest}
use Rattle.reading.specs.declared.State.{State}
use Rattle.reading.specs.Command.{argument_by, Item, verb, option, argument, target, prop}
use Rattle.reading.specs.Reading.{begin, Decision, refuses, takes, or_no, is_help, new_option, decide_verb, decide_option, decide_argument, decide_target, decide_property, decide_after, decide_in, decide, next, Part, Reading, refusal, read, adding, ended, form_asked, past_start, place_of, part_of, walk_terms, reading_of}
use Rattle.reading.specs.Order.{is_seen, is_excluded, is_waits, holds_in, holds, order, is_first_of, state_past, Placed, Refused, by_line, by_term, by_end}
use Rattle.std.proofs.Common.{Result, Ok, Err}
use Rattle.text.specs.declared.Refusal.{Refusal}
use Rattle.text.specs.Room.{refusal_at}

-- ---- the first row of a list that holds

first_of : (ℕ → Bool) → List ℕ → Option ℕ
first_of f [] = none
first_of f (j ∷ js) = cond (f j) (some j) (first_of f js)

first_holds : (f : ℕ → Bool) (js : List ℕ) (k : ℕ) → first_of f js ≡ some k → f k ≡ true
unfolding first_of
first_holds f [] k h = let z : ◌≡◌ {A = ℕ} 0 1 = cc in absurd (omega arith)
first_holds f (j ∷ js) k h = go (f j) refl (first_holds f js k)
  where
    go : (x : Bool) → f j ≡ x → (first_of f js ≡ some k → f k ≡ true) → f k ≡ true
    go true e ih = let z : j ≡ k = some-injective j k (rw e at h) in ap f (sym z) ∙ e
    go false e ih = ih (rw e at h)

first_is : (f : ℕ → Bool) (js : List ℕ) (k : ℕ) → first_of f js ≡ some k → is_first_of f js k ≡ true
unfolding first_of is_first_of
first_is f [] k h = let z : ◌≡◌ {A = ℕ} 0 1 = cc in absurd (omega arith)
first_is f (j ∷ js) k h = go (f j) (eqb j k) refl refl (first_is f js k)
  where
    go : (x y : Bool) → f j ≡ x → eqb j k ≡ y → (first_of f js ≡ some k → is_first_of f js k ≡ true) → is_first_of f (j ∷ js) k ≡ true
    go true true e d ih = simp (d, e)
    go true false e d ih = let z : j ≡ k = some-injective j k (rw e at h) in no_case (sym (eq-eqb j k z) ∙ d)
    go false true e d ih = let z = eqb-true j k d in no_case (sym (first_holds f js k (rw e at h)) ∙ ap f (sym z) ∙ e)
    go false false e d ih = simp (d, e) (ih (rw e at h))

is_first_lem : (f : ℕ → Bool) (js : List ℕ) (k : ℕ) → is_first_of f js k ≡ true → first_of f js ≡ some k
unfolding first_of is_first_of
is_first_lem f [] k h = no_case (sym h)
is_first_lem f (j ∷ js) k h = go (eqb j k) refl (is_first_lem f js k)
  where
    go : (y : Bool) → eqb j k ≡ y → (is_first_of f js k ≡ true → first_of f js ≡ some k) → first_of f (j ∷ js) ≡ some k
    go true d ih = let e : f j ≡ true = rw d at h in rw e (ap some (eqb-true j k d))
    go false d ih =
        let q : not (f j) && is_first_of f js k ≡ true = rw d at h in
        rw (not-true (f j) (and_l (not (f j)) (is_first_of f js k) q)) (ih (and_r (not (f j)) (is_first_of f js k) q))

-- the first row that holds does
pub first_row : (f : ℕ → Bool) (js : List ℕ) (k : ℕ) → is_first_of f js k ≡ true → f k ≡ true
first_row f js k h = first_holds f js k (is_first_lem f js k h)

-- ---- one term: the number that it is refused by is the first row that holds

abbrev refused_by : Decision → Option ℕ
refused_by (refuses k) = some k
refused_by (takes i) = none

-- what an answer that may be missing gives
or_no_lem : {A : Type 0} (n : ℕ) (o : Option A) (f : A → Item) → refused_by (or_no n o f) ≡ cond (not (is_some o)) (some n) none
or_no_lem n none f = refl
or_no_lem n (some a) f = refl

new_option_lem : (v : ℕ) (seen : List Bool) (o : Option ℕ) → refused_by (new_option v seen o) ≡ cond (not (is_some o)) (some 7) (cond (is_excluded v o) (some 20) (cond (is_seen seen o) (some 8) none))
new_option_lem v seen none = refl
new_option_lem v seen (some n) = go (not (allowed v n)) (get_or seen n false)
  where
    go : (a x : Bool) → refused_by (cond a (refuses 20) (cond x (refuses 8) (takes (option n)))) ≡ cond a (some 20) (cond x (some 8) none)
    go true x = refl
    go false true = refl
    go false false = refl

module _ (v : ℕ) (seen : List Bool) (count : ℕ) (t : List Sign) where
  property_first : refused_by (decide_property (is_help v) count t) ≡ cond (leb 32 count) (some 14) (cond (not (is_some (cond (is_help v) (topic_of t) (property_of t)))) (some 13) none)
  unfolding decide_property
  property_first = go (leb 32 count)
    where
      go : (x : Bool) → refused_by (cond x (refuses 14) (or_no 13 (cond (is_help v) (topic_of t) (property_of t)) prop)) ≡ cond x (some 14) (cond (not (is_some (cond (is_help v) (topic_of t) (property_of t)))) (some 13) none)
      go true = refl
      go false = or_no_lem 13 (cond (is_help v) (topic_of t) (property_of t)) prop

  in_first : refused_by (decide_in First v seen count t) ≡ first_of (holds_in First v seen count t) order
  unfolding decide_verb first_of order
  in_first = or_no_lem 6 (verb_of (raws t)) verb

  in_waits : (n : ℕ) → refused_by (decide_in (Waits n) v seen count t) ≡ first_of (holds_in (Waits n) v seen count t) order
  unfolding decide_argument first_of order
  in_waits n = go (starts 45 t)
    where
      go : (x : Bool) → refused_by (cond x (refuses 9) (or_no 10 (argument_by (kind_of n) t) (argument n)))
          ≡ cond x (some 9) (cond (not (is_some (argument_by (kind_of n) t))) (some 10) none)
      go true = refl
      go false = or_no_lem 10 (argument_by (kind_of n) t) (argument n)

  in_rest : refused_by (decide_in Rest v seen count t) ≡ first_of (holds_in Rest v seen count t) order
  unfolding first_of order
  in_rest = go (starts 45 t)
    where
      go : (x : Bool) → refused_by (cond x (refuses 11) (decide_property (is_help v) count t))
          ≡ cond x (some 11) (cond (leb 32 count) (some 14) (cond (not (is_some (cond (is_help v) (topic_of t) (property_of t)))) (some 13) none))
      go true = refl
      go false = property_first

  in_options : refused_by (decide_in Options v seen count t) ≡ first_of (holds_in Options v seen count t) order
  unfolding first_of order decide_option decide_after decide_target
  in_options = go (starts 45 t) (not (is_help v) && not (has_eq t))
    where
      go : (x y : Bool) → refused_by (cond x (new_option v seen (option_of (drop 1 (raws t)))) (cond y (or_no 12 (target_of (raws t)) target) (decide_property (is_help v) count t)))
          ≡ cond (x && not (is_some (option_of (drop 1 (raws t))))) (some 7)
          (cond (x && is_excluded v (option_of (drop 1 (raws t)))) (some 20)
          (cond (x && is_seen seen (option_of (drop 1 (raws t)))) (some 8)
          (cond ((not x && y) && not (is_some (target_of (raws t)))) (some 12)
          (cond ((not x && not y) && leb 32 count) (some 14)
          (cond ((not x && not y) && not (is_some (cond (is_help v) (topic_of t) (property_of t)))) (some 13) none)))))
      go true y = new_option_lem v seen (option_of (drop 1 (raws t)))
      go false true = or_no_lem 12 (target_of (raws t)) target
      go false false = property_first

by_phase : (p : Phase) (v : ℕ) (seen : List Bool) (count : ℕ) (t : List Sign) → refused_by (decide_in p v seen count t) ≡ first_of (holds_in p v seen count t) order
by_phase First v seen count t = in_first v seen count t
by_phase Options v seen count t = in_options v seen count t
by_phase (Waits n) v seen count t = in_waits v seen count t n
by_phase Rest v seen count t = in_rest v seen count t

decided_first : (s : State) (t : List Sign) → refused_by (decide s t) ≡ first_of (holds s t) order
unfolding decide holds
decided_first s t = by_phase s.phase s.verb s.seen s.count t

refused_by_lem : (d : Decision) (k : ℕ) → refused_by d ≡ some k → d ≡ refuses k
refused_by_lem (refuses j) k e = cc
refused_by_lem (takes i) k e = let z : ◌≡◌ {A = ℕ} 0 1 = cc in absurd (omega arith)

-- OF A TERM: refused by k exactly when k is the first row that holds
pub term_exactly : (s : State) (t : List Sign) (k : ℕ)
    → (decide s t ≡ refuses k → is_first_of (holds s t) order k ≡ true) × (is_first_of (holds s t) order k ≡ true → decide s t ≡ refuses k)
term_exactly s t k = (
  (λ h. first_is (holds s t) order k (sym (decided_first s t) ∙ ap refused_by h)),
  (λ h. refused_by_lem (decide s t) k (decided_first s t ∙ is_first_lem (holds s t) order k h)),
)

-- ---- a line

-- a walk that was refused: at its first term that was, or at the line's end
data Stops (n : ℕ) (s : State) (ts : List Term) (k p : ℕ) : Type 0 where
  term : (before : List Term) (t : Term) (after : List Term) (u : State) → ts ≡ before ++ (t ∷ after) → state_past s before ≡ some u → place_of u t k ≡ p
      → decide u t.text ≡ refuses k → Stops n s ts k p
  over : (u : State) → state_past s ts ≡ some u → is_waits u.phase ≡ true → k ≡ 9 → p ≡ n → Stops n s ts k p

adding_refused : (q : Part) (r : Reading) (k p : ℕ) → adding q r ≡ refusal k p → r ≡ refusal k p
adding_refused q (refusal j a) k p e = e
adding_refused q (read ps) k p e = let z : ◌≡◌ {A = ℕ} 0 1 = cc in absurd (omega arith)

ended_refused : (ph : Phase) (n k p : ℕ) → ended ph n ≡ refusal k p → (is_waits ph ≡ true) × (k ≡ 9) × (p ≡ n)
ended_refused First n k p e = let z : ◌≡◌ {A = ℕ} 0 1 = cc in absurd (omega arith)
ended_refused Options n k p e = let z : ◌≡◌ {A = ℕ} 0 1 = cc in absurd (omega arith)
ended_refused (Waits j) n k p e = (refl, cc, cc)
ended_refused Rest n k p e = let z : ◌≡◌ {A = ℕ} 0 1 = cc in absurd (omega arith)

stops : (n : ℕ) (s : State) (ts : List Term) (k p : ℕ) → walk_terms n s ts ≡ refusal k p → Stops n s ts k p
unfolding walk_terms state_past
stops n s [] k p h = let e = ended_refused s.phase n k p h in over s refl e.0 e.1 e.2
stops n s (t ∷ ts) k p h = go (decide s t.text) refl (λ i. stops n (next s i) ts k p)
  where
    onward : (i : Item) → decide s t.text ≡ takes i → Stops n (next s i) ts k p → Stops n s (t ∷ ts) k p
    onward i d (term b x a u e f g r) = term (t ∷ b) x a u (ap (λ (z : List Term). t ∷ z) e) (rw d f) g r
    onward i d (over u f w x y) = over u (rw d f) w x y

    go : (d : Decision) → decide s t.text ≡ d → ((i : Item) → walk_terms n (next s i) ts ≡ refusal k p → Stops n (next s i) ts k p) → Stops n s (t ∷ ts) k p
    go (refuses j) d ih =
        let z : refusal j (place_of s t j) ≡ refusal k p = rw d at h in
        let x : j ≡ k = cc in
        let y : place_of s t j ≡ p = cc in
        term [] t ts s refl refl (ap (place_of s t) (sym x) ∙ y) (d ∙ ap refuses x)
    go (takes i) d ih = onward i d (ih i (adding_refused (part_of t i) (walk_terms n (next s i) ts) k p (rw d at h)))

-- and back
walk_term : (n : ℕ) (s u : State) (before : List Term) (t : Term) (after : List Term) (k : ℕ) → state_past s before ≡ some u → decide u t.text ≡ refuses k
    → walk_terms n s (before ++ (t ∷ after)) ≡ refusal k (place_of u t k)
unfolding walk_terms state_past
walk_term n s u [] t after k h d =
    let z : s ≡ u = some-injective s u h in
    rw (ap (λ (v : State). decide v t.text) z ∙ d) (ap (λ (v : State). refusal k (place_of v t k)) z)
walk_term n s u (b ∷ bs) t after k h d = go (decide s b.text) refl (λ i q. walk_term n (next s i) u bs t after k q d)
  where
    go : (e : Decision) → decide s b.text ≡ e → ((i : Item) → state_past (next s i) bs ≡ some u → walk_terms n (next s i) (bs ++ (t ∷ after)) ≡ refusal k (place_of u t k))
        → walk_terms n s (b ∷ (bs ++ (t ∷ after))) ≡ refusal k (place_of u t k)
    go (refuses j) e ih = let z : ◌≡◌ {A = ℕ} 0 1 = cc (rw e at h) in absurd (omega arith)
    go (takes i) e ih = rw (e, ih i (rw e at h))

walk_end : (n : ℕ) (s u : State) (ts : List Term) → state_past s ts ≡ some u → is_waits u.phase ≡ true → walk_terms n s ts ≡ refusal 9 n
unfolding walk_terms state_past
walk_end n s u [] h w = let z : s ≡ u = some-injective s u h in go s.phase (ap (λ (v : State). is_waits v.phase) z ∙ w)
  where
    go : (ph : Phase) → is_waits ph ≡ true → ended ph n ≡ refusal 9 n
    go First e = no_case (sym e)
    go Options e = no_case (sym e)
    go (Waits k) e = refl
    go Rest e = no_case (sym e)
walk_end n s u (t ∷ ts) h w = go (decide s t.text) refl (λ i q. walk_end n (next s i) u ts q w)
  where
    go : (e : Decision) → decide s t.text ≡ e → ((i : Item) → state_past (next s i) ts ≡ some u → walk_terms n (next s i) ts ≡ refusal 9 n)
        → walk_terms n s (t ∷ ts) ≡ refusal 9 n
    go (refuses j) e ih = let z : ◌≡◌ {A = ℕ} 0 1 = cc (rw e at h) in absurd (omega arith)
    go (takes i) e ih = rw (e, ih i (rw e at h))

-- ---- the place of a term

-- as the walk gives it, by the paper's longest beginning, and back
placed : (o : Option Form) (t : Term) (p : ℕ) → t.start + past_start o (raws t.text) ≡ p → Placed o t p
placed none t p e = omega arith
placed (some f) t p e = record { len = reach_of f (raws t.text); longest = longest f (raws t.text); place = e }

place_back : (o : Option Form) (t : Term) (p : ℕ) → Placed o t p → t.start + past_start o (raws t.text) ≡ p
place_back none t p e = omega arith
place_back (some f) t p e =
    ap (λ (n : ℕ). t.start + n) (longest_only (is_of f) (raws t.text) (reach_of f (raws t.text)) e.len (longest f (raws t.text)) e.longest) ∙ e.place

forth : (line : List ℕ) (k p : ℕ) → reading_of line ≡ refusal k p → Refused line k p
unfolding reading_of
forth line k p h = go (lexical_of line) refl
  where
    on : lexical_of line ≡ Ok tt → Stops (length line) begin (terms_of line) k p → Refused line k p
    on f (term b t a u e q g d) = by_term b t a u f e q (placed (form_asked u.phase u.verb k) t p g) ((term_exactly u t.text k).0 d)
    on f (over u q w x y) = by_end u f q w x y

    go : (v : Result Unit Refusal) → lexical_of line ≡ v → Refused line k p
    go (Ok u) e = on e (stops (length line) begin (terms_of line) k p (rw e at h))
    go (Err r) e = let z : Err (refusal_at r.number r.place) ≡ Err (refusal_at k p) = cc (rw e at h) in by_line (e ∙ z)

back : (line : List ℕ) (k p : ℕ) → Refused line k p → reading_of line ≡ refusal k p
unfolding reading_of
back line k p (by_line e) = rw e
back line k p (by_term b t a s f e q g h) =
    rw f (ap (walk_terms (length line) begin) e ∙ walk_term (length line) begin s b t a k q ((term_exactly s t.text k).1 h) ∙ ap (refusal k) (place_back (form_asked s.phase s.verb k) t p g))
back line k p (by_end s f q w x y) = rw (f, x, y) (walk_end (length line) begin s (terms_of line) q w)

-- OF A LINE: refused as k at p exactly when the first row that holds is k, at p
pub line_exactly : (line : List ℕ) (k p : ℕ) → (reading_of line ≡ refusal k p → Refused line k p) × (Refused line k p → reading_of line ≡ refusal k p)
line_exactly line k p = (forth line k p, back line k p)
