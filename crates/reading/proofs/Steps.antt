-- A reading taken one step at a time: what each step of a cursor says of what is left of a line. Every loop over `Cursor::next` cites these.
-- Assumes nothing.
use Prim.Native.Nat.{ℕ, ◌+◌, ◌-◌, ◌<◌, ◌≤◌}
use mathlib.Core.Path.{◌≡◌, refl, sym, ap, ◌∙◌}
use mathlib.Core.List.{List, [], ◌∷◌}
use mathlib.Core.Bool.{Bool, true, false, cond, ◌&&◌}
use mathlib.Core.Option.{some}
use native.Mathlib.Omega.{arith}
use lib.ListN.{length, take, drop}
use lib.Dec.{leb}
use borrow.Author.Tests.{leb-true}
use Rattle.text.specs.Lists.{all_of, is_nil}
use Rattle.text.specs.Bytes.{is_letter, is_word}
use Rattle.text.proofs.Slices.{part_from, part_between}
use Rattle.text.proofs.Tests.{and_r}
use Rattle.terms.specs.declared.Mode.TheVariants.{Out}
use Rattle.terms.specs.Signs.{Sign, signs}
use Rattle.terms.specs.Scan.{term_at, span}
use Rattle.terms.proofs.SignBytes.{raws_signs}
use Rattle.std.specs.Option.{is_some}
use Rattle.terms.specs.Terms.{terms_of}
use Rattle.terms.proofs.NextTerm.{terms_some, terms_none, term_within, term_size}
use Rattle.forms.specs.Forms.{is_name, Property, property_of, topic_of}
use Rattle.reading.specs.declared.Phase.{Phase}
use Rattle.reading.specs.declared.Phase.TheVariants.{First, Options, Waits, Rest}
use Rattle.reading.specs.declared.State.{State}
use Rattle.reading.specs.declared.Shown.{Shown}
use Rattle.reading.specs.declared.Cursor.{Cursor}
use Rattle.reading.specs.declared.Offered.{Offered}
use Rattle.text.specs.declared.Refusal.{Refusal}
use Rattle.reading.specs.Cursor.{Step}
use Rattle.reading.specs.Command.{Item, verb, option, argument, target, prop, shown_of}
use Rattle.reading.specs.Reading.{is_help, Decision, refuses, takes, decide_in, decide, next, refusal, read, adding, ended, form_asked, past_start, place_of, going, walk_terms}
use Rattle.reading.specs.Cursor.{decided_of, next_shown, cursor, step, term_in, offer_on, offer_end, offer_at, offer_of, cursor_after, step_of, left, offered}
use Rattle.reading.specs.Shown.{name_size, counted}
use Rattle.reading.proofs.TakenCases.{taken_case}
use Rattle.forms.proofs.FormCases.{topic_from, property_from}
use Rattle.std.proofs.Common.{Option, Some, None, not}
use Rattle.text.proofs.Tests.{no_case}
use Rattle.terms.specs.declared.Span.{Span}
use Rattle.std.proofs.Common.{Result, Ok, Err}
use Rattle.text.specs.Room.{refusal_at}

-- ---- a part by what is shown of it

-- the next state reads of a part only what is shown
pub next_shown_lem : (s : State) (i : Item) → next_shown s (shown_of i) ≡ next s i
next_shown_lem s (verb n) = refl
next_shown_lem s (option n) = refl
next_shown_lem s (argument n a) = refl
next_shown_lem s (target t) = refl
next_shown_lem s (prop p) = refl

-- ---- a property that was taken: its name is a name, and there was room for one more

name_most : (s : List ℕ) → is_name s ≡ true → length s ≤ 64
unfolding is_name
name_most [] e = omega arith
name_most (b ∷ s) e =
    let h = leb-true (length s) 63 (and_r (all_of is_word s) (leb (length s) 63) (and_r (is_letter b) (all_of is_word s && leb (length s) 63) e)) in
    omega arith

pub topic_name : (t : List Sign) (p : Property) → topic_of t ≡ some p → is_name p.name ≡ true
topic_name t p h = topic_from (λ q. is_name q.name ≡ true) t (λ n. n) p h

pub property_name : (t : List Sign) (p : Property) → property_of t ≡ some p → is_name p.name ≡ true
property_name t p h = property_from (λ q. is_name q.name ≡ true) t (λ x n. n) (λ s x n e. n) p h

-- what a taken part says of the state and of itself
pub record Took (count : ℕ) (i : Item) : Type 0 where
  pub name : name_size (shown_of i) ≤ 64
  pub room : counted (shown_of i) ≡ 1 → count < 32

took_other : (count : ℕ) (i : Item) → name_size (shown_of i) ≡ 0 → counted (shown_of i) ≡ 0 → Took count i
took_other count i a b = record { name = omega arith; room = λ e. absurd (omega arith) }

took_prop : (help : Bool) (count : ℕ) (t : List Sign) (q : Property) → count < 32 → cond help (topic_of t) (property_of t) ≡ some q → Took count (prop q)
took_prop help count t q c e = record { name = name_most q.name (named help e); room = λ _. c }
  where
    named : (x : Bool) → cond x (topic_of t) (property_of t) ≡ some q → is_name q.name ≡ true
    named true e = topic_name t q e
    named false e = property_name t q e

took_in : (p : Phase) (v : ℕ) (seen : List Bool) (count : ℕ) (t : List Sign) (i : Item) → decide_in p v seen count t ≡ takes i → Took count i
took_in p v seen count t i h =
    taken_case (λ ph j. Took count j) v seen count t (λ k e. took_other count (verb k) refl refl) (λ k e _ n. took_other count (option k) refl refl)
    (λ k a d e. took_other count (argument k a) refl refl) (λ g x y e. took_other count (target g) refl refl) (λ q x c e. took_prop (is_help v) count t q c e) (took_prop (is_help v) count t) p i h

pub took : (s : State) (t : List Sign) (i : Item) → decide s t ≡ takes i → Took s.count i
unfolding decide
took s t i h = took_in s.phase s.verb s.seen s.count t i h

-- ---- what is left of a line

pub left_none : (line : List ℕ) (c : Cursor) → None ≡ term_at line c.at → left line c ≡ ended c.state.phase (length line)
unfolding left walk_terms
left_none line c e = rw (terms_none line c.at e)

pub left_some : (line : List ℕ) (c : Cursor) (a n : ℕ) → Some (span a n) ≡ term_at line c.at
    → left line c
    ≡ going (decide c.state (signs Out (take n (drop a line)))) (place_of c.state (term_in line a n))
    (λ i. adding (record { start = a; len = n; item = i }) (left line (cursor (a + n) (next c.state i))))
unfolding left walk_terms
left_some line c a n e = rw (terms_some line c.at a n e, term_size line a n (term_within line c.at a n e).fits)

pub left_refused : (line : List ℕ) (c : Cursor) (a n k : ℕ) → Some (span a n) ≡ term_at line c.at
    → decide c.state (signs Out (take n (drop a line))) ≡ refuses k → left line c ≡ refusal k (place_of c.state (term_in line a n) k)
left_refused line c a n k e d = left_some line c a n e ∙ rw d

pub left_takes : (line : List ℕ) (c : Cursor) (a n : ℕ) (i : Item) → Some (span a n) ≡ term_at line c.at
    → decide c.state (signs Out (take n (drop a line))) ≡ takes i
    → left line c ≡ adding (record { start = a; len = n; item = i }) (left line (cursor (a + n) (next c.state i)))
left_takes line c a n i e d = left_some line c a n e ∙ rw d

-- ---- one step

-- a step that gave a part: which part it is, what it leaves, and where the cursor then stands
pub record Stepped (line : List ℕ) (c : Cursor) (x : Shown) (a n : ℕ) (after : Cursor) : Type 0 where
  pub item : Item
  pub taken : decide c.state (signs Out (take n (drop a line))) ≡ takes item
  pub shows : shown_of item ≡ x
  pub leaves : left line c ≡ adding (record { start = a; len = n; item = item }) (left line after)
  pub from : c.at ≤ a
  pub some : 0 < n
  pub at : after.at ≡ a + n
  pub fits : a + n ≤ length line
  pub name : name_size x ≤ 64
  pub room : counted x ≡ 1 → c.state.count < 32

-- what was given, by the term that was found and the decision on it
data How (line : List ℕ) (c : Cursor) (g : Result (Option Offered) Refusal) : Type 0 where
  part : (i : Item) (a n : ℕ) → Some (span a n) ≡ term_at line c.at → decide c.state (signs Out (take n (drop a line))) ≡ takes i
      → g ≡ Ok (Some (offered (shown_of i) a n)) → How line c g
  no : (k a : ℕ) → left line c ≡ refusal k a → g ≡ Err (refusal_at k a) → How line c g
  over : left line c ≡ read [] → g ≡ Ok None → How line c g

how : (line : List ℕ) (c : Cursor) (g : Result (Option Offered) Refusal) → g ≡ offer_of line c.at c.state → How line c g
unfolding offer_of
how line c g is = go (term_at line c.at) refl
  where
    over_in : (p : Phase) → left line c ≡ ended p (length line) → g ≡ offer_end (length line) p → How line c g
    over_in First l h = over l h
    over_in Options l h = over l h
    over_in (Waits k) l h = no 9 (length line) l h
    over_in Rest l h = over l h

    by : (a n : ℕ) (d : Decision) → Some (span a n) ≡ term_at line c.at → decide c.state (signs Out (take n (drop a line))) ≡ d
        → g ≡ offer_on (place_of c.state (term_in line a n)) a n (decided_of d) → How line c g
    by a n (refuses k) e q h = no k (place_of c.state (term_in line a n) k) (left_refused line c a n k e q) h
    by a n (takes i) e q h = part i a n e q h

    go : (f : Option Span) → term_at line c.at ≡ f → How line c g
    go None e = over_in c.state.phase (left_none line c (sym e)) (is ∙ ap (offer_at line c.state) e)
    go (Some r) e = by r.at r.len (decide c.state (signs Out (take r.len (drop r.at line)))) (sym e) refl (is ∙ ap (offer_at line c.state) e)

module _ (line : List ℕ) (c : Cursor) (g : Result (Option Offered) Refusal) (is : g ≡ offer_of line c.at c.state) where
  pub offer_part : (x : Shown) (a n : ℕ) → g ≡ Ok (Some (offered x a n)) → Stepped line c x a n (cursor (a + n) (next_shown c.state x))
  offer_part x a n q = go (how line c g is)
    where
      took_so : (i : Item) → shown_of i ≡ x → Some (span a n) ≡ term_at line c.at → decide c.state (signs Out (take n (drop a line))) ≡ takes i
          → Stepped line c x a n (cursor (a + n) (next_shown c.state x))
      took_so i e f d =
          let w = term_within line c.at a n f in
          let k = took c.state (signs Out (take n (drop a line))) i d in
          record {
            item = i;
            taken = d;
            shows = e;
            leaves = left_takes line c a n i f d ∙ ap (λ (t : State). adding (record { start = a; len = n; item = i }) (left line (cursor (a + n) t))) (sym (next_shown_lem c.state i) ∙ ap (next_shown c.state) e);
            from = w.from;
            some = w.some;
            at = refl;
            fits = w.fits;
            name = rw e at k.name;
            room = λ z. k.room (ap counted e ∙ z);
          }

      go : How line c g → Stepped line c x a n (cursor (a + n) (next_shown c.state x))
      go (part i b m f d h) =
          let z = sym h ∙ q in
          let o : offered (shown_of i) b m ≡ offered x a n = cc in
          let a-is : b ≡ a = ap (λ (o : Offered). o.term.at) o in
          let n-is : m ≡ n = ap (λ (o : Offered). o.term.len) o in
          let x-is : shown_of i ≡ x = ap (λ (o : Offered). o.item) o in
          took_so i x-is (rw (a-is, n-is) at f) (rw (a-is, n-is) at d)
      go (no k b l h) = let z = sym h ∙ q in let y : ◌≡◌ {A = ℕ} 0 1 = cc in absurd (omega arith)
      go (over l h) = let z = sym h ∙ q in let y : ◌≡◌ {A = ℕ} 0 1 = cc in absurd (omega arith)

  pub offer_refused : (k a : ℕ) → g ≡ Err (refusal_at k a) → left line c ≡ refusal k a
  offer_refused k a q = go (how line c g is)
    where
      go : How line c g → left line c ≡ refusal k a
      go (part i b m f d h) = let z = sym h ∙ q in let y : ◌≡◌ {A = ℕ} 0 1 = cc in absurd (omega arith)
      go (no j b l h) = let z = sym h ∙ q in let y : refusal_at j b ≡ refusal_at k a = cc in l ∙ ap (λ (r : Refusal). refusal r.number r.place) y
      go (over l h) = let z = sym h ∙ q in let y : ◌≡◌ {A = ℕ} 0 1 = cc in absurd (omega arith)

  pub offer_end_lem : g ≡ Ok None → left line c ≡ read []
  offer_end_lem q = go (how line c g is)
    where
      go : How line c g → left line c ≡ read []
      go (part i b m f d h) = let z = sym h ∙ q in let y : ◌≡◌ {A = ℕ} 0 1 = cc in absurd (omega arith)
      go (no j b l h) = let z = sym h ∙ q in let y : ◌≡◌ {A = ℕ} 0 1 = cc in absurd (omega arith)
      go (over l h) = l

-- the same of a whole step
module _ (line : List ℕ) (c : Cursor) (s : Step) (is : s ≡ step_of line c) where
  step_offer : s.offer ≡ offer_of line c.at c.state
  unfolding step_of
  step_offer = ap (λ (t : Step). t.offer) is

  step_next : s.next ≡ cursor_after c s.offer
  unfolding step_of
  step_next = ap (λ (t : Step). t.next) is ∙ ap (cursor_after c) (sym step_offer)

  pub step_part : (x : Shown) (a n : ℕ) → s.offer ≡ Ok (Some (offered x a n)) → Stepped line c x a n s.next
  step_part x a n q = let e = step_next ∙ ap (cursor_after c) q in rw e (offer_part line c s.offer step_offer x a n q)

  pub step_refused : (k a : ℕ) → s.offer ≡ Err (refusal_at k a) → left line c ≡ refusal k a
  step_refused = offer_refused line c s.offer step_offer

  pub step_end : s.offer ≡ Ok None → left line c ≡ read []
  step_end = offer_end_lem line c s.offer step_offer

-- a line without a first term is blank
pub blank_by : (line : List ℕ) (o : Option Span) (b : Bool) → is_some o ≡ not b → o ≡ term_at line 0 → b ≡ is_nil (terms_of line)
unfolding terms_of
blank_by line None true h e = sym (ap is_nil (terms_none line 0 e))
blank_by line (Some r) false h e = sym (ap is_nil (terms_some line 0 r.at r.len e))
blank_by line None false h e = no_case (sym h)
blank_by line (Some r) true h e = no_case h

-- ---- what is given, as the code finds it

-- without a term
pub none_given : (line : List ℕ) (a : ℕ) (s : State) → None ≡ term_at line a → offer_end (length line) s.phase ≡ offer_of line a s
unfolding offer_of
none_given line a s e = ap (offer_at line s) e

-- with one, by the decision on it; the term begins the part of the line that begins at b
pub term_given : (line : List ℕ) (a : ℕ) (s : State) (b n : ℕ) (d : Result Shown ℕ) → Some (span b n) ≡ term_at line a
    → d ≡ decided_of (decide_in s.phase s.verb s.seen s.count (signs Out (take n (take (length line - b) (drop b line)))))
    → offer_on (place_of s (term_in line b n)) b n d ≡ offer_of line a s
unfolding offer_of decide
term_given line a s b n d e h =
    ap (offer_on (place_of s (term_in line b n)) b n) (h ∙ ap (λ (t : List ℕ). decided_of (decide s (signs Out (take n t)))) (part_from line b)) ∙ ap (offer_at line s) e

-- where it is refused, at its place; the part is `&line[b..b + n]`
pub place_given : (line : List ℕ) (s : State) (b n k r : ℕ) → r ≡ past_start (form_asked s.phase s.verb k) (take (b + n - b) (drop b line))
    → b + r ≡ place_of s (term_in line b n) k
place_given line s b n k r e =
    ap (λ (z : ℕ). b + z) (e ∙ ap (past_start (form_asked s.phase s.verb k)) (part_between line b n ∙ sym (raws_signs (take n (drop b line)))))

-- a step by what is given
pub step_of_lem : (line : List ℕ) (c : Cursor) (g : Result (Option Offered) Refusal) → g ≡ offer_of line c.at c.state → step g (cursor_after c g) ≡ step_of line c
unfolding step_of
step_of_lem line c g is = ap (λ (h : Result (Option Offered) Refusal). step h (cursor_after c h)) is
