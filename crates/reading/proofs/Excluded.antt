-- Request b: a command's verb has every option given with it; a line is refused as 20 exactly for an option that its verb can't have; and any other line is
-- read as if every verb could have every option. Assumes nothing.
use Prim.Native.Nat.{ℕ}
use mathlib.Core.Path.{◌≡◌, refl, sym, ap, ◌∙◌}
use mathlib.Core.List.{List, [], ◌∷◌, ◌++◌, map}
use mathlib.Core.Bool.{Bool, true, false, cond, not, ◌&&◌}
use mathlib.Core.Option.{Option, none, some, some-injective}
use native.Mathlib.Omega.{arith}
use lib.ListN.{length, drop, get_or}
use borrow.Author.Tests.{not-true}
use Rattle.text.specs.Lists.{all_of}
use Rattle.text.proofs.Tests.{and_l, and_r, no_case}
use Rattle.text.proofs.Options.{none_some}
use Rattle.terms.specs.Signs.{Sign, raws}
use Rattle.terms.specs.Terms.{Term, terms_of}
use Rattle.terms.specs.Rows.{lexical_of}
use Rattle.terms.proofs.RowLaws as rows
use Rattle.words.specs.declared.Kind.{Kind}
use Rattle.words.specs.declared.Kind.TheVariants.{Mere, Keep, Level, Place, Entries}
use Rattle.words.specs.Words.{verb_of, option_of, kind_of}
use Rattle.support.specs.Table15.{allowed}
use Rattle.forms.specs.Forms.{starts}
use Rattle.reading.specs.declared.Phase.{Phase}
use Rattle.reading.specs.declared.Phase.TheVariants.{First, Options, Waits, Rest}
use Rattle.reading.specs.declared.State.{State}
use Rattle.reading.specs.Command.{Item, verb, option}
use Rattle.reading.specs.Reading.{state, begin, Decision, refuses, takes, or_no, new_option, decide_option, decide_verb, decide_in, decide, phase_after, next, Part, Reading, refusal, read, adding, part_of, walk_terms, reading_of, command_of}
use Rattle.reading.specs.Order.{is_option_here, is_excluded, holds, order, state_past, Refused, by_line, by_term, by_end}
use Rattle.reading.specs.Excluded.{is_had_by, verb_number, options_had, Excluded, option_free, decide_free, walk_free, reading_free, is_twenty}
use Rattle.reading.proofs.TakenCases.{taken_case}
use Rattle.reading.proofs.PartOrder.{ended_nil, walk_taken, read_walk}
use Rattle.reading.proofs.Order.{first_row, term_exactly, line_exactly}
use Rattle.std.proofs.Common.{Result, Ok, Err}
use Rattle.text.specs.declared.Refusal.{Refusal}
use Rattle.text.proofs.Refusals.{same_number}
use Rattle.text.specs.Room.{refusal_at}

-- ---- one part

-- past the verb; and an option that waits for its argument is one that the verb has
abbrev past_verb : Phase → ℕ → Bool
past_verb First v = false
past_verb Options v = true
past_verb (Waits n) v = allowed v n
past_verb Rest v = true

-- a part that was taken there: the verb has it, and stays; and so it is after it
record Kept (v : ℕ) (i : Item) (s : State) : Type 0 where
  is_had : is_had_by v i ≡ true
  same : s.verb ≡ v
  still : past_verb s.phase v ≡ true

option_had : (v n : ℕ) (k : Kind) → allowed v n ≡ true → past_verb (phase_after n k) v ≡ true
option_had v n Mere h = refl
option_had v n Keep h = h
option_had v n Level h = h
option_had v n Place h = h
option_had v n Entries h = h

kept_in : (p : Phase) (v : ℕ) (seen : List Bool) (count : ℕ) (t : List Sign) (i : Item) → decide_in p v seen count t ≡ takes i → past_verb p v ≡ true → Kept v i (next (state p v seen count) i)
kept_in p v seen count t i d =
    taken_case (λ ph j. past_verb ph v ≡ true → Kept v j (next (state ph v seen count) j)) v seen count t (λ _ _ h. no_case (sym h))
    (λ k _ a _ _. record { is_had = a; same = refl; still = option_had v k (kind_of k) a }) (λ _ _ _ _ h. record { is_had = h; same = refl; still = refl })
    (λ _ _ _ _ _. record { is_had = refl; same = refl; still = refl }) (λ _ _ _ _ _. record { is_had = refl; same = refl; still = refl })
    (λ _ _ _ _. record { is_had = refl; same = refl; still = refl }) p i d

kept : (s : State) (t : List Sign) (i : Item) → decide s t ≡ takes i → past_verb s.phase s.verb ≡ true → Kept s.verb i (next s i)
unfolding decide
kept s t i d h = kept_in s.phase s.verb s.seen s.count t i d h

-- the first part is the verb, by its name
record Begun (t : List Sign) (i : Item) (s : State) : Type 0 where
  is_verb : verb_of (raws t) ≡ some (verb_number i)
  same : s.verb ≡ verb_number i
  still : past_verb s.phase s.verb ≡ true

begun : (t : List Sign) (i : Item) → decide begin t ≡ takes i → Begun t i (next begin i)
unfolding decide decide_verb
begun t i d = go (verb_of (raws t)) refl d
  where
    go : (o : Option ℕ) → verb_of (raws t) ≡ o → or_no 6 o verb ≡ takes i → Begun t i (next begin i)
    go none e f = let z : ◌≡◌ {A = ℕ} 0 1 = cc in absurd (omega arith)
    go (some n) e f = let z : verb n ≡ i = cc in rw (sym z) (record { is_verb = e; same = refl; still = refl })

-- ---- a line that is read

walk_had : (n : ℕ) (s : State) (ts : List Term) (ps : List Part) (v : ℕ) → walk_terms n s ts ≡ read ps → s.verb ≡ v → past_verb s.phase v ≡ true → all_of (is_had_by v) (map (λ (p : Part). p.item) ps) ≡ true
unfolding walk_terms all_of
walk_had n s [] ps v h e f = rw (ended_nil s.phase n ps h)
walk_had n s (t ∷ ts) ps v h e f =
    let k = walk_taken n s t ts ps h in
    let o = kept s t.text k.item k.decided (ap (past_verb s.phase) e ∙ f) in
    let r = walk_had n (next s k.item) ts k.rest v k.walked (o.same ∙ e) (ap (past_verb (next s k.item).phase) (sym e) ∙ o.still) in
    rw k.parts (simp (ap (λ (w : ℕ). is_had_by w k.item) (sym e) ∙ o.is_had) r)

-- A COMMAND'S VERB HAS EVERY OPTION GIVEN WITH IT
pub options_had_lem : (line : List ℕ) (is : List Item) → command_of line ≡ some is → options_had is ≡ true
unfolding command_of options_had walk_terms
options_had_lem line is h = go (reading_of line) refl
  where
    on : (ts : List Term) (ps : List Part) → walk_terms (length line) begin ts ≡ read ps → options_had (map (λ (p : Part). p.item) ps) ≡ true
    on [] ps w = rw (ended_nil First (length line) ps w)
    on (t ∷ ts) ps w =
        let k = walk_taken (length line) begin t ts ps w in
        let b = begun t.text k.item k.decided in
        rw k.parts (walk_had (length line) (next begin k.item) ts k.rest (verb_number k.item) k.walked b.same (ap (past_verb (next begin k.item).phase) (sym b.same) ∙ b.still))

    go : (r : Reading) → reading_of line ≡ r → options_had is ≡ true
    go (refusal k p) e = none_some is (rw e at h)
    go (read ps) e =
        let z = some-injective (map (λ (p : Part). p.item) ps) is (rw e at h) in
        ap options_had (sym z) ∙ on (terms_of line) ps (read_walk line ps e).1

-- ---- a line that is refused as 20

-- past the first term the state holds the verb that it names
past_verb_lem : (s u : State) (ts : List Term) → state_past s ts ≡ some u → past_verb s.phase s.verb ≡ true → u.verb ≡ s.verb
unfolding state_past
past_verb_lem s u [] h f = ap (λ (w : State). w.verb) (sym (some-injective s u h))
past_verb_lem s u (t ∷ ts) h f = go (decide s t.text) refl (λ i. past_verb_lem (next s i) u ts)
  where
    go : (d : Decision) → decide s t.text ≡ d
        → ((i : Item) → state_past (next s i) ts ≡ some u → past_verb (next s i).phase (next s i).verb ≡ true → u.verb ≡ (next s i).verb) → u.verb ≡ s.verb
    go (refuses k) e ih = none_some u (rw e at h)
    go (takes i) e ih =
        let o = kept s t.text i e f in
        ih i (rw e at h) (ap (past_verb (next s i).phase) o.same ∙ o.still) ∙ o.same

first_verb : (t : Term) (ts : List Term) (u : State) → state_past begin (t ∷ ts) ≡ some u → verb_of (raws t.text) ≡ some u.verb
unfolding state_past
first_verb t ts u h = go (decide begin t.text) refl
  where
    go : (d : Decision) → decide begin t.text ≡ d → verb_of (raws t.text) ≡ some u.verb
    go (refuses k) e = none_some u (rw e at h)
    go (takes i) e =
        let b = begun t.text i e in
        b.is_verb ∙ ap some (sym (past_verb_lem (next begin i) u ts (rw e at h) b.still ∙ b.same))

-- no row of 1 to 5 is 20
not_lexical : (line : List ℕ) (p : ℕ) → lexical_of line ≡ Err (refusal_at 20 p) → ⊥
not_lexical line p h = go (rows.judged line)
  where
    go : rows.Case line → ⊥
    go (rows.is1 r) = let z = sym ((rows.row_1 line _).0 r) ∙ h in let y : ◌≡◌ {A = ℕ} 1 20 = same_number z in omega arith
    go (rows.is2 r) = let z = sym ((rows.row_2 line _).0 r) ∙ h in let y : ◌≡◌ {A = ℕ} 2 20 = same_number z in omega arith
    go (rows.is3 r) = let z = sym ((rows.row_3 line _).0 r) ∙ h in let y : ◌≡◌ {A = ℕ} 3 20 = same_number z in omega arith
    go (rows.is4 r) = let z = sym ((rows.row_4 line _).0 r) ∙ h in let y : ◌≡◌ {A = ℕ} 4 20 = same_number z in omega arith
    go (rows.is5 r) = let z = sym ((rows.row_5 line _).0 r) ∙ h in let y : ◌≡◌ {A = ℕ} 5 20 = same_number z in omega arith
    go (rows.is_fine r) = let z = sym ((rows.no_row line).0 r) ∙ h in let y : ◌≡◌ {A = ℕ} 0 1 = cc in omega arith

forth : (line : List ℕ) (p : ℕ) → Refused line 20 p → Excluded line p
unfolding holds state_past
forth line p (by_line e) = absurd (not_lexical line p e)
forth line p (by_end s f q w x y) = absurd (omega arith)
forth line p (by_term before t after s f e q g w) = by before e q
  where
    row : is_option_here s.phase t.text && is_excluded s.verb (option_of (drop 1 (raws t.text))) ≡ true
    row = first_row (holds s t.text) order 20 w

    is_option : is_option_here s.phase t.text ≡ true
    is_option = and_l (is_option_here s.phase t.text) (is_excluded s.verb (option_of (drop 1 (raws t.text)))) row

    on : (first : Term) (between : List Term) → terms_of line ≡ (first ∷ between) ++ (t ∷ after) → state_past begin (first ∷ between) ≡ some s
        → (o : Option ℕ) → option_of (drop 1 (raws t.text)) ≡ o → is_excluded s.verb o ≡ true → Excluded line p
    on first between e q none m x = no_case (sym x)
    on first between e q (some n) m x =
        record {
          first = first;
          between = between;
          here = t;
          after = after;
          state = s;
          verb_no = s.verb;
          option_no = n;
          fine = f;
          terms = e;
          taken = q;
          is_verb = first_verb first between s q;
          is_option = is_option;
          named = m;
          excluded = not-true (allowed s.verb n) x;
          place = g;
        }

    by : (before : List Term) → terms_of line ≡ before ++ (t ∷ after) → state_past begin before ≡ some s → Excluded line p
    by [] e q = no_case (sym is_option ∙ ap (λ (w : State). is_option_here w.phase t.text) (sym (some-injective begin s q)))
    by (first ∷ between) e q =
        on first between e q (option_of (drop 1 (raws t.text))) refl (and_r (is_option_here s.phase t.text) (is_excluded s.verb (option_of (drop 1 (raws t.text)))) row)

-- an option that the verb can't have is refused there, whatever was seen and counted
here_refused : (p : Phase) (v : ℕ) (seen : List Bool) (count : ℕ) (t : List Sign) (n : ℕ) → is_option_here p t ≡ true → option_of (drop 1 (raws t)) ≡ some n → allowed v n ≡ false
    → decide_in p v seen count t ≡ refuses 20
unfolding decide_option
here_refused First v seen count t n h m a = no_case (sym h)
here_refused Options v seen count t n h m a = rw (h, m, a)
here_refused (Waits k) v seen count t n h m a = no_case (sym h)
here_refused Rest v seen count t n h m a = no_case (sym h)

back : (line : List ℕ) (p : ℕ) → Excluded line p → Refused line 20 p
unfolding decide
back line p x =
    let s = x.state in
    let t = x.here.text in
    let v = some-injective x.verb_no s.verb (sym x.is_verb ∙ first_verb x.first x.between s x.taken) in
    let d : decide s t ≡ refuses 20 = here_refused s.phase s.verb s.seen s.count t x.option_no x.is_option x.named (ap (λ (w : ℕ). allowed w x.option_no) (sym v) ∙ x.excluded) in
    by_term (x.first ∷ x.between) x.here x.after s x.fine x.terms x.taken x.place ((term_exactly s t 20).0 d)

-- REFUSED AS 20 AT p EXACTLY WHEN an option that the verb can't have stands there
pub excluded_exactly : (line : List ℕ) (p : ℕ) → (reading_of line ≡ refusal 20 p → Excluded line p) × (Excluded line p → reading_of line ≡ refusal 20 p)
excluded_exactly line p = ((λ h. forth line p ((line_exactly line 20 p).0 h)), (λ x. (line_exactly line 20 p).1 (back line p x)))

-- ---- a line that is not

-- an option that is not refused as 20 is decided on as if every verb could have it
option_else : (v : ℕ) (seen : List Bool) (o : Option ℕ) → (new_option v seen o ≡ refuses 20 → ⊥) → new_option v seen o ≡ option_free seen o
option_else v seen none n = refl
option_else v seen (some k) n = go (allowed v k) n
  where
    go : (a : Bool) → (cond (not a) (refuses 20) (cond (get_or seen k false) (refuses 8) (takes (option k))) ≡ refuses 20 → ⊥)
        → cond (not a) (refuses 20) (cond (get_or seen k false) (refuses 8) (takes (option k))) ≡ cond (get_or seen k false) (refuses 8) (takes (option k))
    go true n = refl
    go false n = absurd (n refl)

-- and so is every term
term_else : (s : State) (t : List Sign) → (decide s t ≡ refuses 20 → ⊥) → decide s t ≡ decide_free s t
unfolding decide decide_free decide_option
term_else s t n = by s.phase (starts 45 t) refl refl
  where
    by : (p : Phase) (x : Bool) → s.phase ≡ p → starts 45 t ≡ x → decide s t ≡ decide_free s t
    by First x e f = rw e
    by Options true e f = rw (e, f) (option_else s.verb s.seen (option_of (drop 1 (raws t))) (λ h. n (rw (e, f) h)))
    by Options false e f = rw (e, f)
    by (Waits k) x e f = rw e
    by Rest x e f = rw e

walk_else : (n : ℕ) (s : State) (ts : List Term) → is_twenty (walk_terms n s ts) ≡ false → walk_terms n s ts ≡ walk_free n s ts
unfolding walk_terms walk_free
walk_else n s [] h = refl
walk_else n s (t ∷ ts) h = go (decide s t.text) refl (λ i. walk_else n (next s i) ts)
  where
    adding_twenty : (q : Part) (r : Reading) → is_twenty (adding q r) ≡ is_twenty r
    adding_twenty q (refusal k p) = refl
    adding_twenty q (read ps) = refl

    go : (d : Decision) → decide s t.text ≡ d → ((i : Item) → is_twenty (walk_terms n (next s i) ts) ≡ false → walk_terms n (next s i) ts ≡ walk_free n (next s i) ts)
        → walk_terms n s (t ∷ ts) ≡ walk_free n s (t ∷ ts)
    go (refuses k) e ih =
        let u = term_else s t.text (λ z. no_case (rw z at h)) in
        rw (e, sym u ∙ e)
    go (takes i) e ih =
        let u = term_else s t.text (λ z. no_case (rw z at h)) in
        rw (e, sym u ∙ e) (ap (adding (part_of t i)) (ih i (sym (adding_twenty (part_of t i) (walk_terms n (next s i) ts)) ∙ (rw e at h))))

-- ANY OTHER LINE IS READ AS IF EVERY VERB COULD HAVE EVERY OPTION
pub otherwise_same : (line : List ℕ) → is_twenty (reading_of line) ≡ false → reading_of line ≡ reading_free line
unfolding reading_of reading_free
otherwise_same line h = go (lexical_of line) refl
  where
    go : (v : Result Unit Refusal) → lexical_of line ≡ v → reading_of line ≡ reading_free line
    go (Ok u) e = rw e (walk_else (length line) begin (terms_of line) (rw e at h))
    go (Err r) e = rw e
