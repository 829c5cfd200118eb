-- Laws of the lister: what the joiner gives is fair, a line's records fill the room's start, and a call in the code's steps is the call that is
-- promised. Assumes nothing.
use Prim.Native.Nat.{ℕ, suc, ◌<◌, ◌≤◌}
use native.Mathlib.Omega.{arith}
use mathlib.Core.Path.{◌≡◌, refl, sym, ap, ◌∙◌, subst}
use mathlib.Core.List.{List, [], ◌∷◌}
use mathlib.Core.Bool.{Bool, true, false, cond}
use lib.ListN.{length, take}
use lib.Dec.{eqb, leb}
use borrow.Author.Tests.{le-leb, lt-leb, leb-true, leb-false, eq-eqb, ne_eqb}
use Rattle.text.specs.Room.{wrote, fitted, filled}
use Rattle.text.proofs.Writes.{fitted_room, filled_room}
use Rattle.joiner.specs.declared.Joiner.{Joiner}
use Rattle.joiner.specs.declared.Joined.{Joined}
use Rattle.joiner.specs.declared.End.{End}
use Rattle.joiner.specs.declared.End.TheVariants as end'
use Rattle.joiner.specs.Lines.{ByteKind, CR, LF, GRAVE, plain, byte_kind}
use Rattle.joiner.specs.Step.{st, reachable, step_by, byte_step, line_of, stored}
use Rattle.joiner.specs.Join.{Ran, ran, go_on, run, join_of, end_of}
use Rattle.joiner.proofs.Laws.{fits_length, used_within}
use Rattle.joiner.proofs.Reach.{Fine, fine_step, to_fine}
use Rattle.joiner.proofs.Past.{refused_whole}
use Rattle.reading.specs.Reading.{Reading, refusal, read, reading_of}
use Rattle.reading.specs.Records.{listed_in, read_records, refusal_record, cut_record, answer_in, room_in}
use Rattle.text.proofs.Refusals.{same_number, same_place}
use Rattle.lister.specs.declared.Listed.{Listed}
use Rattle.lister.specs.Lister.{Call, listed, records_by, stands_by, refused19, joined, fit, call_of, end_stands, end_room}
use Rattle.lister.specs.Listing.{stands_of, outcome_stands, outcome_room, Sane, Ready}
use Rattle.reading.proofs.Room.{at_most_399}
use Rattle.reading.proofs.Within.{place_within}
use Rattle.text.proofs.Tests.{and_r}
use Rattle.std.proofs.Common.{Result, Ok, Err}
use Rattle.text.specs.declared.Refusal.{Refusal}
use Rattle.std.proofs.Common.{Option, Some, None}
use Rattle.text.specs.Room.{refusal_at}

-- ---- what a call of the joiner gives: a line of at most 1,024 bytes, or refusal 1 at 1,024

abbrev Fair : Result (Option ℕ) Refusal → Type 0
Fair (Ok None) = Unit {0}
Fair (Ok (Some n)) = n ≤ 1024
Fair (Err e) = (e.number ≡ 1) × (e.place ≡ 1024)

fair_line : (v : Bool) (h : ℕ) → h ≤ 1024 → Fair (line_of v h)
fair_line true h l = (refl, refl)
fair_line false h l = l

fair_by : (k : ByteKind) (h : ℕ) (g r v : Bool) (x : ℕ) → h ≤ 1024 → Fair (step_by k g r x (st h g r v)).out
fair_by CR h true r v x l = tt
fair_by CR h false r v x l = fair_line v h l
fair_by LF h g true v x l = tt
fair_by LF h true false v x l = tt
fair_by LF h false false v x l = fair_line v h l
fair_by GRAVE h true r v x l = tt
fair_by GRAVE h false r v x l = tt
fair_by plain h true r v x l = tt
fair_by plain h false r v x l = tt

fair_step : (s : Joiner) (x : ℕ) → Fine s → Fair (byte_step s x).out
unfolding byte_step
fair_step s x f = fair_by (byte_kind x) s.held s.grave s.cr s.over x f.within

fair_on : (o : Result (Option ℕ) Refusal) (rest done : Ran) → Fair rest.answer.outcome → Fair done.answer.outcome → Fair (go_on o rest done).answer.outcome
fair_on (Ok None) rest done p q = p
fair_on (Ok (Some k)) rest done p q = q
fair_on (Err e) rest done p q = q

fair_run : (n : ℕ) (s : Joiner) (b p : List ℕ) → Fine s → Fair (run n s b p).answer.outcome
unfolding run
fair_run n s b [] f = tt
fair_run n s b (x ∷ xs) f =
    let t = byte_step s x in
    let b' = stored s.held b t.put in
    fair_on t.out (run (suc n) t.state b' xs) (ran t.state (suc n) t.out b') (fair_run (suc n) t.state b' xs (fine_step s x f)) (fair_step s x f)

fair_join : (s : Joiner) (b p : List ℕ) → fit s b ≡ true → Fair (join_of s b p).answer.outcome
unfolding join_of
fair_join s b p e = rw e (fair_run 0 s b p (to_fine s (and_r (eqb (length b) 1024) (reachable s) e)))

sane_of : (o : Result (Option ℕ) Refusal) (b : List ℕ) → length b ≡ 1024 → Fair o → Sane o b
sane_of (Ok None) b l f = tt
sane_of (Ok (Some n)) b l f = omega arith
sane_of (Err e) b l f = omega (arith, f.1)

pub join_sane : (s : Joiner) (b p b' : List ℕ) (o : Result (Option ℕ) Refusal) → o ≡ (join_of s b p).answer.outcome → length b' ≡ length b → Sane o b'
join_sane s b p b' o e l = subst (λ (q : Result (Option ℕ) Refusal). Sane q b') (sym e) (go (fit s b) refl)
  where
    go : (t : Bool) → fit s b ≡ t → Sane (join_of s b p).answer.outcome b'
    go true q = sane_of (join_of s b p).answer.outcome b' (l ∙ fits_length s b q) (fair_join s b p q)
    go false q = let z : 0 ≤ 65535 = omega arith in subst (λ (r : Ran). Sane r.answer.outcome b') (sym (refused_whole s b p q)) z

-- ---- a call in the code's steps

abbrev pub stepped : Ran → List ℕ → Call
stepped r room =
    record {
      answer = listed r.answer.state r.answer.used (outcome_stands r.answer.outcome r.buffer);
      buffer = r.buffer;
      room = outcome_room room r.answer.outcome r.buffer;
    }

stands_same : (o : Result (Option ℕ) Refusal) (b : List ℕ) → Fair o → stands_by o b ≡ outcome_stands o b
stands_same (Ok None) b f = refl
stands_same (Ok (Some n)) b f = refl
stands_same (Err e) b f = rw f.0 refl

room_same : (o : Result (Option ℕ) Refusal) (b room : List ℕ) → Fair o → wrote room (records_by o b) ≡ outcome_room room o b
unfolding wrote
room_same (Ok None) b room f = refl
room_same (Ok (Some n)) b room f = refl
room_same (Err e) b room f = rw f.0 refl

joined_is : (r : Ran) (room : List ℕ) → Fair r.answer.outcome → joined r room ≡ stepped r room
joined_is r room f =
    ap (λ (v : Result (Option ℕ) Refusal). record { answer = listed r.answer.state r.answer.used v; buffer = r.buffer; room = wrote room (records_by r.answer.outcome r.buffer) })
    (stands_same r.answer.outcome r.buffer f)
    ∙ ap (λ (x : List ℕ). record { answer = listed r.answer.state r.answer.used (outcome_stands r.answer.outcome r.buffer); buffer = r.buffer; room = x })
    (room_same r.answer.outcome r.buffer room f)

fit_is : (s : Joiner) (b p room : List ℕ) (t : Bool) → fit s b ≡ t → cond t (joined (join_of s b p) room) (refused19 s b room) ≡ stepped (join_of s b p) room
fit_is s b p room true e = joined_is (join_of s b p) room (fair_join s b p e)
fit_is s b p room false e = sym (ap (λ (r : Ran). stepped r room) (refused_whole s b p e))

pub list_is : (s : Joiner) (b p room : List ℕ) → 399 ≤ length room → call_of s b p room ≡ stepped (join_of s b p) room
unfolding call_of
list_is s b p room h = rw (le-leb 399 (length room) h) (fit_is s b p room (fit s b) refl)

pub list_none : (s : Joiner) (b p room : List ℕ) → length room < 399 → call_of s b p room ≡ refused19 s b room
unfolding call_of
list_none s b p room h = rw (lt-leb 399 (length room) h) refl

-- ---- an outcome as records

pub ready_line : (o : Result (Option ℕ) Refusal) (b room : List ℕ) (n : ℕ) → o ≡ Ok (Some n) → Ready o b room → n ≤ length b
ready_line o b room n e r = subst (λ (q : Result (Option ℕ) Refusal). Sane q b) e r.1

pub ready_place : (o : Result (Option ℕ) Refusal) (b room : List ℕ) (n p : ℕ) → o ≡ Err (refusal_at n p) → Ready o b room → p ≤ 65535
ready_place o b room n p e r = subst (λ (q : Result (Option ℕ) Refusal). Sane q b) e r.1

module _ (o : Result (Option ℕ) Refusal) (b room : List ℕ) where
  pub told_line : (n v : ℕ) (x : List ℕ) → o ≡ Ok (Some n) → v ≡ length (listed_in (reading_of (take n b)))
      → x ≡ wrote room (listed_in (reading_of (take n b))) → (Ok (Some v) ≡ outcome_stands o b) × (x ≡ outcome_room room o b)
  told_line n v x e f g = (ap (λ (k : ℕ). Ok (Some k)) f ∙ sym (ap (λ (q : Result (Option ℕ) Refusal). outcome_stands q b) e), g ∙ sym (ap (λ (q : Result (Option ℕ) Refusal). outcome_room room q b) e))

  pub told_19 : (n p : ℕ) → o ≡ Err (refusal_at n p) → n ≡ 19 → (Err (refusal_at n p) ≡ outcome_stands o b) × (room ≡ outcome_room room o b)
  told_19 n p e h =
      let t = eq-eqb n 19 h in (
        sym (ap (λ (q : Result (Option ℕ) Refusal). outcome_stands q b) e ∙ ap (λ (w : Bool). cond w (Err (refusal_at n p)) (Ok (Some 4))) t),
        sym (ap (λ (q : Result (Option ℕ) Refusal). outcome_room room q b) e ∙ ap (λ (w : Bool). cond w room (wrote room (refusal_record n p))) t),
      )

  pub told_refused : (n p v : ℕ) (x : List ℕ) → o ≡ Err (refusal_at n p) → (n ≡ 19 → ⊥) → v ≡ 4 → x ≡ wrote room (refusal_record n p)
      → (Ok (Some v) ≡ outcome_stands o b) × (x ≡ outcome_room room o b)
  told_refused n p v x e h f g =
      let t = ne_eqb n 19 h in (
        ap (λ (k : ℕ). Ok (Some k)) f ∙ sym (ap (λ (q : Result (Option ℕ) Refusal). outcome_stands q b) e ∙ ap (λ (w : Bool). cond w (Err (refusal_at n p)) (Ok (Some 4))) t),
        g ∙ sym (ap (λ (q : Result (Option ℕ) Refusal). outcome_room room q b) e ∙ ap (λ (w : Bool). cond w room (wrote room (refusal_record n p))) t),
      )

-- ---- a line's records

pub refusal_fills : (room : List ℕ) (n p : ℕ) → 4 ≤ length room → filled room (refusal_record n p) ≡ wrote room (refusal_record n p)
refusal_fills room n p h = filled_room room (refusal_record n p) h

module _ (t room : List ℕ) (h : 399 ≤ length room) where
  pub line_wrote : (n : ℕ) (x : List ℕ) → Ok n ≡ answer_in (length room) (reading_of t) → x ≡ room_in room (reading_of t)
      → (n ≡ length (listed_in (reading_of t))) × (x ≡ wrote room (listed_in (reading_of t)))
  line_wrote n x = go (reading_of t) refl
    where
      go : (r : Reading) → reading_of t ≡ r → Ok n ≡ answer_in (length room) r → x ≡ room_in room r
          → (n ≡ length (listed_in r)) × (x ≡ wrote room (listed_in r))
      go (refusal k p) e f g = let z : ◌≡◌ {A = ℕ} 0 1 = cc in absurd (omega arith)
      go (read ps) e f g =
          let l : length (read_records ps) ≤ length room = omega (arith, at_most_399 t ps e) in
          let q : ◌≡◌ {A = Result ℕ Refusal} (Ok n) (Ok (length (read_records ps))) = f ∙ fitted_room (length room) (read_records ps) l in
          let m : n ≡ length (read_records ps) = cc in
          (m, g ∙ filled_room room (read_records ps) l)

  pub line_refused : (n p : ℕ) → Err (refusal_at n p) ≡ answer_in (length room) (reading_of t) → reading_of t ≡ refusal n p
  line_refused n p = go (reading_of t) refl
    where
      go : (r : Reading) → reading_of t ≡ r → Err (refusal_at n p) ≡ answer_in (length room) r → r ≡ refusal n p
      go (refusal k q) e f = sym (rw (same_number f, same_place f))
      go (read ps) e f =
          let l : length (read_records ps) ≤ length room = omega (arith, at_most_399 t ps e) in
          let q : ◌≡◌ {A = Result ℕ Refusal} (Err (refusal_at n p)) (Ok (length (read_records ps))) = f ∙ fitted_room (length room) (read_records ps) l in
          let z : ◌≡◌ {A = ℕ} 0 1 = cc in absurd (omega arith)

  pub line_place : (n p : ℕ) → Err (refusal_at n p) ≡ answer_in (length room) (reading_of t) → p ≤ 65535
  line_place n p f = omega (arith, (place_within t n p (line_refused n p f)).1)

  pub line_listed : (n p : ℕ) (x y : List ℕ) (v : ℕ) → Err (refusal_at n p) ≡ answer_in (length room) (reading_of t) → x ≡ room_in room (reading_of t)
      → v ≡ 4 → y ≡ wrote x (refusal_record n p) → (v ≡ length (listed_in (reading_of t))) × (y ≡ wrote room (listed_in (reading_of t)))
  line_listed n p x y v f g k w =
      let e = line_refused n p f in (
        k ∙ sym (ap (λ (r : Reading). length (listed_in r)) e),
        w ∙ ap (λ (z : List ℕ). wrote z (refusal_record n p)) (g ∙ ap (room_in room) e) ∙ sym (ap (λ (r : Reading). wrote room (listed_in r)) e),
      )

-- ---- the end

pub cut_stands : (n : ℕ) → stands_of (fitted n cut_record) ≡ end_stands n (Ok end'.Cut)
unfolding fitted
cut_stands n = go (leb 1 n)
  where
    go : (b : Bool) → stands_of (cond b (Ok 1) (Err (refusal_at 19 0))) ≡ cond b (Ok (Some 1)) (Err (refusal_at 19 0))
    go true = refl
    go false = refl

module _ (s : Joiner) (room : List ℕ) (e : Result End Refusal) (is : e ≡ end_of s) where
  pub end_nothing : e ≡ Ok end'.Nothing → (Ok None ≡ end_stands (length room) (end_of s)) × (room ≡ end_room room (end_of s))
  end_nothing h = (ap (end_stands (length room)) (sym h ∙ is), ap (end_room room) (sym h ∙ is))

  pub end_cut : (a : Result ℕ Refusal) (v : Result (Option ℕ) Refusal) (x : List ℕ) → e ≡ Ok end'.Cut → a ≡ fitted (length room) cut_record → v ≡ stands_of a → x ≡ filled room cut_record
      → (v ≡ end_stands (length room) (end_of s)) × (x ≡ end_room room (end_of s))
  end_cut a v x h f g k = (g ∙ ap stands_of f ∙ cut_stands (length room) ∙ ap (end_stands (length room)) (sym h ∙ is), k ∙ ap (end_room room) (sym h ∙ is))

  pub end_refused : (n p : ℕ) → e ≡ Err (refusal_at n p) → (Err (refusal_at n p) ≡ end_stands (length room) (end_of s)) × (room ≡ end_room room (end_of s))
  end_refused n p h = (ap (end_stands (length room)) (sym h ∙ is), ap (end_room room) (sym h ∙ is))

-- ---- a call's answer, from those of the joiner and of what writes its outcome

pub listed_is : (J : Ran) (room : List ℕ) (r : Joined) (b x : List ℕ) (v : Result (Option ℕ) Refusal) (T : Call) → T ≡ stepped J room → r ≡ J.answer → b ≡ J.buffer
    → v ≡ outcome_stands r.outcome b → x ≡ outcome_room room r.outcome b
    → (◌≡◌ {A = Listed} (listed r.state r.used v) T.answer) × ((b ≡ T.buffer) × (x ≡ T.room))
listed_is J room r b x v T t e f g h =
    let q : stepped (record { answer = r; buffer = b }) room ≡ T =
    ap (λ (a : Joined). stepped (record { answer = a; buffer = b }) room) e
    ∙ ap (λ (l : List ℕ). stepped (record { answer = J.answer; buffer = l }) room) f
    ∙ sym t in (
      ap (λ (w : Result (Option ℕ) Refusal). listed r.state r.used w) g ∙ ap (λ (u : Call). u.answer) q,
      (ap (λ (u : Call). u.buffer) q, h ∙ ap (λ (u : Call). u.room) q),
    )

-- a call uses no more than it is given
pub list_within : (r : Listed) (s : Joiner) (b p room : List ℕ) → r ≡ (call_of s b p room).answer → r.used ≤ length p
list_within r s b p room e = go (leb 399 (length room)) refl
  where
    go : (t : Bool) → leb 399 (length room) ≡ t → r.used ≤ length p
    go true q =
        let h = leb-true 399 (length room) q in
        omega (arith, ap (λ (l : Listed). l.used) (e ∙ ap (λ (t : Call). t.answer) (list_is s b p room h)), used_within s b p)
    go false q =
        let h = leb-false 399 (length room) q in
        omega (arith, ap (λ (l : Listed). l.used) (e ∙ ap (λ (t : Call). t.answer) (list_none s b p room h)))
