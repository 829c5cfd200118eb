-- Laws of one call in the code's steps: its tests, the text of what stands in the room, and what a call gives. Assumes nothing.
use Prim.Native.Nat.{ℕ, ◌≤◌}
use native.Mathlib.Omega.{arith}
use mathlib.Core.Path.{◌≡◌, refl, sym, ap, ◌∙◌, subst}
use mathlib.Core.List.{List, []}
use mathlib.Core.Bool.{Bool, true, false, ◌||◌, cond}
use lib.ListN.{length, take}
use lib.Dec.{ltb}
use borrow.Author.Tests.{le-leb}
use Rattle.text.specs.Room.{wrote, refusal_at}
use Rattle.text.proofs.Writes.{fitted_room, filled_room, length_wrote, take_wrote}
use Rattle.joiner.specs.declared.Joiner.{Joiner}
use Rattle.joiner.specs.declared.End.{End}
use Rattle.joiner.specs.declared.End.TheVariants as end'
use Rattle.joiner.specs.Step.{reachable}
use Rattle.joiner.specs.Join.{join_of, end_of}
use Rattle.wording.specs.Words.{Worded, worded, unworded, wording_from, wording_of, text_answer, text_room}
use Rattle.wording.specs.Steps.{worded_text}
use Rattle.lister.specs.declared.Listed.{Listed}
use Rattle.lister.specs.Lister.{Call, records_by, stands_by, joined, fit, call_of}
use Rattle.std.specs.Result.{is_ok, result_unwrap_or}
use Rattle.printing.specs.declared.Called.{Called}
use Rattle.printing.specs.Printing.{longest, lines_by, outcome_text, ran_text, records_text}
use Rattle.printing.specs.Steps.{standing, Stood, lines_in, called_by}
use Rattle.printing.proofs.LineText.{records_most, text_fits}
use Rattle.std.proofs.Common.{Ok, Err}
use Rattle.std.proofs.Common.{Result, Option, Some, None}
use Rattle.text.specs.declared.Refusal.{Refusal}

-- ---- the tests

abbrev pub unrefused : Result End Refusal → Bool
unrefused (Ok end'.Nothing) = true
unrefused (Ok end'.Cut) = true
unrefused (Err e) = false

-- the end refuses exactly a state that no capture leads to
pub unrefused_end : (s : Joiner) → unrefused (end_of s) ≡ reachable s
unfolding end_of
unrefused_end s = go (reachable s) (ltb 0 s.held || s.grave)
  where
    go : (t u : Bool) → unrefused (cond t (cond u (Ok end'.Cut) (Ok end'.Nothing)) (Err (refusal_at 19 0))) ≡ t
    go true true = refl
    go true false = refl
    go false u = refl

pub possible_by : (s : Joiner) (e : Result End Refusal) → e ≡ end_of s → is_ok e ≡ reachable s
possible_by s e h = as_told e ∙ ap unrefused h ∙ unrefused_end s
  where
    as_told : (e : Result End Refusal) → is_ok e ≡ unrefused e
    as_told (Ok end'.Nothing) = refl
    as_told (Ok end'.Cut) = refl
    as_told (Err r) = refl

-- ---- the text of records

pub no_text : records_text [] ≡ []
unfolding wording_of wording_from
no_text = refl

pub none_wrote : (out : List ℕ) → out ≡ wrote out []
unfolding wrote
none_wrote out = refl

module _ (rs out : List ℕ) (h : length (records_text rs) ≤ length out) where
  pub text_wrote : (n : ℕ) (x : List ℕ) → Ok n ≡ text_answer (length out) (wording_of rs) → x ≡ text_room out (wording_of rs)
      → (n ≡ length (records_text rs)) × (x ≡ wrote out (records_text rs))
  text_wrote n x = go (wording_of rs) h
    where
      go : (u : Worded) → length (worded_text u) ≤ length out → Ok n ≡ text_answer (length out) u → x ≡ text_room out u
          → (n ≡ length (worded_text u)) × (x ≡ wrote out (worded_text u))
      go (worded t) l e f =
          let q : ◌≡◌ {A = Result ℕ Refusal} (Ok n) (Ok (length t)) = e ∙ fitted_room (length out) t l in
          let m : n ≡ length t = cc in
          (m, f ∙ filled_room out t l)
      go (unworded k p) l e f = let z : ◌≡◌ {A = ℕ} 0 1 = cc in absurd (omega arith)

  pub text_refused : (k p : ℕ) (x : List ℕ) → Err (refusal_at k p) ≡ text_answer (length out) (wording_of rs) → x ≡ text_room out (wording_of rs)
      → (0 ≡ length (records_text rs)) × (x ≡ wrote out (records_text rs))
  text_refused k p x = go (wording_of rs) h
    where
      go : (u : Worded) → length (worded_text u) ≤ length out → Err (refusal_at k p) ≡ text_answer (length out) u → x ≡ text_room out u
          → (0 ≡ length (worded_text u)) × (x ≡ wrote out (worded_text u))
      go (worded t) l e f =
          let q : ◌≡◌ {A = Result ℕ Refusal} (Err (refusal_at k p)) (Ok (length t)) = e ∙ fitted_room (length out) t l in
          let z : ◌≡◌ {A = ℕ} 0 1 = cc in absurd (omega arith)
      go (unworded m a) l e f = (refl, f ∙ none_wrote out)

  pub text_by : (r : Result ℕ Refusal) (x : List ℕ) → r ≡ text_answer (length out) (wording_of rs) → x ≡ text_room out (wording_of rs)
      → (result_unwrap_or r 0 ≡ length (records_text rs)) × (x ≡ wrote out (records_text rs))
  text_by (Ok n) x e f = text_wrote n x e f
  text_by (Err r) x e f = text_refused r.number r.place x e f

-- ---- the text of what stands in a room

module _ (s : Result (Option ℕ) Refusal) (room out : List ℕ) where
  none_stands : standing s room ≡ [] → (0 ≡ length (records_text (standing s room))) × (out ≡ wrote out (records_text (standing s room)))
  none_stands e =
      let t : records_text (standing s room) ≡ [] = ap records_text e ∙ no_text in
      (sym (ap length t), none_wrote out ∙ sym (ap (wrote out) t))

  pub nothing_stands : s ≡ Ok None → (0 ≡ length (records_text (standing s room))) × (out ≡ wrote out (records_text (standing s room)))
  nothing_stands e = none_stands (ap (λ (q : Result (Option ℕ) Refusal). standing q room) e)

  pub refused_stands : (k p : ℕ) → s ≡ Err (refusal_at k p) → (0 ≡ length (records_text (standing s room))) × (out ≡ wrote out (records_text (standing s room)))
  refused_stands k p e = none_stands (ap (λ (q : Result (Option ℕ) Refusal). standing q room) e)

  module _ (n : ℕ) (e : s ≡ Ok (Some n)) where
    pub records_within : Stood s room → n ≤ length room
    records_within w = subst (λ (q : Result (Option ℕ) Refusal). Stood q room) e w

    pub records_fit : length (records_text (standing s room)) ≤ length out → length (records_text (take n room)) ≤ length out
    records_fit h = subst (λ (q : Result (Option ℕ) Refusal). length (records_text (standing q room)) ≤ length out) e h

    pub records_stand : (v : ℕ) (x : List ℕ) → v ≡ length (records_text (take n room)) → x ≡ wrote out (records_text (take n room))
        → (v ≡ length (records_text (standing s room))) × (x ≡ wrote out (records_text (standing s room)))
    records_stand v x f g =
        let t = sym (ap (λ (q : Result (Option ℕ) Refusal). records_text (standing q room)) e) in
        (f ∙ ap length t, g ∙ ap (wrote out) t)

-- ---- a call: what stands in the room are the records of what it ended

stand_records : (o : Result (Option ℕ) Refusal) (b room : List ℕ) → standing (stands_by o b) (wrote room (records_by o b)) ≡ records_by o b
stand_records (Ok None) b room = refl
stand_records (Ok (Some n)) b room = take_wrote room (records_by (Ok (Some n)) b)
stand_records (Err e) b room = take_wrote room (records_by (Err (refusal_at e.number e.place)) b)

stand_within : (o : Result (Option ℕ) Refusal) (b room : List ℕ) → 399 ≤ length room → Stood (stands_by o b) (wrote room (records_by o b))
stand_within (Ok None) b room h = tt
stand_within (Ok (Some n)) b room h =
    let l = records_most (Ok (Some n)) b in
    omega (arith, l, length_wrote room (records_by (Ok (Some n)) b) (omega (arith, l)))
stand_within (Err e) b room h = omega (arith, length_wrote room (records_by (Err (refusal_at e.number e.place)) b) (omega arith))

stand_lines : (o : Result (Option ℕ) Refusal) (b : List ℕ) → lines_in (stands_by o b) ≡ lines_by o
stand_lines (Ok None) b = refl
stand_lines (Ok (Some n)) b = refl
stand_lines (Err e) b = refl

call_joined : (s : Joiner) (b p room : List ℕ) → fit s b ≡ true → 399 ≤ length room → call_of s b p room ≡ joined (join_of s b p) room
unfolding call_of
call_joined s b p room f h = rw (le-leb 399 (length room) h, f) refl

module _ (s : Joiner) (b p room : List ℕ) (f : fit s b ≡ true) (h : length room ≡ 399) (r : Listed) (x : List ℕ)
    (er : r ≡ (call_of s b p room).answer) (ex : x ≡ (call_of s b p room).room) where
  long : 399 ≤ length room
  long = omega arith

  answer_is : r ≡ (joined (join_of s b p) room).answer
  answer_is = er ∙ ap (λ (c : Call). c.answer) (call_joined s b p room f long)

  room_is : x ≡ wrote room (records_by (join_of s b p).answer.outcome (join_of s b p).buffer)
  room_is = ex ∙ ap (λ (c : Call). c.room) (call_joined s b p room f long)

  stands_is : r.stands ≡ stands_by (join_of s b p).answer.outcome (join_of s b p).buffer
  stands_is = ap (λ (l : Listed). l.stands) answer_is

  pub call_within : Stood r.stands x
  call_within =
      subst (λ (v : Result (Option ℕ) Refusal). Stood v x) (sym stands_is)
      (subst (Stood (stands_by (join_of s b p).answer.outcome (join_of s b p).buffer)) (sym room_is)
      (stand_within (join_of s b p).answer.outcome (join_of s b p).buffer room long))

  text_is : records_text (standing r.stands x) ≡ ran_text (join_of s b p)
  unfolding outcome_text
  text_is =
      ap (λ (v : Result (Option ℕ) Refusal). records_text (standing v x)) stands_is
      ∙ ap (λ (l : List ℕ). records_text (standing (stands_by (join_of s b p).answer.outcome (join_of s b p).buffer) l)) room_is
      ∙ ap records_text (stand_records (join_of s b p).answer.outcome (join_of s b p).buffer room)

  pub call_fits : (out : List ℕ) → longest ≤ length out → length (records_text (standing r.stands x)) ≤ length out
  call_fits out l = omega (arith, ap length text_is, text_fits (join_of s b p).answer.outcome (join_of s b p).buffer)

  pub call_done : (b' out out' : List ℕ) (n k : ℕ) → b' ≡ (call_of s b p room).buffer → n ≡ length (records_text (standing r.stands x))
      → out' ≡ wrote out (records_text (standing r.stands x)) → k ≡ lines_in r.stands
      → (◌≡◌ {A = Called} (record { state = r.state; used = r.used; lines = k; text = n }) (called_by (join_of s b p)))
      × ((b' ≡ (join_of s b p).buffer) × (out' ≡ wrote out (ran_text (join_of s b p))))
  call_done b' out out' n k eb en eo ek =
      let l : k ≡ lines_by (join_of s b p).answer.outcome = ek ∙ ap lines_in stands_is ∙ stand_lines (join_of s b p).answer.outcome (join_of s b p).buffer in (
        ap (λ (q : Listed). record { state = q.state; used = q.used; lines = k; text = n }) answer_is
            ∙ ap (λ (v : ℕ). record { state = (join_of s b p).answer.state; used = (join_of s b p).answer.used; lines = v; text = n }) l
            ∙ ap (λ (v : ℕ). record { state = (join_of s b p).answer.state; used = (join_of s b p).answer.used; lines = lines_by (join_of s b p).answer.outcome; text = v })
            (en ∙ ap length text_is),
        (eb ∙ ap (λ (c : Call). c.buffer) (call_joined s b p room f long), eo ∙ ap (wrote out) text_is),
      )
