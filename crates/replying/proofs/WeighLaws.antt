-- Laws of the records in turn: what each leads to, how many bytes are to be written, and the answer. Assumes nothing.
use Prim.Native.Nat.{ℕ, ◌+◌, ◌-◌, ◌<◌, ◌≤◌}
use mathlib.Core.Path.{◌≡◌, refl, sym, ap, ◌∙◌, subst}
use mathlib.Core.List.{List, [], ◌∷◌, ◌++◌, map, append-nil}
use mathlib.Core.Bool.{Bool, true, false, cond}
use mathlib.Core.Option.{Option, none, some}
use native.Mathlib.Omega.{arith}
use lib.ListN.{length, get_or, take, drop, length-append}
use lib.Seq.{sets}
use lib.Dec.{eqb, leb, ltb}
use borrow.Author.Tests.{lt-ltb, le-ltb, ltb-true, ltb-false}
use Rattle.text.specs.Room.{fitted, filled}
use Rattle.text.proofs.Writes.{sets_rest, fitted_room, fitted_none, filled_none, filled_sets}
use Rattle.forms.specs.Forms.{is_name}
use Rattle.replies.specs.Lines.{is_keyword}
use Rattle.replies.specs.Order.{Turn, passes, opens, closes, ends, wrong, unclosed, on_turn, judge, judged, kept, flawed}
use Rattle.replies.specs.Items.{Told, item, group, endgroup, endoutput}
use Rattle.std.proofs.Common.{Result, Ok, Err, Some, None}
use Rattle.std.proofs.Common as std
use Rattle.std.specs.Result.{MatchResult, IsErrAnd}
use Rattle.words.specs.Words.{reply_record_len}
use Rattle.replying.specs.Records.{record_told, is_final, Asked, asked_from, asked_of}
use Rattle.replying.specs.Writing.{writing_of, turn_or_wrong, turn_asked, told_asked, asked_verdict, verdict_then, size_verdict, written_by, write_verdict, write_answer, write_room}
use Rattle.replying.specs.Steps.{line_told, Led, led_by, capped, sized, weighed}
use Rattle.replying.proofs.RecordLaws.{asked, asked_front, asked_last, asked_within, asked_next}
use Rattle.replying.proofs.ReadBack.{then_fine}
use Rattle.text.specs.Room.{refusal_at}
use Rattle.text.specs.declared.Refusal.{Refusal}

-- ---- what a record leads to

-- what a turn does is read off from what it leads to
abbrev by_led : {A : Type 0} → Led → (ℕ → A) → A → (ℕ → A) → A
by_led (Ok (Some m)) stop done on = on m
by_led (Ok None) stop done on = done
by_led (Err n) stop done on = stop n

module _ {A : Type 0} (d e p : ℕ) (stop : ℕ → ℕ → A) (done : A) (on : ℕ → A) where
  led_cond : (b : Bool) (x y : Led) → cond b (by_led x (λ n. stop n p) done on) (by_led y (λ n. stop n p) done on) ≡ by_led (cond b x y) (λ n. stop n p) done on
  led_cond true x y = refl
  led_cond false x y = refl

  -- no record is an open quote
  turn_led : (u : Turn) → (u ≡ unclosed → ⊥) → on_turn u d e p stop done on ≡ by_led (led_by u d) (λ n. stop n p) done on
  turn_led passes h = refl
  turn_led opens h = led_cond (leb 8 d) (Err 23) (Ok (Some (d + 1)))
  turn_led closes h = led_cond (eqb d 0) (Err 22) (Ok (Some (d - 1)))
  turn_led ends h = led_cond (eqb d 0) (Ok None) (Err 24)
  turn_led wrong h = refl
  turn_led unclosed h = absurd (h refl)

cond_turn : (b : Bool) (x y : Turn) → (x ≡ unclosed → ⊥) → (y ≡ unclosed → ⊥) → cond b x y ≡ unclosed → ⊥
cond_turn true x y f g = f
cond_turn false x y f g = g

never : {P : Type 0} → ◌≡◌ {A = ℕ} 0 1 → P
never e = absurd (omega arith)

told_closed : (o : Option Told) → turn_or_wrong o ≡ unclosed → ⊥
told_closed none e = never cc
told_closed (some (item k v)) e = cond_turn (is_keyword k) passes wrong (λ z. never cc) (λ z. never cc) e
told_closed (some (group n)) e = cond_turn (is_name n) opens wrong (λ z. never cc) (λ z. never cc) e
told_closed (some endgroup) e = never cc
told_closed (some endoutput) e = never cc

-- one that goes on is not the last, one that ends the reply is
abbrev Lasts : Option Told → Led → Type 0
Lasts o (Ok (Some m)) = is_final o ≡ false
Lasts o (Ok None) = is_final o ≡ true
Lasts o (Err n) = Unit {0}

lasts_cond : (o : Option Told) (b : Bool) (x y : Led) → Lasts o x → Lasts o y → Lasts o (cond b x y)
lasts_cond o true x y f g = f
lasts_cond o false x y f g = g

lasts_turn : (o : Option Told) (d : ℕ) (b : Bool) (x y : Turn) → Lasts o (led_by x d) → Lasts o (led_by y d) → Lasts o (led_by (cond b x y) d)
lasts_turn o d true x y f g = f
lasts_turn o d false x y f g = g

lasts : (o : Option Told) (d : ℕ) → Lasts o (led_by (turn_or_wrong o) d)
lasts none d = tt
lasts (some (item k v)) d = lasts_turn (some (item k v)) d (is_keyword k) passes wrong refl tt
lasts (some (group n)) d = lasts_turn (some (group n)) d (is_name n) opens wrong (lasts_cond (some (group n)) (leb 8 d) (Err 23) (Ok (Some (d + 1))) tt refl) tt
lasts (some endgroup) d = lasts_cond (some endgroup) (eqb d 0) (Err 22) (Ok (Some (d - 1))) tt refl
lasts (some endoutput) d = lasts_cond (some endoutput) (eqb d 0) (Ok None) (Err 24) refl tt

led_last : (o : Option Told) (d : ℕ) → Ok None ≡ led_by (turn_or_wrong o) d → is_final o ≡ true
led_last o d h = subst (Lasts o) (sym h) (lasts o d)

led_on : (o : Option Told) (d k : ℕ) → Ok (Some k) ≡ led_by (turn_or_wrong o) d → is_final o ≡ false
led_on o d k h = subst (Lasts o) (sym h) (lasts o d)

-- ---- how many bytes are to be written

pub sized_over : (n : ℕ) → 65535 < n → Err (refusal_at 21 0) ≡ sized n
unfolding sized
sized_over n h = rw (lt-ltb 65535 n h)

pub sized_within : (n : ℕ) → n ≤ 65535 → Ok n ≡ sized n
unfolding sized
sized_within n h = rw (le-ltb 65535 n h)

module _ (n m : ℕ) where
  pub capped_over : 65535 < n → n ≡ capped n m
  unfolding capped
  capped_over h = rw (lt-ltb 65535 n h)

  pub capped_within : n ≤ 65535 → n + m ≡ capped n m
  unfolding capped
  capped_within h = rw (le-ltb 65535 n h)

  -- what is not counted makes no difference
  sized_capped : (l : ℕ) → sized (capped n m + l) ≡ sized (n + m + l)
  sized_capped l = go (ltb 65535 n) refl
    where
      go : (b : Bool) → ltb 65535 n ≡ b → sized (capped n m + l) ≡ sized (n + m + l)
      go true e =
          let h = ltb-true 65535 n e in
          ap (λ (x : ℕ). sized (x + l)) (sym (capped_over h)) ∙ sym (sized_over (n + l) (omega arith)) ∙ sized_over (n + m + l) (omega arith)
      go false e = ap (λ (x : ℕ). sized (x + l)) (sym (capped_within (ltb-false 65535 n e)))

-- ---- one record more

writing_cons : (p : ℕ) (o : Option Told) (as' : List Asked) → writing_of (told_asked (asked p o ∷ as')) ≡ line_told o ++ writing_of (told_asked as')
unfolding writing_of told_asked
writing_cons p none as' = refl
writing_cons p (some x) as' = refl

writing_one : (p : ℕ) (o : Option Told) → writing_of (told_asked (asked p o ∷ [])) ≡ line_told o
unfolding writing_of told_asked
writing_one p o = writing_cons p o [] ∙ append-nil (line_told o)

module _ (d e n p : ℕ) (o : Option Told) where
  judge_led : (as' : List Asked) → judge d e (map turn_asked (asked p o ∷ as')) ≡ by_led (led_by (turn_or_wrong o) d) (λ k. Err (refusal_at k p)) (Ok tt) (λ m. judge m e (map turn_asked as'))
  unfolding judge
  judge_led as' = turn_led d e p flawed (Ok tt) (λ m. judge m e (map turn_asked as')) (turn_or_wrong o) (told_closed o)

  judge_by : (as' : List Asked) (l : Led) → l ≡ led_by (turn_or_wrong o) d → judge d e (map turn_asked (asked p o ∷ as')) ≡ by_led l (λ k. Err (refusal_at k p)) (Ok tt) (λ m. judge m e (map turn_asked as'))
  judge_by as' l h = judge_led as' ∙ sym (ap (λ (x : Led). by_led x (λ k. Err (refusal_at k p)) (Ok tt) (λ m. judge m e (map turn_asked as'))) h)

  -- it is refused, ends the reply, or goes on
  weigh_refused : (as' : List Asked) (k : ℕ) → Err k ≡ led_by (turn_or_wrong o) d → Err (refusal_at k p) ≡ weighed d e n (asked p o ∷ as')
  unfolding weighed
  weigh_refused as' k h = sym (ap (λ (v : Result Unit Refusal). judged v (sized (n + length (writing_of (told_asked (asked p o ∷ as')))))) (judge_by as' (Err k) h))

  weigh_done : Ok None ≡ led_by (turn_or_wrong o) d → (m : ℕ) → m ≡ capped n (length (line_told o)) → sized m ≡ weighed d e n (asked p o ∷ [])
  unfolding weighed
  weigh_done h m c =
      let z : m ≡ m + 0 = omega arith in
      let y : n + length (line_told o) + 0 ≡ n + length (line_told o) = omega arith in
      ap sized (z ∙ ap (λ (x : ℕ). x + 0) c)
      ∙ sized_capped n (length (line_told o)) 0
      ∙ ap sized y
      ∙ sym (ap (λ (w : List ℕ). sized (n + length w)) (writing_one p o))
      ∙ sym (ap (λ (v : Result Unit Refusal). judged v (sized (n + length (writing_of (told_asked (asked p o ∷ [])))))) (judge_by [] (Ok None) h))

  weigh_on : (as' : List Asked) (k : ℕ) → Ok (Some k) ≡ led_by (turn_or_wrong o) d → (m : ℕ) → m ≡ capped n (length (line_told o)) → weighed k e m as' ≡ weighed d e n (asked p o ∷ as')
  unfolding weighed
  weigh_on as' k h m c =
      let y : n + length (line_told o) + length (writing_of (told_asked as')) ≡ n + length (writing_of (told_asked (asked p o ∷ as'))) =
      omega (arith, ap length (writing_cons p o as'), length-append (line_told o) (writing_of (told_asked as'))) in
      ap (λ (x : ℕ). judged (judge k e (map turn_asked as')) (sized (x + length (writing_of (told_asked as'))))) c
      ∙ ap (judged (judge k e (map turn_asked as'))) (sized_capped n (length (line_told o)) (length (writing_of (told_asked as'))) ∙ ap sized y)
      ∙ sym (ap (λ (v : Result Unit Refusal). judged v (sized (n + length (writing_of (told_asked (asked p o ∷ as')))))) (judge_by as' (Ok (Some k)) h))

-- all ends without `endoutput`
pub weigh_none : (d e n : ℕ) → Err (refusal_at 25 e) ≡ weighed d e n []
unfolding weighed judge
weigh_none d e n = refl

-- ---- the record at a place, which tells o

module _ (r t : List ℕ) (at : ℕ) (h : at < length r) (o : Option Told) (e : o ≡ record_told t (take (length r - at) (drop at r))) where
  -- one that goes on: the next one's place
  module _ (d k : ℕ) (l : Ok (Some k) ≡ led_by (turn_or_wrong o) d) (z : ℕ) (f : z ≡ reply_record_len (get_or r at 0)) where
    pub turn_within : (1 ≤ z) × (at + z ≤ length r)
    turn_within = asked_within r t at h o e z f (led_on o d k l)

  -- weighed: a is the answer for all that is left
  module _ (d n : ℕ) (a : Result ℕ Refusal) (inv : weighed d (length r) n (asked_from 0 at t (drop at r)) ≡ a) where
    pub turn_refused : (k : ℕ) → Err k ≡ led_by (turn_or_wrong o) d → Err (refusal_at k at) ≡ a
    turn_refused k l = weigh_refused d (length r) n at o _ k l ∙ sym (ap (weighed d (length r) n) (asked_front r t at h o e)) ∙ inv

    -- its refusal has been given its place
    pub turn_placed : {Q : ℕ → Refusal → Type 0} (j : Led) (m : Result (std.Option ℕ) Refusal) → MatchResult j (λ x. m ≡ Ok x) (λ k. IsErrAnd m (Q k)) → ((k : ℕ) (q : Refusal) → Q k q → q ≡ refusal_at k at)
        → j ≡ led_by (turn_or_wrong o) d → (q : Refusal) → m ≡ Err q → Err q ≡ a
    turn_placed (Ok x) m h f l q i = never cc
    turn_placed (Err k) (Ok x) h f l q i = absurd h
    turn_placed (Err k) (Err p) h f l q i = let z = f k p h in let y : Err q ≡ Err (refusal_at k at) = cc in y ∙ turn_refused k l

    pub turn_done : Ok None ≡ led_by (turn_or_wrong o) d → (m : ℕ) → m ≡ capped n (length (line_told o)) → sized m ≡ a
    turn_done l m c = weigh_done d (length r) n at o l m c ∙ sym (ap (weighed d (length r) n) (asked_last r t at h o e (led_last o d l))) ∙ inv

    pub turn_on : (k : ℕ) → Ok (Some k) ≡ led_by (turn_or_wrong o) d → (z : ℕ) → z ≡ reply_record_len (get_or r at 0) → (m : ℕ) → m ≡ capped n (length (line_told o))
        → weighed k (length r) m (asked_from 0 (at + z) t (drop (at + z) r)) ≡ a
    turn_on k l z f m c =
        weigh_on d (length r) n at o (asked_from 0 (at + z) t (drop (at + z) r)) k l m c
        ∙ sym (ap (weighed d (length r) n) (asked_next r t at h o e z f (led_on o d k l)))
        ∙ inv

  -- written at w, where all that is left gives the room s: its line ends at w'
  module _ (out out' s : List ℕ) (w w' : ℕ) (inv : sets out w (writing_of (told_asked (asked_from 0 at t (drop at r)))) ≡ s)
      (p : w' ≡ w + length (line_told o)) (q : out' ≡ sets out w (line_told o)) where
    pub put_last : is_final o ≡ true → out' ≡ s
    put_last f = q ∙ sym (ap (sets out w) (ap (λ (z : List Asked). writing_of (told_asked z)) (asked_last r t at h o e f) ∙ writing_one at o)) ∙ inv

    pub put_next : is_final o ≡ false → (z : ℕ) → z ≡ reply_record_len (get_or r at 0) → (n : ℕ) → w + length (writing_of (told_asked (asked_from 0 at t (drop at r)))) ≡ n
        → (sets out' w' (writing_of (told_asked (asked_from 0 (at + z) t (drop (at + z) r)))) ≡ s)
        × (w' + length (writing_of (told_asked (asked_from 0 (at + z) t (drop (at + z) r)))) ≡ n)
    put_next f z g n len =
        let left = writing_of (told_asked (asked_from 0 (at + z) t (drop (at + z) r))) in
        let more = ap (λ (x : List Asked). writing_of (told_asked x)) (asked_next r t at h o e z g f) ∙ writing_cons at o (asked_from 0 (at + z) t (drop (at + z) r)) in
        (sets_rest out (line_told o) out' w w' q p left ∙ sym (ap (sets out w) more) ∙ inv, omega (arith, ap length more, length-append (line_told o) left))

-- ---- the answer

judged_then : (v w : Result Unit Refusal) (a : Result ℕ Refusal) → judged (verdict_then v w) a ≡ judged v (judged w a)
judged_then (Ok u) w a = refl
judged_then (Err e) w a = refl

judged_size : (w : List ℕ) → judged (size_verdict w) (Ok (length w)) ≡ sized (0 + length w)
unfolding size_verdict
judged_size w = go (ltb 65535 (length w)) refl
  where
    z : length w ≡ 0 + length w
    z = omega arith

    go : (b : Bool) → ltb 65535 (length w) ≡ b → judged (cond b (Err (refusal_at 21 0)) (Ok tt)) (Ok (length w)) ≡ sized (0 + length w)
    go true e = sized_over (length w) (ltb-true 65535 (length w) e) ∙ ap sized z
    go false e = sized_within (length w) (ltb-false 65535 (length w) e) ∙ ap sized z

verdict_refused : (v : Result Unit Refusal) (n : ℕ) (q : Refusal) → Err q ≡ judged v (Ok n) → v ≡ Err q
verdict_refused (Ok u) n q e = never cc
verdict_refused (Err r) n q e = cc

verdict_wrote : (v : Result Unit Refusal) (n m : ℕ) → Ok m ≡ judged v (Ok n) → (v ≡ Ok tt) × (m ≡ n)
verdict_wrote (Ok u) n m e = (refl, cc)
verdict_wrote (Err r) n m e = never cc

size_fine : (w : List ℕ) → size_verdict w ≡ Ok tt → length w ≤ 65535
unfolding size_verdict
size_fine w e = go (ltb 65535 (length w)) refl e
  where
    go : (b : Bool) → ltb 65535 (length w) ≡ b → cond b (flawed 21 0) (Ok tt) ≡ Ok tt → length w ≤ 65535
    go true h f = never cc
    go false h f = ltb-false 65535 (length w) h

module _ (r t room : List ℕ) where
  -- by the verdict
  by_verdict : (v : Result Unit Refusal) → write_verdict r t ≡ v
      → (write_answer (length room) r t ≡ judged v (fitted (length room) (written_by r t))) × (write_room room r t ≡ kept v room (filled room (written_by r t)))
  unfolding write_answer write_room
  by_verdict v e = (ap (λ (x : Result Unit Refusal). judged x (fitted (length room) (written_by r t))) e, ap (λ (x : Result Unit Refusal). kept x room (filled room (written_by r t))) e)

  refused_by_lem : (q : Refusal) → write_verdict r t ≡ Err q → (Err q ≡ write_answer (length room) r t) × (room ≡ write_room room r t)
  refused_by_lem q e = let b = by_verdict (Err q) e in (sym b.0, sym b.1)

  pub write_long : 65535 < length t → (Err (refusal_at 21 0) ≡ write_answer (length room) r t) × (room ≡ write_room room r t)
  write_long h = refused_by_lem (refusal_at 21 0) (unfold write_verdict asked_verdict in rw (lt-ltb 65535 (length t) h))

  module _ (h : length t ≤ 65535) where
    weighed_all : weighed 0 (length r) 0 (asked_of r t) ≡ judged (write_verdict r t) (Ok (length (written_by r t)))
    unfolding weighed write_verdict asked_verdict written_by
    weighed_all =
        sym (ap (judged (judge 0 (length r) (map turn_asked (asked_of r t)))) (judged_size (writing_of (told_asked (asked_of r t)))))
        ∙ sym (judged_then (judge 0 (length r) (map turn_asked (asked_of r t))) (size_verdict (writing_of (told_asked (asked_of r t)))) (Ok (length (writing_of (told_asked (asked_of r t))))))
        ∙ sym (ap (λ (b : Bool). judged (verdict_then (cond b (Err (refusal_at 21 0)) (judge 0 (length r) (map turn_asked (asked_of r t)))) (size_verdict (writing_of (told_asked (asked_of r t))))) (Ok (length (writing_of (told_asked (asked_of r t)))))) (le-ltb 65535 (length t) h))

    pub write_refused : (q : Refusal) → Err q ≡ weighed 0 (length r) 0 (asked_of r t) → (Err q ≡ write_answer (length room) r t) × (room ≡ write_room room r t)
    write_refused q e = refused_by_lem q (verdict_refused (write_verdict r t) (length (written_by r t)) q (e ∙ weighed_all))

    module _ (n : ℕ) (e : Ok n ≡ weighed 0 (length r) 0 (asked_of r t)) where
      wrote : (write_verdict r t ≡ Ok tt) × (n ≡ length (written_by r t))
      wrote = verdict_wrote (write_verdict r t) (length (written_by r t)) n (e ∙ weighed_all)

      pub written_short : length (written_by r t) ≤ 65535
      unfolding write_verdict
      written_short = size_fine (written_by r t) (then_fine (asked_verdict r t) (size_verdict (written_by r t)) wrote.0).1

      pub write_none : length room < n → (Err (refusal_at 19 0) ≡ write_answer (length room) r t) × (room ≡ write_room room r t)
      write_none l =
          let b = by_verdict (Ok tt) wrote.0 in
          let k : length room < length (written_by r t) = omega (arith, wrote.1) in
          (sym (b.0 ∙ fitted_none (length room) (written_by r t) k), sym (b.1 ∙ filled_none room (written_by r t) k))

      pub write_fits : n ≤ length room → (o : List ℕ) → o ≡ sets room 0 (written_by r t) → (Ok n ≡ write_answer (length room) r t) × (o ≡ write_room room r t)
      write_fits l o s =
          let b = by_verdict (Ok tt) wrote.0 in
          let k : length (written_by r t) ≤ length room = omega (arith, wrote.1) in
          (ap Ok wrote.1 ∙ sym (b.0 ∙ fitted_room (length room) (written_by r t) k), s ∙ filled_sets room (written_by r t) k ∙ sym b.1)
