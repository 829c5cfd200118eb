-- What the face's functions are made of, and what it says of a number that is no state's. Assumes nothing.
use Prim.Native.Nat.{ℕ, ◌<◌, ◌≤◌}
use mathlib.Core.Path.{◌≡◌, refl, sym, ap, ◌∙◌}
use mathlib.Core.List.{List}
use mathlib.Core.Bool.{Bool, true, false, cond, ◌&&◌, true≢false, and-false}
use native.Mathlib.Omega.{arith}
use borrow.Author.Tests.{lt-ltb, le-ltb, ltb-true, ltb-false, eqb-true}
use lib.ListN.{length}
use lib.Dec.{eqb, ltb, leb}
use Rattle.joiner.specs.declared.Joiner.{Joiner}
use Rattle.joiner.specs.declared.Joined.{Joined}
use Rattle.joiner.specs.declared.End.{End}
use Rattle.joiner.specs.Step.{reachable}
use Rattle.joiner.specs.Join.{Ran, join_of, end_of}
use Rattle.joiner.proofs.Reach.{to_fine}
use Rattle.joiner.proofs.Past.{refused_whole, goes_on_lem}
use Rattle.lister.specs.declared.Listed.{Listed}
use Rattle.lister.specs.Lister as lister
use Rattle.lister.specs.Lister.{call_of, end_stands, end_room}
use Rattle.clp.specs.declared.ClpAnswer.{ClpAnswer}
use Rattle.clp.specs.declared.ClpJoined.{ClpJoined}
use Rattle.clp.specs.State.{state_number, state_of}
use Rattle.clp.specs.Face.{told, none64, outcome_of, with, no_call, joined_of, join_face, join_buffer, end_answer, end_face, stands_face, listed_of, list_face, list_buffer, list_room, list_end_face, list_end_room}
use Rattle.clp.proofs.StateLaws.{number_back}
use Rattle.std.proofs.Common.{Result, Option}
use Rattle.text.specs.declared.Refusal.{Refusal}

-- ---- a number of 16,384 or more

module _ (n : ℕ) (h : 16383 < n) where
  pub none_end : told 19 0 ≡ end_face n
  unfolding end_face
  none_end = rw (le-ltb n 16384 (omega arith))

  pub none_join : (b p : List ℕ) → no_call n ≡ join_face n b p
  unfolding join_face
  none_join b p = rw (le-ltb n 16384 (omega arith))

  pub none_buffer : (b p : List ℕ) → b ≡ join_buffer n b p
  unfolding join_buffer
  none_buffer b p = rw (le-ltb n 16384 (omega arith))

  module _ (b p room : List ℕ) where
    pub none_list : no_call n ≡ list_face n b p room
    unfolding list_face
    none_list = rw (le-ltb n 16384 (omega arith))

    pub none_list_buffer : b ≡ list_buffer n b p room
    unfolding list_buffer
    none_list_buffer = rw (le-ltb n 16384 (omega arith))

    pub none_list_room : room ≡ list_room n b p room
    unfolding list_room
    none_list_room = rw (le-ltb n 16384 (omega arith))

  pub none_list_end : (k : ℕ) → told 19 0 ≡ list_end_face n k
  unfolding list_end_face
  none_list_end k = rw (le-ltb n 16384 (omega arith))

  pub none_end_room : (room : List ℕ) → room ≡ list_end_room n room
  unfolding list_end_room
  none_end_room room = rw (le-ltb n 16384 (omega arith))

-- ---- a smaller one

module _ (n : ℕ) (h : n ≤ 16383) (s : Joiner) (i : s ≡ state_of n) where
  pub end_told : (e : Result End Refusal) (r : ClpAnswer) → e ≡ end_of s → r ≡ end_answer e → r ≡ end_face n
  unfolding end_face
  end_told e r x y = rw (lt-ltb n 16384 (omega arith)) (y ∙ ap end_answer (x ∙ ap end_of i))

  module _ (b p : List ℕ) where
    pub join_told : (j : Joined) (a : ClpAnswer) (r : ClpJoined) → j ≡ (join_of s b p).answer → a ≡ outcome_of j.outcome
        → r ≡ with a j.used (state_number j.state) → r ≡ join_face n b p
    unfolding join_face
    join_told j a r x y z =
        rw (lt-ltb n 16384 (omega arith))
        (z ∙ ap (λ (a : ClpAnswer). with a j.used (state_number j.state)) y ∙ ap joined_of (x ∙ ap (λ (s : Joiner). (join_of s b p).answer) i))

    pub buffer_told : (c : List ℕ) → c ≡ (join_of s b p).buffer → c ≡ join_buffer n b p
    unfolding join_buffer
    buffer_told c x = rw (lt-ltb n 16384 (omega arith)) (x ∙ ap (λ (s : Joiner). (join_of s b p).buffer) i)

  module _ (b p room : List ℕ) where
    pub list_told : (l : Listed) (a : ClpAnswer) (r : ClpJoined) → l ≡ (call_of s b p room).answer → a ≡ stands_face none64 l.stands
        → r ≡ with a l.used (state_number l.state) → r ≡ list_face n b p room
    unfolding list_face
    list_told l a r x y z =
        rw (lt-ltb n 16384 (omega arith))
        (z ∙ ap (λ (a : ClpAnswer). with a l.used (state_number l.state)) y ∙ ap listed_of (x ∙ ap (λ (s : Joiner). (call_of s b p room).answer) i))

    pub list_buffer_told : (c : List ℕ) → c ≡ (call_of s b p room).buffer → c ≡ list_buffer n b p room
    unfolding list_buffer
    list_buffer_told c x = rw (lt-ltb n 16384 (omega arith)) (x ∙ ap (λ (s : Joiner). (call_of s b p room).buffer) i)

    pub list_room_told : (c : List ℕ) → c ≡ (call_of s b p room).room → c ≡ list_room n b p room
    unfolding list_room
    list_room_told c x = rw (lt-ltb n 16384 (omega arith)) (x ∙ ap (λ (s : Joiner). (call_of s b p room).room) i)

  pub list_end_told : (k : ℕ) (w : Result (Option ℕ) Refusal) (r : ClpAnswer) → w ≡ end_stands k (end_of s) → r ≡ stands_face 0 w → r ≡ list_end_face n k
  unfolding list_end_face
  list_end_told k w r x y = rw (lt-ltb n 16384 (omega arith)) (y ∙ ap (stands_face 0) (x ∙ ap (λ (s : Joiner). end_stands k (end_of s)) i))

  pub end_room_told : (room c : List ℕ) → c ≡ end_room room (end_of s) → c ≡ list_end_room n room
  unfolding list_end_room
  end_room_told room c x = rw (lt-ltb n 16384 (omega arith)) (x ∙ ap (λ (s : Joiner). end_room room (end_of s)) i)

-- the state that joining leaves has a number: it is a capture's, or the one that was given
state_low : (n : ℕ) → (state_of n).held < 2048
unfolding state_of
state_low n = omega arith

pub join_low : (n : ℕ) (s : Joiner) (b p : List ℕ) (j : Joined) → s ≡ state_of n → j ≡ (join_of s b p).answer → j.state.held < 2048
join_low n s b p j i x = go (eqb (length b) 1024) (reachable s) refl refl
  where
    low : s.held < 2048
    low = omega (arith, state_low n, ap (λ (s : Joiner). s.held) i)

    refused : eqb (length b) 1024 && reachable s ≡ false → j.state.held < 2048
    refused e = omega (arith, ap (λ (j : Joined). j.state.held) x, ap (λ (r : Ran). r.answer.state.held) (refused_whole s b p e), low)

    go : (f g : Bool) → eqb (length b) 1024 ≡ f → reachable s ≡ g → j.state.held < 2048
    go false g e k = refused (rw e)
    go true false e k = refused (rw (e, k))
    go true true e k =
        omega
        (arith, ap (λ (j : Joined). j.state.held) x, (to_fine (join_of s b p).answer.state (goes_on_lem s b p (eqb-true (length b) 1024 e) k).1).within)

pub list_low : (n : ℕ) (s : Joiner) (b p room : List ℕ) (l : Listed) → s ≡ state_of n → l ≡ (call_of s b p room).answer → l.state.held < 2048
unfolding call_of
list_low n s b p room l i x = go (leb 399 (length room)) (lister.fit s b) x
  where
    low : l.state.held ≡ s.held → l.state.held < 2048
    low e = omega (arith, e, state_low n, ap (λ (s : Joiner). s.held) i)

    go : (t u : Bool)
        → l ≡ (cond t (cond u (lister.joined (join_of s b p) room) (lister.refused19 s b room)) (lister.refused19 s b room)).answer
        → l.state.held < 2048
    go false u e = low (ap (λ (l : Listed). l.state.held) e)
    go true false e = low (ap (λ (l : Listed). l.state.held) e)
    go true true e = omega (arith, ap (λ (l : Listed). l.state.held) e, join_low n s b p (join_of s b p).answer i refl)

-- ---- A NUMBER THAT IS NO STATE'S: 19, nothing used, the same number, the buffer unchanged

pub unfit : (n : ℕ) (b p : List ℕ) → eqb (length b) 1024 && reachable (state_of n) ≡ false → (join_face n b p ≡ no_call n) × (join_buffer n b p ≡ b)
unfolding join_face join_buffer
unfit n b p e = go (ltb n 16384) refl
  where
    go : (t : Bool) → ltb n 16384 ≡ t
        → (cond t (joined_of (join_of (state_of n) b p).answer) (no_call n) ≡ no_call n) × (cond t (join_of (state_of n) b p).buffer b ≡ b)
    go false f = (refl, refl)
    go true f =
        let r = refused_whole (state_of n) b p e in
        (ap (λ (r : Ran). joined_of r.answer) r ∙ ap no_call (number_back n (ltb-true n 16384 f)), ap (λ (r : Ran). r.buffer) r)

unfit_end : (n : ℕ) → ltb n 16384 ≡ true → reachable (state_of n) ≡ false → end_face n ≡ told 19 0
unfolding end_face end_of
unfit_end n e f = rw (e, f)

pub no_state : (n : ℕ) (b p : List ℕ) → ((s : Joiner) → reachable s ≡ true → state_number s ≡ n → ⊥)
    → (join_face n b p ≡ no_call n) × (join_buffer n b p ≡ b) × (end_face n ≡ told 19 0)
no_state n b p never = go (ltb n 16384) (reachable (state_of n)) refl refl
  where
    go : (t u : Bool) → ltb n 16384 ≡ t → reachable (state_of n) ≡ u
        → (join_face n b p ≡ no_call n) × (join_buffer n b p ≡ b) × (end_face n ≡ told 19 0)
    go false u e f =
        let h : 16383 < n = omega (arith, ltb-false n 16384 e) in
        (sym (none_join n h b p), sym (none_buffer n h b p), sym (none_end n h))
    go true true e f = absurd (never (state_of n) f (number_back n (ltb-true n 16384 e)))
    go true false e f =
        let r = unfit n b p (rw f (and-false (eqb (length b) 1024))) in
        (r.0, r.1, unfit_end n e f)

-- the same of a lister's end
unfit_list_end : (n k : ℕ) (room : List ℕ) → ltb n 16384 ≡ true → reachable (state_of n) ≡ false → (list_end_face n k ≡ told 19 0) × (list_end_room n room ≡ room)
unfolding list_end_face list_end_room end_of
unfit_list_end n k room e f = (rw (e, f), rw (e, f))

pub no_state_end : (n k : ℕ) (room : List ℕ) → ((s : Joiner) → reachable s ≡ true → state_number s ≡ n → ⊥)
    → (list_end_face n k ≡ told 19 0) × (list_end_room n room ≡ room)
no_state_end n k room never = go (ltb n 16384) (reachable (state_of n)) refl refl
  where
    go : (t u : Bool) → ltb n 16384 ≡ t → reachable (state_of n) ≡ u → (list_end_face n k ≡ told 19 0) × (list_end_room n room ≡ room)
    go false u e f = let h : 16383 < n = omega (arith, ltb-false n 16384 e) in (sym (none_list_end n h k), sym (none_end_room n h room))
    go true true e f = absurd (never (state_of n) f (number_back n (ltb-true n 16384 e)))
    go true false e f = unfit_list_end n k room e f

-- the same of a lister, and of a room below 399 bytes
pub unfit_list : (n : ℕ) (b p room : List ℕ) → leb 399 (length room) && lister.fit (state_of n) b ≡ false
    → (list_face n b p room ≡ no_call n) × (list_buffer n b p room ≡ b) × (list_room n b p room ≡ room)
unfolding list_face list_buffer list_room call_of
unfit_list n b p room e = go (ltb n 16384) (leb 399 (length room)) (lister.fit (state_of n) b) refl e
  where
    told_of_lem : Bool → Bool → lister.Call
    told_of_lem t u =
        cond t (cond u (lister.joined (join_of (state_of n) b p) room) (lister.refused19 (state_of n) b room)) (lister.refused19 (state_of n) b room)

    refused : ltb n 16384 ≡ true → listed_of (lister.refused19 (state_of n) b room).answer ≡ no_call n
    refused f = ap no_call (number_back n (ltb-true n 16384 f))

    go : (v t u : Bool) → ltb n 16384 ≡ v → t && u ≡ false
        → (cond v (listed_of (told_of_lem t u).answer) (no_call n) ≡ no_call n) × (cond v (told_of_lem t u).buffer b ≡ b) × (cond v (told_of_lem t u).room room ≡ room)
    go false t u f g = (refl, refl, refl)
    go true false u f g = (refused f, refl, refl)
    go true true false f g = (refused f, refl, refl)
    go true true true f g = absurd (true≢false g)
