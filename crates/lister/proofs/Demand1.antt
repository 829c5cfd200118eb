-- Demand 1: on a refusal nothing lent to a lister has changed. Assumes nothing.
use Prim.Native.Nat.{ℕ}
use mathlib.Core.Path.{◌≡◌, refl}
use mathlib.Core.List.{List}
use mathlib.Core.Bool.{Bool, true, false, cond}
use native.Mathlib.Omega.{arith}
use lib.ListN.{length}
use lib.Dec.{leb}
use Rattle.text.specs.Room.{filled}
use Rattle.joiner.specs.declared.Joiner.{Joiner}
use Rattle.joiner.specs.declared.End.{End}
use Rattle.joiner.specs.declared.End.TheVariants as end'
use Rattle.joiner.specs.Join.{join_of}
use Rattle.lister.specs.Lister.{Call, stands_by, joined, refused19, fit, call_of, end_stands, end_room}
use Rattle.std.proofs.Common.{Result, Ok, Err, Option, Some, None}
use Rattle.text.specs.Room.{refusal_at}
use Rattle.text.specs.declared.Refusal.{Refusal}

-- a call: nothing is used either, and the state comes back as it was
pub list_kept : (s : Joiner) (b p room : List ℕ) (k q : ℕ) → (call_of s b p room).answer.stands ≡ Err (refusal_at k q)
    → ((call_of s b p room).buffer ≡ b) × ((call_of s b p room).room ≡ room) × ((call_of s b p room).answer.state ≡ s) × ((call_of s b p room).answer.used ≡ 0)
unfolding call_of
list_kept s b p room k q = go (leb 399 (length room)) (fit s b)
  where
    call : Bool → Bool → Call
    call t u = cond t (cond u (joined (join_of s b p) room) (refused19 s b room)) (refused19 s b room)

    -- what was joined is records, or nothing yet
    never : (o : Result (Option ℕ) Refusal) (c : List ℕ) → stands_by o c ≡ Err (refusal_at k q) → ⊥
    never (Ok None) c e = let z : ◌≡◌ {A = ℕ} 0 1 = cc in omega arith
    never (Ok (Some n)) c e = let z : ◌≡◌ {A = ℕ} 0 1 = cc in omega arith
    never (Err x) c e = let z : ◌≡◌ {A = ℕ} 0 1 = cc in omega arith

    go : (t u : Bool) → (call t u).answer.stands ≡ Err (refusal_at k q)
        → ((call t u).buffer ≡ b) × ((call t u).room ≡ room) × ((call t u).answer.state ≡ s) × ((call t u).answer.used ≡ 0)
    go false u e = (refl, refl, refl, refl)
    go true false e = (refl, refl, refl, refl)
    go true true e = absurd (never (join_of s b p).answer.outcome (join_of s b p).buffer e)

-- the end of a capture, listed
pub end_kept : (room : List ℕ) (e : Result End Refusal) (k p : ℕ) → end_stands (length room) e ≡ Err (refusal_at k p) → end_room room e ≡ room
unfolding filled
end_kept room (Ok end'.Nothing) k p h = refl
end_kept room (Err e) k p h = refl
end_kept room (Ok end'.Cut) k p h = go (leb 1 (length room)) refl h
  where
    go : (b : Bool) → leb 1 (length room) ≡ b → ◌≡◌ {A = Result (Option ℕ) Refusal} (cond b (Ok (Some 1)) (Err (refusal_at 19 0))) (Err (refusal_at k p)) → end_room room (Ok end'.Cut) ≡ room
    go true g f = let z : ◌≡◌ {A = ℕ} 0 1 = cc in absurd (omega arith)
    go false g f = rw g
