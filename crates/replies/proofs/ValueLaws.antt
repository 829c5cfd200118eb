-- What a raw value stands for, test by test. Assumes nothing.
use Prim.Native.Nat.{ℕ, ◌-◌}
use mathlib.Core.Path.{◌≡◌, refl, sym, ap}
use mathlib.Core.List.{List, [], ◌∷◌}
use mathlib.Core.Bool.{true, false}
use mathlib.Core.Option as math
use native.Mathlib.Omega.{arith}
use lib.ListN.{length, drop}
use lib.Dec.{eqb}
use Rattle.std.proofs.Common.{None, Some, Result, Err}
use Rattle.text.specs.declared.Refusal.{Refusal}
use Rattle.text.specs.Room.{fitted, filled, refusal_at}
use Rattle.terms.specs.declared.Mode.TheVariants.{In}
use Rattle.terms.specs.Signs.{meant}
use Rattle.replies.specs.Lines.{begins, is_quote, quote_len}
use Rattle.replies.specs.Items.{plain_of, closes_at, is_value, value_answer, value_room}
use Rattle.replies.specs.Steps.{closed_by}

pub value_empty : (raw : List ℕ) → length raw ≡ 0 → true ≡ is_value raw
unfolding is_value
value_empty [] h = refl
value_empty (b ∷ s) h = absurd (omega arith)

module _ (raw : List ℕ) where
  pub value_plain : begins is_quote raw ≡ false → true ≡ is_value raw
  unfolding is_value
  value_plain e = rw e

  module _ (e : begins is_quote raw ≡ true) where
    pub value_open : closed_by (quote_len In (drop 1 raw)) ≡ None → false ≡ is_value raw
    unfolding is_value
    value_open q = rw e (go (quote_len In (drop 1 raw)) q)
      where
        go : (o : math.Option ℕ) → closed_by o ≡ None → false ≡ closes_at (length raw - 1) o
        go math.none z = refl
        go (math.some n) z = cc

    pub value_closed : (n : ℕ) → closed_by (quote_len In (drop 1 raw)) ≡ Some n → eqb n (length raw - 1) ≡ is_value raw
    unfolding is_value
    value_closed n q = rw e (go (quote_len In (drop 1 raw)) q)
      where
        same : (m : ℕ) → Some m ≡ Some n → m ≡ n
        same m z = cc

        go : (o : math.Option ℕ) → closed_by o ≡ Some n → eqb n (length raw - 1) ≡ closes_at (length raw - 1) o
        go math.none z = cc
        go (math.some m) z = ap (λ (k : ℕ). eqb k (length raw - 1)) (sym (same m z))

  -- the answer and the room
  module _ (room : List ℕ) where
    pub value_none : is_value raw ≡ false → (Err (refusal_at 21 0) ≡ value_answer (length room) raw) × (room ≡ value_room room raw)
    unfolding value_answer value_room
    value_none e = simp e (refl, refl)

    module _ (e : is_value raw ≡ true) (a : Result ℕ Refusal) (room' : List ℕ) where
      pub value_quoted : begins is_quote raw ≡ true → a ≡ fitted (length room) (meant raw) → room' ≡ filled room (meant raw)
          → (a ≡ value_answer (length room) raw) × (room' ≡ value_room room raw)
      unfolding value_answer value_room plain_of
      value_quoted q x y = simp (e, q) (x, y)

      pub value_bare : begins is_quote raw ≡ false → a ≡ fitted (length room) raw → room' ≡ filled room raw → (a ≡ value_answer (length room) raw) × (room' ≡ value_room room raw)
      unfolding value_answer value_room plain_of
      value_bare q x y = simp (e, q) (x, y)
