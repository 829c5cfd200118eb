-- How far a machine goes over a text: how many bytes it takes before it is off.
use Rattle.std.specs.Prelude.{ℕ, suc, List, [], ◌∷◌, Bool, cond}

unfoldable pub reach_by : {S : Type 0} → (S → ℕ → S) → (S → Bool) → S → List ℕ → ℕ
reach_by step off q [] = 0
reach_by step off q (b ∷ s) =
    let more = suc (reach_by step off (step q b) s) in
    cond (off (step q b)) 0 more
