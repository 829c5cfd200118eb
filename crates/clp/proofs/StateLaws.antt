-- The state as a number and back: nothing is lost, and no two states share a number. Assumes nothing.
use Prim.Native.Nat.{ℕ, zero, suc, ◌+◌, ◌*◌, ◌/◌, ◌%◌, ◌<◌, ◌≤◌}
use mathlib.Core.Path.{◌≡◌, refl, sym, ap, ◌∙◌}
use mathlib.Core.Bool.{Bool, true, false, cond}
use native.Mathlib.Omega.{arith}
use borrow.Author.Tests.{eq-eqb, ne_eqb}
use lib.Dec.{eqb}
use Rattle.joiner.specs.declared.Joiner.{Joiner}
use Rattle.joiner.specs.Step.{st, reachable}
use Rattle.joiner.proofs.Reach.{to_fine}
use Rattle.clp.specs.State.{mark, state_number, state_of}

-- a flag as 0 or 1
abbrev bit : Bool → ℕ
bit b = cond b 1 0

bit_most : (b : Bool) → bit b ≤ 1
bit_most true = omega arith
bit_most false = omega arith

bit_back : (b : Bool) (n : ℕ) → n ≡ bit b → eqb n 1 ≡ b
bit_back true n e = eq-eqb n 1 e
bit_back false n e = ne_eqb n 1 (omega arith)

mark_bits : (g r o : Bool) → (mark g 2048 ≡ 2048 * bit g) × (mark r 4096 ≡ 4096 * bit r) × (mark o 8192 ≡ 8192 * bit o)
mark_bits g r o = (go_g g, go_r r, go_o o)
  where
    go_g : (b : Bool) → mark b 2048 ≡ 2048 * bit b
    go_g true = refl
    go_g false = refl

    go_r : (b : Bool) → mark b 4096 ≡ 4096 * bit b
    go_r true = refl
    go_r false = refl

    go_o : (b : Bool) → mark b 8192 ≡ 8192 * bit b
    go_o true = refl
    go_o false = refl

-- a state's number by its parts
number_bits : (s : Joiner) → state_number s ≡ s.held + 2048 * bit s.grave + 4096 * bit s.cr + 8192 * bit s.over
unfolding state_number
number_bits s = let m = mark_bits s.grave s.cr s.over in rw (m.0, m.1, m.2)

-- the parts of a number
module _ (n h g r o : ℕ) (e : n ≡ h + 2048 * g + 4096 * r + 8192 * o) (hh : h < 2048) (gg : g ≤ 1) (rr : r ≤ 1) (oo : o ≤ 1) where
  low : n % 2048 ≡ h
  low = omega arith

  first : n / 2048 % 2 ≡ g
  first = omega arith

  second : n / 4096 % 2 ≡ r
  second = omega arith

  third : n / 8192 % 2 ≡ o
  third = omega arith

-- A STATE'S NUMBER LEADS BACK TO IT
pub state_back : (s : Joiner) → s.held < 2048 → state_of (state_number s) ≡ s
unfolding state_of
state_back s h =
    let e = number_bits s in
    let n = state_number s in
    let g = bit s.grave in
    let r = bit s.cr in
    let o = bit s.over in
    let g1 = bit_most s.grave in
    let r1 = bit_most s.cr in
    let o1 = bit_most s.over in
    all (low n s.held g r o e h g1 r1 o1) (bit_back s.grave (n / 2048 % 2) (first n s.held g r o e h g1 r1 o1))
    (bit_back s.cr (n / 4096 % 2) (second n s.held g r o e h g1 r1 o1)) (bit_back s.over (n / 8192 % 2) (third n s.held g r o e h g1 r1 o1))
  where
    all : {h' h : ℕ} {g' g r' r o' o : Bool} → h' ≡ h → g' ≡ g → r' ≡ r → o' ≡ o → st h' g' r' o' ≡ st h g r o
    all a b c d = cc

-- every state that a capture leads to
pub led_back : (s : Joiner) → reachable s ≡ true → state_of (state_number s) ≡ s
led_back s h = state_back s (omega (arith, (to_fine s h).within))

-- distinct states have distinct numbers
pub one_number : (s t : Joiner) → reachable s ≡ true → reachable t ≡ true → state_number s ≡ state_number t → s ≡ t
one_number s t h k e = sym (led_back s h) ∙ ap state_of e ∙ led_back t k

-- such a number is below 16,384
pub number_below : (s : Joiner) → reachable s ≡ true → state_number s < 16384
number_below s h =
    omega (arith, number_bits s, (to_fine s h).within, bit_most s.grave, bit_most s.cr, bit_most s.over)

-- and every number below 16,384 is its state's
marked_bit : (n : ℕ) → n < 2 → bit (eqb n 1) ≡ n
marked_bit zero h = refl
marked_bit (suc zero) h = refl
marked_bit (suc (suc n)) h = absurd (omega arith)

quarter : (n : ℕ) → n / 4096 ≡ n / 2048 / 2
quarter n = omega arith

eighth : (n : ℕ) → n / 8192 ≡ n / 2048 / 2 / 2
eighth n = omega arith

parts_sum : (n : ℕ) → n < 16384 → n % 2048 + 2048 * (n / 2048 % 2) + 4096 * (n / 4096 % 2) + 8192 * (n / 8192 % 2) ≡ n
parts_sum n h = rw (quarter n, eighth n) (omega arith)

pub number_back : (n : ℕ) → n < 16384 → state_number (state_of n) ≡ n
unfolding state_of
number_back n h =
    let g = marked_bit (n / 2048 % 2) (omega arith) in
    let r = marked_bit (n / 4096 % 2) (omega arith) in
    let o = marked_bit (n / 8192 % 2) (omega arith) in
    number_bits (state_of n) ∙ rw (g, r, o) (parts_sum n h)
