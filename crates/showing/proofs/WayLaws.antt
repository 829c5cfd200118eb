-- A line of an input, where to go on in a part, a part of an input, and a number in it. Assumes nothing.
use Prim.Native.Nat.{ℕ, suc, ◌+◌, ◌-◌, ◌*◌, ◌≤◌, ◌<◌}
use mathlib.Core.List.{List}
use mathlib.Core.Bool.{Bool, not}
use mathlib.Core.Path.{◌≡◌, refl, ap}
use native.Mathlib.Omega.{arith}
use lib.ListN.{length, get_or}
use lib.Dec.{eqb}
use borrow.Author.Tests.{eq-eqb, ne_eqb, le-leb, lt-leb, lt-ltb, le-ltb}
use Rattle.std.proofs.Common.{Some, None}
use Rattle.text.proofs.Scans.{run_on, run_ends, run_past}
use Rattle.showing.specs.Ways.{line_len, onward_to, PartIs, TwoIs}

-- a line from a place on: another byte there, an LF there, past the end
unfoldable pub in_line : ℕ → Bool
in_line b = not (eqb b 10)

module _ (s : List ℕ) (i : ℕ) where
  pub line_on : i < length s → (get_or s i 0 ≡ 10 → ⊥) → line_len s i ≡ suc (line_len s (i + 1))
  unfolding line_len in_line
  line_on h e = run_on in_line s i h (ap not (ne_eqb (get_or s i 0) 10 e))

  pub line_ends_lem : i < length s → get_or s i 0 ≡ 10 → line_len s i ≡ 0
  unfolding line_len in_line
  line_ends_lem h e = run_ends in_line s i h (ap not (eq-eqb (get_or s i 0) 10 e))

  pub line_past : length s ≤ i → line_len s i ≡ 0
  unfolding line_len in_line
  line_past h = run_past in_line s i h

-- where to go on: at the end, after a call that used none, after one that used more than are left, after any other
module _ (at used len : ℕ) where
  pub on_end : len ≤ at → len ≡ onward_to at used len
  unfolding onward_to
  on_end h = simp (le-leb len at h)

  pub on_none : at < len → used ≡ 0 → len ≡ onward_to at used len
  unfolding onward_to
  on_none h e = simp (lt-leb len at h, eq-eqb used 0 e)

  pub on_more : at < len → (used ≡ 0 → ⊥) → len - at < used → len ≡ onward_to at used len
  unfolding onward_to
  on_more h e k = simp (lt-leb len at h, ne_eqb used 0 e, lt-ltb (len - at) used k)

  pub on_there : at < len → (used ≡ 0 → ⊥) → used ≤ len - at → at + used ≡ onward_to at used len
  unfolding onward_to
  on_there h e k = simp (lt-leb len at h, ne_eqb used 0 e, le-ltb (len - at) used k)

pub part_cut : (s : List ℕ) (at skip len : ℕ) → length s < at + skip + len → PartIs s at skip len None
part_cut s at skip len h = h

pub part_there : (s : List ℕ) (at skip len : ℕ) → at + skip + len ≤ length s → PartIs s at skip len (Some (record { start = at + skip; end = at + skip + len }))
part_there s at skip len h = (refl, refl, h)

pub two_missing : (s : List ℕ) (at skip : ℕ) → length s < at + skip + 2 → TwoIs s at skip 0
two_missing s at skip h = record { there = λ g. absurd (omega arith); missing = λ _. refl }

pub two_there : (s : List ℕ) (at skip start r : ℕ) → at + skip + 2 ≤ length s → start ≡ at + skip → r ≡ 256 * get_or s start 0 + get_or s (start + 1) 0 → TwoIs s at skip r
two_there s at skip start r h e p = record { there = λ _. rw e at p; missing = λ g. absurd (omega arith) }
