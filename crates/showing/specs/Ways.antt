-- Where the parts of an input stand.
use Rattle.std.specs.Prelude.{ℕ, ◌+◌, ◌-◌, ◌*◌, ◌≤◌, ◌<◌, List, cond, not, ◌||◌, ◌≡◌, length, get_or, drop, eqb, leb, ltb, Option, MatchOption, take}
use Rattle.std.specs.Borrow.{Bor}
use Rattle.text.specs.Lists.{run_len}
use Rattle.showing.specs.declared.Stretch.{Stretch}

-- how many bytes stand from a place on before the next LF, or before the end
unfoldable pub line_len : List ℕ → ℕ → ℕ
line_len s at = run_len (λ b. not (eqb b 10)) (drop at s)

-- r is the line that s begins with, without its LF, and what follows, or says that s is empty
abbrev pub LineIs : List ℕ → Option (Bor (List ℕ) × Bor (List ℕ)) → Type 0
LineIs s r = MatchOption r (length s ≡ 0) (λ p. (0 < length s) × (p.0.now ≡ take (line_len s 0) s) × (p.1.now ≡ drop (line_len s 0 + 1) s))

-- where to go on in a part of len bytes after a call that used some from a place on: its end where the call used none, or more than are left
unfoldable pub onward_to : ℕ → ℕ → ℕ → ℕ
onward_to at used len = cond (leb len at || (eqb used 0 || ltb (len - at) used)) len (at + used)

-- r is where the part of len bytes stands that begins skip bytes after a place of s, or says that s is cut before the part's end
abbrev pub PartIs : List ℕ → ℕ → ℕ → ℕ → Option Stretch → Type 0
PartIs s at skip len r = MatchOption r (length s < at + skip + len) (λ p. (p.start ≡ at + skip) × (p.end ≡ at + skip + len) × (p.end ≤ length s))

-- r is the number in the two bytes of s, high first, that begin skip bytes after a place, or 0 where they are not there
pub record TwoIs (s : List ℕ) (at skip r : ℕ) : Type 0 where
  pub there : at + skip + 2 ≤ length s → r ≡ 256 * get_or s (at + skip) 0 + get_or s (at + skip + 1) 0
  pub missing : length s < at + skip + 2 → r ≡ 0
