-- The command, 3: the target, `SESSION` or a path, on a term's raw bytes: no escapes.
use Rattle.std.specs.Prelude.{ℕ, List, [], ◌∷◌, Bool, true, false, cond, not, ◌&&◌, ◌||◌, length, take, drop, get_or, eqb, leb}
use Rattle.std.proofs.Math.Option.{Option, none, some}
use Rattle.text.specs.Bytes.{bytes, same_bytes, is_letter}
use Rattle.text.specs.Lists.{run_len, parts, is_nil}
use Rattle.text.specs.Decimal.{value_from, is_decimal}
use Rattle.words.specs.Words.{session_name}

abbrev pub is_separator : ℕ → Bool
is_separator b = eqb b 47 || eqb b 92

-- ---- segments

-- a tag of 1 to 16 letters
unfoldable pub tag_len : List ℕ → ℕ
tag_len s = run_len is_letter s

abbrev pub is_tag_len : ℕ → Bool
is_tag_len n = leb 1 n && leb n 16

-- with a number 1 to 65,535 without leading zero
abbrev pub is_number : List ℕ → Bool
is_number d = is_decimal 65535 d && not (eqb (get_or d 0 0) 48)

unfoldable pub is_numbered : List ℕ → Bool
is_numbered s = is_tag_len (tag_len s) && is_number (drop (tag_len s) s)

-- or, as the last segment, with `*`
unfoldable pub is_starred : List ℕ → Bool
is_starred s = is_tag_len (tag_len s) && same_bytes (drop (tag_len s) s) (bytes "*")

-- A segment is `.`, `..`, or a tag with a number.
unfoldable pub is_segment : List ℕ → Bool
is_segment s = same_bytes s (bytes ".") || (same_bytes s (bytes "..") || is_numbered s)

-- the last may be a tag with `*`
unfoldable pub are_segments : List (List ℕ) → Bool
are_segments [] = false
are_segments (s ∷ []) = is_segment s || is_starred s
are_segments (s ∷ r ∷ rs) = is_segment s && are_segments (r ∷ rs)

-- what a segment says
pub data Segment : Type 0 where
  here : Segment
  above : Segment
  child : List ℕ → ℕ → Segment
  children : List ℕ → Segment

unfoldable pub segment_of : List ℕ → Option Segment
segment_of s =
    let tag = take (tag_len s) s in
    cond (same_bytes s (bytes ".")) (some here)
    (cond (same_bytes s (bytes "..")) (some above)
    (cond (is_numbered s) (some (child tag (value_from 0 (drop (tag_len s) s))))
    (cond (is_starred s) (some (children tag)) none)))

-- ---- the target

-- a path says whether a separator leads it, and its segments as given
pub data Target : Type 0 where
  session : Target
  path : Bool → List (List ℕ) → Target

-- segments parted by one `/` or `\`, at most 16
unfoldable pub segments_of : Bool → List ℕ → Option Target
segments_of rooted t =
    let p = parts is_separator t in
    cond (are_segments p && leb (length p) 16) (some (path rooted p)) none

-- an optional leading `/` or `\`; `/` or `\` alone is the root
unfoldable pub path_of : List ℕ → Option Target
path_of [] = none
path_of (b ∷ s) = cond (is_separator b) (cond (is_nil s) (some (path true [])) (segments_of true s)) (segments_of false (b ∷ s))

unfoldable pub target_of : List ℕ → Option Target
target_of t = cond (same_bytes t session_name) (some session) (path_of t)
