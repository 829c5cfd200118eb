-- Worked captures, with the lines that they give and what their end says, as one statement about one list; and the limit. They are computed.
-- Assumes nothing.
use Prim.Native.Nat.{ℕ}
use mathlib.Core.Path.{◌≡◌, refl}
use mathlib.Core.List.{List, [], ◌∷◌, ◌++◌, map}
use lib.ListN.{replicate}
use Rattle.joiner.specs.Lines.{byte_kind, Given, line, refused, next_open, lines_from, lines_of, line_or_refused, Ending, cut, nothing, open_after, ending_from, ending_of}

abbrev pub Example : Type 0
Example = List ℕ × List Given × Ending

abbrev pub examples : List Example
examples =
    -- nothing
    ([], [], nothing) ∷
    -- a line
    (115 ∷ 104 ∷ 111 ∷ 119 ∷ 10 ∷ [], line (115 ∷ 104 ∷ 111 ∷ 119 ∷ []) ∷ [], nothing) ∷
    -- a join before CR LF
    (115 ∷ 104 ∷ 96 ∷ 13 ∷ 10 ∷ 111 ∷ 119 ∷ 10 ∷ [], line (115 ∷ 104 ∷ 111 ∷ 119 ∷ []) ∷ [], nothing) ∷
    -- CR LF is one end, CR one, LF one
    (97 ∷ 13 ∷ 10 ∷ 98 ∷ 13 ∷ 99 ∷ 10 ∷ 10 ∷ [], line (97 ∷ []) ∷ line (98 ∷ []) ∷ line (99 ∷ []) ∷ line ([]) ∷ [], nothing) ∷
    -- pairs run from the left: the GRAVE before the first end is escaped, the third before the second is not
    (97 ∷ 96 ∷ 96 ∷ 10 ∷ 98 ∷ 96 ∷ 96 ∷ 96 ∷ 10 ∷ 99 ∷ 10 ∷ [], line (97 ∷ 96 ∷ 96 ∷ []) ∷ line (98 ∷ 96 ∷ 96 ∷ 99 ∷ []) ∷ [], nothing) ∷
    -- a quote holds no line open
    (114 ∷ 101 ∷ 115 ∷ 101 ∷ 116 ∷ 32 ∷ 34 ∷ 111 ∷ 115 ∷ 49 ∷ 13 ∷ 10 ∷ 115 ∷ 101 ∷ 116 ∷ 32 ∷ 97 ∷ 61 ∷ 34 ∷ 98 ∷ 10 ∷ 99 ∷ 34 ∷ 10 ∷ [], line (114 ∷ 101 ∷ 115 ∷ 101 ∷ 116 ∷ 32 ∷ 34 ∷ 111 ∷ 115 ∷ 49 ∷ []) ∷ line (115 ∷ 101 ∷ 116 ∷ 32 ∷ 97 ∷ 61 ∷ 34 ∷ 98 ∷ []) ∷ line (99 ∷ 34 ∷ []) ∷ [], nothing) ∷
    -- a line that has not ended
    (99 ∷ 100 ∷ [], [], cut) ∷
    -- one byte of it
    (99 ∷ [], [], cut) ∷
    -- a capture that begins with an end of line
    (10 ∷ [], line ([]) ∷ [], nothing) ∷
    -- a GRAVE that waits
    (120 ∷ 10 ∷ 96 ∷ [], line (120 ∷ []) ∷ [], cut) ∷
    -- a join, and nothing else held
    (120 ∷ 10 ∷ 96 ∷ 10 ∷ [], line (120 ∷ []) ∷ [], nothing) ∷
    -- a join by CR, its LF dropped, and then an end of line
    (96 ∷ 13 ∷ 10 ∷ 10 ∷ [], line ([]) ∷ [], nothing) ∷
    -- a pair, and a byte that needs no escape
    (115 ∷ 101 ∷ 116 ∷ 32 ∷ 78 ∷ 97 ∷ 109 ∷ 101 ∷ 61 ∷ 97 ∷ 96 ∷ 32 ∷ 98 ∷ 13 ∷ [], line (115 ∷ 101 ∷ 116 ∷ 32 ∷ 78 ∷ 97 ∷ 109 ∷ 101 ∷ 61 ∷ 97 ∷ 96 ∷ 32 ∷ 98 ∷ []) ∷ [], nothing) ∷
    []

pub worked : map {B = Example} (λ (e : Example). (e.0, lines_of e.0, ending_of e.0)) examples ≡ examples
unfolding lines_of lines_from next_open byte_kind line_or_refused ending_of ending_from open_after
worked = refl

-- a line of 1,024 bytes is one, and with a byte more it is refused as 1 at 1,024, its first 1,024 bytes kept
pub limit : lines_of (replicate 1024 97 ++ (10 ∷ []) ++ replicate 1025 97 ++ (13 ∷ [])) ≡ line (replicate 1024 97) ∷ refused 1 1024 (replicate 1024 97) ∷ []
unfolding lines_of lines_from next_open byte_kind line_or_refused
limit = refl

-- a pair across the limit leaves its GRAVE as the last byte kept, and joins are followed in the part thrown away
pub across : lines_of (replicate 1023 97 ++ (96 ∷ 98 ∷ 96 ∷ 10 ∷ 99 ∷ 10 ∷ [])) ≡ refused 1 1024 (replicate 1023 97 ++ (96 ∷ [])) ∷ []
unfolding lines_of lines_from next_open byte_kind line_or_refused
across = refl
