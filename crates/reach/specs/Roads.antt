-- The machine for targets, as the code has it: k segments came before. proofs/Longest has it that it goes as far as the paper says.
use Rattle.std.specs.Prelude.{ℕ, ◌+◌, Bool, true, false, cond, ◌&&◌, eqb, ltb, Option, Some, None}
use Rattle.text.specs.Bytes.{is_letter}
use Rattle.forms.specs.Targets.{is_separator}
use Rattle.reach.specs.declared.Road.{Road}
use Rattle.reach.specs.declared.Road.TheVariants as road
use Rattle.reach.specs.Numbers.{digit_more}

-- the first byte of a segment
unfoldable pub start_step : ℕ → ℕ → Road
start_step k b = cond (eqb b 46) (road.Dot k) (cond (is_letter b) (road.Tag k 1) road.Off)

-- after a whole segment: a separator, where another segment may follow
unfoldable pub part_step : ℕ → ℕ → Road
part_step k b = cond (is_separator b && ltb k 15) (road.Start (k + 1)) road.Off

abbrev pub numbered_or : ℕ → Road → Option ℕ → Road
numbered_or k other (Some v) = road.Number k v
numbered_or k other None = other

-- after a tag: `*`, or the first digit of its number
unfoldable pub tag_end : ℕ → ℕ → Road
tag_end k b = cond (eqb b 42) road.Star (cond (eqb b 48) road.Off (numbered_or k road.Off (digit_more 65535 0 b)))

-- after n letters of a tag
unfoldable pub tag_step : ℕ → ℕ → ℕ → Road
tag_step k n b = cond (is_letter b) (cond (ltb n 16) (road.Tag k (n + 1)) road.Off) (tag_end k b)

-- after a tag and digits of the value v
unfoldable pub number_step : ℕ → ℕ → ℕ → Road
number_step k v b = numbered_or k (part_step k b) (digit_more 65535 v b)

abbrev pub road_step : Road → ℕ → Road
road_step road.Lead b = cond (is_separator b) (road.Start 0) (start_step 0 b)
road_step (road.Start k) b = start_step k b
road_step (road.Dot k) b = cond (eqb b 46) (road.Dots k) (part_step k b)
road_step (road.Dots k) b = part_step k b
road_step (road.Tag k n) b = tag_step k n b
road_step (road.Number k v) b = number_step k v b
road_step road.Star b = road.Off
road_step road.Off b = road.Off

abbrev pub is_off_road : Road → Bool
is_off_road road.Lead = false
is_off_road (road.Start k) = false
is_off_road (road.Dot k) = false
is_off_road (road.Dots k) = false
is_off_road (road.Tag k n) = false
is_off_road (road.Number k v) = false
is_off_road road.Star = false
is_off_road road.Off = true
