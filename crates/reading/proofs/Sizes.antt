-- What is written has the size that its kind's byte fixes, by `words`' table of bodies. Assumes nothing.
use Prim.Native.Nat.{ℕ, ◌+◌, ◌≤◌}
use mathlib.Core.Path.{◌≡◌, refl}
use mathlib.Core.List.{[]}
use native.Mathlib.Omega.{arith}
use lib.ListN.{length, get_or}
use Rattle.words.specs.declared.Kind.{Kind}
use Rattle.words.specs.declared.Kind.TheVariants.{Mere, Keep, Level, Place, Entries}
use Rattle.words.specs.Words.{kind_of, bodies, body_of, record_len}
use Rattle.reading.specs.declared.Shown.{Shown}
use Rattle.reading.specs.declared.Shown.TheVariants as shown
use Rattle.reading.specs.Records.{bytes_of, option_fields, record_of, read_records, refusal_record, cut_record}

option_sized : (k e : ℕ) (d : Kind) → length (bytes_of (option_fields k d e)) ≡ record_len (get_or (bytes_of (option_fields k d e)) 0 0)
unfolding record_len body_of bodies
option_sized k e Mere = refl
option_sized k e Keep = refl
option_sized k e Level = refl
option_sized k e Place = refl
option_sized k e Entries = refl

-- the record of a part: verb, option, target, property; an option that takes an argument has none of its own
pub record_sized : (x : Shown) (a n : ℕ) → length (record_of x a n) ≡ record_len (get_or (record_of x a n) 0 0)
unfolding record_len body_of bodies
record_sized (shown.Verb k) a n = refl
record_sized (shown.Option k) a n = option_sized k (a + n) (kind_of k)
record_sized (shown.Argument k) a n = refl
record_sized shown.Target a n = refl
record_sized (shown.Property m o) a n = refl

-- a refusal, blank, a cut
pub refusal_sized : (k p : ℕ) → length (refusal_record k p) ≡ record_len 5
unfolding record_len body_of bodies
refusal_sized k p = refl

pub blank_sized : length (read_records []) ≡ record_len 6
unfolding record_len body_of bodies
blank_sized = refl

pub cut_sized : length cut_record ≡ record_len 7
unfolding record_len body_of bodies
cut_sized = refl

-- no record of a part has more than ten bytes
pub size_most : (x : Shown) (a n : ℕ) → length (record_of x a n) ≤ 10
size_most (shown.Verb k) a n = omega arith
size_most (shown.Option k) a n = go (kind_of k)
  where
    go : (d : Kind) → length (bytes_of (option_fields k d (a + n))) ≤ 10
    go Mere = omega arith
    go Keep = omega arith
    go Level = omega arith
    go Place = omega arith
    go Entries = omega arith
size_most (shown.Argument k) a n = omega arith
size_most shown.Target a n = omega arith
size_most (shown.Property m o) a n = omega arith
