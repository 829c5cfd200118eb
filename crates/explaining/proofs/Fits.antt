-- No line's text is longer than 32,768 bytes, so that a room of that size is always enough. Assumes nothing.
use Prim.Native.Nat.{ℕ, ◌+◌, ◌*◌, ◌≤◌}
use mathlib.Core.Path.{◌≡◌, refl}
use mathlib.Core.List.{List, [], ◌∷◌, ◌++◌}
use mathlib.Core.Bool.{Bool, true, false, cond}
use native.Mathlib.Omega.{arith}
use lib.ListN.{length, take, drop, replicate, length-append, length-take, length-drop, length-replicate}
use lib.Dec.{eqb}
use Rattle.text.specs.Bytes.{bytes}
use Rattle.text.specs.Decimal.{digits}
use Rattle.text.specs.Room.{fitted}
use Rattle.text.proofs.Decimals.{width_between, length_digits}
use Rattle.text.proofs.Writes.{fitted_room}
use Rattle.words.specs.declared.Kind.{Kind}
use Rattle.words.specs.declared.Kind.TheVariants.{Mere, Keep, Level, Place, Entries}
use Rattle.words.specs.Words.{verb_name, kind_of}
use Rattle.words.proofs.WordLaws.{verb_short, option_short}
use Rattle.reading.specs.declared.Shown.{Shown}
use Rattle.reading.specs.declared.Shown.TheVariants as item
use Rattle.reading.specs.Command.{shown_of}
use Rattle.reading.specs.Reading.{Part, Reading, refusal, read, reading_of}
use Rattle.reading.specs.Inside.{parts_in_order}
use Rattle.reading.proofs.PartOrder.{read_walk, parts_in_order_lem, bounds, order_ends}
use Rattle.reading.proofs.Folds.{fine_short}
use Rattle.explaining.specs.Words.{words_of}
use Rattle.explaining.specs.Explained.{visible, newline, option_label, option_text, operator_text, value_text, part_text, parts_text, mark_text, where_text, reason_text, refused_text, blank_text, explained_in, explained_of}
use Rattle.explaining.proofs.PutLaws.{visible_short, words_short}
use Rattle.std.proofs.Common.{Ok}

-- ---- one part

label_most : (n : ℕ) → length (option_label n) ≤ 20
unfolding bytes
label_most n = omega (arith, option_short n)

option_most : (n : ℕ) (k : Kind) → length (option_text n k) ≤ 21
option_most n Mere = omega (arith, label_most n, length-append (option_label n) newline)
option_most n Keep = omega arith
option_most n Level = omega arith
option_most n Place = omega arith
option_most n Entries = omega arith

operator_most : (x : Bool) → length (cond x (bytes " = ") (bytes " == ")) ≤ 4
unfolding bytes
operator_most true = omega arith
operator_most false = omega arith

value_most : (o : ℕ) (v : List ℕ) → length (value_text o v) ≤ 4 + 4 * length v
value_most o v = go (eqb o 0)
  where
    go : (x : Bool) → length (cond x [] (operator_text o ++ visible v)) ≤ 4 + 4 * length v
    go true = omega arith
    go false = omega (arith, operator_most (eqb o 1), visible_short v, length-append (operator_text o) (visible v))

pub part_most : (x : Shown) (t : List ℕ) → length (part_text x t) ≤ 23 + 4 * length t
unfolding bytes
part_most (item.Verb n) t = omega (arith, verb_short n, length-append (verb_name n) newline)
part_most (item.Option n) t = omega (arith, option_most n (kind_of n))
part_most (item.Argument n) t =
    omega (arith, label_most n, visible_short t, length-append (visible t) newline, length-append (option_label n) (bytes ": " ++ (visible t ++ newline)))
part_most item.Target t = omega (arith, visible_short t, length-append (visible t) newline)
part_most (item.Property m o) t =
    let v = drop (m + o) t in
    omega (
      arith,
      visible_short (take m t),
      value_most o v,
      length-take m t,
      length-drop (m + o) t,
      length-append (value_text o v) newline,
      length-append (visible (take m t)) (value_text o v ++ newline),
    )

-- ---- the parts: each has a byte or more, and no two overlap

parts_most : (line : List ℕ) (from end : ℕ) (ps : List Part) → parts_in_order from end ps ≡ true → length (parts_text line ps) + 27 * from ≤ 27 * end
unfolding parts_text
parts_most line from end [] o = omega (arith, order_ends from end [] o)
parts_most line from end (p ∷ ps) o =
    let b = bounds from end p ps o in
    let t = take p.len (drop p.start line) in
    let ih = parts_most line (p.start + p.len) end ps b.rest in
    omega (
      arith,
      b.low,
      b.some,
      part_most (shown_of p.item) t,
      length-take p.len (drop p.start line),
      length-append (part_text (shown_of p.item) t) (parts_text line ps),
    )

-- ---- a refusal

number_most : (n : ℕ) → length (digits n) ≤ 5
number_most n = omega (arith, (width_between n).1, length_digits n)

where_most : (n p : ℕ) → length (where_text n p) ≤ 29
unfolding bytes
where_most n p =
    omega (
      arith,
      number_most n,
      number_most p,
      length-append (digits p) (bytes ": "),
      length-append (digits n) (bytes " at " ++ (digits p ++ bytes ": ")),
    )

pub refused_most : (line : List ℕ) (n p : ℕ) → length (refused_text line n p) ≤ 8480
unfolding refused_text
refused_most line n p =
    let s = take 1024 line in
    let b = take p s in
    omega (
      arith,
      length-take 1024 line,
      length-take p s,
      visible_short s,
      visible_short b,
      where_most n p,
      words_short n,
      length-replicate {A = ℕ} (length (visible b)) 32,
      length-append (words_of n) newline,
      length-append (where_text n p) (words_of n ++ newline),
      length-append (replicate {A = ℕ} (length (visible b)) 32) (94 ∷ newline),
      length-append (mark_text b) (reason_text n p),
      length-append (visible s) (newline ++ (mark_text b ++ reason_text n p)),
    )

-- ---- A LINE'S TEXT

pub explained_most : (line : List ℕ) → length (explained_of line) ≤ 32768
unfolding explained_of blank_text bytes
explained_most line = go (reading_of line) refl
  where
    go : (r : Reading) → reading_of line ≡ r → length (explained_in line r) ≤ 32768
    go (refusal n p) e = omega (arith, refused_most line n p)
    go (read []) e = omega arith
    go (read (p ∷ ps)) e =
        omega (
          arith,
          fine_short line (read_walk line (p ∷ ps) e).0,
          visible_short line,
          parts_most line 0 (length line) (p ∷ ps) (parts_in_order_lem line (p ∷ ps) e),
          length-append (visible line) (newline ++ parts_text line (p ∷ ps)),
        )

-- in such a room it is never refused
pub always_told : (line : List ℕ) (room : ℕ) → 32768 ≤ room → fitted room (explained_of line) ≡ Ok (length (explained_of line))
always_told line room h = fitted_room room (explained_of line) (omega (arith, explained_most line))

pub always_refused_told : (line : List ℕ) (n p room : ℕ) → 32768 ≤ room → fitted room (refused_text line n p) ≡ Ok (length (refused_text line n p))
always_refused_told line n p room h = fitted_room room (refused_text line n p) (omega (arith, refused_most line n p))
