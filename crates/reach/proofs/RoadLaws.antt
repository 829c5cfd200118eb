-- How far a text goes towards a target: what may follow in each state of its machine, and that each byte leads to what may follow it. Assumes nothing.
use Prim.Native.Nat.{ℕ, suc, ◌+◌, ◌-◌, ◌*◌, ◌<◌, ◌≤◌}
use mathlib.Core.Path.{◌≡◌, refl, sym, ap, ◌∙◌}
use mathlib.Core.List.{List, [], ◌∷◌, ◌++◌, append_assoc}
use mathlib.Core.Bool.{Bool, true, false, cond, not, ◌&&◌, ◌||◌, and-true, and-false, or-false, and_assoc}
use mathlib.Core.Option.{none, some}
use native.Mathlib.Omega.{arith}
use borrow.Author.Tests.{eqb-true, leb-true, ltb-true, ltb-false, leb-false, le-leb, lt-leb, ne_eqb}
use lib.ListN.{length, take, drop}
use lib.Dec.{eqb, leb, ltb}
use Rattle.text.specs.Bytes.{bytes, same_bytes, is_letter, is_digit}
use Rattle.text.specs.Lists.{all_of, any_of, up_to, past, parts, run_len, is_nil}
use Rattle.text.specs.Decimal.{value_from, is_decimal}
use Rattle.text.proofs.Tests.{and_l, and_r, either, no_case}
use Rattle.text.proofs.Classes.{other_byte}
use Rattle.text.proofs.AllAny.{any_split, up_all}
use Rattle.text.proofs.Parts.{parts_none, parts_at, parts_some}
use Rattle.text.proofs.SameTexts.{same_eq}
use Rattle.text.proofs.Decimals.{value_grows}
use Rattle.words.specs.Words.{session_name}
use Rattle.forms.specs.Answers.{is_some}
use Rattle.forms.specs.Targets.{is_separator, tag_len, is_tag_len, is_number, is_numbered, is_starred, is_segment, are_segments, path, segments_of, path_of, target_of}
use Rattle.forms.proofs.Lists.{up_none}
use Rattle.forms.proofs.SegmentBytes.{nil_segment}
use Rattle.forms.proofs.SegmentLaws.{segments_cons}
use Rattle.reach.specs.declared.Form.TheVariants.{Target}
use Rattle.reach.specs.declared.Road.{Road}
use Rattle.reach.specs.declared.Road.TheVariants as road
use Rattle.reach.specs.Forms.{is_of}
use Rattle.reach.specs.Machine.{reach_by}
use Rattle.reach.specs.Numbers.{digit_more}
use Rattle.reach.specs.Roads.{start_step, part_step, numbered_or, tag_end, tag_step, number_step, road_step, is_off_road}
use Rattle.reach.proofs.Far.{Far, far_by}
use Rattle.std.proofs.Common.{Some, None}

-- ---- what may follow

-- the rest of a path after k segments
path_after : ℕ → List ℕ → Bool
path_after k x = are_segments (parts is_separator x) && leb (k + length (parts is_separator x)) 16

-- what follows a segment that k others came before: a separator and the rest of the path, or nothing
then_path : ℕ → List ℕ → Bool
then_path k x = cond (any_of is_separator x) (path_after (k + 1) (past is_separator x)) (leb (k + 1) 16)

-- the rest of such a segment, of the form g, and what follows it; g knows whether the segment is the last
segment_after : (Bool → List ℕ → Bool) → ℕ → List ℕ → Bool
segment_after g k x = g (not (any_of is_separator x)) (up_to is_separator x) && then_path k x

-- the rest of a segment: all of it, and after its first `.`, its second, n letters of its tag, digits of the value v, its `*`
start_rest : Bool → List ℕ → Bool
start_rest last y = is_segment y || (last && is_starred y)

dot_rest : Bool → List ℕ → Bool
dot_rest last y = same_bytes y [] || same_bytes y (bytes ".")

dots_rest : Bool → List ℕ → Bool
dots_rest last y = same_bytes y []

tag_rest : ℕ → Bool → List ℕ → Bool
tag_rest n last y =
    let m = run_len is_letter y in
    is_tag_len (n + m) && (is_number (drop m y) || (last && same_bytes (drop m y) (bytes "*")))

number_rest : ℕ → Bool → List ℕ → Bool
number_rest v last y = all_of is_digit y && leb (value_from v y) 65535

star_rest : Bool → List ℕ → Bool
star_rest last y = last && same_bytes y []

-- no rest at all
abbrev no_rest : Bool → List ℕ → Bool
no_rest last y = false

-- what may follow in each state: only the separator that leads a path may stand alone
follows : Road → List ℕ → Bool
follows road.Lead x = is_some (path_of x)
follows (road.Start k) x = cond (is_nil x && eqb k 0) true (path_after k x)
follows (road.Dot k) x = segment_after dot_rest k x
follows (road.Dots k) x = segment_after dots_rest k x
follows (road.Tag k n) x = segment_after (tag_rest n) k x
follows (road.Number k v) x = segment_after (number_rest v) k x
follows road.Star x = is_nil x
follows road.Off x = false

-- the limits of the numbers in a state
abbrev Sound : Road → Type 0
Sound road.Lead = Unit
Sound (road.Start k) = k < 16
Sound (road.Dot k) = k < 16
Sound (road.Dots k) = k < 16
Sound (road.Tag k n) = (k < 16) × (1 ≤ n) × (n ≤ 16)
Sound (road.Number k v) = (k < 16) × (v ≤ 65535)
Sound road.Star = Unit
Sound road.Off = Unit

-- ---- one byte of a path

-- the rest of a path is its first segment and what follows it
path_split : (k : ℕ) (x : List ℕ) → path_after k x ≡ segment_after start_rest k x
unfolding path_after segment_after then_path start_rest are_segments
path_split k x = either (any_of is_separator x) more last
  where
    last : any_of is_separator x ≡ false → path_after k x ≡ segment_after start_rest k x
    last e = rw (parts_none is_separator x e, e, up_all is_separator x e)

    more : any_of is_separator x ≡ true → path_after k x ≡ segment_after start_rest k x
    more e =
        let s = any_split is_separator x e in
        let a = up_to is_separator x in
        let r = past is_separator x in
        let q = parts is_separator r in
        let p : parts is_separator x ≡ a ∷ q = ap (parts is_separator) s.2 ∙ parts_at is_separator a s.0 r (up_none is_separator x) s.1 in
        let n : k + suc (length q) ≡ k + 1 + length q = omega arith in
        ap (λ (z : List (List ℕ)). are_segments z && leb (k + length z) 16) p
        ∙ rw (segments_cons a q (parts_some is_separator r), n, e, or-false, and_assoc)

-- after 16 segments no path follows
path_full : (k : ℕ) (x : List ℕ) → 16 ≤ k → path_after k x ≡ false
unfolding path_after
path_full k x h = go (parts is_separator x) (parts_some is_separator x)
  where
    go : (p : List (List ℕ)) → is_nil p ≡ false → are_segments p && leb (k + length p) 16 ≡ false
    go [] e = no_case e
    go (a ∷ p) e = rw (lt-leb (k + suc (length p)) 16 (omega arith), and-false (are_segments (a ∷ p)))

-- after the byte b the form g' is what is left of the form g
abbrev Leads : (Bool → List ℕ → Bool) → ℕ → (Bool → List ℕ → Bool) → Type 0
Leads g b g' = (z : Bool) (y : List ℕ) → g z (b ∷ y) ≡ g' z y

-- a segment goes on with a byte that is no separator
byte_on : (g g' : Bool → List ℕ → Bool) (k b : ℕ) → is_separator b ≡ false → Leads g b g' → (x : List ℕ) → segment_after g k (b ∷ x) ≡ segment_after g' k x
unfolding segment_after then_path any_of up_to past
byte_on g g' k b e s x = rw (e, s (not (any_of is_separator x)) (up_to is_separator x))

-- a separator ends it
byte_parts : (g : Bool → List ℕ → Bool) (k b : ℕ) (x : List ℕ) → is_separator b ≡ true → segment_after g k (b ∷ x) ≡ g false [] && path_after (k + 1) x
unfolding segment_after then_path any_of up_to past
byte_parts g k b x e = rw e

-- it does not go on, and no path follows where it ends
byte_no : (g : Bool → List ℕ → Bool) (k b : ℕ) → Leads g b no_rest → (is_separator b ≡ true → (x : List ℕ) → g false [] && path_after (k + 1) x ≡ false)
    → (x : List ℕ) → segment_after g k (b ∷ x) ≡ false
unfolding segment_after
byte_no g k b s e x = either (is_separator b) (λ p. byte_parts g k b x p ∙ e p x) (λ p. byte_on g no_rest k b p s x)

-- a byte of a class without separators is none
no_separator : (t : ℕ → Bool) (b : ℕ) → t 47 ≡ false → t 92 ≡ false → t b ≡ true → is_separator b ≡ false
no_separator t b m n e = simp (other_byte t 47 b true m e, other_byte t 92 b true n e)

-- ---- one byte of a segment

-- its first byte is a `.`, a letter, or none that begins a segment
start_dot : (b : ℕ) → eqb b 46 ≡ true → Leads start_rest b dot_rest
unfolding start_rest dot_rest is_segment is_numbered is_starred tag_len run_len same_bytes bytes
start_dot b e z y = rw (eqb-true b 46 e, and-false z) (simp or-false)

start_letter : (b : ℕ) → eqb b 46 ≡ false → is_letter b ≡ true → Leads start_rest b (tag_rest 1)
unfolding start_rest tag_rest is_segment is_numbered is_starred tag_len run_len same_bytes bytes
start_letter b e l z y =
    let m = run_len is_letter y in
    let n : 1 + m ≡ suc m = omega arith in
    rw (e, l, n) (go (is_tag_len (suc m)) (is_number (drop m y)) (same_bytes (drop m y) (bytes "*")))
  where
    go : (a c d : Bool) → (a && c) || (z && (a && d)) ≡ a && (c || (z && d))
    go true c d = refl
    go false c d = and-false z

start_no : (b : ℕ) → eqb b 46 ≡ false → is_letter b ≡ false → Leads start_rest b no_rest
unfolding start_rest is_segment is_numbered is_starred tag_len run_len same_bytes bytes
start_no b e l z y = rw (e, l) (and-false z)

-- after `.` comes another, or nothing
dot_dot : (b : ℕ) → eqb b 46 ≡ true → Leads dot_rest b dots_rest
unfolding dot_rest dots_rest same_bytes bytes
dot_dot b e z y = rw e

dot_no : (b : ℕ) → eqb b 46 ≡ false → Leads dot_rest b no_rest
unfolding dot_rest same_bytes bytes
dot_no b e z y = rw e

module _ (n b : ℕ) where
  -- a letter goes on with a tag of fewer than 16
  tag_letter : is_letter b ≡ true → Leads (tag_rest n) b (tag_rest (n + 1))
  unfolding tag_rest run_len
  tag_letter e z y = let m : n + suc (run_len is_letter y) ≡ n + 1 + run_len is_letter y = omega arith in rw (e, m)

  tag_long : 16 ≤ n → is_letter b ≡ true → Leads (tag_rest n) b no_rest
  unfolding tag_rest
  tag_long h e z y = let m = n + 1 + run_len is_letter y in tag_letter e z y ∙ rw (lt-leb m 16 (omega arith), and-false (leb 1 m))

-- after a tag comes `*`, or a number, which no zero begins
module _ (n b : ℕ) (l : 1 ≤ n) (h : n ≤ 16) (e : is_letter b ≡ false) where
  tag_ended : (z : Bool) (y : List ℕ) → tag_rest n z (b ∷ y) ≡ is_number (b ∷ y) || (z && same_bytes (b ∷ y) (bytes "*"))
  unfolding tag_rest run_len
  tag_ended z y = rw (e, le-leb 1 (n + 0) (omega arith), le-leb (n + 0) 16 (omega arith))

  tag_star : eqb b 42 ≡ true → Leads (tag_rest n) b star_rest
  unfolding star_rest is_decimal all_of same_bytes bytes
  tag_star s z y = tag_ended z y ∙ rw (eqb-true b 42 s)

  tag_zero : eqb b 42 ≡ false → eqb b 48 ≡ true → Leads (tag_rest n) b no_rest
  unfolding same_bytes bytes
  tag_zero s o z y = tag_ended z y ∙ rw (s, o, and-false (is_decimal 65535 (b ∷ y)), and-false z)

  tag_number : eqb b 42 ≡ false → eqb b 48 ≡ false → (z : Bool) (y : List ℕ) → tag_rest n z (b ∷ y) ≡ number_rest 0 z (b ∷ y)
  unfolding is_decimal number_rest same_bytes bytes
  tag_number s o z y = tag_ended z y ∙ rw (s, o, and-false z, or-false, and-true)

-- a tag alone is no segment
tag_alone : (n : ℕ) → tag_rest n false [] ≡ false
unfolding tag_rest run_len is_decimal
tag_alone n = and-false (is_tag_len (n + 0))

module _ (v b : ℕ) where
  -- a digit goes on with a number that is not too large
  number_more : is_digit b ≡ true → Leads (number_rest v) b (number_rest (v * 10 + (b - 48)))
  unfolding number_rest all_of value_from
  number_more e z y = rw e

  number_no : is_digit b && leb (v * 10 + (b - 48)) 65535 ≡ false → Leads (number_rest v) b no_rest
  unfolding number_rest all_of
  number_no e z y = either (is_digit b) (λ d. number_more d z y ∙ large (leb-false w 65535 (rw d at e))) (λ d. rw d)
    where
      w : ℕ
      w = v * 10 + (b - 48)

      large : 65535 < w → number_rest w z y ≡ false
      large h = let g = value_grows w y in rw (lt-leb (value_from w y) 65535 (omega arith)) (and-false (all_of is_digit y))

-- nothing follows a `*`
star_alone : (k : ℕ) (x : List ℕ) → k < 16 → segment_after star_rest k x ≡ is_nil x
unfolding segment_after then_path star_rest any_of up_to same_bytes
star_alone k [] h = rw (le-leb (k + 1) 16 (omega arith))
star_alone k (b ∷ x) h = either (is_separator b) (λ p. rw p) (λ p. rw (p, and-false (not (any_of is_separator x))))

-- ---- one byte in each state

-- the byte b leads from texts of the form f to what may follow in the state q
record Next (f : List ℕ → Bool) (b : ℕ) (q : Road) : Type 0 where
  sound : Sound q
  same : (x : List ℕ) → f (b ∷ x) ≡ follows q x

-- by cases of the test that the step makes
next_if : {f : List ℕ → Bool} {b : ℕ} {p q : Road} (t : Bool) → (t ≡ true → Next f b p) → (t ≡ false → Next f b q) → Next f b (cond t p q)
next_if true g h = g refl
next_if false g h = h refl

-- of two forms that agree where b comes first
next_by_lem : {f : List ℕ → Bool} {b : ℕ} {q : Road} (g : List ℕ → Bool) → ((x : List ℕ) → f (b ∷ x) ≡ g (b ∷ x)) → Next g b q → Next f b q
next_by_lem g e n = record { sound = n.sound; same = λ x. e x ∙ n.same x }

module _ (k b : ℕ) where
  -- no segment goes on or ends
  next_off : (g : Bool → List ℕ → Bool) → g false [] ≡ false → Leads g b no_rest → Next (segment_after g k) b road.Off
  unfolding follows
  next_off g e s = record { sound = tt; same = byte_no g k b s (λ p x. rw e) }

  -- after a whole segment
  part_next : (g : Bool → List ℕ → Bool) → g false [] ≡ true → Leads g b no_rest → Next (segment_after g k) b (part_step k b)
  unfolding part_step follows
  part_next g e s = next_if (is_separator b && ltb k 15) ends (λ p. record { sound = tt; same = byte_no g k b s (full p) })
    where
      ends : is_separator b && ltb k 15 ≡ true → Next (segment_after g k) b (road.Start (k + 1))
      ends p =
          record {
            sound = let h = ltb-true k 15 (and_r (is_separator b) (ltb k 15) p) in omega arith;
            same = λ x. byte_parts g k b x (and_l (is_separator b) (ltb k 15) p) ∙ rw (e, ne_eqb (k + 1) 0 (λ z. omega arith), and-false (is_nil x));
          }

      full : is_separator b && ltb k 15 ≡ false → is_separator b ≡ true → (x : List ℕ) → g false [] && path_after (k + 1) x ≡ false
      full p q x = let h = ltb-false k 15 (rw q at p) in rw (path_full (k + 1) x (omega arith)) (and-false (g false []))

module _ (k b : ℕ) (h : k < 16) where
  -- each state for itself: a segment begins
  start_next : Next (segment_after start_rest k) b (start_step k b)
  unfolding start_step follows start_rest
  start_next =
      next_if (eqb b 46) (λ p. record { sound = h; same = byte_on start_rest dot_rest k b (no_separator (λ c. eqb c 46) b refl refl p) (start_dot b p) })
      (λ p. next_if (is_letter b)
      (λ q. record { sound = omega arith; same = byte_on start_rest (tag_rest 1) k b (no_separator is_letter b refl refl q) (start_letter b p q) })
      (λ q. next_off k b start_rest (simp nil_segment) (start_no b p q)))

  -- after its first `.`
  dot_next : Next (segment_after dot_rest k) b (cond (eqb b 46) (road.Dots k) (part_step k b))
  unfolding follows dot_rest same_bytes
  dot_next =
      next_if (eqb b 46) (λ p. record { sound = h; same = byte_on dot_rest dots_rest k b (no_separator (λ c. eqb c 46) b refl refl p) (dot_dot b p) })
      (λ p. part_next k b dot_rest refl (dot_no b p))

  -- where digits of the value v may go on: a digit more, or what comes where there is none
  digit_next : (g : Bool → List ℕ → Bool) (v : ℕ) (other : Road) → ((z : Bool) (y : List ℕ) → g z (b ∷ y) ≡ number_rest v z (b ∷ y))
      → (Leads g b no_rest → Next (segment_after g k) b other) → Next (segment_after g k) b (numbered_or k other (digit_more 65535 v b))
  unfolding digit_more follows
  digit_next g v other s stop = go (is_digit b && leb w 65535) refl
    where
      w : ℕ
      w = v * 10 + (b - 48)

      go : (t : Bool) → is_digit b && leb w 65535 ≡ t → Next (segment_after g k) b (numbered_or k other (cond t (Some w) None))
      go true e =
          let d = and_l (is_digit b) (leb w 65535) e in
          record {
            sound = (h, leb-true w 65535 (and_r (is_digit b) (leb w 65535) e));
            same = byte_on g (number_rest w) k b (no_separator is_digit b refl refl d) (λ z y. s z y ∙ number_more v b d z y);
          }
      go false e = stop (λ z y. s z y ∙ number_no v b e z y)

  -- after digits of its number
  number_next : (v : ℕ) → v ≤ 65535 → Next (segment_after (number_rest v) k) b (number_step k v b)
  unfolding number_step number_rest all_of value_from
  number_next v m = digit_next (number_rest v) v (part_step k b) (λ z y. refl) (part_next k b (number_rest v) (le-leb v 65535 m))

  module _ (n : ℕ) (l : 1 ≤ n) (m : n ≤ 16) where
    -- after the last of n letters
    tagged_next : is_letter b ≡ false → Next (segment_after (tag_rest n) k) b (tag_end k b)
    unfolding tag_end follows
    tagged_next p =
        next_if (eqb b 42) (λ q. record { sound = tt; same = λ x. star q x ∙ star_alone k x h })
        (λ q. next_if (eqb b 48) (λ r. next_off k b (tag_rest n) (tag_alone n) (tag_zero n b l m p q r))
        (λ r. digit_next (tag_rest n) 0 road.Off (tag_number n b l m p q r) (next_off k b (tag_rest n) (tag_alone n))))
      where
        star : eqb b 42 ≡ true → (x : List ℕ) → segment_after (tag_rest n) k (b ∷ x) ≡ segment_after star_rest k x
        star q = byte_on (tag_rest n) star_rest k b (no_separator (λ c. eqb c 42) b refl refl q) (tag_star n b l m p q)

    -- after n letters of its tag
    tag_next : Next (segment_after (tag_rest n) k) b (tag_step k n b)
    unfolding tag_step follows
    tag_next =
        next_if (is_letter b) (λ p. next_if (ltb n 16) (more p) (λ q. next_off k b (tag_rest n) (tag_alone n) (tag_long n b (ltb-false n 16 q) p)))
        tagged_next
      where
        more : is_letter b ≡ true → ltb n 16 ≡ true → Next (segment_after (tag_rest n) k) b (road.Tag k (n + 1))
        more p q =
            let j = ltb-true n 16 q in
            record { sound = omega arith; same = byte_on (tag_rest n) (tag_rest (n + 1)) k b (no_separator is_letter b refl refl p) (tag_letter n b p) }

-- a path from its first segment on
path_start : (r : Bool) (x : List ℕ) → is_some (segments_of r x) ≡ path_after 0 x
unfolding segments_of path_after
path_start r x =
    let p = parts is_separator x in
    let n : 0 + length p ≡ length p = omega arith in
    rw n (go (are_segments p && leb (length p) 16))
  where
    go : (t : Bool) → is_some (cond t (some (path r (parts is_separator x))) none) ≡ t
    go true = refl
    go false = refl

-- before the first byte
lead_next : (b : ℕ) → Next (λ x. is_some (path_of x)) b (cond (is_separator b) (road.Start 0) (start_step 0 b))
unfolding path_of follows
lead_next b =
    next_if (is_separator b) (λ p. record { sound = omega arith; same = λ x. rw p (rooted x) })
    (λ p. next_by_lem (segment_after start_rest 0) (λ x. rw p (path_start false (b ∷ x) ∙ path_split 0 (b ∷ x))) (start_next 0 b (omega arith)))
  where
    rooted : (x : List ℕ) → is_some (cond (is_nil x) (some (path true [])) (segments_of true x)) ≡ cond (is_nil x && eqb 0 0) true (path_after 0 x)
    rooted [] = refl
    rooted (c ∷ x) = path_start true (c ∷ x)

-- in any state
next : (q : Road) (b : ℕ) → Sound q → Next (follows q) b (road_step q b)
unfolding follows dots_rest same_bytes
next road.Lead b h = lead_next b
next (road.Start k) b h = next_by_lem (segment_after start_rest k) (λ x. path_split k (b ∷ x)) (start_next k b h)
next (road.Dot k) b h = dot_next k b h
next (road.Dots k) b h = part_next k b dots_rest refl (λ z y. refl)
next (road.Tag k n) b h = tag_next k b h.0 n h.1 h.2
next (road.Number k v) b h = number_next k b h.0 v h.1
next road.Star b h = record { sound = tt; same = λ x. refl }
next road.Off b h = record { sound = tt; same = λ x. refl }

-- ---- the machine

-- on the road something may follow
some_follows : (q : Road) → Sound q → is_off_road q ≡ false → (e : List ℕ) × (follows q e ≡ true)
unfolding follows path_of segments_of path_after segment_after then_path dot_rest dots_rest tag_rest number_rest
    are_segments is_segment is_decimal parts any_of all_of up_to run_len value_from same_bytes bytes
some_follows road.Lead h o = (bytes ".", refl)
some_follows (road.Start k) h o = (bytes ".", le-leb (k + 1) 16 (omega arith))
some_follows (road.Dot k) h o = ([], le-leb (k + 1) 16 (omega arith))
some_follows (road.Dots k) h o = ([], le-leb (k + 1) 16 (omega arith))
some_follows (road.Tag k n) h o = (bytes "1", rw (le-leb 1 (n + 0) (omega arith), le-leb (n + 0) 16 (omega arith)) (le-leb (k + 1) 16 (omega arith)))
some_follows (road.Number k v) h o = ([], rw (le-leb v 65535 (omega arith)) (le-leb (k + 1) 16 (omega arith)))
some_follows road.Star h o = ([], refl)
some_follows road.Off h o = no_case o

-- off it nothing does
none_follows : (q : Road) → is_off_road q ≡ true → (x : List ℕ) → follows q x ≡ false
unfolding follows
none_follows road.Lead o x = no_case (sym o)
none_follows (road.Start k) o x = no_case (sym o)
none_follows (road.Dot k) o x = no_case (sym o)
none_follows (road.Dots k) o x = no_case (sym o)
none_follows (road.Tag k n) o x = no_case (sym o)
none_follows (road.Number k v) o x = no_case (sym o)
none_follows road.Star o x = no_case (sym o)
none_follows road.Off o x = refl

-- in the state q, which is on the road, what may follow is of the form f
record At (q : Road) (f : List ℕ → Bool) : Type 0 where
  sound : Sound q
  on : is_off_road q ≡ false
  same : (x : List ℕ) → f x ≡ follows q x

-- the machine goes as far as paths do
path_far : (s : List ℕ) → Far (λ x. is_some (path_of x)) s (reach_by road_step is_off_road road.Lead s)
unfolding follows
path_far s =
    far_by road_step is_off_road At (λ q f a. let l = some_follows q a.sound a.on in (l.0, a.same l.0 ∙ l.1))
    (λ q f b a o. let n = next q b a.sound in record { sound = n.sound; on = o; same = λ x. a.same (b ∷ x) ∙ n.same x })
    (λ q f b a o x. a.same (b ∷ x) ∙ (next q b a.sound).same x ∙ none_follows (road_step q b) o x)
    s road.Lead (λ x. is_some (path_of x)) (record { sound = tt; on = refl; same = λ x. refl })

-- ---- paths and `SESSION`

-- a path is a target
path_target : (t : List ℕ) → is_some (path_of t) ≡ true → is_some (target_of t) ≡ true
unfolding target_of
path_target t e = either (same_bytes t session_name) (λ p. rw p) (λ p. rw p e)

-- the path `SESSION1` goes further than `SESSION`
session_path : is_some (path_of (session_name ++ (49 ∷ []))) ≡ true
unfolding path_of segments_of parts are_segments is_segment is_numbered is_decimal all_of value_from tag_len run_len same_bytes bytes session_name
session_path = refl

-- so what no path begins with no target begins with
no_target : (a : List ℕ) → ((r : List ℕ) → is_some (path_of (a ++ r)) ≡ false) → (e : List ℕ) → is_some (target_of (a ++ e)) ≡ false
unfolding target_of
no_target a n e = either (same_bytes (a ++ e) session_name) session (λ p. rw p (n e))
  where
    session : same_bytes (a ++ e) session_name ≡ true → is_some (target_of (a ++ e)) ≡ false
    session p =
        let one : List ℕ = 49 ∷ [] in
        let l : a ++ (e ++ one) ≡ session_name ++ one = sym (append_assoc a e one) ∙ ap (λ (t : List ℕ). t ++ one) (same_eq (a ++ e) session_name p) in
        no_case (sym session_path ∙ ap (λ (t : List ℕ). is_some (path_of t)) (sym l) ∙ n (e ++ one))

-- the machine goes as far as targets do
pub road_far : (s : List ℕ) → Far (is_of Target) s (reach_by road_step is_off_road road.Lead s)
road_far s =
    let p = path_far s in
    let n = reach_by road_step is_off_road road.Lead s in
    record {
      within = p.within;
      rest = p.rest;
      some = path_target (take n s ++ p.rest) p.some;
      stops = λ h. no_target (take (suc n) s) (p.stops h);
    }
