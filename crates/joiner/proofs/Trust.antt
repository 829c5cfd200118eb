-- Where trust begins again, for lines: after a byte that is no GRAVE, CR or LF and then a CR or LF, what came earlier is forgotten; and
-- the lines that ended inside a common beginning are the same.
-- Assumes nothing.
use Prim.Native.Nat.{ℕ}
use mathlib.Core.Path.{◌≡◌, refl, sym, ap, ◌∙◌}
use mathlib.Core.List.{List, [], ◌∷◌, ◌++◌, append_assoc, foldl-append}
use mathlib.Core.Bool.{Bool, true, false, not, ◌&&◌, ◌||◌, cond, false≢true}
use lib.ListN.{length, take, drop}
use lib.Seq.{take-append_seam, drop-append_seam}
use lib.Dec.{eqb}
use borrow.Author.Tests.{eqb-true}
use Rattle.joiner.specs.declared.Joiner.{Joiner}
use Rattle.joiner.specs.Lines.{ByteKind, CR, LF, GRAVE, plain, byte_kind, Given, line_or_refused, Open, open', nothing_open, Next, next_by, next_open, lines_from, lines_of}
use Rattle.joiner.specs.Lines.{open_after, ending_from, ending_of, trusted, fresh_after}
use Rattle.joiner.specs.Step.{start}
use Rattle.joiner.specs.Join.{end_of}
use Rattle.joiner.specs.Calls.{Calls, end_as}
use Rattle.joiner.proofs.Capture.{calls_give}

-- ---- a capture in two: the lines of the first part, and those that the second then gives

pub open_append : (o : Open) (p q : List ℕ) → open_after o (p ++ q) ≡ open_after (open_after o p) q
unfolding open_after
open_append o p q = foldl-append _ o p q

pub lines_append : (o : Open) (p q : List ℕ) → lines_from o (p ++ q) ≡ lines_from o p ++ lines_from (open_after o p) q
unfolding lines_from open_after
lines_append o [] q = refl
lines_append o (x ∷ xs) q =
    ap (λ (l : List Given). (next_open o x).given ++ l) (lines_append (next_open o x).left xs q)
    ∙ sym (append_assoc (next_open o x).given (lines_from (next_open o x).left xs) (lines_from (open_after (next_open o x).left xs) q))

pub ending_append : (o : Open) (p q : List ℕ) → ending_from o (p ++ q) ≡ ending_from (open_after o p) q
unfolding ending_from
ending_append o p q = rw (open_append o p q)

pub lines_of_append : (c d : List ℕ) → lines_of (c ++ d) ≡ lines_of c ++ lines_from (open_after nothing_open c) d
unfolding lines_of
lines_of_append c d = lines_append nothing_open c d

pub ending_of_append : (c d : List ℕ) → ending_of (c ++ d) ≡ ending_from (open_after nothing_open c) d
unfolding ending_of
ending_of_append c d = ending_append nothing_open c d

-- ---- A COMMON BEGINNING: the lines that ended inside it are the first of every capture that begins so; and a capture that is a
-- beginning of another gives the first of the other's lines

pub common_lines : (c d : List ℕ) → take (length (lines_of c)) (lines_of (c ++ d)) ≡ lines_of c
common_lines c d = ap (take (length (lines_of c))) (lines_of_append c d) ∙ take-append_seam (lines_of c) (lines_from (open_after nothing_open c) d)

pub common_both : (c d d' : List ℕ) → take (length (lines_of c)) (lines_of (c ++ d)) ≡ take (length (lines_of c)) (lines_of (c ++ d'))
common_both c d d' = common_lines c d ∙ sym (common_lines c d')

-- ---- the two bytes that end a line whatever came before

-- the first byte is no CR, LF or GRAVE: with any of them the condition is false
pub trusted_plain : (x e : ℕ) → trusted x e ≡ true → byte_kind x ≡ plain
unfolding trusted byte_kind
trusted_plain x e h = go (eqb x 13) (eqb x 10) (eqb x 96) refl refl refl
  where
    cr : x ≡ 13 → ⊥
    cr m = false≢true (rw m at h)

    lf : x ≡ 10 → ⊥
    lf m = false≢true (rw m at h)

    grave : x ≡ 96 → ⊥
    grave m = false≢true (rw m at h)

    go : (a b c : Bool) → eqb x 13 ≡ a → eqb x 10 ≡ b → eqb x 96 ≡ c → cond a CR (cond b LF (cond c GRAVE plain)) ≡ plain
    go true b c p q r = absurd (cr (eqb-true x 13 p))
    go false true c p q r = absurd (lf (eqb-true x 10 q))
    go false false true p q r = absurd (grave (eqb-true x 96 r))
    go false false false p q r = refl

-- the second is an end of line
pub trusted_end : (x e : ℕ) → trusted x e ≡ true → eqb e 13 || eqb e 10 ≡ true
unfolding trusted
trusted_end x e h = go (eqb e 13) (eqb e 10) refl refl
  where
    none : (a b c d f : Bool) → d ≡ false → f ≡ false → a && b && c && (d || f) ≡ false
    none true true true d f p q = rw (p, q)
    none true true false d f p q = refl
    none true false c d f p q = refl
    none false b c d f p q = refl

    go : (d f : Bool) → eqb e 13 ≡ d → eqb e 10 ≡ f → d || f ≡ true
    go true f p q = refl
    go false true p q = refl
    go false false p q = absurd (false≢true (sym (none (not (eqb x 96)) (not (eqb x 13)) (not (eqb x 10)) (eqb e 13) (eqb e 10) p q) ∙ h))

-- an end of line with no GRAVE before it
ended : (d f : Bool) (k : ByteKind) (e : ℕ) (t : List ℕ) → d || f ≡ true
    → next_by (cond d CR (cond f LF k)) false false e t ≡ record { left = open' [] false d; given = line_or_refused t ∷ [] }
ended true f k e t h = refl
ended false true k e t h = refl
ended false false k e t h = absurd (false≢true h)

-- the text with that ordinary byte
abbrev pub with_byte : Open → ℕ → List ℕ
with_byte o x = (next_by plain o.waits o.was_cr x o.text).left.text

plain_next : (g r : Bool) (x : ℕ) (t : List ℕ)
    → next_by plain g r x t ≡ record { left = open' (next_by plain g r x t).left.text false false; given = [] }
plain_next true r x t = refl
plain_next false r x t = refl

-- ---- two bytes after which nothing of what came before is left open: all later lines, and the end, are those of what follows

module _ (x e : ℕ) (p : List ℕ) (fresh : open_after nothing_open (p ++ (x ∷ e ∷ [])) ≡ fresh_after e) (rest : List ℕ) where
  split : p ++ (x ∷ e ∷ rest) ≡ (p ++ (x ∷ e ∷ [])) ++ rest
  split = sym (append_assoc p (x ∷ e ∷ []) rest)

  pub fresh_lines : lines_of (p ++ (x ∷ e ∷ rest)) ≡ lines_of (p ++ (x ∷ e ∷ [])) ++ lines_from (fresh_after e) rest
  fresh_lines =
      ap lines_of split
      ∙ lines_of_append (p ++ (x ∷ e ∷ [])) rest
      ∙ ap (λ (o : Open). lines_of (p ++ (x ∷ e ∷ [])) ++ lines_from o rest) fresh

  pub fresh_ending : ending_of (p ++ (x ∷ e ∷ rest)) ≡ ending_from (fresh_after e) rest
  fresh_ending = ap ending_of split ∙ ending_of_append (p ++ (x ∷ e ∷ [])) rest ∙ ap (λ (o : Open). ending_from o rest) fresh

-- what a capture gives after the two bytes
abbrev pub after : List ℕ → ℕ → ℕ → List ℕ → List Given
after p x e rest = drop (length (lines_of (p ++ (x ∷ e ∷ [])))) (lines_of (p ++ (x ∷ e ∷ rest)))

module _ (x e : ℕ) (h : trusted x e ≡ true) where
  byte : (o : Open) → next_open o x ≡ record { left = open' (with_byte o x) false false; given = [] }
  unfolding next_open
  byte o = ap (λ (k : ByteKind). next_by k o.waits o.was_cr x o.text) (trusted_plain x e h) ∙ plain_next o.waits o.was_cr x o.text

  end : (t : List ℕ) → next_open (open' t false false) e ≡ record { left = fresh_after e; given = line_or_refused t ∷ [] }
  unfolding next_open byte_kind fresh_after
  end t = ended (eqb e 13) (eqb e 10) (cond (eqb e 96) GRAVE plain) e t (trusted_end x e h)

  open_both : (o : Open) → open_after o (x ∷ e ∷ []) ≡ fresh_after e
  unfolding open_after
  open_both o = ap (λ (n : Next). (next_open n.left e).left) (byte o) ∙ ap (λ (n : Next). n.left) (end (with_byte o x))

  lines_both : (o : Open) → lines_from o (x ∷ e ∷ []) ≡ line_or_refused (with_byte o x) ∷ []
  unfolding lines_from
  lines_both o =
      ap (λ (n : Next). n.given ++ ((next_open n.left e).given ++ [])) (byte o)
      ∙ ap (λ (n : Next). n.given ++ []) (end (with_byte o x))

  -- what is open after the two bytes does not depend on what came before
  pub forgets : (o : Open) (p : List ℕ) → open_after o (p ++ (x ∷ e ∷ [])) ≡ fresh_after e
  forgets o p = open_append o p (x ∷ e ∷ []) ∙ open_both (open_after o p)

  -- the two bytes end one line, which may depend on what came before
  pub trusted_ends : (p : List ℕ) → lines_of (p ++ (x ∷ e ∷ [])) ≡ lines_of p ++ (line_or_refused (with_byte (open_after nothing_open p) x) ∷ [])
  trusted_ends p = lines_of_append p (x ∷ e ∷ []) ∙ ap (λ (l : List Given). lines_of p ++ l) (lines_both (open_after nothing_open p))

  -- THE THEOREM: all lines from the one after that end of line onward, and the end, are the same whatever came before
  pub trusted_lines : (p rest : List ℕ) → lines_of (p ++ (x ∷ e ∷ rest)) ≡ lines_of (p ++ (x ∷ e ∷ [])) ++ lines_from (fresh_after e) rest
  trusted_lines p rest = fresh_lines x e p (forgets nothing_open p) rest

  pub trusted_ending : (p rest : List ℕ) → ending_of (p ++ (x ∷ e ∷ rest)) ≡ ending_from (fresh_after e) rest
  trusted_ending p rest = fresh_ending x e p (forgets nothing_open p) rest

  after_is : (p rest : List ℕ) → after p x e rest ≡ lines_from (fresh_after e) rest
  after_is p rest =
      ap (drop (length (lines_of (p ++ (x ∷ e ∷ []))))) (trusted_lines p rest)
      ∙ drop-append_seam (lines_of (p ++ (x ∷ e ∷ []))) (lines_from (fresh_after e) rest)

  -- the same of two captures
  pub same_after : (p q rest : List ℕ) → after p x e rest ≡ after q x e rest
  same_after p q rest = after_is p rest ∙ sym (after_is q rest)

  pub same_ending : (p q rest : List ℕ) → ending_of (p ++ (x ∷ e ∷ rest)) ≡ ending_of (q ++ (x ∷ e ∷ rest))
  same_ending p q rest = trusted_ending p rest ∙ sym (trusted_ending q rest)

  -- the same of calls: two runs of calls from a fresh start, each over its own capture in beginnings of any size and with any buffer of 1,024 bytes
  pub calls_trusted : (p q rest b b' ns ms : List ℕ) (l l' : List Given) (s s' : Joiner) → length b ≡ 1024 → length b' ≡ 1024
      → Calls ns start b (p ++ (x ∷ e ∷ rest)) l s → Calls ms start b' (q ++ (x ∷ e ∷ rest)) l' s'
      → (l ≡ lines_of (p ++ (x ∷ e ∷ [])) ++ lines_from (fresh_after e) rest)
      × (l' ≡ lines_of (q ++ (x ∷ e ∷ [])) ++ lines_from (fresh_after e) rest)
      × (end_of s ≡ end_of s')
  calls_trusted p q rest b b' ns ms l l' s s' m m' d d' =
      let g = calls_give ns b (p ++ (x ∷ e ∷ rest)) l s m d in
      let g' = calls_give ms b' (q ++ (x ∷ e ∷ rest)) l' s' m' d' in (
        g.0 ∙ trusted_lines p rest,
        g'.0 ∙ trusted_lines q rest,
        g.2 ∙ ap end_as (same_ending p q rest) ∙ sym g'.2,
      )
