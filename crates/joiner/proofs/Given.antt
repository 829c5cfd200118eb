-- What holds of every line that a capture gives: it has at most 1,024 bytes, no CR, no LF, and no GRAVE that is left waiting; and a
-- refused one is refused as 1 at 1,024, with 1,024 bytes kept.
-- Assumes nothing.
use Prim.Native.Nat.{ℕ, ◌<◌, ◌≤◌}
use native.Mathlib.Omega.{arith}
use mathlib.Core.Path.{◌≡◌, refl, ap, ◌∙◌}
use mathlib.Core.List.{List, [], ◌∷◌, ◌++◌}
use mathlib.Core.Bool.{Bool, true, false, not, ◌&&◌, ◌||◌, cond, false≢true, true≢false}
use lib.ListN.{length, take}
use lib.Seq.{length-take-le}
use lib.Dec.{ltb, eqb}
use borrow.Author.Tests.{ltb-true, ltb-false}
use Rattle.joiner.specs.Lines.{ByteKind, CR, LF, GRAVE, plain, byte_kind, is_plain_byte, Given, line, refused, line_or_refused, Open, nothing_open, Next, next_by, next_open, lines_from, lines_of}
use Rattle.joiner.specs.Lines.{waits_after, dangling, holds_end}

-- ---- statements of every line

abbrev pub Every : (Given → Type 0) → List Given → Type 0
Every P [] = Unit {0}
Every P (g ∷ gs) = P g × Every P gs

abbrev pub Sound : Given → Type 0
Sound (line t) = (dangling t ≡ false) × (holds_end t ≡ false) × (length t ≤ 1024)
Sound (refused k p t) = (k ≡ 1) × (p ≡ 1024) × (length t ≡ 1024)

every_append : (P : Given → Type 0) (a b : List Given) → Every P a → Every P b → Every P (a ++ b)
every_append P [] b p q = q
every_append P (g ∷ gs) b p q = (p.0, every_append P gs b p.1 q)

-- ---- the two tests on a text in two

waits_append : (g : Bool) (a b : List ℕ) → waits_after g (a ++ b) ≡ waits_after (waits_after g a) b
unfolding waits_after
waits_append g [] b = refl
waits_append g (x ∷ xs) b = waits_append (not g && eqb x 96) xs b

holds_append : (a b : List ℕ) → holds_end a ≡ false → holds_end b ≡ false → holds_end (a ++ b) ≡ false
unfolding holds_end
holds_append [] b p q = q
holds_append (x ∷ xs) b p q = go (eqb x 13 || eqb x 10) (λ r. holds_append xs b r q) p
  where
    go : (t : Bool) → (holds_end xs ≡ false → holds_end (xs ++ b) ≡ false) → t || holds_end xs ≡ false → t || holds_end (xs ++ b) ≡ false
    go true i r = absurd (true≢false r)
    go false i r = i r

-- ---- a text that is open

pub record Good (t : List ℕ) : Type 0 where
  pub paired : dangling t ≡ false
  pub endless : holds_end t ≡ false

good_begin : Good []
unfolding dangling waits_after holds_end
good_begin = record { paired = refl; endless = refl }

good_then : (t u : List ℕ) → Good t → waits_after false u ≡ false → holds_end u ≡ false → Good (t ++ u)
unfolding dangling
good_then t u g p q = record {
  paired = waits_append false t u ∙ ap (λ (w : Bool). waits_after w u) g.paired ∙ p;
  endless = holds_append t u g.endless q;
}

-- what a byte is not, by its kind
abbrev is_end : ByteKind → Bool
is_end CR = true
is_end LF = true
is_end GRAVE = false
is_end plain = false

no_end : (x : ℕ) → is_end (byte_kind x) ≡ false → eqb x 13 || eqb x 10 ≡ false
unfolding byte_kind
no_end x = go (eqb x 13) (eqb x 10) (cond (eqb x 96) GRAVE plain)
  where
    go : (a b : Bool) (k : ByteKind) → is_end (cond a CR (cond b LF k)) ≡ false → a || b ≡ false
    go true b k e = absurd (true≢false e)
    go false true k e = absurd (true≢false e)
    go false false k e = refl

no_grave_lem : (x : ℕ) → is_plain_byte (byte_kind x) ≡ true → eqb x 96 ≡ false
unfolding byte_kind
no_grave_lem x = go (eqb x 13) (eqb x 10) (eqb x 96)
  where
    go : (a b c : Bool) → is_plain_byte (cond a CR (cond b LF (cond c GRAVE plain))) ≡ true → c ≡ false
    go true b c e = absurd (false≢true e)
    go false true c e = absurd (false≢true e)
    go false false true e = absurd (false≢true e)
    go false false false e = refl

pair_good : (t : List ℕ) (x : ℕ) → is_end (byte_kind x) ≡ false → Good t → Good (t ++ (96 ∷ x ∷ []))
unfolding waits_after holds_end
pair_good t x e g = good_then t (96 ∷ x ∷ []) g refl (simp (no_end x e))

byte_good : (t : List ℕ) (x : ℕ) → byte_kind x ≡ plain → Good t → Good (t ++ (x ∷ []))
unfolding waits_after holds_end
byte_good t x e g = good_then t (x ∷ []) g (no_grave_lem x (ap is_plain_byte e)) (simp (no_end x (ap is_end e)))

-- ---- a line at its end

sound_line : (t : List ℕ) → Good t → Sound (line_or_refused t)
unfolding line_or_refused
sound_line t g = go (ltb 1024 (length t)) refl
  where
    go : (w : Bool) → ltb 1024 (length t) ≡ w → Sound (cond w (refused 1 1024 (take 1024 t)) (line t))
    go true e = (refl, refl, length-take-le 1024 t (let l : 1024 < length t = ltb-true 1024 (length t) e in omega arith))
    go false e = (g.paired, g.endless, ltb-false 1024 (length t) e)

-- ---- one byte

record Keeps (n : Next) : Type 0 where
  left : Good n.left.text
  given : Every Sound n.given

keeps : (k : ByteKind) (g r : Bool) (x : ℕ) (t : List ℕ) → byte_kind x ≡ k → Good t → Keeps (next_by k g r x t)
keeps CR true r x t e h = record { left = h; given = tt }
keeps CR false r x t e h = record { left = good_begin; given = (sound_line t h, tt) }
keeps LF g true x t e h = record { left = h; given = tt }
keeps LF true false x t e h = record { left = h; given = tt }
keeps LF false false x t e h = record { left = good_begin; given = (sound_line t h, tt) }
keeps GRAVE true r x t e h = record { left = pair_good t x (ap is_end e) h; given = tt }
keeps GRAVE false r x t e h = record { left = h; given = tt }
keeps plain true r x t e h = record { left = pair_good t x (ap is_end e) h; given = tt }
keeps plain false r x t e h = record { left = byte_good t x e h; given = tt }

keeps_next : (o : Open) (x : ℕ) → Good o.text → Keeps (next_open o x)
unfolding next_open
keeps_next o x h = keeps (byte_kind x) o.waits o.was_cr x o.text refl h

-- THE THEOREM
pub sound_from : (o : Open) (c : List ℕ) → Good o.text → Every Sound (lines_from o c)
unfolding lines_from
sound_from o [] h = tt
sound_from o (x ∷ xs) h =
    let k = keeps_next o x h in
    every_append Sound (next_open o x).given (lines_from (next_open o x).left xs) k.given (sound_from (next_open o x).left xs k.left)

pub sound_lines : (c : List ℕ) → Every Sound (lines_of c)
unfolding lines_of
sound_lines c = sound_from nothing_open c good_begin
