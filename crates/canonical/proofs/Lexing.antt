-- Written texts are read sign by sign as they were written. Assumes nothing.
use Prim.Native.Nat.{ℕ}
use mathlib.Core.Path.{◌≡◌, refl, sym, ap, ◌∙◌}
use mathlib.Core.List.{List, [], ◌∷◌, ◌++◌, append_assoc}
use mathlib.Core.Bool.{Bool, true, false, not, ◌&&◌}
use lib.Dec.{eqb}
use Rattle.terms.specs.Rows.{end_mode}
use Rattle.terms.specs.Signs.{Sign, after, bare, escaped, gives, quote, quoted, quoted_escaped, raw, raws, signs, twelve, two}
use Rattle.terms.specs.Terms.{is_gap}
use Rattle.terms.specs.declared.Mode.TheVariants.{Out}
use Rattle.text.specs.Bytes.{one_of, printable}
use Rattle.text.specs.Lists.{all_of, any_of, walk}
use Rattle.text.proofs.Tests.{and_l, and_r, no_case}
use Rattle.text.proofs.AllAny.{all_append}
use borrow.Author.Tests.{not-true}
use Rattle.terms.specs.RowWords.{turns}
use Rattle.terms.proofs.Paper.{mode_of}

-- a byte that may be written bare
abbrev pub ok_bare : ℕ → Bool
ok_bare b = not (eqb b 32) && (not (eqb b 96) && (not (eqb b 34) && printable b))

abbrev pub ok_quoted : ℕ → Bool
ok_quoted b = not (eqb b 96) && (not (eqb b 34) && printable b)

-- q: in quotes
abbrev pub ok_sign : Bool → Sign → Bool
ok_sign false (bare b) = ok_bare b
ok_sign false (escaped b) = one_of twelve b && printable b
ok_sign false quote = true
ok_sign false (quoted b) = false
ok_sign false (quoted_escaped b) = false
ok_sign true (bare b) = false
ok_sign true (escaped b) = false
ok_sign true quote = true
ok_sign true (quoted b) = ok_quoted b
ok_sign true (quoted_escaped b) = one_of two b && printable b

-- a text that a term can be: printable, no bare space, each sign where it can stand, quotes closed
unfoldable pub good : Bool → List Sign → Bool
good q [] = not q
good q (x ∷ w) = ok_sign q x && good (turns q x) w

-- what is known of a byte that may be written in quotes; one that may be written bare is such, and no space
quoted_apart : (b : ℕ) → ok_quoted b ≡ true → (eqb b 96 ≡ false) × (eqb b 34 ≡ false) × (printable b ≡ true)
quoted_apart b e =
    let r = and_r (not (eqb b 96)) (not (eqb b 34) && printable b) e in
    (not-true (eqb b 96) (and_l (not (eqb b 96)) (not (eqb b 34) && printable b) e), not-true (eqb b 34) (and_l (not (eqb b 34)) (printable b) r), and_r (not (eqb b 34)) (printable b) r)

bare_apart : (b : ℕ) → ok_bare b ≡ true → (eqb b 96 ≡ false) × (eqb b 34 ≡ false) × (printable b ≡ true)
bare_apart b e = quoted_apart b (and_r (not (eqb b 32)) (ok_quoted b) e)

-- one sign
sign_read : (q : Bool) (x : Sign) → ok_sign q x ≡ true → (r : List ℕ) → signs (mode_of q) (raw x ++ r) ≡ x ∷ signs (mode_of (turns q x)) r
unfolding signs gives after
sign_read false (bare b) e r = let q = bare_apart b e in simp (q.0, q.1)
sign_read false (escaped b) e r = simp (and_l (one_of twelve b) (printable b) e)
sign_read false quote e r = refl
sign_read false (quoted b) e r = cc
sign_read false (quoted_escaped b) e r = cc
sign_read true (bare b) e r = cc
sign_read true (escaped b) e r = cc
sign_read true quote e r = refl
sign_read true (quoted b) e r = let q = quoted_apart b e in simp (q.0, q.1)
sign_read true (quoted_escaped b) e r = simp (and_l (one_of two b) (printable b) e)

sign_end : (q : Bool) (x : Sign) → ok_sign q x ≡ true → (r : List ℕ) → end_mode (mode_of q) (raw x ++ r) ≡ end_mode (mode_of (turns q x)) r
unfolding end_mode after walk
sign_end false (bare b) e r = let q = bare_apart b e in simp (q.0, q.1)
sign_end false (escaped b) e r = refl
sign_end false quote e r = refl
sign_end false (quoted b) e r = cc
sign_end false (quoted_escaped b) e r = cc
sign_end true (bare b) e r = cc
sign_end true (escaped b) e r = cc
sign_end true quote e r = refl
sign_end true (quoted b) e r = let q = quoted_apart b e in simp (q.0, q.1)
sign_end true (quoted_escaped b) e r = refl

-- a whole text, and whatever follows it
pub good_read : (q : Bool) (w : List Sign) → good q w ≡ true → (r : List ℕ) → signs (mode_of q) (raws w ++ r) ≡ w ++ signs Out r
unfolding good raws
good_read false [] e r = refl
good_read true [] e r = no_case (sym e)
good_read q (x ∷ w) e r =
    ap (signs (mode_of q)) (append_assoc (raw x) (raws w) r)
    ∙ sign_read q x (and_l (ok_sign q x) (good (turns q x) w) e) (raws w ++ r)
    ∙ ap (λ z. x ∷ z) (good_read (turns q x) w (and_r (ok_sign q x) (good (turns q x) w) e) r)

pub good_end : (q : Bool) (w : List Sign) → good q w ≡ true → (r : List ℕ) → end_mode (mode_of q) (raws w ++ r) ≡ end_mode Out r
unfolding good raws
good_end false [] e r = refl
good_end true [] e r = no_case (sym e)
good_end q (x ∷ w) e r =
    ap (end_mode (mode_of q)) (append_assoc (raw x) (raws w) r)
    ∙ sign_end q x (and_l (ok_sign q x) (good (turns q x) w) e) (raws w ++ r)
    ∙ good_end (turns q x) w (and_r (ok_sign q x) (good (turns q x) w) e) r

-- its bytes are printable, and no sign of it is a gap
sign_clean : (q : Bool) (x : Sign) → ok_sign q x ≡ true → all_of printable (raw x) ≡ true
unfolding all_of
sign_clean false (bare b) e = simp (bare_apart b e).2
sign_clean false (escaped b) e = simp (and_r (one_of twelve b) (printable b) e)
sign_clean false quote e = refl
sign_clean false (quoted b) e = cc
sign_clean false (quoted_escaped b) e = cc
sign_clean true (bare b) e = cc
sign_clean true (escaped b) e = cc
sign_clean true quote e = refl
sign_clean true (quoted b) e = simp (quoted_apart b e).2
sign_clean true (quoted_escaped b) e = simp (and_r (one_of two b) (printable b) e)

pub good_clean : (q : Bool) (w : List Sign) → good q w ≡ true → all_of printable (raws w) ≡ true
unfolding good raws all_of
good_clean q [] e = refl
good_clean q (x ∷ w) e =
    all_append printable (raw x) (raws w) (sign_clean q x (and_l (ok_sign q x) (good (turns q x) w) e))
    (good_clean (turns q x) w (and_r (ok_sign q x) (good (turns q x) w) e))

sign_solid : (q : Bool) (x : Sign) → ok_sign q x ≡ true → is_gap x ≡ false
sign_solid false (bare b) e = not-true (eqb b 32) (and_l (not (eqb b 32)) (ok_quoted b) e)
sign_solid true (bare b) e = cc
sign_solid q (escaped b) e = refl
sign_solid q quote e = refl
sign_solid q (quoted b) e = refl
sign_solid q (quoted_escaped b) e = refl

pub good_solid : (q : Bool) (w : List Sign) → good q w ≡ true → any_of is_gap w ≡ false
unfolding good any_of
good_solid q [] e = refl
good_solid q (x ∷ w) e =
    simp (sign_solid q x (and_l (ok_sign q x) (good (turns q x) w) e), good_solid (turns q x) w (and_r (ok_sign q x) (good (turns q x) w) e))
