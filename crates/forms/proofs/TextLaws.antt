-- Values read sign by sign are the paper's values; and what one byte more, and the end, make of such a pass. Assumes nothing.
use Prim.Native.Nat.{ℕ, suc, ◌+◌, ◌<◌, ◌≤◌}
use mathlib.Core.Path.{◌≡◌, refl, sym, ap, ◌∙◌}
use mathlib.Core.List.{List, [], ◌∷◌, ◌++◌}
use mathlib.Core.Bool.{Bool, true, false, cond, ◌&&◌}
use native.Mathlib.Omega.{arith}
use native.Mathlib.Numerals.{add-one}
use lib.ListN.{length, get_or, take, drop, drop_of_length-le}
use lib.Dec.{eqb, leb}
use borrow.Author.Tests.{eqb-true, ne_eqb}
use Rattle.text.specs.Bytes.{bytes, one_of}
use Rattle.text.specs.Lists.{all_of, any_of, up_to, past, onto, parts, is_nil}
use Rattle.text.proofs.Tests.{no_case}
use Rattle.text.proofs.Parts.{parts_some}
use Rattle.text.proofs.Scans.{drop_step}
use Rattle.terms.specs.declared.Mode.{Mode}
use Rattle.terms.specs.declared.Mode.TheVariants.{Out, OutGrave, In, InGrave}
use Rattle.terms.specs.Signs.{Sign, bare, escaped, quote, quoted, quoted_escaped, is_bare, twelve, after, gives, at_end, signs}
use Rattle.forms.specs.declared.At.{At}
use Rattle.forms.specs.declared.At.TheVariants.{Start, Plain, Inside, Ended, Dead}
use Rattle.forms.specs.Forms.{is_plain_sign, ends_quote, is_text, items_in, is_list}
use Rattle.forms.specs.Automata.{text_step, whole, text_from, text_over, text_end, list_from}
use Rattle.forms.specs.Steps.{bare_at, next_item, list_step, items_after}
use Rattle.forms.proofs.Lists.{taken_step, last_one}
use Rattle.text.proofs.Classes.{other_byte}
use Rattle.terms.proofs.ByteCases.{gives_case, out_case, grave_first, end_case}

-- ---- a quoted string or plain

pub from_dead : (t : List Sign) → text_from Dead t ≡ false
unfolding text_over
from_dead [] = refl
from_dead (x ∷ t) = from_dead t

from_ended : (t : List Sign) → text_from Ended t ≡ is_nil t
unfolding text_over
from_ended [] = refl
from_ended (x ∷ t) = from_dead t

from_plain : (t : List Sign) → text_from Plain t ≡ all_of is_plain_sign t
unfolding text_over all_of
from_plain [] = refl
from_plain (x ∷ t) = go (is_plain_sign x) refl (from_plain t)
  where
    go : (p : Bool) → is_plain_sign x ≡ p → text_from Plain t ≡ all_of is_plain_sign t → text_from Plain (x ∷ t) ≡ is_plain_sign x && all_of is_plain_sign t
    go true e ih = rw e ih
    go false e ih = rw e (from_dead t)

from_inside : (t : List Sign) → text_from Inside t ≡ ends_quote t
unfolding text_over ends_quote
from_inside [] = refl
from_inside (bare b ∷ t) = from_dead t
from_inside (escaped b ∷ t) = from_dead t
from_inside (quote ∷ t) = from_ended t
from_inside (quoted b ∷ t) = from_inside t
from_inside (quoted_escaped b ∷ t) = from_inside t

pub text_from_lem : (t : List Sign) → text_from Start t ≡ is_text t
unfolding text_over is_text all_of is_plain_sign
text_from_lem [] = refl
text_from_lem (bare b ∷ t) = go (is_plain_sign (bare b)) refl
  where
    go : (p : Bool) → is_plain_sign (bare b) ≡ p → text_from (cond (is_plain_sign (bare b)) Plain Dead) t ≡ is_plain_sign (bare b) && all_of is_plain_sign t
    go true e = rw e (from_plain t)
    go false e = rw e (from_dead t)
text_from_lem (escaped b ∷ t) = from_plain t
text_from_lem (quote ∷ t) = from_inside t
text_from_lem (quoted b ∷ t) = from_dead t
text_from_lem (quoted_escaped b ∷ t) = from_dead t

pub over : (q : At) (a r : List Sign) → text_from q (a ++ r) ≡ text_from (text_over q a) r
unfolding text_over
over q [] r = refl
over q (x ∷ a) r = over (text_step q x) a r

-- what is quoted counts the same, escaped or not
pub quoted_both : (q : At) (b : ℕ) → text_step q (quoted_escaped b) ≡ text_step q (quoted b)
unfolding is_plain_sign
quoted_both Start b = refl
quoted_both Plain b = refl
quoted_both Inside b = refl
quoted_both Ended b = refl
quoted_both Dead b = refl

-- the text is the first n bytes of s
module _ (s : List ℕ) (n i : ℕ) (m : Mode) (q : At) where
  pub text_on_lem : (m' : Mode) (q' : At) → i < length (take n s) → q' ≡ text_over q (gives m (get_or s i 0)) → m' ≡ after m (get_or s i 0)
      → text_from q' (signs m' (drop (i + 1) (take n s))) ≡ text_from q (signs m (drop i (take n s)))
  unfolding signs
  text_on_lem m' q' h e f =
      let b = get_or s i 0 in
      sym (ap (λ z. text_from q (signs m z)) (taken_step s n i h) ∙ over q (gives m b) (signs (after m b) (drop (i + 1) (take n s))) ∙ rw (e, f))

-- a text byte by byte: it goes on, it is past its end
module _ (t : List ℕ) (i : ℕ) (m : Mode) (q : At) where
  pub text_next : (m' : Mode) (q' : At) → i < length t → q' ≡ text_over q (gives m (get_or t i 0)) → m' ≡ after m (get_or t i 0)
      → text_from q' (signs m' (drop (i + 1) t)) ≡ text_from q (signs m (drop i t))
  unfolding signs
  text_next m' q' h e f =
      let b = get_or t i 0 in
      sym (ap (λ z. text_from q (signs m z)) (drop_step t i h) ∙ over q (gives m b) (signs (after m b) (drop (i + 1) t)) ∙ rw (e, f))

  pub text_past : length t ≤ i → text_from q (signs m (drop i t)) ≡ text_end q m
  unfolding signs text_end
  text_past h = ap (λ z. text_from q (signs m z)) (drop_of_length-le t h)

-- ---- lists

first_from : At → List (List Sign) → Bool
first_from q [] = false
first_from q (p ∷ ps) = text_from q p && all_of is_text ps

first_start : (ps : List (List Sign)) → is_nil ps ≡ false → first_from Start ps ≡ all_of is_text ps
unfolding first_from all_of
first_start [] e = no_case e
first_start (p ∷ ps) e = rw (text_from_lem p)

first_onto : (q : At) (x : Sign) (ps : List (List Sign)) → is_nil ps ≡ false → first_from q (onto x ps) ≡ first_from (text_step q x) ps
unfolding first_from text_over
first_onto q x [] e = no_case e
first_onto q x (p ∷ ps) e = refl

onto_length : (x : Sign) (ps : List (List Sign)) → is_nil ps ≡ false → length (onto x ps) ≡ length ps
onto_length x [] e = no_case e
onto_length x (p ∷ ps) e = refl

turn_1 : (w l n : Bool) → (w && (l && n)) ≡ (n && ((w && true) && l))
turn_1 true true true = refl
turn_1 true true false = refl
turn_1 true false true = refl
turn_1 true false false = refl
turn_1 false l true = refl
turn_1 false l false = refl

turn_2 : (w a b c d : Bool) → (w && (a && (b && (c && d)))) ≡ (a && (b && ((w && c) && d)))
turn_2 true a b c d = refl
turn_2 false true true c d = refl
turn_2 false true false c d = refl
turn_2 false false b c d = refl

pub items_close : (x : Sign) (xs : List Sign) → is_bare 41 x ≡ true → items_in (x ∷ xs) ≡ [] ∷ []
unfolding items_in up_to parts
items_close x xs p = rw p

pub items_comma : (x : Sign) (xs : List Sign) → is_bare 41 x ≡ false → is_bare 44 x ≡ true → items_in (x ∷ xs) ≡ [] ∷ items_in xs
unfolding items_in up_to parts
items_comma x xs p r = simp (p, r)

pub items_other : (x : Sign) (xs : List Sign) → is_bare 41 x ≡ false → is_bare 44 x ≡ false → items_in (x ∷ xs) ≡ onto x (items_in xs)
unfolding items_in up_to parts
items_other x xs p r = simp (p, r)

pub items_some : (xs : List Sign) → is_nil (items_in xs) ≡ false
unfolding items_in
items_some xs = parts_some (is_bare 44) (up_to (is_bare 41) xs)

-- what the rest of a list must be, k items having come before
ListBy : At → ℕ → List Sign → Bool
ListBy q k t = any_of (is_bare 41) t && (is_nil (past (is_bare 41) t) && (first_from q (items_in t) && leb (k + length (items_in t)) 16))

list_by_lem : (q : At) (k : ℕ) (t : List Sign) → list_from q k t ≡ ListBy q k t
unfolding list_from any_of past ListBy first_from text_over all_of
list_by_lem q k [] = refl
list_by_lem q k (x ∷ xs) = go (is_bare 41 x) (is_bare 44 x) refl refl (list_by_lem Start (suc k) xs) (list_by_lem (text_step q x) k xs)
  where
    go : (c d : Bool) → is_bare 41 x ≡ c → is_bare 44 x ≡ d → list_from Start (suc k) xs ≡ ListBy Start (suc k) xs → list_from (text_step q x) k xs ≡ ListBy (text_step q x) k xs
        → list_from q k (x ∷ xs) ≡ ListBy q k (x ∷ xs)
    go true d p r ih₁ ih₂ =
        rw (p, items_close x xs p) (turn_1 (whole q) (leb (suc k) 16) (is_nil xs) ∙ ap (λ n. is_nil xs && ((whole q && true) && leb n 16)) (sym (add-one k)))
    go false true p r ih₁ ih₂ =
        let e : suc k + length (items_in xs) ≡ k + suc (length (items_in xs)) = omega arith in
        rw (p, r, items_comma x xs p r, ih₁, first_start (items_in xs) (items_some xs), e)
        (turn_2 (whole q) (any_of (is_bare 41) xs) (is_nil (past (is_bare 41) xs)) (all_of is_text (items_in xs)) (leb (k + suc (length (items_in xs))) 16))
    go false false p r ih₁ ih₂ =
        rw (p, r, items_other x xs p r, ih₂, first_onto q x (items_in xs) (items_some xs), onto_length x (items_in xs) (items_some xs))

-- the whole of a list, after its opening parenthesis
pub list_from_lem : (t : List Sign) → list_from Start 0 t ≡ is_list t
unfolding is_list ListBy
list_from_lem t =
    let e : 0 + length (items_in t) ≡ length (items_in t) = omega arith in
    list_by_lem Start 0 t ∙ rw (first_start (items_in t) (items_some t), e)

-- ---- a list byte by byte

pub list_dead : (k : ℕ) (t : List Sign) → list_from Dead k t ≡ false
unfolding list_from
list_dead k [] = refl
list_dead k (x ∷ t) = go (is_bare 41 x) (is_bare 44 x) (list_dead k t)
  where
    go : (c d : Bool) → list_from Dead k t ≡ false
        → cond c (false && (leb (suc k) 16 && is_nil t)) (cond d (false && list_from Start (suc k) t) (list_from Dead k t)) ≡ false
    go true d ih = refl
    go false true ih = refl
    go false false ih = ih

-- a byte outside quotes that GRAVE does not escape is no comma and no parenthesis
module _ (b : ℕ) (e : one_of twelve b ≡ false) where
  pub no_comma : eqb b 44 ≡ false
  no_comma = other_byte (one_of twelve) 44 b false (unfold one_of twelve bytes in refl) e

  pub no_open : eqb b 40 ≡ false
  no_open = other_byte (one_of twelve) 40 b false (unfold one_of twelve bytes in refl) e

  pub no_close : eqb b 41 ≡ false
  no_close = other_byte (one_of twelve) 41 b false (unfold one_of twelve bytes in refl) e

  pub no_equal : eqb b 61 ≡ false
  no_equal = other_byte (one_of twelve) 61 b false (unfold one_of twelve bytes in refl) e

list_next : (q : At) (k : ℕ) (r : List Sign) → whole q && list_from Start (suc k) r ≡ list_from (next_item q) (k + 1) r
list_next q k r = go (whole q) refl
  where
    go : (w : Bool) → whole q ≡ w → whole q && list_from Start (suc k) r ≡ list_from (next_item q) (k + 1) r
    go true e = rw (e, add-one)
    go false e = rw e (sym (list_dead (k + 1) r))

pub list_over : (q : At) (k : ℕ) (m : Mode) (b : ℕ) (r : List Sign) → bare_at 41 m b ≡ false
    → list_from q k (gives m b ++ r) ≡ list_from (list_step q m b) (items_after k m b) r
unfolding list_from text_over list_step items_after gives
list_over q k m b r =
    gives_case (λ n g a. bare_at 41 n b ≡ false → list_from q k (g ++ r) ≡ list_from (list_step q n b) (items_after k n b) r) b
    (λ p e. let w = eqb-true b 96 p in simp (p, ne_eqb b 44 (λ j. omega arith)))
    (λ p t e. let w = eqb-true b 34 t in simp (p, t, ne_eqb b 44 (λ j. omega arith)))
    (λ p t e. bare_over p t e (eqb b 44) refl)
    (λ p e. simp p)
    (λ p e. simp (p, no_comma b p, no_close b p))
    (λ p e. simp p) (λ p t e. simp (p, t)) (λ p t e. simp (p, t)) (λ p e. simp p) (λ p e. simp p) m
  where
    bare_over : eqb b 96 ≡ false → eqb b 34 ≡ false → eqb b 41 ≡ false → (z : Bool) → eqb b 44 ≡ z → list_from q k (bare b ∷ r) ≡ list_from (list_step q Out b) (items_after k Out b) r
    bare_over p t e true u = simp (p, t, u, e) (list_next q k r)
    bare_over p t e false u = simp (p, t, u, e)

pub list_end : (q : At) (k : ℕ) (m : Mode) → list_from q k (at_end m) ≡ false
unfolding list_from
list_end q k = end_case (λ m z. list_from q k z ≡ false) refl refl refl refl

-- a text that has bytes has signs
pub signs_nil : (s : List ℕ) → is_nil (signs Out s) ≡ is_nil s
unfolding signs
signs_nil [] = refl
signs_nil (b ∷ s) = out_case (λ g m. is_nil (g ++ signs m s) ≡ false) b (λ _. grave_first (λ z. is_nil z ≡ false) (λ r. refl) (λ c r. refl) s) (λ _ _. refl) (λ _ _. refl)

list_close : (q : At) (k : ℕ) (m : Mode) (b : ℕ) (r : List ℕ) → bare_at 41 m b ≡ true
    → list_from q k (signs m (b ∷ r)) ≡ whole q && (leb (suc k) 16 && is_nil r)
unfolding list_from signs gives after
list_close q k Out b r e =
    ap (λ z. list_from q k (gives Out z ++ signs (after Out z) r)) (eqb-true b 41 e) ∙ ap (λ z. whole q && (leb (suc k) 16 && z)) (signs_nil r)
list_close q k OutGrave b r e = no_case (sym e)
list_close q k In b r e = no_case (sym e)
list_close q k InGrave b r e = no_case (sym e)

module _ (t : List ℕ) (i : ℕ) (m : Mode) (q : At) (k : ℕ) where
  pub list_on : (m' : Mode) (q' : At) (k' : ℕ) → i < length t → bare_at 41 m (get_or t i 0) ≡ false
      → q' ≡ list_step q m (get_or t i 0) → k' ≡ items_after k m (get_or t i 0) → m' ≡ after m (get_or t i 0)
      → list_from q' k' (signs m' (drop (i + 1) t)) ≡ list_from q k (signs m (drop i t))
  unfolding signs
  list_on m' q' k' h c e f g =
      let b = get_or t i 0 in
      sym (ap (λ z. list_from q k (signs m z)) (drop_step t i h) ∙ list_over q k m b (signs (after m b) (drop (i + 1) t)) c ∙ rw (e, f, g))

  pub list_closes : i < length t → bare_at 41 m (get_or t i 0) ≡ true → whole q && (leb (suc k) 16 && eqb (i + 1) (length t)) ≡ list_from q k (signs m (drop i t))
  list_closes h c =
      sym (ap (λ z. list_from q k (signs m z)) (drop_step t i h) ∙ list_close q k m (get_or t i 0) (drop (i + 1) t) c
      ∙ ap (λ z. whole q && (leb (suc k) 16 && z)) (last_one t i h))

  pub list_past : length t ≤ i → list_from q k (signs m (drop i t)) ≡ false
  unfolding signs
  list_past h = ap (λ z. list_from q k (signs m z)) (drop_of_length-le t h) ∙ list_end q k m

-- one item more at the most
pub items_grow : (k : ℕ) (m : Mode) (b : ℕ) → items_after k m b ≤ k + 1
unfolding items_after
items_grow k m b = go (bare_at 44 m b)
  where
    go : (t : Bool) → cond t (k + 1) k ≤ k + 1
    go true = omega arith
    go false = omega arith

-- what a pass over a text, and one over a list, rest on
pub ruleset text_pass = (text_from_lem, text_next, text_past)

pub ruleset list_pass = (list_from_lem, list_on, list_closes, list_past, items_grow)
