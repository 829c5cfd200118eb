-- A term written by its own bytes is the canonical writing of the part that it is; and the bytes of it one step at a time, as the code writes them.
-- Assumes nothing.
use Prim.Native.Nat.{ℕ}
use mathlib.Core.Path.{◌≡◌, refl, sym, ap, ◌∙◌}
use mathlib.Core.List.{List, [], ◌∷◌, ◌++◌, map}
use mathlib.Core.Bool.{Bool, true, false, cond, not, ◌&&◌, ◌||◌}
use mathlib.Core.Option.{some}
use native.Mathlib.Omega.{arith}
use lib.ListN.{take, get_or}
use lib.Dec.{eqb}
use borrow.Author.Tests.{eqb-true}
use Rattle.text.specs.Bytes.{bytes, one_of, same_bytes}
use Rattle.text.specs.Lists.{any_of, onto, parts, each, between, is_nil}
use Rattle.text.proofs.Tests.{or_case, no_case}
use Rattle.text.proofs.SameTexts.{same_eq}
use Rattle.text.proofs.Parts.{parts_some}
use Rattle.terms.specs.declared.Mode.TheVariants.{Out, OutGrave}
use Rattle.terms.specs.Signs.{bare, escaped, twelve, after, gives, signs, raw, raws, stands, meant, bares}
use Rattle.terms.proofs.SignBytes.{raws_signs}
use Rattle.terms.proofs.Bares.{raws_bares}
use Rattle.words.specs.declared.Kind.{Kind}
use Rattle.words.specs.Words.{lowered, verb_name, option_name, kind_of, session_name}
use Rattle.forms.specs.Forms.{starts, is_mark, is_level, is_place, Property, property_of, topic_of}
use Rattle.forms.specs.Targets.{is_separator, Target, target_of}
use Rattle.reading.specs.declared.State.{State}
use Rattle.reading.specs.Command.{Argument, argument_by, Item, shown_of}
use Rattle.reading.specs.Reading.{is_help, takes, decide}
use Rattle.canonical.specs.Canonical.{write_property, three, escapes, write_more, write_place, write_argument, write_target, write_item}
use Rattle.canonical.specs.Written.{graved, graved_all, texts_in, leads_dash, dash_grave, place_in, slash, slashed, level_in, argument_in, written}
use Rattle.canonical.proofs.Places.{level_told}
use Rattle.canonical.proofs.TextWriting.{entries_written, topic_written, property_written}
use Rattle.text.proofs.Classes.{other_byte}
use Rattle.reading.proofs.TakenCases.{taken_case, argument_from}
use Rattle.forms.proofs.FormCases.{target_from}

-- ---- a target: `/` for each separator

slash_parts : (s : List ℕ) → between 47 (parts is_separator s) ≡ slashed s
unfolding parts between each slashed slash
slash_parts [] = refl
slash_parts (b ∷ s) = go (eqb b 47) (eqb b 92) refl refl (parts is_separator s) (parts_some is_separator s) (slash_parts s)
  where
    go : (x y : Bool) → eqb b 47 ≡ x → eqb b 92 ≡ y → (ps : List (List ℕ)) → is_nil ps ≡ false → between 47 ps ≡ map slash s
        → between 47 (cond (eqb b 47 || eqb b 92) ([] ∷ ps) (onto b ps)) ≡ cond (eqb b 92) 47 b ∷ map slash s
    go x y p q [] n e = no_case n
    go true true p q (w ∷ ps) n e = absurd (let z = eqb-true b 47 p in let k = eqb-true b 92 q in omega arith)
    go true false p q (w ∷ ps) n e = simp (p, q) (ap (λ (z : List ℕ). 47 ∷ z) e ∙ ap (λ (z : ℕ). z ∷ map slash s) (sym (eqb-true b 47 p)))
    go false true p q (w ∷ ps) n e = simp (p, q) (ap (λ (z : List ℕ). 47 ∷ z) e)
    go false false p q (w ∷ ps) n e = simp (p, q) (ap (λ (z : List ℕ). b ∷ z) e)

separator_slash : (b : ℕ) → is_separator b ≡ true → slash b ≡ 47
unfolding slash
separator_slash b h = or_case (eqb b 47) (eqb b 92) h (λ e. let z = eqb-true b 47 e in rw z) (λ e. rw e)

session_slashed : slashed session_name ≡ session_name
unfolding slashed slash session_name bytes
session_slashed = refl

pub target_written : (s : List ℕ) (g : Target) → target_of s ≡ some g → write_target g ≡ slashed s
unfolding slashed between
target_written =
    target_from (λ s g. write_target g ≡ slashed s) (λ s e. sym (ap slashed (same_eq s session_name e) ∙ session_slashed)) (λ b e. ap (λ (y : ℕ). y ∷ []) (sym (separator_slash b e)))
    (λ b s e h l. ap (λ (y : List ℕ). 47 ∷ y) (slash_parts s) ∙ ap (λ (y : ℕ). y ∷ map slash s) (sym (separator_slash b e))) (λ s h l. slash_parts s)

-- ---- a source or destination

more_byte : (b : ℕ) → raw (escapes false b) ≡ graved false b
unfolding escapes graved
more_byte b = go (one_of three b)
  where
    go : (x : Bool) → raw (cond (x || false) (escaped b) (bare b)) ≡ cond x (96 ∷ b ∷ []) (b ∷ [])
    go true = refl
    go false = refl

pub more_bytes : (s : List ℕ) → raws (write_more s) ≡ graved_all false s
unfolding raws write_more graved_all
more_bytes [] = refl
more_bytes (b ∷ s) = ap (λ (z : List ℕ). z ++ raws (write_more s)) (more_byte b) ∙ ap (λ (z : List ℕ). graved false b ++ z) (more_bytes s)

dash_first : (b : ℕ) → eqb b 45 ≡ true → raw (escapes true b) ≡ 96 ∷ graved false b
unfolding escapes graved one_of bytes
dash_first b e = let z = eqb-true b 45 e in rw z

other_first : (b : ℕ) → eqb b 45 ≡ false → raw (escapes true b) ≡ graved false b
unfolding escapes
other_first b e = more_like (one_of three b) ∙ more_byte b
  where
    more_like : (x : Bool) → raw (cond (x || (true && eqb b 45)) (escaped b) (bare b)) ≡ raw (cond (x || (false && eqb b 45)) (escaped b) (bare b))
    more_like x = rw e

place_bytes : (s : List ℕ) → raws (write_place s) ≡ dash_grave (eqb (get_or s 0 0) 45) ++ graved_all false s
unfolding raws write_place graved_all
place_bytes [] = refl
place_bytes (b ∷ s) = go (eqb b 45) refl
  where
    go : (x : Bool) → eqb b 45 ≡ x → raw (escapes true b) ++ raws (write_more s) ≡ dash_grave (eqb b 45) ++ (graved false b ++ graved_all false s)
    go true e = rw (e, dash_first b e, more_bytes s)
    go false e = rw (e, other_first b e, more_bytes s)

dash_escapes : one_of twelve 45 ≡ true
unfolding one_of twelve bytes
dash_escapes = refl

-- a term without quote marks that does not start with a bare `-` stands for bytes that start with `-` where its own start with an escaped one
leading : (s : List ℕ) → is_place (signs Out s) ≡ true → starts 45 (signs Out s) ≡ false → eqb (get_or (stands (signs Out s)) 0 0) 45 ≡ leads_dash s
unfolding leads_dash same_bytes bytes signs gives after stands is_place any_of
leading [] p d = refl
leading (b ∷ s) p d = go (eqb b 96) (eqb b 34) refl refl s p d
  where
    dash : (c : ℕ) (x : Bool) → eqb c 45 ≡ x → eqb c 45 ≡ eqb c 45 && true
    dash c true e = simp e
    dash c false e = simp e

    pair : (x : Bool) (c : ℕ) (s : List ℕ) → one_of twelve c ≡ x → eqb (get_or (stands (gives OutGrave c ++ signs Out s)) 0 0) 45 ≡ eqb c 45 && true
    pair true c s e = simp e (dash c (eqb c 45) refl)
    pair false c s e =
        simp (e, other_byte (one_of twelve) 45 c false dash_escapes e)

    go : (x y : Bool) → eqb b 96 ≡ x → eqb b 34 ≡ y → (s : List ℕ)
        → not (any_of is_mark (gives Out b ++ signs (after Out b) s)) ≡ true
        → starts 45 (gives Out b ++ signs (after Out b) s) ≡ false
        → eqb (get_or (stands (gives Out b ++ signs (after Out b) s)) 0 0) 45 ≡ same_bytes (take 2 (b ∷ s)) (96 ∷ 45 ∷ [])
    go true y e f [] p d = simp e
    go true y e f (c ∷ s) p d = rw e (pair (one_of twelve c) c s refl)
    go false true e f s p d = no_case (sym (rw (e, f) at p))
    go false false e f s p d = simp (e, f, rw (e, f) at d)

pub place_written : (s : List ℕ) → is_place (signs Out s) ≡ true → starts 45 (signs Out s) ≡ false → raws (write_place (stands (signs Out s))) ≡ place_in s
unfolding place_in meant
place_written s p d =
    place_bytes (stands (signs Out s)) ∙ ap (λ (x : Bool). dash_grave x ++ graved_all false (stands (signs Out s))) (leading s p d)

-- ---- a term is written as the part that it is

raw_written : (s : List ℕ) → raws (bares (raws (signs Out s))) ≡ s
raw_written s = raws_bares (raws (signs Out s)) ∙ raws_signs s

level_written : (s : List ℕ) → is_level s ≡ true → raws (bares (lowered (raws (signs Out s)))) ≡ level_in s
level_written s e = raws_bares (lowered (raws (signs Out s))) ∙ ap lowered (raws_signs s) ∙ level_told s e

argument_written : (k : Kind) (s : List ℕ) (a : Argument) → starts 45 (signs Out s) ≡ false → argument_by k (signs Out s) ≡ some a → raws (write_argument a) ≡ argument_in k s
unfolding texts_in
argument_written k s a d h =
    argument_from (λ j b. raws (write_argument b) ≡ argument_in j s) (signs Out s) (λ e. raw_written s)
    (λ e. level_written s (ap is_level (sym (raws_signs s)) ∙ e)) (λ e. place_written s e d)
    (λ es e. ap raws (sym (entries_written (signs Out s) es e))) k a h

property_part : (help : Bool) (s : List ℕ) (p : Property) → cond help (topic_of (signs Out s)) (property_of (signs Out s)) ≡ some p → raws (write_property p) ≡ texts_in s
unfolding texts_in
property_part true s p h = ap raws (sym (topic_written (signs Out s) p h))
property_part false s p h = ap raws (sym (property_written (signs Out s) p h))

-- whatever part a term is taken as, its bytes are written as that part is
pub term_written : (s : List ℕ) (i : Item) (t : State) → decide t (signs Out s) ≡ takes i → raws (write_item i) ≡ written (shown_of i) s
unfolding decide raws
term_written s i t h =
    taken_case (λ ph j. raws (write_item j) ≡ written (shown_of j) s) t.verb t.seen t.count (signs Out s) (λ n e. raws_bares (verb_name n))
    (λ n e a f. ap (λ (y : List ℕ). 45 ∷ y) (raws_bares (option_name n))) (λ n a d e. argument_written (kind_of n) s a d e)
    (λ g f n e. raws_bares (write_target g) ∙ target_written s g (ap target_of (sym (raws_signs s)) ∙ e)) (λ p n c e. property_part (is_help t.verb) s p e) (λ p c e. property_part (is_help t.verb) s p e)
    t.phase i h
