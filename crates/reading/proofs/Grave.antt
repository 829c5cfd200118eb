-- A line of the joiner's is never refused as 3: no GRAVE is left waiting in it, pairs running from the left. Assumes nothing.
use Prim.Native.Nat.{ℕ}
use mathlib.Core.Path.{◌≡◌, refl, sym, ap, ◌∙◌}
use mathlib.Core.List.{List, [], ◌∷◌}
use mathlib.Core.Bool.{Bool, true, false, not, ◌&&◌}
use native.Mathlib.Omega.{arith}
use lib.Dec.{eqb}
use Rattle.text.specs.Lists.{walk, all_of}
use Rattle.text.proofs.Tests.{and_l, and_r, no_case}
use Rattle.terms.specs.declared.Mode.{Mode}
use Rattle.terms.specs.declared.Mode.TheVariants.{Out}
use Rattle.terms.specs.Signs.{after}
use Rattle.terms.specs.Rows.{end_mode}
use Rattle.terms.proofs.RowLaws.{is_grave, lone_is, row_3}
use Rattle.joiner.specs.Lines.{Given, line, refused, lines_of, waits_after, dangling}
use Rattle.joiner.proofs.Given.{Every, Sound, sound_lines}
use Rattle.reading.specs.Reading.{reading_of, refusal}
use Rattle.reading.specs.Order.{order, is_first_of, Refused, by_line, by_term, by_end}
use Rattle.reading.proofs.Order.{line_exactly}
use borrow.Author.Tests.{not-true}
use Rattle.terms.proofs.ByteCases.{gives_case}

-- a GRAVE waits at a text's end, as the signs have it, where it does as the joiner has it
after_waits : (m : Mode) (b : ℕ) → is_grave (after m b) ≡ (not (is_grave m) && eqb b 96)
after_waits m b =
    gives_case (λ k g n. is_grave n ≡ (not (is_grave k) && eqb b 96)) b (λ p. sym p) (λ p _. sym p) (λ p _. sym p) (λ _. refl) (λ _. refl) (λ p. sym p) (λ p _. sym p) (λ p _. sym p)
    (λ _. refl) (λ _. refl) m

waits_same : (m : Mode) (s : List ℕ) → is_grave (walk after m s) ≡ waits_after (is_grave m) s
unfolding walk waits_after
waits_same m [] = refl
waits_same m (b ∷ s) = waits_same (after m b) s ∙ ap (λ (g : Bool). waits_after g s) (after_waits m b)

dangles_same : (t : List ℕ) → is_grave (end_mode Out t) ≡ dangling t
unfolding end_mode dangling
dangles_same t = waits_same Out t

-- a number that is no row of a term
never_first : (f : ℕ → Bool) (js : List ℕ) (k : ℕ) → all_of (λ j. not (eqb j k)) js ≡ true → is_first_of f js k ≡ true → ⊥
unfolding is_first_of all_of
never_first f [] k a h = no_case (sym h)
never_first f (j ∷ js) k a h =
    let n = not-true (eqb j k) (and_l (not (eqb j k)) (all_of (λ i. not (eqb i k)) js) a) in
    never_first f js k (and_r (not (eqb j k)) (all_of (λ i. not (eqb i k)) js) a) (and_r (not (f j)) (is_first_of f js k) (rw n at h))

not_3 : all_of (λ j. not (eqb j 3)) order ≡ true
unfolding all_of order
not_3 = refl

pub paired_never_3 : (t : List ℕ) (p : ℕ) → dangling t ≡ false → reading_of t ≡ refusal 3 p → ⊥
paired_never_3 t p d h = go ((line_exactly t 3 p).0 h)
  where
    go : Refused t 3 p → ⊥
    go (by_line e) = no_case (sym ((row_3 t p).1 e).lone ∙ lone_is t ∙ dangles_same t ∙ d)
    go (by_term b x a s f e q g w) = never_first _ order 3 not_3 w
    go (by_end s f q w x y) = omega arith

-- OF EVERY LINE THAT A CAPTURE GIVES
abbrev pub NeverThree : Given → Type 0
NeverThree (line t) = (p : ℕ) → reading_of t ≡ refusal 3 p → ⊥
NeverThree (refused k p t) = Unit {0}

every_line : (gs : List Given) → Every Sound gs → Every NeverThree gs
every_line [] s = tt
every_line (line t ∷ gs) s = ((λ p h. paired_never_3 t p s.0.0 h), every_line gs s.1)
every_line (refused k p t ∷ gs) s = (tt, every_line gs s.1)

pub joined_never_3 : (c : List ℕ) → Every NeverThree (lines_of c)
joined_never_3 c = every_line (lines_of c) (sound_lines c)
