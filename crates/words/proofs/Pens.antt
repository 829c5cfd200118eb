-- What a pen writes, one text after another. Assumes nothing.
use Prim.Native.Nat.{ℕ, ◌+◌, ◌<◌, ◌≤◌, ◌-◌, ◌^◌, min}
use mathlib.Core.Path.{◌≡◌, refl, sym, ap, ◌∙◌}
use mathlib.Core.List.{List, [], ◌++◌}
use mathlib.Core.Bool.{Bool, true, false}
use native.Mathlib.Omega.{arith}
use lib.ListN.{length, length-append}
use lib.Seq.{sets, length-sets}
use lib.Dec.{leb}
use borrow.Author.Tests.{leb-true, leb-false}
use Rattle.text.proofs.Writes.{sets_rest, sets_past}
use Rattle.words.specs.declared.Pen.{Pen}
use Rattle.words.specs.Pens.{Puts}

-- past the last number that a place can be nothing of a room stands
sets_stopped : (room s t : List ℕ) (at most : ℕ) → length room ≤ most → sets (sets room at s) (at + min (length s) (most - at)) t ≡ sets room at (s ++ t)
sets_stopped room s t at most h = go (leb (at + length s) most) refl
  where
    w : ℕ
    w = at + min (length s) (most - at)

    go : (x : Bool) → leb (at + length s) most ≡ x → sets (sets room at s) w t ≡ sets room at (s ++ t)
    go true e = let l = leb-true (at + length s) most e in sets_rest room s (sets room at s) at w refl (omega arith) t
    go false e =
        let l = leb-false (at + length s) most e in
        sets_past t (sets room at s) w (omega (arith, length-sets room at s))
        ∙ sym (sets_past t (sets room at s) (at + length s) (omega (arith, length-sets room at s)))
        ∙ sets_rest room s (sets room at s) at (at + length s) refl refl t

-- one after another
pub more : {p q r : Pen} {s t : List ℕ} → Puts p s q → Puts q t r → Puts p (s ++ t) r
more {p} {q} {r} {s} {t} a b =
    record {
      same = b.same ∙ a.same;
      ends = omega (arith, a.ends, b.ends, length-append s t);
      holds = b.holds ∙ rw (a.holds, a.ends) (sets_stopped p.out.now s t p.at (2 ^ 64 - 1) (omega (arith, a.within)));
      within = a.within;
    }

-- nothing
pub nothing_put : {p : Pen} → length p.out.now < 2 ^ 63 → Puts p [] p
nothing_put h = record { same = refl; ends = omega arith; holds = refl; within = h }

-- a pen's room is no longer than it was
pub still_within : {p q : Pen} {t : List ℕ} → Puts p t q → length q.out.now < 2 ^ 63
still_within {p} {q} {t} a = omega (arith, a.within, ap length a.holds, length-sets p.out.now p.at t)

-- the same text, said otherwise
pub as_text : {p q : Pen} {s t : List ℕ} → s ≡ t → Puts p s q → Puts p t q
as_text {p} {q} {s} {t} e a = rw e at a

-- what is written leaves no choice
pub pen_only : {p q r : Pen} {t : List ℕ} → Puts p t q → Puts p t r → (q.at ≡ r.at) × (q.out.now ≡ r.out.now) × (q.out.ghost_name ≡ r.out.ghost_name)
pen_only a b = (a.ends ∙ sym b.ends, a.holds ∙ sym b.holds, a.same ∙ sym b.same)

-- what lent room holds that a pen wrote in from the start on
pub landed : {p q : Pen} {room t out : List ℕ} → p.at ≡ 0 → p.out.now ≡ room → Puts p t q → out ≡ q.out.now → out ≡ sets room 0 t
landed z e a h = h ∙ rw (← e, ← z) a.holds
