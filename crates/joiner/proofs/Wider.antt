-- What demand 3's condition could do without: after an LF and then a CR or LF, and after a CR and then a CR, nothing of what came before is left open
-- either. So of CR and LF before the end of line only a CR before an LF has to be left out; capture/Needed has the parts that are needed.
-- Assumes nothing.
use Prim.Native.Nat.{ℕ}
use mathlib.Core.Path.{◌≡◌, refl, ◌∙◌}
use mathlib.Core.List.{List, [], ◌∷◌, ◌++◌}
use mathlib.Core.Bool.{Bool, true, false, ◌&&◌, true≢false}
use Rattle.joiner.specs.Lines.{ByteKind, CR, LF, GRAVE, plain, byte_kind, Open, open', nothing_open, next_by, next_open, open_after, fresh_after}
use Rattle.joiner.proofs.Trust.{open_append}

-- no GRAVE waits directly after a CR
Apart : Open → Type 0
Apart o = o.waits && o.was_cr ≡ false

apart_next : (k : ByteKind) (g r : Bool) (x : ℕ) (t : List ℕ) → Apart (next_by k g r x t).left
unfolding Apart
apart_next CR true r x t = refl
apart_next CR false r x t = refl
apart_next LF true true x t = refl
apart_next LF false true x t = refl
apart_next LF true false x t = refl
apart_next LF false false x t = refl
apart_next GRAVE true r x t = refl
apart_next GRAVE false r x t = refl
apart_next plain true r x t = refl
apart_next plain false r x t = refl

apart_after : (o : Open) (c : List ℕ) → Apart o → Apart (open_after o c)
unfolding open_after next_open
apart_after o [] h = h
apart_after o (x ∷ xs) h = apart_after (next_open o x).left xs (apart_next (byte_kind x) o.waits o.was_cr x o.text)

-- the two bytes, whatever is open before them
abbrev Freshens : ℕ → ℕ → Type 0
Freshens x e = (g r : Bool) (t : List ℕ) → g && r ≡ false → open_after (open' t g r) (x ∷ e ∷ []) ≡ fresh_after e

lf_cr : Freshens 10 13
unfolding open_after next_open byte_kind fresh_after
lf_cr true true t h = absurd (true≢false h)
lf_cr true false t h = refl
lf_cr false true t h = refl
lf_cr false false t h = refl

lf_lf : Freshens 10 10
unfolding open_after next_open byte_kind fresh_after
lf_lf true true t h = absurd (true≢false h)
lf_lf true false t h = refl
lf_lf false true t h = refl
lf_lf false false t h = refl

cr_cr : Freshens 13 13
unfolding open_after next_open byte_kind fresh_after
cr_cr true true t h = absurd (true≢false h)
cr_cr true false t h = refl
cr_cr false true t h = refl
cr_cr false false t h = refl

freshens : (x e : ℕ) → Freshens x e → (p : List ℕ) → open_after nothing_open (p ++ (x ∷ e ∷ [])) ≡ fresh_after e
unfolding Apart
freshens x e f p =
    let o : Open = open_after nothing_open p in
    open_append nothing_open p (x ∷ e ∷ []) ∙ f o.waits o.was_cr o.text (apart_after nothing_open p refl)

-- by `Trust.fresh_lines` and `fresh_ending` all later lines and the end are then those of what follows
pub after_lf_cr : (p : List ℕ) → open_after nothing_open (p ++ (10 ∷ 13 ∷ [])) ≡ fresh_after 13
after_lf_cr = freshens 10 13 lf_cr

pub after_lf_lf : (p : List ℕ) → open_after nothing_open (p ++ (10 ∷ 10 ∷ [])) ≡ fresh_after 10
after_lf_lf = freshens 10 10 lf_lf

pub after_cr_cr : (p : List ℕ) → open_after nothing_open (p ++ (13 ∷ 13 ∷ [])) ≡ fresh_after 13
after_cr_cr = freshens 13 13 cr_cr
