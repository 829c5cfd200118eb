-- Every value that a reading names is one: asked for what it stands for, the reader refuses none of its own. Assumes nothing.
use Prim.Native.Nat.{ℕ, zero, suc, ◌+◌, ◌-◌}
use mathlib.Core.Path.{◌≡◌, sym, ap, ◌∙◌}
use mathlib.Core.List.{List, [], ◌∷◌, ◌++◌, append_assoc}
use mathlib.Core.Bool.{Bool, true, false, cond}
use native.Mathlib.Omega.{arith}
use borrow.Author.Tests.{eq-eqb}
use lib.ListN.{length, take, drop, length-append}
use lib.Seq.{take_at, drop-append-add}
use Rattle.replies.specs.declared.Form.{Form}
use Rattle.replies.specs.declared.Form.TheVariants.{Nothing, Item, Group, Close, End, Wrong, Open}
use Rattle.replies.specs.Lines.{form_of, text_len, line_len, Line, is_last, lines_from, lines_of}
use Rattle.replies.specs.Items.{is_value}
use Rattle.replies.proofs.Forms.{Raw, plain, quoted, Row, nothing, item, group, close, end, wrong, open', row_of}
use Rattle.replies.proofs.Places.{Each}

pub raw_value : (v : List ℕ) → Raw v → is_value v ≡ true
unfolding is_value
raw_value v (plain _ n q) = rw q
raw_value _ (quoted q h) = let z : length q ≡ suc (length q) - 1 = omega arith in rw h (eq-eqb (length q) (suc (length q) - 1) z)

-- of a line: an item's value is one
abbrev pub ValueIn : List ℕ → Form → Type 0
ValueIn x (Nothing n) = Unit {0}
ValueIn x (Item k v) = is_value (drop (k + 1) x) ≡ true
ValueIn x (Group n) = Unit {0}
ValueIn x Close = Unit {0}
ValueIn x End = Unit {0}
ValueIn x Wrong = Unit {0}
ValueIn x Open = Unit {0}

abbrev pub Valued : Line → Type 0
Valued l = ValueIn l.text l.form

row_valued : (s : List ℕ) (f : Form) → Row s f → ValueIn (take (text_len f) s) f
row_valued _ _ (nothing t r c a e) = tt
row_valued _ _ (item k v r h w e) =
    let n : length (k ++ (61 ∷ v)) ≡ length k + 1 + length v = omega (arith, length-append k (61 ∷ v)) in
    let t = ap (take (length k + 1 + length v)) (sym (append_assoc k (61 ∷ v) r)) ∙ take_at (k ++ (61 ∷ v)) r (length k + 1 + length v) n in
    ap is_value (ap (drop (length k + 1)) t ∙ drop-append-add k (61 ∷ v) 1) ∙ raw_value v w
row_valued _ _ (group n r h e) = tt
row_valued _ _ (close r e) = tt
row_valued _ _ (end r e) = tt
row_valued _ _ (wrong s) = tt
row_valued _ _ (open' s) = tt

lines_valued : (k p : ℕ) (s : List ℕ) → Each Valued (lines_from k p s)
unfolding lines_from
lines_valued k p [] = tt
lines_valued (suc k) p (b ∷ s) = lines_valued k (suc p) s
lines_valued zero p (b ∷ s) = (row_valued (b ∷ s) (form_of (b ∷ s)) (row_of (b ∷ s)), go (is_last (form_of (b ∷ s))) (lines_valued (line_len (b ∷ s) - 1) (suc p) s))
  where
    rest : List Line
    rest = lines_from (line_len (b ∷ s) - 1) (suc p) s

    go : (x : Bool) → Each Valued rest → Each Valued (cond x [] rest)
    go true ih = tt
    go false ih = ih

pub values_read : (s : List ℕ) → Each Valued (lines_of s)
unfolding lines_of
values_read s = lines_valued 0 0 s
