-- The parts that a reading names (keywords, values, types) stand in the text in order, each at or after the end of the one before, and each line's text is that
-- of the text at its place. For any text, accepted or not. Assumes nothing.
use Prim.Native.Nat.{ℕ, zero, suc, ◌+◌, ◌-◌, ◌≤◌}
use mathlib.Core.Path.{◌≡◌, refl, sym, ap, ◌∙◌}
use mathlib.Core.List.{List, [], ◌∷◌, ◌++◌}
use mathlib.Core.Bool.{Bool, true, false, cond}
use native.Mathlib.Omega.{arith}
use lib.ListN.{length, take, drop}
use lib.Seq.{drop-drop}
use Rattle.text.specs.Room.{high_low}
use Rattle.replies.specs.declared.Form.{Form}
use Rattle.replies.specs.declared.Form.TheVariants.{Nothing, Item, Group, Close, End, Wrong, Open}
use Rattle.replies.specs.Lines.{form_of, text_len, line_len, Line, is_last, lines_from, lines_of}
use Rattle.replies.specs.Reading.{record_by}
use Rattle.replies.proofs.LineLaws.{line_on, text_within, line_within}

-- the parts that a line names, each position and length, as its record has them
abbrev pub parts_by : ℕ → Form → List (ℕ × ℕ)
parts_by p (Nothing n) = []
parts_by p (Item k v) = (p, k) ∷ (p + k + 1, v) ∷ []
parts_by p (Group n) = (p + 11, n) ∷ []
parts_by p Close = []
parts_by p End = []
parts_by p Wrong = []
parts_by p Open = []

-- a part as a record has it: position, length
abbrev pub fields : List (ℕ × ℕ) → List ℕ
fields [] = []
fields (a ∷ as') = high_low a.0 ++ (high_low a.1 ++ fields as')

pub record_parts : (p : ℕ) (f : Form) → drop 1 (record_by p f) ≡ fields (parts_by p f)
record_parts p (Nothing n) = refl
record_parts p (Item k v) = refl
record_parts p (Group n) = refl
record_parts p Close = refl
record_parts p End = refl
record_parts p Wrong = refl
record_parts p Open = refl

unfoldable pub parts_in : List Line → List (ℕ × ℕ)
parts_in [] = []
parts_in (l ∷ ls) = parts_by l.place l.form ++ parts_in ls

-- from a place on up to another, in order and without overlap
abbrev pub InOrder : ℕ → ℕ → List (ℕ × ℕ) → Type 0
InOrder a e [] = a ≤ e
InOrder a e (x ∷ xs) = (a ≤ x.0) × InOrder (x.0 + x.1) e xs

-- a line's parts stand within its text
line_order : (f : Form) (a p e m : ℕ) (ps : List (ℕ × ℕ)) → a ≤ p → p + text_len f ≤ m → ((b : ℕ) → b ≤ m → InOrder b e ps) → InOrder a e (parts_by p f ++ ps)
line_order (Nothing n) a p e m ps h k ih = ih a (omega arith)
line_order (Item j v) a p e m ps h k ih = (h, (omega arith, ih (p + j + 1 + v) (omega arith)))
line_order (Group n) a p e m ps h k ih = (omega arith, ih (p + 11 + n) (omega arith))
line_order Close a p e m ps h k ih = ih a (omega arith)
line_order End a p e m ps h k ih = ih a (omega arith)
line_order Wrong a p e m ps h k ih = ih a (omega arith)
line_order Open a p e m ps h k ih = ih a (omega arith)

lines_order : (k p : ℕ) (s : List ℕ) (a e : ℕ) → a ≤ p + k → k ≤ length s → p + length s ≤ e → InOrder a e (parts_in (lines_from k p s))
unfolding lines_from parts_in
lines_order k p [] a e h w t = omega arith
lines_order (suc k) p (b ∷ s) a e h w t = lines_order k (suc p) s a e (omega arith) (omega arith) (omega arith)
lines_order zero p (b ∷ s) a e h w t =
    line_order (form_of (b ∷ s)) a p e (p + text_len (form_of (b ∷ s))) (parts_in (cond (is_last (form_of (b ∷ s))) [] rest)) (omega arith) (omega arith)
    (go (is_last (form_of (b ∷ s))) refl (λ c. lines_order n (suc p) s c e))
  where
    n : ℕ
    n = line_len (b ∷ s) - 1

    rest : List Line
    rest = lines_from n (suc p) s

    go : (x : Bool) → is_last (form_of (b ∷ s)) ≡ x → ((c : ℕ) → c ≤ suc p + n → n ≤ length s → suc p + length s ≤ e → InOrder c e (parts_in rest))
        → (c : ℕ) → c ≤ p + text_len (form_of (b ∷ s)) → InOrder c e (parts_in (cond x [] rest))
    go true z ih c q = unfold parts_in in omega (arith, text_within (b ∷ s))
    go false z ih c q =
        let i = line_on (b ∷ s) (omega arith) z in
        let j = line_within (b ∷ s) in
        let l : text_len (form_of (b ∷ s)) ≤ line_len (b ∷ s) = unfold line_len in omega arith in
        ih c (omega arith) (omega arith) (omega arith)

-- the parts of a text, in order, without overlap, within the text
pub parts_in_order_lem : (s : List ℕ) → InOrder 0 (length s) (parts_in (lines_of s))
unfolding lines_of
parts_in_order_lem s = lines_order 0 0 s 0 (length s) (omega arith) (omega arith) (omega arith)

-- ---- what stands there

abbrev pub Each : (Line → Type 0) → List Line → Type 0
Each P [] = Unit {0}
Each P (l ∷ ls) = P l × Each P ls

-- a line's text stands at its place
abbrev pub Stands : List ℕ → Line → Type 0
Stands s l = l.text ≡ take (text_len l.form) (drop l.place s)

-- a place further on
pub next : (t : List ℕ) (p b : ℕ) (s : List ℕ) → drop p t ≡ b ∷ s → drop (suc p) t ≡ s
next t p b s h = let z : suc p ≡ p + 1 = omega arith in ap (λ (k : ℕ). drop k t) z ∙ sym (drop-drop 1 p t) ∙ ap (drop 1) h

lines_stand : (t : List ℕ) (k p : ℕ) (s : List ℕ) → drop p t ≡ s → Each (Stands t) (lines_from k p s)
unfolding lines_from
lines_stand t k p [] h = tt
lines_stand t (suc k) p (b ∷ s) h = lines_stand t k (suc p) s (next t p b s h)
lines_stand t zero p (b ∷ s) h = (ap (take (text_len (form_of (b ∷ s)))) (sym h), go (is_last (form_of (b ∷ s))) (lines_stand t (line_len (b ∷ s) - 1) (suc p) s (next t p b s h)))
  where
    rest : List Line
    rest = lines_from (line_len (b ∷ s) - 1) (suc p) s

    go : (x : Bool) → Each (Stands t) rest → Each (Stands t) (cond x [] rest)
    go true ih = tt
    go false ih = ih

pub texts_stand : (s : List ℕ) → Each (Stands s) (lines_of s)
unfolding lines_of
texts_stand s = lines_stand s 0 0 s refl
