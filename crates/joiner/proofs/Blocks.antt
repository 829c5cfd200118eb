-- Sixteen bytes at a time: what a block has not, what it leaves in a buffer, and a run of plain bytes, of a line that there is room for and of one
-- that is too long.
-- Assumes nothing.
use Prim.Native.Nat.{ℕ, zero, suc, ◌+◌, ◌<◌, ◌≤◌}
use native.Mathlib.Omega.{arith}
use native.Mathlib.Nat.{add-zero}
use native.Mathlib.Numerals.{add-one}
use mathlib.Core.Path.{◌≡◌, refl, sym, ap, ◌∙◌}
use mathlib.Core.List.{List, [], ◌∷◌, ◌++◌}
use mathlib.Core.Bool.{Bool, true, false, not, ◌||◌, cond, true≢false, false≢true}
use lib.ListN.{length, get_or, take, drop, set, length-drop, take-append-drop}
use lib.Seq.{sets, length-sets, drop-cons, drop-drop, length-take-le, set_out}
use lib.Dec.{eqb}
use Rattle.std.specs.List.{list_any}
use borrow.Author.Tests.{eqb-false, le-ltb, le-leb}
use Rattle.joiner.specs.Lines.{plain, byte_kind, is_plain_byte}
use Rattle.joiner.specs.Step.{st, byte_step, more, stored, Effect}
use Rattle.joiner.specs.Join.{Ran, run}
use Rattle.joiner.proofs.Laws.{is_more, kind_plain, is_plain_lem, cons_more, plain_step}
use Rattle.std.proofs.Common.{Ok, None}

-- what a test says of its parts
or_none : (p q : Bool) → p || q ≡ false → (p ≡ false) × (q ≡ false)
or_none true q e = absurd (true≢false e)
or_none false q e = (refl, e)

pub not_false : (p : Bool) → not p ≡ false → p ≡ true
not_false true e = refl
not_false false e = absurd (true≢false e)

pub not_true : (p : Bool) → not p ≡ true → p ≡ false
not_true true e = absurd (false≢true e)
not_true false e = refl

-- ---- what a block has not

none_of : (x : ℕ) (b : List ℕ) → list_any (λ y. eqb y x) b ≡ false → (k : ℕ) → k < length b → get_or b k 0 ≡ x → ⊥
none_of x [] e k h q = absurd (omega arith)
none_of x (y ∷ b) e zero h q = eqb-false y x (or_none (eqb y x) _ e).0 q
none_of x (y ∷ b) e (suc k) h q = none_of x b (or_none (eqb y x) _ e).1 k (omega arith) q

-- a block that has none of the three
pub none_marked : (b : List ℕ) → length b ≡ 16 → not (list_any (λ y. eqb y 96) b || list_any (λ y. eqb y 13) b || list_any (λ y. eqb y 10) b) ≡ true
    → (k : ℕ) → k < 16 → is_plain_byte (byte_kind (get_or b k 0)) ≡ true
none_marked b m e k h =
    let both = or_none (list_any (λ y. eqb y 96) b || list_any (λ y. eqb y 13) b) (list_any (λ y. eqb y 10) b) (not_true _ e) in
    let two = or_none (list_any (λ y. eqb y 96) b) (list_any (λ y. eqb y 13) b) both.0 in
    ap is_plain_byte (kind_plain (get_or b k 0) (none_of 13 b two.1 k (omega arith)) (none_of 10 b both.1 k (omega arith)) (none_of 96 b two.0 k (omega arith)))

-- ---- a run of plain bytes that there is room for

abbrev pub Plain : List ℕ → Type 0
Plain xs = (k : ℕ) → k < length xs → is_plain_byte (byte_kind (get_or xs k 0)) ≡ true

pub plain_run : (xs ys : List ℕ) (n h : ℕ) (b : List ℕ) → h + length xs ≤ 1024 → Plain xs
    → run n (st h false false false) b (xs ++ ys) ≡ run (n + length xs) (st (h + length xs) false false false) (sets b h xs) ys
plain_run [] ys n h b l p = rw (add-zero n, add-zero h) refl
plain_run (x ∷ xs) ys n h b l p =
    let f = plain_step h x (omega arith) (is_plain_lem (byte_kind x) (p 0 (omega arith))) in
    let s : suc n + length xs ≡ n + suc (length xs) = omega arith in
    let t : suc h + length xs ≡ h + suc (length xs) = omega arith in
    cons_more n (st h false false false) b x (xs ++ ys) (ap (λ (r : Effect). is_more r.out) f)
    ∙ ap (λ (r : Effect). run (suc n) r.state (stored h b r.put) (xs ++ ys)) f
    ∙ ap (λ (m : ℕ). run (suc n) (st m false false false) (set b h x) (xs ++ ys)) (add-one h)
    ∙ plain_run xs ys (suc n) (suc h) (set b h x) (omega arith) (λ k w. p (suc k) (omega arith))
    ∙ ap (λ (m : ℕ). run m (st (suc h + length xs) false false false) (sets (set b h x) (suc h) xs) ys) s
    ∙ ap (λ (m : ℕ). run (n + suc (length xs)) (st m false false false) (sets (set b h x) (suc h) xs) ys) t

-- ---- a run of plain bytes that a line which is too long takes none of

over_step : (h x : ℕ) → 1024 ≤ h → byte_kind x ≡ plain
    → byte_step (st h false false true) x ≡ record { state = st h false false true; put = x ∷ []; out = Ok None }
unfolding byte_step more
over_step h x l e = simp (e, le-ltb h 1024 l, le-leb 1024 h l)

over_run : (xs ys : List ℕ) (n h : ℕ) (b : List ℕ) → 1024 ≤ h → length b ≡ 1024 → Plain xs
    → run n (st h false false true) b (xs ++ ys) ≡ run (n + length xs) (st h false false true) b ys
over_run [] ys n h b l m p = rw (add-zero n) refl
over_run (x ∷ xs) ys n h b l m p =
    let f = over_step h x l (is_plain_lem (byte_kind x) (p 0 (omega arith))) in
    let s : suc n + length xs ≡ n + suc (length xs) = omega arith in
    cons_more n (st h false false true) b x (xs ++ ys) (ap (λ (r : Effect). is_more r.out) f)
    ∙ ap (λ (r : Effect). run (suc n) r.state (stored h b r.put) (xs ++ ys)) f
    ∙ ap (λ (d : List ℕ). run (suc n) (st h false false true) d (xs ++ ys)) (set_out b h x (omega arith))
    ∙ over_run xs ys (suc n) h b l m (λ k w. p (suc k) (omega arith))
    ∙ ap (λ (m : ℕ). run m (st h false false true) b ys) s

-- ---- a turn of the first loop of `pass`: a block of a part that has plain bytes only

pub turn_block : (o : Bool) (R : Ran) (i h r : ℕ) (b c p d : List ℕ) → i + 16 ≤ length p → (o ≡ false → h + 16 ≤ 1024) → (o ≡ true → 1024 ≤ h)
    → length b ≡ 1024 → R ≡ run i (st h false false o) b (drop i p) → d ≡ take 16 (drop i p)
    → ((k : ℕ) → k < 16 → is_plain_byte (byte_kind (get_or d k 0)) ≡ true) → r ≡ cond o h (h + 16) → c ≡ cond o b (sets b h d)
    → R ≡ run (i + 16) (st r false false o) c (drop (i + 16) p)
turn_block o R i h r b c p d l small large m inv e q f g =
    inv
    ∙ ap (run i (st h false false o) b) (sym (take-append-drop 16 (drop i p)) ∙ ap (λ (t : List ℕ). t ++ drop 16 (drop i p)) (sym e))
    ∙ go o small large
    ∙ rw (f, g, drop-drop 16 i p) refl
  where
    w : length d ≡ 16
    w = ap length e ∙ length-take-le 16 (drop i p) (omega (arith, length-drop i p))

    go : (o : Bool) → (o ≡ false → h + 16 ≤ 1024) → (o ≡ true → 1024 ≤ h)
        → run i (st h false false o) b (d ++ drop 16 (drop i p))
        ≡ run (i + 16) (st (cond o h (h + 16)) false false o) (cond o b (sets b h d)) (drop 16 (drop i p))
    go true s t =
        over_run d (drop 16 (drop i p)) i h b (t refl) m (λ k v. q k (omega (arith, w)))
        ∙ ap (λ (n : ℕ). run (i + n) (st h false false true) b (drop 16 (drop i p))) w
    go false s t =
        let r : h + 16 ≤ 1024 = s refl in
        plain_run d (drop 16 (drop i p)) i h b (omega (arith, w)) (λ k v. q k (omega (arith, w)))
        ∙ ap (λ (n : ℕ). run (i + n) (st (h + n) false false false) (sets b h d) (drop 16 (drop i p))) w

-- what is held and what is left to pass after it
pub kept_small : (o : Bool) (end at h : ℕ) → at + 16 ≤ end → (o ≡ false → end + h ≤ at + 1024) → o ≡ false → end + cond o h (h + 16) ≤ at + 16 + 1024
kept_small true end at h l s e = absurd (true≢false e)
kept_small false end at h l s e = let r : end + h ≤ at + 1024 = s refl in omega arith

pub kept_large : (o : Bool) (h g : ℕ) → (o ≡ true → h ≡ g) → o ≡ true → cond o h (h + 16) ≡ g
kept_large true h g s e = s refl
kept_large false h g s e = absurd (false≢true e)

pub kept_long : (o : Bool) (b d : List ℕ) (h : ℕ) → length (cond o b (sets b h d)) ≡ length b
kept_long true b d h = refl
kept_long false b d h = length-sets b h d

-- a turn of the loop of `put`: one byte more is stored
pub put_more : (d b : List ℕ) (at k : ℕ) → k < length b → sets d (at + k) (drop k b) ≡ sets (set d (at + k) (get_or b k 0)) (at + (k + 1)) (drop (k + 1) b)
put_more d b at k h =
    let s : suc (at + k) ≡ at + (k + 1) = omega arith in
    ap (sets d (at + k)) (drop-cons b k 0 h)
    ∙ ap (λ (n : ℕ). sets (set d (at + k) (get_or b k 0)) n (drop (suc k) b)) s
    ∙ ap (λ (n : ℕ). sets (set d (at + k) (get_or b k 0)) (at + (k + 1)) (drop n b)) (sym (add-one k))
