-- The items of display and output, and those of a list, one by one, by their bytes. Assumes nothing.
use Prim.Native.Nat.{ℕ, suc, ◌+◌, ◌-◌, ◌<◌, ◌≤◌, min}
use mathlib.Core.Path.{◌≡◌, refl, sym, ap, ◌∙◌}
use mathlib.Core.List.{List, [], ◌∷◌, ◌++◌, map}
use mathlib.Core.Bool.{Bool, true, false, cond, not, ◌&&◌, and-false, and-true}
use mathlib.Core.Option.{Option, none, some}
use native.Mathlib.Omega.{arith}
use lib.ListN.{length, get_or, take, drop, length-take, drop_of_length-le}
use lib.Seq.{take-take}
use lib.Dec.{eqb}
use borrow.Author.Tests.{eqb-true, eqb-false, ne_eqb}
use Rattle.text.specs.Lists.{onto, is_nil, given, every}
use Rattle.text.proofs.Tests.{no_case}
use Rattle.text.proofs.Slices.{part_from, drop_take}
use Rattle.text.proofs.Scans.{drop_step, scan_within}
use Rattle.terms.specs.declared.Mode.{Mode}
use Rattle.terms.specs.declared.Mode.TheVariants.{Out, OutGrave, In, InGrave}
use Rattle.terms.specs.Signs.{Sign, is_bare, after, gives, at_end, signs}
use Rattle.forms.specs.Forms.{entry_of, entry_parts, entries_of}
use Rattle.forms.specs.Automata.{is_comma, opened, entry_len}
use Rattle.forms.specs.Answers.{is_some, are_entries_in}
use Rattle.forms.specs.Steps.{bare_at, is_entry_in}
use Rattle.forms.proofs.TextLaws.{no_comma, no_open, no_close}
use Rattle.forms.proofs.PropertyLaws.{taken_part}
use Rattle.terms.proofs.ByteCases.{gives_case, end_case}

-- ---- the items of display and output

-- all of some signs go onto the first part
unfoldable pub onto_all : List Sign → List (List Sign) → List (List Sign)
onto_all [] ps = ps
onto_all (x ∷ w) ps = onto x (onto_all w ps)

pub onto_cons : (a p : List Sign) (ps : List (List Sign)) → onto_all a (p ∷ ps) ≡ (a ++ p) ∷ ps
unfolding onto_all
onto_cons [] p ps = refl
onto_cons (x ∷ a) p ps = ap (onto x) (onto_cons a p ps)

byte_parts : (m : Mode) (l : Bool) (b : ℕ) (r : List Sign) → is_comma m l b ≡ false
    → entry_parts l (gives m b ++ r) ≡ onto_all (gives m b) (entry_parts (opened m l b) r)
unfolding entry_parts onto_all
byte_parts m l b r =
    gives_case (λ k g n. is_comma k l b ≡ false → entry_parts l (g ++ r) ≡ onto_all g (entry_parts (opened k l b) r)) b
    (λ p e. let z = eqb-true b 96 p in simp (ne_eqb b 40 (λ k. omega arith), ne_eqb b 41 (λ k. omega arith)))
    (λ _ q e. let z = eqb-true b 34 q in simp (ne_eqb b 40 (λ k. omega arith), ne_eqb b 41 (λ k. omega arith), and-false (not l)))
    (λ _ _ e. simp e)
    (λ _ e. simp (and-false (not l)))
    (λ p e. simp (no_comma b p, no_open b p, no_close b p, and-false (not l)))
    (λ _ e. refl) (λ _ _ e. simp (and-false (not l))) (λ _ _ e. simp (and-false (not l))) (λ _ e. simp (and-false (not l))) (λ _ e. simp (and-false (not l))) m

end_parts : (m : Mode) (l : Bool) → entry_parts l (at_end m) ≡ at_end m ∷ []
unfolding entry_parts
end_parts m l = end_case (λ k z. entry_parts l z ≡ z ∷ []) refl (simp (and-false (not l))) refl (simp (and-false (not l))) m

-- there is at least one item
pub entry_parts_some : (l : Bool) (t : List Sign) → is_nil (entry_parts l t) ≡ false
unfolding entry_parts
entry_parts_some l [] = refl
entry_parts_some l (x ∷ t) = go (not l && is_bare 44 x) (entry_parts (cond (is_bare 40 x) true (cond (is_bare 41 x) false l)) t)
  where
    go : (b : Bool) (ps : List (List Sign)) → is_nil (cond b ([] ∷ ps) (onto x ps)) ≡ false
    go true ps = refl
    go false [] = refl
    go false (p ∷ ps) = refl

-- what stands at the end of an item: nothing, or a comma and more items
unfoldable pub after_entry : List ℕ → List (List Sign)
after_entry [] = []
after_entry (c ∷ r) = entry_parts false (signs Out r)

comma_parts : (m : Mode) (l : Bool) (b : ℕ) (s : List ℕ) → is_comma m l b ≡ true → entry_parts l (signs m (b ∷ s)) ≡ at_end m ∷ entry_parts false (signs Out s)
unfolding signs gives after entry_parts
comma_parts Out true b s e = no_case (sym e)
comma_parts Out false b s e = ap (λ k. entry_parts false (gives Out k ++ signs (after Out k) s)) (eqb-true b 44 e)
comma_parts OutGrave l b s e = no_case (sym e)
comma_parts In l b s e = no_case (sym e)
comma_parts InGrave l b s e = no_case (sym e)

entry_by : (m : Mode) (l : Bool) (s : List ℕ)
    → entry_parts l (signs m s) ≡ signs m (take (entry_len m l s) s) ∷ after_entry (drop (entry_len m l s) s)
unfolding signs entry_len after_entry
entry_by m l [] = end_parts m l
entry_by m l (b ∷ s) = go (is_comma m l b) refl (entry_by (after m b) (opened m l b) s)
  where
    go : (x : Bool) → is_comma m l b ≡ x
        → entry_parts (opened m l b) (signs (after m b) s)
        ≡ signs (after m b) (take (entry_len (after m b) (opened m l b) s) s) ∷ after_entry (drop (entry_len (after m b) (opened m l b) s) s)
        → entry_parts l (signs m (b ∷ s)) ≡ signs m (take (entry_len m l (b ∷ s)) (b ∷ s)) ∷ after_entry (drop (entry_len m l (b ∷ s)) (b ∷ s))
    go true e ih = rw e (comma_parts m l b s e)
    go false e ih =
        rw e (byte_parts m l b (signs (after m b) s) e ∙ ap (onto_all (gives m b)) ih
        ∙ onto_cons (gives m b) (signs (after m b) (take (entry_len (after m b) (opened m l b) s) s)) (after_entry (drop (entry_len (after m b) (opened m l b) s) s)))

-- the first item of display or output is that of its own bytes, and the rest follow the comma
pub entry_first : (s : List ℕ) → entry_parts false (signs Out s) ≡ signs Out (take (entry_len Out false s) s) ∷ after_entry (drop (entry_len Out false s) s)
entry_first s = entry_by Out false s

-- an item is no longer than its text
pub entry_within : (m : Mode) (l : Bool) (s : List ℕ) → entry_len m l s ≤ length s
unfolding entry_len
entry_within m l =
    scan_within (λ (x : Mode × Bool). is_comma x.0 x.1) (λ x b. (after x.0 b, opened x.0 x.1 b)) (λ x. entry_len x.0 x.1) (λ x. refl) (λ x b s. refl) (m, l)

-- its only item, and the first of more; k bytes are the first item
module _ (u : List ℕ) (k : ℕ) (e : k ≡ entry_len Out false u) where
  pub parts_one : length u ≤ k → entry_parts false (signs Out u) ≡ signs Out (take k u) ∷ []
  unfolding after_entry
  parts_one h = entry_first u ∙ rw (← e, drop_of_length-le u h)

  pub parts_rest : k < length u → entry_parts false (signs Out u) ≡ signs Out (take k u) ∷ entry_parts false (signs Out (drop (k + 1) u))
  unfolding after_entry
  parts_rest h = entry_first u ∙ rw (← e, drop_step u k h)

pub some_every : {A : Type 0} (o : Option A) (os : List (Option A)) → is_some (every (o ∷ os)) ≡ is_some o && is_some (every os)
unfolding every
some_every {A = A} none os = refl
some_every {A = A} (some a) os = go (every os)
  where
    go : (r : Option (List A)) → is_some (given r (λ as'. some (a ∷ as'))) ≡ is_some r
    go none = refl
    go (some q) = refl

module _ (u : List ℕ) (k : ℕ) (e : k ≡ entry_len Out false u) where
  pub entries_one : length u ≤ k → is_some (entries_of (signs Out u)) ≡ is_some (entry_of (signs Out (take k u)))
  unfolding entries_of
  entries_one h =
      ap (λ z. is_some (every (map entry_of z))) (parts_one u k e h) ∙ some_every (entry_of (signs Out (take k u))) [] ∙ unfold every in and-true (is_some (entry_of (signs Out (take k u))))

  pub entries_more : k < length u
      → is_some (entries_of (signs Out u)) ≡ is_some (entry_of (signs Out (take k u))) && is_some (entries_of (signs Out (drop (k + 1) u)))
  unfolding entries_of
  entries_more h =
      ap (λ z. is_some (every (map entry_of z))) (parts_rest u k e h)
      ∙ some_every (entry_of (signs Out (take k u))) (map entry_of (entry_parts false (signs Out (drop (k + 1) u))))

-- ---- a scan for the end of an item

module _ (t : List ℕ) (i : ℕ) (m : Mode) (l : Bool) where
  pub entry_on : (m' : Mode) (l' : Bool) → i < length t → is_comma m l (get_or t i 0) ≡ false → l' ≡ opened m l (get_or t i 0) → m' ≡ after m (get_or t i 0)
      → entry_len m l (drop i t) ≡ suc (entry_len m' l' (drop (i + 1) t))
  unfolding entry_len
  entry_on m' l' h c e f = ap (entry_len m l) (drop_step t i h) ∙ rw (c, e, f)

  pub entry_ends : i < length t → is_comma m l (get_or t i 0) ≡ true → entry_len m l (drop i t) ≡ 0
  unfolding entry_len
  entry_ends h c = ap (entry_len m l) (drop_step t i h) ∙ rw c

  pub entry_past : length t ≤ i → entry_len m l (drop i t) ≡ 0
  unfolding entry_len
  entry_past h = ap (entry_len m l) (drop_of_length-le t h)

pub comma_listed : (m : Mode) (b : ℕ) → false ≡ is_comma m true b
comma_listed Out b = refl
comma_listed OutGrave b = refl
comma_listed In b = refl
comma_listed InGrave b = refl

pub comma_bare : (m : Mode) (b : ℕ) → bare_at 44 m b ≡ is_comma m false b
comma_bare Out b = refl
comma_bare OutGrave b = refl
comma_bare In b = refl
comma_bare InGrave b = refl

pub opened_by : (m : Mode) (l : Bool) (b : ℕ) → opened m l b ≡ cond (bare_at 40 m b) true (cond (bare_at 41 m b) false l)
opened_by Out l b = refl
opened_by OutGrave l b = refl
opened_by In l b = refl
opened_by InGrave l b = refl

-- ---- the loop over the items: the first of them has k bytes, and r says whether it is of its form

module _ (s : List ℕ) (n k : ℕ) (h : n ≤ length s) (w : k ≡ entry_len Out false (take n s)) where
  pub entry_end : k ≤ n
  entry_end = let l = length-take n s in let q = entry_within Out false (take n s) in omega arith

  module _ (r : Bool) (j : r ≡ is_entry_in s k) where
    one : r ≡ is_some (entry_of (signs Out (take k (take n s))))
    unfolding is_entry_in
    one = j ∙ ap (λ (q : List ℕ). is_some (entry_of (signs Out q))) (sym (take-take k n s entry_end))

    pub entries_last : k ≡ n → r ≡ are_entries_in s n
    unfolding are_entries_in
    entries_last e = let l = length-take n s in one ∙ sym (entries_one (take n s) k w (omega arith))

    more : (k ≡ n → ⊥) → are_entries_in s n ≡ r && are_entries_in (drop (k + 1) s) (n - (k + 1))
    unfolding are_entries_in
    more f =
        let l = length-take n s in
        let e = entry_end in
        entries_more (take n s) k w (omega (arith, f))
        ∙ ap (λ (q : List ℕ). is_some (entry_of (signs Out (take k (take n s)))) && is_some (entries_of (signs Out q))) (drop_take (k + 1) n s)
        ∙ ap (λ (q : Bool). q && is_some (entries_of (signs Out (take (n - (k + 1)) (drop (k + 1) s))))) (sym one)

    pub entries_next : (k ≡ n → ⊥) → r ≡ true → are_entries_in (take (length s - (k + 1)) (drop (k + 1) s)) (n - (k + 1)) ≡ are_entries_in s n
    entries_next f t = ap (λ (q : List ℕ). are_entries_in q (n - (k + 1))) (part_from s (k + 1)) ∙ sym (more f ∙ rw t)

    pub entries_bad : r ≡ false → are_entries_in s n ≡ false
    entries_bad t = go (eqb k n) refl
      where
        go : (x : Bool) → eqb k n ≡ x → are_entries_in s n ≡ false
        go true p = sym (entries_last (eqb-true k n p)) ∙ t
        go false p = more (eqb-false k n p) ∙ rw t

-- what stands past a text's end is no part of it
pub entries_within : (s : List ℕ) (n e : ℕ) → e ≡ min n (length s) → are_entries_in s e ≡ are_entries_in s n
unfolding are_entries_in
entries_within s n e z = ap (λ (q : List ℕ). is_some (entries_of (signs Out q))) (taken_part s n e (z ∙ sym (length-take n s)))

-- what the scan for the end of an item, and the loop over the items, rest on
pub ruleset entry_scan = (entry_on, entry_ends, entry_past)

pub ruleset entry_loop = (entry_end, entries_last, entries_next, entries_bad, entries_within)
