-- The lookup's rule, proved once over all pairs: a test that computes over the whole table, and a law that gives each entry. Assumes nothing.
use Prim.Native.Nat.{ℕ, zero, suc, ◌<◌, ◌≤◌}
use Prim.Native.String.{String}
use mathlib.Core.Path.{◌≡◌, refl, sym, ap, ◌∙◌}
use mathlib.Core.List.{List, [], ◌∷◌, map}
use mathlib.Core.Bool.{Bool, true, false}
use native.Mathlib.Omega.{arith}
use lib.ListN.{length, get_or, get_or-eq_default}
use lib.Dec.{eqb, leb, ltb}
use borrow.Author.Tests.{eqb-true, leb-true, leb-false}
use Rattle.text.proofs.Tests.{either}
use Rattle.words.proofs.WordLaws.{below, below_at, alike, alike_eq}
use Rattle.support.specs.Table15.{Cell, X, ¹, ², o, rows, cell_of, had, allowed}

-- a cell as the code's table has it: `X`, `1`, `2`, and `.` for a blank one
abbrev pub cell_byte : Cell → ℕ
cell_byte X = 88
cell_byte ¹ = 49
cell_byte ² = 50
cell_byte o = 46

-- the table as the code has it, made from Table 15: a row for each option, in it a byte for no verb and one for each verb
unfoldable pub table_bytes : List (List ℕ)
table_bytes = map (λ (r : List Cell × String). 46 ∷ map cell_byte r.0) rows

-- does an entry, at an option and a verb, say whether the verb can have the option?
abbrev pub says : ℕ → ℕ → Bool
says option verb = alike (ltb 46 (get_or (get_or table_bytes option []) verb 0)) (allowed verb option)

-- THE TEST, computed over the whole table: every option of 0 to 12 with every verb of 0 to 13
pub whole : below (λ option. below (says option) 14) 13 ≡ true
unfolding below alike table_bytes rows allowed cell_of
whole = refl

-- THE LAW: each entry
pub each_pair : (verb option : ℕ) → verb ≤ 13 → option ≤ 12 → ltb 46 (get_or (get_or table_bytes option []) verb 0) ≡ allowed verb option
each_pair verb option v n =
    alike_eq (ltb 46 (get_or (get_or table_bytes option []) verb 0)) (allowed verb option)
    (below_at (says option) 14 (below_at (λ option. below (says option) 14) 13 whole option (omega arith)) verb (omega arith))

-- past the last option, and past the last verb, there is nothing to have
no_row : (option : ℕ) → 12 < option → get_or rows option ([], "") ≡ ([], "")
unfolding rows
no_row option h = get_or-eq_default rows ([], "") h

pub no_option : (verb option : ℕ) → 12 < option → false ≡ allowed verb option
unfolding allowed cell_of
no_option verb option h = rw (no_row option h) (ap had (nowhere verb))
  where
    nowhere : (v : ℕ) → o ≡ get_or (o ∷ []) v o
    nowhere zero = refl
    nowhere (suc v) = refl

-- every row has a cell for each of the 13 verbs, and no more
widths : below (λ option. eqb (length (get_or rows option ([], "")).0) 13) 13 ≡ true
unfolding below rows
widths = refl

pub no_verb : (verb option : ℕ) → 13 < verb → false ≡ allowed verb option
unfolding allowed cell_of
no_verb verb option h = either (leb option 12) (λ t. within (leb-true option 12 t)) (λ t. no_option verb option (leb-false option 12 t))
  where
    within : option ≤ 12 → false ≡ allowed verb option
    within l =
        let w = eqb-true (length (get_or rows option ([], "")).0) 13 (below_at (λ option. eqb (length (get_or rows option ([], "")).0) 13) 13 widths option (omega arith)) in
        ap had (sym (get_or-eq_default (o ∷ (get_or rows option ([], "")).0) o {n = verb} (omega arith)))

-- the code's rows have a byte for no verb and one for each verb, so past the last verb they have none
row_widths : below (λ option. eqb (length (get_or table_bytes option [])) 14) 13 ≡ true
unfolding below table_bytes rows
row_widths = refl

pub each_verb : (verb option : ℕ) → option ≤ 12 → ltb 46 (get_or (get_or table_bytes option []) verb 0) ≡ allowed verb option
each_verb verb option n = either (leb verb 13) (λ t. each_pair verb option (leb-true verb 13 t) n) (λ t. past (leb-false verb 13 t))
  where
    past : 13 < verb → ltb 46 (get_or (get_or table_bytes option []) verb 0) ≡ allowed verb option
    past h =
        let w = eqb-true (length (get_or table_bytes option [])) 14 (below_at (λ option. eqb (length (get_or table_bytes option [])) 14) 13 row_widths option (omega arith)) in
        ap (ltb 46) (get_or-eq_default (get_or table_bytes option []) 0 {n = verb} (omega arith)) ∙ no_verb verb option h
