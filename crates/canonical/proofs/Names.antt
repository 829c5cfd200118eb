-- Written properties and entries: a name with or without a value. Assumes nothing.
use Prim.Native.Nat.{ℕ}
use mathlib.Core.Path.{◌≡◌, refl, sym, ap, ◌∙◌}
use mathlib.Core.List.{List, [], ◌∷◌, ◌++◌, append_assoc, append-nil}
use mathlib.Core.Bool.{Bool, true, false, ◌&&◌}
use mathlib.Core.Option.{Option, none, some}
use native.Mathlib.Omega.{arith}
use lib.ListN.{drop}
use Rattle.canonical.specs.Canonical.{write_entry, write_optional, write_property, write_said, write_value}
use Rattle.forms.specs.Forms.{Entry, Property, Said, Value, alone, entry, entry_of, equals, has_eq, is_name, matches, property, property_of, said_of, topic_of}
use Rattle.terms.specs.Signs.{Sign, bare, is_bare, raws, bares}
use Rattle.text.specs.Bytes.{is_word}
use Rattle.text.specs.Lists.{all_of, any_of, is_nil, past, up_to}
use Rattle.canonical.proofs.Lexing.{ok_bare, good}
use Rattle.canonical.proofs.Frame.{clean_sign}
use Rattle.canonical.proofs.Values.{word_ok, good_bares, ok_value, value_again, value_good, value_no_eq, value_ok, no_word_61}
use Rattle.text.proofs.Tests.{and_l, and_r, and_in, no_case}
use Rattle.text.proofs.AllAny.{all_past, up_at, past_at_lem, any_at, all_mono, all_drop}
use Rattle.terms.proofs.Bares.{raws_bares, none_bares}
use Rattle.forms.proofs.PropertyLaws.{name_words}
use Rattle.forms.proofs.FormCases.{said_from, property_from, topic_from, entry_from}

-- ---- a name, `=` and more

pub name_eq_none : (n : List ℕ) → is_name n ≡ true → any_of (is_bare 61) (bares n) ≡ false
name_eq_none n k = none_bares is_word 61 no_word_61 n (name_words n k)

pub name_has : (n : List ℕ) (w : List Sign) → has_eq (bares n ++ (bare 61 ∷ w)) ≡ true
name_has n w = any_at (is_bare 61) (bares n) (bare 61) w refl

pub name_up : (n : List ℕ) (w : List Sign) → is_name n ≡ true → raws (up_to (is_bare 61) (bares n ++ (bare 61 ∷ w))) ≡ n
name_up n w k = ap raws (up_at (is_bare 61) (bares n) (bare 61) w (name_eq_none n k) refl) ∙ raws_bares n

pub name_past : (n : List ℕ) (w : List Sign) → is_name n ≡ true → past (is_bare 61) (bares n ++ (bare 61 ∷ w)) ≡ w
name_past n w k = past_at_lem (is_bare 61) (bares n) (bare 61) w (name_eq_none n k) refl

pub name_good : (n : List ℕ) (w : List Sign) → is_name n ≡ true → good false (bares n ++ w) ≡ good false w
name_good n w k = good_bares n w (all_mono is_word ok_bare word_ok n (name_words n k))

pub name_some : (n : List ℕ) (w : List Sign) → is_name n ≡ true → is_nil (bares n ++ w) ≡ false
unfolding is_name
name_some [] w k = no_case (sym k)
name_some (b ∷ s) w k = refl

-- ---- properties

unfoldable pub ok_said : Said → Bool
ok_said alone = true
ok_said (equals v) = ok_value v
ok_said (matches v) = ok_value v

unfoldable pub ok_property : Property → Bool
ok_property p = is_name p.name && ok_said p.said

said_again : (s : Said) → ok_said s ≡ true → (w : List Sign) → write_said s ≡ bare 61 ∷ w → said_of w ≡ some s
unfolding ok_said said_of
said_again alone k w e = let z : ◌≡◌ {A = ℕ} 0 1 = cc in absurd (omega arith)
said_again (equals v) k w e =
    let z : w ≡ write_value v = cc in
    rw z (simp (value_no_eq v k, value_again v k))
said_again (matches v) k w e =
    let z : w ≡ bare 61 ∷ write_value v = cc in
    rw z (simp (value_again v k))

prop_again : (n : List ℕ) (s : Said) → is_name n ≡ true → ok_said s ≡ true → property_of (bares n ++ write_said s) ≡ some (property n s)
unfolding property_of ok_said
prop_again n alone k o = simp (append-nil, name_eq_none n k, raws_bares n, k)
prop_again n (equals v) k o =
    simp (name_has n (write_value v), name_up n (write_value v) k, name_past n (write_value v) k, k, said_again (equals v) o (write_value v) refl)
prop_again n (matches v) k o =
    simp (
      name_has n (bare 61 ∷ write_value v),
      name_up n (bare 61 ∷ write_value v) k,
      name_past n (bare 61 ∷ write_value v) k,
      k,
      said_again (matches v) o (bare 61 ∷ write_value v) refl,
    )

pub property_again : (p : Property) → ok_property p ≡ true → property_of (write_property p) ≡ some p
unfolding ok_property write_property
property_again p k = prop_again p.name p.said (and_l (is_name p.name) (ok_said p.said) k) (and_r (is_name p.name) (ok_said p.said) k)

said_good : (s : Said) → ok_said s ≡ true → good false (write_said s) ≡ true
unfolding ok_said good
said_good alone k = refl
said_good (equals v) k = ap (good false) (sym (append-nil (write_value v))) ∙ value_good v [] k
said_good (matches v) k = ap (good false) (sym (append-nil (write_value v))) ∙ value_good v [] k

pub property_good : (p : Property) → ok_property p ≡ true → good false (write_property p) ≡ true
unfolding ok_property write_property
property_good p k =
    name_good p.name (write_said p.said) (and_l (is_name p.name) (ok_said p.said) k) ∙ said_good p.said (and_r (is_name p.name) (ok_said p.said) k)

pub property_some : (p : Property) → ok_property p ≡ true → is_nil (write_property p) ≡ false
unfolding ok_property write_property
property_some p k = name_some p.name (write_said p.said) (and_l (is_name p.name) (ok_said p.said) k)

-- ---- what an answer was made from

pub record SaidOk (s : Said) : Type 0 where
  pub ok : ok_said s ≡ true
  pub has : (n : List ℕ) → has_eq (bares n ++ write_said s) ≡ true

said_ok : (t : List Sign) (s : Said) → said_of t ≡ some s → all_of clean_sign t ≡ true → SaidOk s
unfolding ok_said
said_ok t s h e =
    said_from SaidOk t (λ v p k. record { ok = value_ok (drop 1 t) v k (all_drop clean_sign 1 t e); has = λ n. name_has n (bare 61 ∷ write_value v) })
    (λ v p k. record { ok = value_ok t v k e; has = λ n. name_has n (write_value v) }) s h

pub record PropertyOk (t : List Sign) (p : Property) : Type 0 where
  pub ok : ok_property p ≡ true
  pub has : has_eq t ≡ true → has_eq (write_property p) ≡ true

pub property_ok : (t : List Sign) (p : Property) → property_of t ≡ some p → all_of clean_sign t ≡ true → PropertyOk t p
unfolding ok_property write_property ok_said
property_ok t p h e =
    property_from (PropertyOk t) t (λ q n. record { ok = and_in (is_name (raws t)) true n refl; has = λ y. no_case (sym y ∙ q) })
    (λ s q n k.
    let m = raws (up_to (is_bare 61) t) in
    let o = said_ok (past (is_bare 61) t) s k (all_past clean_sign (is_bare 61) t e) in
    record { ok = and_in (is_name m) (ok_said s) n o.ok; has = λ _. o.has m }) p h

-- topics
pub topic_again : (p : Property) (t : List Sign) → topic_of t ≡ some p → (topic_of (write_property p) ≡ some p) × (ok_property p ≡ true)
unfolding topic_of ok_property write_property ok_said
topic_again p t h =
    topic_from (λ q. (topic_of (write_property q) ≡ some q) × (ok_property q ≡ true)) t (λ n. (simp (append-nil, raws_bares (raws t), n), and_in (is_name (raws t)) true n refl)) p h

-- ---- entries

pub ok_optional : Option Value → Bool
ok_optional none = true
ok_optional (some v) = ok_value v

unfoldable pub ok_entry : Entry → Bool
ok_entry e = is_name e.name && ok_optional e.value

ent_again : (n : List ℕ) (o : Option Value) → is_name n ≡ true → ok_optional o ≡ true → entry_of (bares n ++ write_optional o) ≡ some (entry n o)
unfolding entry_of ok_optional
ent_again n none k h = simp (append-nil, name_eq_none n k, raws_bares n, k)
ent_again n (some v) k h = simp (name_has n (write_value v), name_up n (write_value v) k, name_past n (write_value v) k, k, value_again v h)

pub entry_again : (e : Entry) → ok_entry e ≡ true → entry_of (write_entry e) ≡ some e
unfolding ok_entry write_entry
entry_again e k = ent_again e.name e.value (and_l (is_name e.name) (ok_optional e.value) k) (and_r (is_name e.name) (ok_optional e.value) k)

optional_good : (o : Option Value) (w : List Sign) → ok_optional o ≡ true → good false (write_optional o ++ w) ≡ good false w
unfolding ok_optional good
optional_good none w k = refl
optional_good (some v) w k = value_good v w k

pub entry_good : (e : Entry) (w : List Sign) → ok_entry e ≡ true → good false (write_entry e ++ w) ≡ good false w
unfolding ok_entry write_entry
entry_good e w k =
    ap (good false) (append_assoc (bares e.name) (write_optional e.value) w)
    ∙ name_good e.name (write_optional e.value ++ w) (and_l (is_name e.name) (ok_optional e.value) k)
    ∙ optional_good e.value w (and_r (is_name e.name) (ok_optional e.value) k)

pub entry_ok : (t : List Sign) (e : Entry) → entry_of t ≡ some e → all_of clean_sign t ≡ true → ok_entry e ≡ true
unfolding ok_entry ok_optional
entry_ok t e h k =
    entry_from (λ x. ok_entry x ≡ true) t (λ q n. and_in (is_name (raws t)) true n refl)
    (λ v q n j. and_in (is_name (raws (up_to (is_bare 61) t))) (ok_value v) n (value_ok (past (is_bare 61) t) v j (all_past clean_sign (is_bare 61) t k))) e h
