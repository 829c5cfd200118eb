-- Written item lists of display and output. Assumes nothing.
use Prim.Native.Nat.{ℕ}
use mathlib.Core.Path.{◌≡◌, refl, sym, ap, ◌∙◌}
use mathlib.Core.List.{List, [], ◌∷◌, ◌++◌, map, append_assoc, append-nil}
use mathlib.Core.Bool.{Bool, true, false, cond, not, ◌&&◌}
use mathlib.Core.Option.{Option, none, some}
use Rattle.canonical.specs.Canonical.{write_entry, write_optional, write_text, write_texts, write_value}
use Rattle.forms.specs.Forms.{Entry, Value, entries_of, entry_of, entry_parts, is_name, many, one}
use Rattle.terms.specs.Signs.{Sign, bare, is_bare, bares}
use Rattle.text.specs.Bytes.{is_word}
use Rattle.text.specs.Lists.{all_of, any_of, between, each, every, is_nil, onto}
use Rattle.canonical.proofs.Lexing.{good}
use Rattle.canonical.proofs.Frame.{clean_sign}
use Rattle.canonical.proofs.Values.{text_none, no_word_40, no_word_41, no_word_44, texts_none}
use Rattle.canonical.proofs.Names.{ok_entry, entry_again, entry_good, entry_ok, name_some, ok_optional}
use Rattle.text.proofs.Tests.{and_l, and_r, or_l, or_r, no_case}
use Rattle.text.proofs.Options.{every_again, every_ok}
use Rattle.text.proofs.Parts.{any_between}
use Rattle.terms.proofs.Bares.{none_bares}
use Rattle.forms.proofs.PropertyLaws.{name_words}
use Rattle.forms.proofs.EntryLaws.{onto_all, onto_cons, entry_parts_some}

pub onto_append : (a b : List Sign) (ps : List (List Sign)) → onto_all (a ++ b) ps ≡ onto_all a (onto_all b ps)
unfolding onto_all
onto_append [] b ps = refl
onto_append (x ∷ a) b ps = ap (onto x) (onto_append a b ps)

pub onto_nil : (w : List Sign) (ps : List (List Sign)) → onto_all w ([] ∷ ps) ≡ w ∷ ps
onto_nil w ps = onto_cons w [] ps ∙ ap (λ (z : List Sign). z ∷ ps) (append-nil w)

-- a text with no parenthesis, in a list; and one with no comma too, outside
run_in : (w r : List Sign) → any_of (is_bare 40) w ≡ false → any_of (is_bare 41) w ≡ false → entry_parts true (w ++ r) ≡ onto_all w (entry_parts true r)
unfolding entry_parts onto_all any_of
run_in [] r p q = refl
run_in (x ∷ w) r p q =
    simp (
      or_l (is_bare 40 x) (any_of (is_bare 40) w) p,
      or_l (is_bare 41 x) (any_of (is_bare 41) w) q,
      run_in w r (or_r (is_bare 40 x) (any_of (is_bare 40) w) p) (or_r (is_bare 41 x) (any_of (is_bare 41) w) q),
    )

run_out : (w r : List Sign) → any_of (is_bare 40) w ≡ false → any_of (is_bare 41) w ≡ false → any_of (is_bare 44) w ≡ false
    → entry_parts false (w ++ r) ≡ onto_all w (entry_parts false r)
unfolding entry_parts onto_all any_of
run_out [] r p q u = refl
run_out (x ∷ w) r p q u =
    simp (
      or_l (is_bare 40 x) (any_of (is_bare 40) w) p,
      or_l (is_bare 41 x) (any_of (is_bare 41) w) q,
      or_l (is_bare 44 x) (any_of (is_bare 44) w) u,
      run_out w r (or_r (is_bare 40 x) (any_of (is_bare 40) w) p) (or_r (is_bare 41 x) (any_of (is_bare 41) w) q) (or_r (is_bare 44 x) (any_of (is_bare 44) w) u),
    )

-- a text that no comma parts
Whole : List Sign → Type 0
Whole w = (r : List Sign) → entry_parts false (w ++ r) ≡ onto_all w (entry_parts false r)

whole_append : (a b : List Sign) → Whole a → Whole b → Whole (a ++ b)
unfolding Whole
whole_append a b p q r =
    ap (entry_parts false) (append_assoc a b r) ∙ p (b ++ r) ∙ ap (onto_all a) (q r) ∙ sym (onto_append a b (entry_parts false r))

whole_text : (s : List ℕ) → Whole (write_text s)
unfolding Whole
whole_text s r = run_out (write_text s) r (text_none 40 refl no_word_40 s) (text_none 41 refl no_word_41 s) (text_none 44 refl no_word_44 s)

whole_value : (v : Value) → Whole (write_value v)
unfolding Whole write_value entry_parts onto_all
whole_value (one s) r = unfold Whole in whole_text s r
whole_value (many ss) r =
    let body = between (bare 44) (write_texts ss) in
    ap (onto (bare 40))
    (ap (entry_parts true) (append_assoc body (bare 41 ∷ []) r)
    ∙ run_in body (bare 41 ∷ r) (any_between (is_bare 40) (bare 44) (write_texts ss) refl (texts_none 40 refl no_word_40 ss))
    (any_between (is_bare 41) (bare 44) (write_texts ss) refl (texts_none 41 refl no_word_41 ss))
    ∙ sym (onto_append body (bare 41 ∷ []) (entry_parts false r)))

whole_optional : (o : Option Value) → Whole (write_optional o)
unfolding Whole entry_parts onto_all
whole_optional none r = refl
whole_optional (some v) r = ap (onto (bare 61)) (whole_value v r)

whole_entry : (e : Entry) → ok_entry e ≡ true → Whole (write_entry e)
unfolding write_entry ok_entry
whole_entry e k =
    let w = name_words e.name (and_l (is_name e.name) (ok_optional e.value) k) in
    whole_append (bares e.name) (write_optional e.value)
    (unfold Whole in λ r. run_out (bares e.name) r (none_bares is_word 40 no_word_40 e.name w) (none_bares is_word 41 no_word_41 e.name w) (none_bares is_word 44 no_word_44 e.name w))
    (whole_optional e.value)

-- ---- entries with commas between them

parts_each : (e : Entry) (es : List Entry) → all_of ok_entry (e ∷ es) ≡ true
    → entry_parts false (write_entry e ++ each (bare 44) (map write_entry es)) ≡ write_entry e ∷ map write_entry es
unfolding all_of each entry_parts Whole
parts_each e [] k = whole_entry e (and_l (ok_entry e) true k) [] ∙ onto_nil (write_entry e) []
parts_each e (f ∷ es) k =
    let l = and_l (ok_entry e) (ok_entry f && all_of ok_entry es) k in
    let r = and_r (ok_entry e) (ok_entry f && all_of ok_entry es) k in
    whole_entry e l (bare 44 ∷ (write_entry f ++ each (bare 44) (map write_entry es)))
    ∙ onto_nil (write_entry e) (entry_parts false (write_entry f ++ each (bare 44) (map write_entry es)))
    ∙ ap (λ z. write_entry e ∷ z) (parts_each f es r)

pub entries_again : (es : List Entry) → is_nil es ≡ false → all_of ok_entry es ≡ true → entries_of (between (bare 44) (map write_entry es)) ≡ some es
unfolding entries_of between
entries_again [] n k = no_case n
entries_again (e ∷ es) n k = ap (λ z. every (map entry_of z)) (parts_each e es k) ∙ every_again entry_of write_entry ok_entry entry_again (e ∷ es) k

each_good : (es : List Entry) → all_of ok_entry es ≡ true → good false (each (bare 44) (map write_entry es)) ≡ true
unfolding all_of each good
each_good [] k = refl
each_good (e ∷ es) k = entry_good e (each (bare 44) (map write_entry es)) (and_l (ok_entry e) (all_of ok_entry es) k) ∙ each_good es (and_r (ok_entry e) (all_of ok_entry es) k)

pub entries_good : (es : List Entry) → all_of ok_entry es ≡ true → good false (between (bare 44) (map write_entry es)) ≡ true
unfolding between each good
entries_good [] k = refl
entries_good (e ∷ es) k = each_good (e ∷ es) k

pub entries_some : (es : List Entry) → is_nil es ≡ false → all_of ok_entry es ≡ true → is_nil (between (bare 44) (map write_entry es)) ≡ false
unfolding all_of between write_entry ok_entry
entries_some [] n k = no_case n
entries_some (e ∷ es) n k =
    ap is_nil (append_assoc (bares e.name) (write_optional e.value) (each (bare 44) (map write_entry es)))
    ∙ name_some e.name (write_optional e.value ++ each (bare 44) (map write_entry es)) (and_l (is_name e.name) (ok_optional e.value) (and_l (ok_entry e) (all_of ok_entry es) k))

-- ---- what is known of entries that were read

put_clean : (x : Sign) (ps : List (List Sign)) → clean_sign x ≡ true → all_of (all_of clean_sign) ps ≡ true → all_of (all_of clean_sign) (onto x ps) ≡ true
unfolding all_of
put_clean x [] e h = simp e
put_clean x (p ∷ ps) e h = simp e h

parts_clean : (l : Bool) (t : List Sign) → all_of clean_sign t ≡ true → all_of (all_of clean_sign) (entry_parts l t) ≡ true
unfolding all_of entry_parts
parts_clean l [] e = refl
parts_clean l (x ∷ t) e =
    go (not l && is_bare 44 x) refl (cond (is_bare 40 x) true (cond (is_bare 41 x) false l)) (parts_clean (cond (is_bare 40 x) true (cond (is_bare 41 x) false l)) t (and_r (clean_sign x) (all_of clean_sign t) e))
  where
    go : (b : Bool) → (not l && is_bare 44 x) ≡ b → (m : Bool) → all_of (all_of clean_sign) (entry_parts m t) ≡ true
        → all_of (all_of clean_sign) (cond (not l && is_bare 44 x) ([] ∷ entry_parts m t) (onto x (entry_parts m t))) ≡ true
    go true p m ih = rw p ih
    go false p m ih = rw p (put_clean x (entry_parts m t) (and_l (clean_sign x) (all_of clean_sign t) e) ih)

pub entries_ok : (t : List Sign) (es : List Entry) → entries_of t ≡ some es → all_of clean_sign t ≡ true → (is_nil es ≡ false) × (all_of ok_entry es ≡ true)
unfolding entries_of
entries_ok t es h k =
    let r = every_ok entry_of (all_of clean_sign) ok_entry entry_ok (entry_parts false t) es h (parts_clean false t k) in
    (r.1 ∙ entry_parts_some false t, r.2)
