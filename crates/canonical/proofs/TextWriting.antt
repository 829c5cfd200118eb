-- The texts of a term, rewritten one by one with what parts them, are the canonical writing of the value, the property, or the items that the term is.
-- Assumes nothing.
use Prim.Native.Nat.{ℕ}
use mathlib.Core.Path.{◌≡◌, refl, sym, ap, ◌∙◌}
use mathlib.Core.List.{List, [], ◌∷◌, ◌++◌, map, append_assoc, append-nil}
use mathlib.Core.Bool.{Bool, true, false, cond, not, ◌&&◌}
use mathlib.Core.Option.{some, some-injective}
use native.Mathlib.Omega.{arith}
use lib.ListN.{length, drop}
use lib.Dec.{eqb, leb}
use borrow.Author.Tests.{ne_eqb, not-true}
use Rattle.text.specs.Bytes.{bytes, one_of, is_word}
use Rattle.text.specs.Lists.{all_of, any_of, up_to, past, onto, each, between, is_nil, given, every}
use Rattle.text.proofs.Tests.{and_l, and_r, or_l, or_r, no_case}
use Rattle.text.proofs.Options.{given_some}
use Rattle.text.proofs.AllAny.{all_none, nil_is}
use Rattle.text.proofs.Parts.{parts_some, between_parts}
use Rattle.terms.specs.Signs.{Sign, bare, escaped, quote, quoted, quoted_escaped, raws, stands, is_bare, bares}
use Rattle.forms.specs.Forms.{starts, has_eq, is_name, is_plain_sign, ends_quote, is_text, Value, many, items_in, is_list, value_of, Entry, entry_of, entry_parts, entries_of, Said, said_of, Property, property_of, topic_of}
use Rattle.canonical.specs.Canonical.{is_plain, write_text, write_texts, write_value, write_optional, write_entry, write_said, write_property}
use Rattle.canonical.specs.Written.{parting, text_signs, rewrite_from, rewritten}
use Rattle.canonical.proofs.Values.{word_byte}
use Rattle.terms.proofs.Bares.{bare_is, bare_split}
use Rattle.forms.proofs.PropertyLaws.{name_words}
use Rattle.forms.proofs.EntryLaws.{entry_parts_some}
use Rattle.text.proofs.Classes.{other_byte}
use Rattle.forms.proofs.FormCases.{value_from_lem, entry_from, said_from, topic_from, property_from}

-- ---- rewriting: a text that nothing parts, and what parts it from the next

pub rewrite_over : (held a r : List Sign) → any_of parting a ≡ false → rewrite_from held (a ++ r) ≡ rewrite_from (held ++ a) r
unfolding rewrite_from any_of
rewrite_over held [] r e = ap (λ (z : List Sign). rewrite_from z r) (sym (append-nil held))
rewrite_over held (x ∷ a) r e =
    rw (or_l (parting x) (any_of parting a) e)
    (rewrite_over (held ++ (x ∷ [])) a r (or_r (parting x) (any_of parting a) e) ∙ ap (λ (z : List Sign). rewrite_from z r) (append_assoc held (x ∷ []) a))

rewrite_whole : (a : List Sign) → any_of parting a ≡ false → rewritten a ≡ text_signs a
unfolding rewritten rewrite_from
rewrite_whole a e = ap (λ (z : List Sign). rewrite_from [] z) (sym (append-nil a)) ∙ rewrite_over [] a [] e

rewrite_at : (a : List Sign) (x : Sign) (r : List Sign) → any_of parting a ≡ false → parting x ≡ true → rewritten (a ++ (x ∷ r)) ≡ text_signs a ++ (x ∷ rewritten r)
unfolding rewritten rewrite_from
rewrite_at a x r e p = rewrite_over [] a (x ∷ r) e ∙ rw p

parted : (x : Sign) (r : List Sign) → parting x ≡ true → rewritten (x ∷ r) ≡ x ∷ rewritten r
unfolding any_of text_signs
parted x r p = rewrite_at [] x r refl p

-- what may follow a text: nothing, or what parts it from the next
abbrev pub ends : List Sign → Bool
ends [] = true
ends (x ∷ r) = parting x

text_then : (a r : List Sign) → any_of parting a ≡ false → ends r ≡ true → rewritten (a ++ r) ≡ text_signs a ++ rewritten r
unfolding rewritten rewrite_from text_signs
text_then a [] e p = ap rewritten (append-nil a) ∙ rewrite_whole a e ∙ sym (append-nil (text_signs a))
text_then a (x ∷ r) e p = rewrite_at a x r e p ∙ ap (λ (z : List Sign). text_signs a ++ z) (sym (parted x r p))

-- the four that part
open_parts : parting (bare 40) ≡ true
unfolding parting
open_parts = refl

close_parts : parting (bare 41) ≡ true
unfolding parting
close_parts = refl

comma_parts : parting (bare 44) ≡ true
unfolding parting
comma_parts = refl

equal_parts : parting (bare 61) ≡ true
unfolding parting
equal_parts = refl

-- ---- values

plain_one : (x : Sign) → is_plain_sign x ≡ true → parting x ≡ false
unfolding is_plain_sign parting one_of bytes
plain_one (bare b) h =
    let five = one_of (bytes "\",()=") in
    let other : (k : ℕ) → five k ≡ true → eqb b k ≡ false = λ k e. other_byte five k b false e (not-true (five b) h) in
    simp (other 40 refl, other 41 refl, other 44 refl, other 61 refl)
plain_one (escaped b) h = refl
plain_one quote h = refl
plain_one (quoted b) h = refl
plain_one (quoted_escaped b) h = refl

plain_all : (t : List Sign) → all_of is_plain_sign t ≡ true → any_of parting t ≡ false
plain_all t h = all_none is_plain_sign parting plain_one t h

quote_all : (t : List Sign) → ends_quote t ≡ true → any_of parting t ≡ false
unfolding ends_quote any_of parting
quote_all [] h = refl
quote_all (bare b ∷ t) h = cc
quote_all (escaped b ∷ t) h = cc
quote_all (quote ∷ []) h = refl
quote_all (quote ∷ x ∷ t) h = cc
quote_all (quoted b ∷ t) h = quote_all t h
quote_all (quoted_escaped b ∷ t) h = quote_all t h

text_all : (t : List Sign) → is_text t ≡ true → any_of parting t ≡ false
unfolding is_text
text_all [] h = cc
text_all (bare b ∷ t) h = plain_all (bare b ∷ t) h
text_all (escaped b ∷ t) h = plain_all (escaped b ∷ t) h
text_all (quote ∷ t) h = unfold any_of parting in quote_all t h
text_all (quoted b ∷ t) h = cc
text_all (quoted_escaped b ∷ t) h = cc

text_signs_lem : (t : List Sign) → is_text t ≡ true → text_signs t ≡ write_text (stands t)
unfolding is_text text_signs
text_signs_lem [] h = cc
text_signs_lem (x ∷ t) h = refl

text_writes : (t r : List Sign) → is_text t ≡ true → ends r ≡ true → rewritten (t ++ r) ≡ write_text (stands t) ++ rewritten r
text_writes t r h p = text_then t r (text_all t h) p ∙ ap (λ (z : List Sign). z ++ rewritten r) (text_signs_lem t h)

-- texts parted by commas
texts_write : (a : List Sign) (ws : List (List Sign)) (r : List Sign) → is_text a ≡ true → all_of is_text ws ≡ true → ends r ≡ true
    → rewritten ((a ++ each (bare 44) ws) ++ r) ≡ (write_text (stands a) ++ each (bare 44) (write_texts (map stands ws))) ++ rewritten r
unfolding each write_texts all_of
texts_write a [] r h k p =
    ap (λ (z : List Sign). rewritten (z ++ r)) (append-nil a) ∙ text_writes a r h p ∙ ap (λ (z : List Sign). z ++ rewritten r) (sym (append-nil (write_text (stands a))))
texts_write a (w ∷ ws) r h k p =
    let rest = (w ++ each (bare 44) ws) in
    let done = each (bare 44) (write_texts (map stands ws)) in
    ap rewritten (append_assoc a (bare 44 ∷ rest) r)
    ∙ text_writes a (bare 44 ∷ (rest ++ r)) h comma_parts
    ∙ ap (λ (z : List Sign). write_text (stands a) ++ z) (parted (bare 44) (rest ++ r) comma_parts
    ∙ ap (λ (z : List Sign). bare 44 ∷ z) (texts_write w ws r (and_l (is_text w) (all_of is_text ws) k) (and_r (is_text w) (all_of is_text ws) k) p))
    ∙ sym (append_assoc (write_text (stands a)) (bare 44 ∷ (write_text (stands w) ++ done)) (rewritten r))

list_writes : (t r : List Sign) → is_list t ≡ true
    → rewritten (t ++ r) ≡ (between (bare 44) (write_texts (map stands (items_in t))) ++ (bare 41 ∷ [])) ++ rewritten r
unfolding is_list items_in all_of between write_texts
list_writes t r h =
    go (items_in t) (parts_some (is_bare 44) (up_to (is_bare 41) t)) texts
    (sym (between_parts (is_bare 44) (bare 44) (λ y e. bare_is 44 refl y e) (up_to (is_bare 41) t)))
  where
    after : Bool
    after = is_nil (past (is_bare 41) t) && (all_of is_text (items_in t) && leb (length (items_in t)) 16)

    has : any_of (is_bare 41) t ≡ true
    has = and_l (any_of (is_bare 41) t) after h

    nothing : past (is_bare 41) t ≡ []
    nothing = nil_is (past (is_bare 41) t) (and_l (is_nil (past (is_bare 41) t)) (all_of is_text (items_in t) && leb (length (items_in t)) 16) (and_r (any_of (is_bare 41) t) after h))

    texts : all_of is_text (items_in t) ≡ true
    texts =
        and_l (all_of is_text (items_in t)) (leb (length (items_in t)) 16)
        (and_r (is_nil (past (is_bare 41) t)) (all_of is_text (items_in t) && leb (length (items_in t)) 16) (and_r (any_of (is_bare 41) t) after h))

    split : t ≡ up_to (is_bare 41) t ++ (bare 41 ∷ [])
    split = bare_split 41 refl t has ∙ ap (λ (z : List Sign). up_to (is_bare 41) t ++ (bare 41 ∷ z)) nothing

    go : (ws : List (List Sign)) → is_nil ws ≡ false → all_of is_text ws ≡ true → up_to (is_bare 41) t ≡ between (bare 44) ws
        → rewritten (t ++ r) ≡ (between (bare 44) (write_texts (map stands ws)) ++ (bare 41 ∷ [])) ++ rewritten r
    go [] n k e = no_case n
    go (w ∷ ws) n k e =
        let done = write_text (stands w) ++ each (bare 44) (write_texts (map stands ws)) in
        ap (λ (z : List Sign). rewritten (z ++ r)) (split ∙ ap (λ (z : List Sign). z ++ (bare 41 ∷ [])) e)
        ∙ ap rewritten (append_assoc (w ++ each (bare 44) ws) (bare 41 ∷ []) r)
        ∙ texts_write w ws (bare 41 ∷ r) (and_l (is_text w) (all_of is_text ws) k) (and_r (is_text w) (all_of is_text ws) k) close_parts
        ∙ ap (λ (z : List Sign). done ++ z) (parted (bare 41) r close_parts)
        ∙ sym (append_assoc done (bare 41 ∷ []) (rewritten r))

value_writes : (t r : List Sign) (v : Value) → value_of t ≡ some v → ends r ≡ true → rewritten (t ++ r) ≡ write_value v ++ rewritten r
unfolding write_value
value_writes t r v h p = value_from_lem (λ w. rewritten (t ++ r) ≡ write_value w ++ rewritten r) t (λ e l. list t e l) (λ e l. text_writes t r l p) v h
  where
    list : (t : List Sign) → starts 40 t ≡ true → is_list (drop 1 t) ≡ true → rewritten (t ++ r) ≡ write_value (many (map stands (items_in (drop 1 t)))) ++ rewritten r
    list [] e l = cc
    list (x ∷ t) e l =
        ap (λ (y : Sign). rewritten (y ∷ (t ++ r))) (bare_is 40 refl x e) ∙ parted (bare 40) (t ++ r) open_parts ∙ ap (λ (w : List Sign). bare 40 ∷ w) (list_writes t r l)

-- ---- names: raw bytes that are letters, digits and underscores stand for themselves

pub word_signs : (a : List Sign) → all_of is_word (raws a) ≡ true → (any_of parting a ≡ false) × (stands a ≡ raws a)
unfolding raws stands any_of all_of parting
word_signs [] h = (refl, refl)
word_signs (bare b ∷ a) h =
    let w = word_byte b (and_l (is_word b) (all_of is_word (raws a)) h) in
    let l = w.low in
    let k = word_signs a (and_r (is_word b) (all_of is_word (raws a)) h) in
    let p : parting (bare b) ≡ false =
    simp (ne_eqb b 40 (λ z. omega arith), ne_eqb b 41 (λ z. omega arith), ne_eqb b 44 (λ z. omega arith), ne_eqb b 61 w.no_eq)
    in (simp (p, k.0), ap (λ (z : List ℕ). b ∷ z) k.1)
word_signs (escaped b ∷ a) h = no_case (sym (and_l (is_word 96) (is_word b && all_of is_word (raws a)) h) ∙ (unfold is_word in refl))
word_signs (quote ∷ a) h = no_case (sym (and_l (is_word 34) (all_of is_word (raws a)) h) ∙ (unfold is_word in refl))
word_signs (quoted b ∷ a) h =
    let k = word_signs a (and_r (is_word b) (all_of is_word (raws a)) h) in
    (k.0, ap (λ (z : List ℕ). b ∷ z) k.1)
word_signs (quoted_escaped b ∷ a) h = no_case (sym (and_l (is_word 96) (is_word b && all_of is_word (raws a)) h) ∙ (unfold is_word in refl))

name_plain : (s : List ℕ) → is_name s ≡ true → all_of is_word s ≡ true → write_text s ≡ bares s
unfolding write_text is_plain is_name
name_plain [] n w = cc
name_plain (b ∷ s) n w = rw w

name_signs : (a : List Sign) → is_name (raws a) ≡ true → text_signs a ≡ bares (raws a)
unfolding text_signs
name_signs [] h = unfold raws is_name in cc
name_signs (x ∷ a) h =
    let w = name_words (raws (x ∷ a)) h in
    ap write_text (word_signs (x ∷ a) w).1 ∙ name_plain (raws (x ∷ a)) h w

name_writes : (a r : List Sign) → is_name (raws a) ≡ true → ends r ≡ true → rewritten (a ++ r) ≡ bares (raws a) ++ rewritten r
name_writes a r h p = text_then a r (word_signs a (name_words (raws a) h)).0 p ∙ ap (λ (z : List Sign). z ++ rewritten r) (name_signs a h)

-- ---- the items of display and output

optional_nil : rewritten [] ≡ []
unfolding rewritten rewrite_from text_signs
optional_nil = refl

entry_writes : (t r : List Sign) (e : Entry) → entry_of t ≡ some e → ends r ≡ true → rewritten (t ++ r) ≡ write_entry e ++ rewritten r
unfolding write_entry
entry_writes t r e h p =
    entry_from (λ x. rewritten (t ++ r) ≡ (bares x.name ++ write_optional x.value) ++ rewritten r) t
    (λ q n. name_writes t r n p ∙ ap (λ (y : List Sign). y ++ rewritten r) (sym (append-nil (bares (raws t))))) with_value e h
  where
    with_value : (v : Value) → has_eq t ≡ true → is_name (raws (up_to (is_bare 61) t)) ≡ true → value_of (past (is_bare 61) t) ≡ some v
        → rewritten (t ++ r) ≡ (bares (raws (up_to (is_bare 61) t)) ++ (bare 61 ∷ write_value v)) ++ rewritten r
    with_value v q n k =
        ap (λ (y : List Sign). rewritten (y ++ r)) (bare_split 61 refl t q)
        ∙ ap rewritten (append_assoc (up_to (is_bare 61) t) (bare 61 ∷ past (is_bare 61) t) r)
        ∙ name_writes (up_to (is_bare 61) t) (bare 61 ∷ (past (is_bare 61) t ++ r)) n equal_parts
        ∙ ap (λ (y : List Sign). bares (raws (up_to (is_bare 61) t)) ++ y) (parted (bare 61) (past (is_bare 61) t ++ r) equal_parts
        ∙ ap (λ (y : List Sign). bare 61 ∷ y) (value_writes (past (is_bare 61) t) r v k p))
        ∙ sym (append_assoc (bares (raws (up_to (is_bare 61) t))) (bare 61 ∷ write_value v) (rewritten r))

entries_write : (a : List Sign) (ws : List (List Sign)) (e : Entry) (es : List Entry) → entry_of a ≡ some e → every (map entry_of ws) ≡ some es
    → rewritten (a ++ each (bare 44) ws) ≡ write_entry e ++ each (bare 44) (map write_entry es)
unfolding each every
entries_write a [] e es h k =
    let z : es ≡ [] = cc in
    rw z (entry_writes a [] e h refl ∙ ap (λ (y : List Sign). write_entry e ++ y) optional_nil)
entries_write a (w ∷ ws) e es h k =
    let g = given_some (entry_of w) (λ x. given (every (map entry_of ws)) (λ xs. some (x ∷ xs))) es k in
    let f = given_some (every (map entry_of ws)) (λ xs. some (g.what ∷ xs)) es g.gives in
    let z : es ≡ g.what ∷ f.what = sym (some-injective _ es f.gives) in
    rw z
    (entry_writes a (bare 44 ∷ (w ++ each (bare 44) ws)) e h comma_parts
    ∙ ap (λ (y : List Sign). write_entry e ++ y) (parted (bare 44) (w ++ each (bare 44) ws) comma_parts
    ∙ ap (λ (y : List Sign). bare 44 ∷ y) (entries_write w ws g.what f.what g.is f.is)))

-- the items with commas between them are the text
onto_between : (x : Sign) (ps : List (List Sign)) → is_nil ps ≡ false → between (bare 44) (onto x ps) ≡ x ∷ between (bare 44) ps
unfolding between
onto_between x [] h = no_case h
onto_between x (p ∷ ps) h = refl

entry_parts_between : (l : Bool) (t : List Sign) → between (bare 44) (entry_parts l t) ≡ t
unfolding entry_parts between each
entry_parts_between l [] = refl
entry_parts_between l (x ∷ t) =
    let o = cond (is_bare 40 x) true (cond (is_bare 41 x) false l) in
    go (not l && is_bare 44 x) refl (entry_parts o t) (entry_parts_some o t) (entry_parts_between o t)
  where
    go : (b : Bool) → not l && is_bare 44 x ≡ b → (ps : List (List Sign)) → is_nil ps ≡ false → between (bare 44) ps ≡ t
        → between (bare 44) (cond (not l && is_bare 44 x) ([] ∷ ps) (onto x ps)) ≡ x ∷ t
    go true e [] n h = no_case n
    go true e (p ∷ ps) n h =
        rw e (ap (λ (y : List Sign). bare 44 ∷ y) h ∙ ap (λ (y : Sign). y ∷ t) (sym (bare_is 44 refl x (and_r (not l) (is_bare 44 x) e))))
    go false e ps n h = rw e (onto_between x ps n ∙ ap (λ (y : List Sign). x ∷ y) h)

pub entries_written : (t : List Sign) (es : List Entry) → entries_of t ≡ some es → rewritten t ≡ between (bare 44) (map write_entry es)
unfolding entries_of every between
entries_written t es h = go (entry_parts false t) (entry_parts_some false t) (entry_parts_between false t) h
  where
    go : (ps : List (List Sign)) → is_nil ps ≡ false → between (bare 44) ps ≡ t → every (map entry_of ps) ≡ some es → rewritten t ≡ between (bare 44) (map write_entry es)
    go [] n e k = no_case n
    go (p ∷ ps) n e k =
        let g = given_some (entry_of p) (λ x. given (every (map entry_of ps)) (λ xs. some (x ∷ xs))) es k in
        let f = given_some (every (map entry_of ps)) (λ xs. some (g.what ∷ xs)) es g.gives in
        let z : es ≡ g.what ∷ f.what = sym (some-injective _ es f.gives) in
        rw z (ap rewritten (sym e) ∙ entries_write p ps g.what f.what g.is f.is)

-- ---- properties

said_writes : (t : List Sign) (s : Said) → said_of t ≡ some s → bare 61 ∷ rewritten t ≡ write_said s
said_writes t s h = said_from (λ x. bare 61 ∷ rewritten t ≡ write_said x) t (λ v e k. two t v e k) (λ v e k. ap (λ (y : List Sign). bare 61 ∷ y) (whole t v k)) s h
  where
    whole : (t : List Sign) (v : Value) → value_of t ≡ some v → rewritten t ≡ write_value v
    whole t v e = ap rewritten (sym (append-nil t)) ∙ value_writes t [] v e refl ∙ ap (λ (y : List Sign). write_value v ++ y) optional_nil ∙ append-nil (write_value v)

    two : (t : List Sign) (v : Value) → starts 61 t ≡ true → value_of (drop 1 t) ≡ some v → bare 61 ∷ rewritten t ≡ bare 61 ∷ bare 61 ∷ write_value v
    two [] v e k = cc
    two (x ∷ t) v e k =
        ap (λ (y : List Sign). bare 61 ∷ y) (ap (λ (y : Sign). rewritten (y ∷ t)) (bare_is 61 refl x e) ∙ parted (bare 61) t equal_parts ∙ ap (λ (y : List Sign). bare 61 ∷ y) (whole t v k))

name_written : (t : List Sign) → is_name (raws t) ≡ true → rewritten t ≡ bares (raws t) ++ []
name_written t n = ap rewritten (sym (append-nil t)) ∙ name_writes t [] n refl ∙ ap (λ (y : List Sign). bares (raws t) ++ y) optional_nil

pub topic_written : (t : List Sign) (p : Property) → topic_of t ≡ some p → rewritten t ≡ write_property p
unfolding write_property
topic_written t p h = topic_from (λ q. rewritten t ≡ bares q.name ++ write_said q.said) t (name_written t) p h

pub property_written : (t : List Sign) (p : Property) → property_of t ≡ some p → rewritten t ≡ write_property p
unfolding write_property
property_written t p h =
    property_from (λ q. rewritten t ≡ bares q.name ++ write_said q.said) t (λ q n. name_written t n)
    (λ s q n k. ap rewritten (bare_split 61 refl t q)
    ∙ name_writes (up_to (is_bare 61) t) (bare 61 ∷ past (is_bare 61) t) n equal_parts
    ∙ ap (λ (y : List Sign). bares (raws (up_to (is_bare 61) t)) ++ y) (parted (bare 61) (past (is_bare 61) t) equal_parts ∙ said_writes (past (is_bare 61) t) s k)) p h
