-- A part that stays exact tells the letters of its term, in order. Assumes nothing.
use Prim.Native.Nat.{ℕ}
use mathlib.Core.Path.{◌≡◌, refl, sym, ap, ◌∙◌}
use mathlib.Core.List.{List, [], ◌∷◌, ◌++◌, map, flat_map, append-nil, append_assoc}
use mathlib.Core.Bool.{Bool, true, false, cond, not, ◌&&◌, ◌||◌}
use mathlib.Core.Option.{Option, none, some, some-injective}
use lib.ListN.{length, drop}
use lib.Dec.{eqb, leb}
use borrow.Author.Tests.{eqb-true}
use Rattle.text.specs.Bytes.{same_bytes, is_letter}
use Rattle.text.specs.Lists.{any_of, up_to, past, onto, parts, is_nil, given, every, all_of}
use Rattle.text.proofs.Tests.{and_l, and_r, or_in_l, or_in_r, or_case, either, no_case}
use Rattle.text.proofs.AllAny.{any_split, nil_is}
use Rattle.text.proofs.Options.{given_some}
use Rattle.text.proofs.SameTexts.{same_eq, eq_same}
use Rattle.terms.specs.declared.Mode.TheVariants.{Out}
use Rattle.terms.specs.Signs.{Sign, bare, escaped, quote, quoted, quoted_escaped, signs, raw, raws, stands_for, stands, is_bare}
use Rattle.terms.proofs.SignBytes.{raws_signs}
use Rattle.words.specs.declared.Kind.{Kind}
use Rattle.words.specs.Words.{lowered, session_name, kind_of}
use Rattle.forms.specs.Forms.{starts, is_text, items_in, is_list, Value, one, many, value_of, Entry, entry, entry_of, entry_parts, entries_of, Said, alone, equals, matches, said_of, Property, property, property_of, topic_of}
use Rattle.forms.specs.Targets.{is_separator, Target, session, path, target_of}
use Rattle.forms.proofs.FormCases.{value_from_lem, said_from, named_of, named_from, as_property, as_entry, topic_from, target_from}
use Rattle.reading.specs.declared.State.{State}
use Rattle.reading.specs.Command.{argument_by, Argument, numeral, text, items, Item, verb, option, argument, target, prop}
use Rattle.reading.specs.Reading.{is_help, takes, decide}
use Rattle.reading.specs.EitherCase.{is_level_kind, in_either_case, letter, letters}
use Rattle.reading.proofs.TakenCases.{taken_case, argument_from}
use Rattle.reading.proofs.CaseBytes.{told}

-- ---- lists that are told one after another

module _ {A B : Type 0} (h : A → List B) where
  -- two lists after one another
  flat_append : (s r : List A) → flat_map h (s ++ r) ≡ flat_map h s ++ flat_map h r
  unfolding flat_map
  flat_append [] r = refl
  flat_append (x ∷ s) r = ap (λ (z : List B). h x ++ z) (flat_append s r) ∙ sym (append_assoc (h x) (flat_map h s) (flat_map h r))

  -- one more before some parts: what parts them tells nothing
  flat_part : (c : Bool) (x : A) (ps : List (List A)) → (c ≡ true → h x ≡ []) → flat_map (flat_map h) (cond c ([] ∷ ps) (onto x ps)) ≡ h x ++ flat_map (flat_map h) ps
  unfolding flat_map
  flat_part true x ps k = rw (k refl)
  flat_part false x [] k = append-nil (h x ++ [])
  flat_part false x (p ∷ ps) k = append_assoc (h x) (flat_map h p) (flat_map (flat_map h) ps)

  -- the parts of a list tell what it tells
  flat_parts : (f : A → Bool) → ((x : A) → f x ≡ true → h x ≡ []) → (s : List A) → flat_map (flat_map h) (parts f s) ≡ flat_map h s
  unfolding flat_map parts
  flat_parts f k [] = refl
  flat_parts f k (x ∷ s) = flat_part (f x) x (parts f s) (k x) ∙ ap (λ (z : List B). h x ++ z) (flat_parts f k s)

-- a list that was made of another one by one tells what that tells
flat_map_lem : {A B C : Type 0} (g : B → List C) (f : A → B) (h : A → List C) → ((x : A) → g (f x) ≡ h x) → (s : List A) → flat_map g (map f s) ≡ flat_map h s
unfolding flat_map
flat_map_lem g f h k [] = refl
flat_map_lem g f h k (x ∷ s) = rw (k x, flat_map_lem g f h k s)

-- and so does one whose items were read from it one by one
flat_every : {A B C : Type 0} (f : A → Option B) (g : B → List C) (h : A → List C) → ((x : A) (y : B) → f x ≡ some y → h x ≡ g y)
    → (s : List A) (r : List B) → every (map f s) ≡ some r → flat_map h s ≡ flat_map g r
unfolding flat_map every
flat_every f g h k [] r e = rw (sym (some-injective [] r e))
flat_every f g h k (x ∷ s) r e =
    let o = given_some (f x) (λ y. given (every (map f s)) (λ q. some (y ∷ q))) r e in
    let t = given_some (every (map f s)) (λ q. some (o.what ∷ q)) r o.gives in
    let z = some-injective (o.what ∷ t.what) r t.gives in
    rw (← z, k x o.what o.is, flat_every f g h k s t.what t.is)

-- ---- the letters of signs

-- a sign has the letters of the byte that it stands for: no GRAVE and no quote mark is one
abbrev sign_letters : Sign → List ℕ
sign_letters x = letters (raw x)

spelt : List Sign → List ℕ
spelt t = flat_map sign_letters t

-- the letters of the bytes that signs are, and of those that they stand for
raws_spelt : (t : List Sign) → letters (raws t) ≡ spelt t
unfolding raws spelt flat_map letters
raws_spelt [] = refl
raws_spelt (x ∷ t) = flat_append letter (raw x) (raws t) ∙ ap (λ (z : List ℕ). letters (raw x) ++ z) (raws_spelt t)

stands_spelt : (t : List Sign) → letters (stands t) ≡ spelt t
unfolding stands spelt flat_map letters
stands_spelt [] = refl
stands_spelt (x ∷ t) = flat_append letter (stands_for x) (stands t) ∙ rw (sign x, stands_spelt t)
  where
    sign : (x : Sign) → letters (stands_for x) ≡ letters (raw x)
    sign (bare b) = refl
    sign (escaped b) = refl
    sign quote = refl
    sign (quoted b) = refl
    sign (quoted_escaped b) = refl

-- a bare byte that is no letter, as a sign, has none
bare_spelt : (k : ℕ) → is_letter k ≡ false → (x : Sign) → is_bare k x ≡ true → sign_letters x ≡ []
unfolding letters flat_map
bare_spelt k n (bare b) e = rw (ap is_letter (eqb-true b k e) ∙ n)
bare_spelt k n (escaped b) e = no_case (sym e)
bare_spelt k n quote e = refl
bare_spelt k n (quoted b) e = no_case (sym e)
bare_spelt k n (quoted_escaped b) e = no_case (sym e)

-- so it may go from the start of a text, and from where it parts it in two
module _ (k : ℕ) (n : is_letter k ≡ false) where
  first_spelt : (t : List Sign) → starts k t ≡ true → spelt t ≡ spelt (drop 1 t)
  unfolding spelt flat_map
  first_spelt [] e = no_case (sym e)
  first_spelt (x ∷ t) e = rw (bare_spelt k n x e)

  split_spelt : (t : List Sign) → any_of (is_bare k) t ≡ true → spelt t ≡ spelt (up_to (is_bare k) t) ++ spelt (past (is_bare k) t)
  unfolding spelt
  split_spelt t e =
      let r = any_split (is_bare k) t e in
      ap (flat_map sign_letters) r.2 ∙ flat_append sign_letters (up_to (is_bare k) t) (r.0 ∷ past (is_bare k) t)
      ∙ ap (λ (z : List ℕ). spelt (up_to (is_bare k) t) ++ z) (unfold flat_map in rw (bare_spelt k n r.0 r.1))

-- ---- the letters of what was read

-- a value's; and where there may be none
abbrev value_letters : Value → List ℕ
value_letters (one s) = letters s
value_letters (many ss) = flat_map letters ss

abbrev option_letters : Option Value → List ℕ
option_letters none = []
option_letters (some v) = value_letters v

-- those of an item of display or output, of what follows a property's name, of an argument, of a target
abbrev entry_letters : Entry → List ℕ
entry_letters e = letters e.name ++ option_letters e.value

abbrev said_letters : Said → List ℕ
said_letters alone = []
said_letters (equals v) = value_letters v
said_letters (matches v) = value_letters v

abbrev argument_letters : Argument → List ℕ
argument_letters (numeral s) = letters s
argument_letters (text s) = letters s
argument_letters (items es) = flat_map entry_letters es

abbrev target_letters : Target → List ℕ
target_letters session = letters session_name
target_letters (path r ss) = flat_map letters ss

-- a verb and an option tell none: their names may be in either case
abbrev item_letters : Item → List ℕ
item_letters (verb n) = []
item_letters (option n) = []
item_letters (argument n a) = argument_letters a
item_letters (target g) = target_letters g
item_letters (prop p) = letters p.name ++ said_letters p.said

-- ---- these are the letters of what it was read from

-- a list: parentheses and commas are no letters
list_spelt : (t : List Sign) → is_list t ≡ true → spelt t ≡ flat_map letters (map stands (items_in t))
unfolding is_list items_in spelt flat_map
list_spelt t e =
    let u = up_to (is_bare 41) t in
    let ps = parts (is_bare 44) u in
    let good = all_of is_text ps && leb (length ps) 16 in
    let over = and_l (is_nil (past (is_bare 41) t)) good (and_r (any_of (is_bare 41) t) (is_nil (past (is_bare 41) t) && good) e) in
    split_spelt 41 refl t (and_l (any_of (is_bare 41) t) (is_nil (past (is_bare 41) t) && good) e)
    ∙ ap (λ (z : List Sign). spelt u ++ spelt z) (nil_is (past (is_bare 41) t) over)
    ∙ append-nil (spelt u)
    ∙ sym (flat_parts sign_letters (is_bare 44) (bare_spelt 44 refl) u)
    ∙ sym (flat_map_lem letters stands spelt stands_spelt ps)

-- a value, a list or one text
value_spelt : (t : List Sign) (v : Value) → value_of t ≡ some v → spelt t ≡ value_letters v
value_spelt t v e = value_from_lem (λ w. spelt t ≡ value_letters w) t (λ p l. first_spelt 40 refl t p ∙ list_spelt (drop 1 t) l) (λ _ _. sym (stands_spelt t)) v e

-- what follows a property's `=`
said_spelt : (t : List Sign) (s : Said) → said_of t ≡ some s → spelt t ≡ said_letters s
said_spelt t s e = said_from (λ w. spelt t ≡ said_letters w) t (λ v p h. first_spelt 61 refl t p ∙ value_spelt (drop 1 t) v h) (λ v _ h. value_spelt t v h) s e

-- a name and what follows its `=`, whichever that is: h tells its letters, and g those of both
named_spelt : {A B : Type 0} (rest : List Sign → Option B) (mere : List ℕ → A) (with : List ℕ → B → A) (g : A → List ℕ) (h : B → List ℕ)
    → ((n : List ℕ) → g (mere n) ≡ letters n ++ []) → ((n : List ℕ) (b : B) → g (with n b) ≡ letters n ++ h b)
    → ((t : List Sign) (b : B) → rest t ≡ some b → spelt t ≡ h b) → (t : List Sign) (a : A) → named_of rest mere with t ≡ some a → spelt t ≡ g a
named_spelt rest mere with g h p q k t a e =
    named_from rest mere with (λ x. spelt t ≡ g x) t (λ _ _. sym (p (raws t) ∙ append-nil (letters (raws t)) ∙ raws_spelt t))
    (λ b m _ r. split_spelt 61 refl t m ∙ rw (← raws_spelt (up_to (is_bare 61) t), k (past (is_bare 61) t) b r, q (raws (up_to (is_bare 61) t)) b)) a e

-- a property, and an item of display or output
property_spelt : (t : List Sign) (p : Property) → property_of t ≡ some p → spelt t ≡ item_letters (prop p)
property_spelt t p e =
    named_spelt said_of (λ n. property n alone) property (λ q. item_letters (prop q)) said_letters (λ _. refl) (λ _ _. refl) said_spelt t p (sym (as_property t) ∙ e)

entry_spelt : (t : List Sign) (x : Entry) → entry_of t ≡ some x → spelt t ≡ entry_letters x
entry_spelt t x e =
    named_spelt value_of (λ n. entry n none) (λ n v. entry n (some v)) entry_letters value_letters (λ _. refl) (λ _ _. refl) value_spelt t x (sym (as_entry t) ∙ e)

-- the commas between the items of display and output are no letters
entry_parts_lem : (l : Bool) (t : List Sign) → flat_map spelt (entry_parts l t) ≡ spelt t
unfolding entry_parts spelt flat_map
entry_parts_lem l [] = refl
entry_parts_lem l (x ∷ t) =
    let m = cond (is_bare 40 x) true (cond (is_bare 41 x) false l) in
    flat_part sign_letters (not l && is_bare 44 x) x (entry_parts m t) (λ e. bare_spelt 44 refl x (and_r (not l) (is_bare 44 x) e))
    ∙ ap (λ (z : List ℕ). sign_letters x ++ z) (entry_parts_lem m t)

-- so all the items have the letters of their term
entries_spelt : (t : List Sign) (es : List Entry) → entries_of t ≡ some es → spelt t ≡ flat_map entry_letters es
unfolding entries_of
entries_spelt t es e = sym (entry_parts_lem false t) ∙ flat_every entry_of entry_letters spelt entry_spelt (entry_parts false t) es e

-- a target: separators are no letters
target_letters_lem : (s : List ℕ) (g : Target) → target_of s ≡ some g → letters s ≡ target_letters g
unfolding letters flat_map
target_letters_lem s g e =
    target_from (λ r x. letters r ≡ target_letters x) (λ r h. ap letters (same_eq r session_name h)) (λ b p. rw (no b p)) (λ b r p _ _. rw (no b p) (sym (flat_parts letter is_separator no r)))
    (λ r _ _. sym (flat_parts letter is_separator no r)) s g e
  where
    no : (b : ℕ) → is_separator b ≡ true → letter b ≡ []
    no b p = or_case (eqb b 47) (eqb b 92) p (λ q. ap letter (eqb-true b 47 q)) (λ q. ap letter (eqb-true b 92 q))

-- an argument, but for level's, which is told in lower case
argument_spelt : (t : List Sign) (k : Kind) (a : Argument) → argument_by k t ≡ some a → is_level_kind k ≡ false → letters (raws t) ≡ argument_letters a
argument_spelt t k a e =
    argument_from (λ d x. is_level_kind d ≡ false → letters (raws t) ≡ argument_letters x) t (λ _ _. refl) (λ _ n. no_case n) (λ _ _. raws_spelt t ∙ sym (stands_spelt t))
    (λ es h _. raws_spelt t ∙ entries_spelt t es h) k a e

-- a topic is its name
property_letters : (help : Bool) (t : List Sign) (q : Property) → cond help (topic_of t) (property_of t) ≡ some q → letters (raws t) ≡ item_letters (prop q)
property_letters true t q e = topic_from (λ p. letters (raws t) ≡ item_letters (prop p)) t (λ _. sym (append-nil (letters (raws t)))) q e
property_letters false t q e = raws_spelt t ∙ property_spelt t q e

-- A PART THAT STAYS EXACT TELLS THE LETTERS OF ITS TERM
pub part_letters : (s : State) (t : List Sign) (i : Item) → decide s t ≡ takes i → in_either_case i ≡ false → letters (raws t) ≡ item_letters i
unfolding decide
part_letters s t i d =
    taken_case (λ _ j. in_either_case j ≡ false → letters (raws t) ≡ item_letters j) s.verb s.seen s.count t (λ k _ n. no_case n) (λ k _ _ _ n. no_case n)
    (λ k a _ e n. argument_spelt t (kind_of k) a e n) (λ g _ _ e _. target_letters_lem (raws t) g e) (λ q _ _ e _. property_letters (is_help s.verb) t q e)
    (λ q _ e _. property_letters (is_help s.verb) t q e) s.phase i d

-- so two texts that differ in the case of letters alone, taken as one part, are the same, or the part is in either case
pub taken_same : (x y : List ℕ) → lowered x ≡ lowered y → (s : State) (i : Item) → decide s (signs Out x) ≡ takes i → decide s (signs Out y) ≡ takes i
    → in_either_case i || same_bytes x y ≡ true
taken_same x y folds s i d e =
    either (in_either_case i) (or_in_l (in_either_case i) (same_bytes x y))
    (λ n. or_in_r (in_either_case i) (same_bytes x y) (eq_same x y (told x y folds (own x d n ∙ sym (own y e n)))))
  where
    own : (z : List ℕ) → decide s (signs Out z) ≡ takes i → in_either_case i ≡ false → letters z ≡ item_letters i
    own z h n = ap letters (sym (raws_signs z)) ∙ part_letters s (signs Out z) i h n
