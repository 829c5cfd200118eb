-- What was read, by what it was read from: each form by its cases. Every law about what a text was read as cites these. Assumes nothing.
use Prim.Native.Nat.{ℕ}
use mathlib.Core.Path.{◌≡◌, refl}
use mathlib.Core.List.{List, [], ◌∷◌, map}
use mathlib.Core.Bool.{Bool, true, false, cond, ◌&&◌}
use mathlib.Core.Option.{Option, none, some}
use lib.ListN.{length, take, drop}
use lib.Dec.{leb}
use Rattle.text.specs.Bytes.{bytes, same_bytes}
use Rattle.text.specs.Decimal.{value_from}
use Rattle.text.specs.Lists.{up_to, past, parts, is_nil, given}
use Rattle.text.proofs.Tests.{and_l, and_r}
use Rattle.text.proofs.Options.{cond_some, none_some, some_from, given_from}
use Rattle.text.proofs.AllAny.{nil_is}
use Rattle.terms.specs.Signs.{Sign, is_bare, raws, stands}
use Rattle.words.specs.Words.{session_name}
use Rattle.forms.specs.Forms.{starts, is_name, is_text, items_in, is_list, list_of, text_of, Value, one, many, value_of, has_eq, Said, alone, equals, matches, said_of, Property, property, property_of, topic_of, Entry, entry, entry_of}
use Rattle.forms.specs.Targets.{is_separator, tag_len, is_numbered, is_starred, are_segments, Segment, here, above, child, children, segment_of, Target, session, path, segments_of, path_of, target_of}

-- ---- values

pub value_from_lem : (P : Value → Type 0) (t : List Sign)
    → (starts 40 t ≡ true → is_list (drop 1 t) ≡ true → P (many (map stands (items_in (drop 1 t)))))
    → (starts 40 t ≡ false → is_text t ≡ true → P (one (stands t)))
    → (v : Value) → value_of t ≡ some v → P v
unfolding value_of list_of text_of
value_from_lem P t list text v e = go (starts 40 t) refl
  where
    go : (x : Bool) → starts 40 t ≡ x → P v
    go true p = some_from P (is_list (drop 1 t)) (many (map stands (items_in (drop 1 t)))) (list p) v (rw p at e)
    go false p = some_from P (is_text t) (one (stands t)) (text p) v (rw p at e)

-- what follows a property's `=`
pub said_from : (P : Said → Type 0) (t : List Sign)
    → ((v : Value) → starts 61 t ≡ true → value_of (drop 1 t) ≡ some v → P (matches v))
    → ((v : Value) → starts 61 t ≡ false → value_of t ≡ some v → P (equals v))
    → (s : Said) → said_of t ≡ some s → P s
unfolding said_of
said_from P t two one' s e = go (starts 61 t) refl
  where
    go : (x : Bool) → starts 61 t ≡ x → P s
    go true p = given_from P (value_of (drop 1 t)) matches (λ v h. two v p h) s (rw p at e)
    go false p = given_from P (value_of t) equals (λ v h. one' v p h) s (rw p at e)

-- ---- a name, and what may follow it after `=`: properties, and the items of display and output, are both of this form

module _ {A B : Type 0} (rest : List Sign → Option B) (mere : List ℕ → A) (with : List ℕ → B → A) where
  unfoldable pub named_of : List Sign → Option A
  named_of t =
      let n = raws (up_to (is_bare 61) t) in
      let with_rest = cond (is_name n) (given (rest (past (is_bare 61) t)) (λ b. some (with n b))) none in
      cond (has_eq t) with_rest (cond (is_name (raws t)) (some (mere (raws t))) none)

  pub named_from : (P : A → Type 0) (t : List Sign)
      → (has_eq t ≡ false → is_name (raws t) ≡ true → P (mere (raws t)))
      → ((b : B) → has_eq t ≡ true → is_name (raws (up_to (is_bare 61) t)) ≡ true → rest (past (is_bare 61) t) ≡ some b → P (with (raws (up_to (is_bare 61) t)) b))
      → (a : A) → named_of t ≡ some a → P a
  unfolding named_of
  named_from P t name more a e = go (has_eq t) refl
    where
      go : (x : Bool) → has_eq t ≡ x → P a
      go true p =
          let n = raws (up_to (is_bare 61) t) in
          let c = cond_some (is_name n) (given (rest (past (is_bare 61) t)) (λ b. some (with n b))) a (rw p at e) in
          given_from P (rest (past (is_bare 61) t)) (with n) (λ b h. more b p c.0 h) a c.1
      go false p = some_from P (is_name (raws t)) (mere (raws t)) (name p) a (rw p at e)

pub as_property : (t : List Sign) → property_of t ≡ named_of said_of (λ n. property n alone) property t
unfolding property_of named_of
as_property t = refl

pub as_entry : (t : List Sign) → entry_of t ≡ named_of value_of (λ n. entry n none) (λ n v. entry n (some v)) t
unfolding entry_of named_of
as_entry t = refl

pub property_from : (P : Property → Type 0) (t : List Sign)
    → (has_eq t ≡ false → is_name (raws t) ≡ true → P (property (raws t) alone))
    → ((s : Said) → has_eq t ≡ true → is_name (raws (up_to (is_bare 61) t)) ≡ true → said_of (past (is_bare 61) t) ≡ some s → P (property (raws (up_to (is_bare 61) t)) s))
    → (p : Property) → property_of t ≡ some p → P p
unfolding property_of named_of
property_from P t name more p e = named_from said_of (λ n. property n alone) property P t name more p e

pub entry_from : (P : Entry → Type 0) (t : List Sign)
    → (has_eq t ≡ false → is_name (raws t) ≡ true → P (entry (raws t) none))
    → ((v : Value) → has_eq t ≡ true → is_name (raws (up_to (is_bare 61) t)) ≡ true → value_of (past (is_bare 61) t) ≡ some v → P (entry (raws (up_to (is_bare 61) t)) (some v)))
    → (x : Entry) → entry_of t ≡ some x → P x
unfolding entry_of named_of
entry_from P t name more x e = named_from value_of (λ n. entry n none) (λ n v. entry n (some v)) P t name more x e

pub topic_from : (P : Property → Type 0) (t : List Sign) → (is_name (raws t) ≡ true → P (property (raws t) alone)) → (p : Property) → topic_of t ≡ some p → P p
unfolding topic_of
topic_from P t name p e = some_from P (is_name (raws t)) (property (raws t) alone) name p e

-- ---- segments

pub segment_from : (P : Segment → Type 0) (s : List ℕ)
    → (same_bytes s (bytes ".") ≡ true → P here)
    → (same_bytes s (bytes "..") ≡ true → P above)
    → (is_numbered s ≡ true → P (child (take (tag_len s) s) (value_from 0 (drop (tag_len s) s))))
    → (is_starred s ≡ true → P (children (take (tag_len s) s)))
    → (g : Segment) → segment_of s ≡ some g → P g
unfolding segment_of
segment_from P s dot dots number star g e = go (same_bytes s (bytes ".")) (same_bytes s (bytes "..")) (is_numbered s) refl refl refl
  where
    go : (x y z : Bool) → same_bytes s (bytes ".") ≡ x → same_bytes s (bytes "..") ≡ y → is_numbered s ≡ z → P g
    go true y z p q r = some_from P true here (λ _. dot p) g (rw p at e)
    go false true z p q r = some_from P true above (λ _. dots q) g (rw (p, q) at e)
    go false false true p q r = some_from P true (child (take (tag_len s) s) (value_from 0 (drop (tag_len s) s))) (λ _. number r) g (rw (p, q, r) at e)
    go false false false p q r = some_from P (is_starred s) (children (take (tag_len s) s)) star g (rw (p, q, r) at e)

-- ---- targets: a session, the root, a path from the root, a path from the default target

module _ (P : List ℕ → Target → Type 0)
    (is_session : (t : List ℕ) → same_bytes t session_name ≡ true → P t session)
    (is-root : (b : ℕ) → is_separator b ≡ true → P (b ∷ []) (path true []))
    (is-rooted : (b : ℕ) (s : List ℕ) → is_separator b ≡ true → are_segments (parts is_separator s) ≡ true → leb (length (parts is_separator s)) 16 ≡ true → P (b ∷ s) (path true (parts is_separator s)))
    (is_path : (s : List ℕ) → are_segments (parts is_separator s) ≡ true → leb (length (parts is_separator s)) 16 ≡ true → P s (path false (parts is_separator s))) where
  segments_from_lem : (Q : Target → Type 0) (r : Bool) (s : List ℕ) → (are_segments (parts is_separator s) ≡ true → leb (length (parts is_separator s)) 16 ≡ true → Q (path r (parts is_separator s)))
      → (x : Target) → segments_of r s ≡ some x → Q x
  unfolding segments_of
  segments_from_lem Q r s f x e =
      let ps = parts is_separator s in
      some_from Q (are_segments ps && leb (length ps) 16) (path r ps) (λ h. f (and_l (are_segments ps) (leb (length ps) 16) h) (and_r (are_segments ps) (leb (length ps) 16) h)) x e

  path_from_lem : (t : List ℕ) (x : Target) → path_of t ≡ some x → P t x
  unfolding path_of
  path_from_lem [] x e = none_some x e
  path_from_lem (b ∷ s) x e = go (is_separator b) (is_nil s) refl refl
    where
      go : (y z : Bool) → is_separator b ≡ y → is_nil s ≡ z → P (b ∷ s) x
      go true true p q =
          let r : s ≡ [] = nil_is s q in
          some_from (P (b ∷ s)) true (path true []) (λ _. rw r (is-root b p)) x (rw (p, q) at e)
      go true false p q = segments_from_lem (P (b ∷ s)) true s (is-rooted b s p) x (rw (p, q) at e)
      go false z p q = segments_from_lem (P (b ∷ s)) false (b ∷ s) (is_path (b ∷ s)) x (rw p at e)

  pub target_from : (t : List ℕ) (x : Target) → target_of t ≡ some x → P t x
  unfolding target_of
  target_from t x e = go (same_bytes t session_name) refl
    where
      go : (y : Bool) → same_bytes t session_name ≡ y → P t x
      go true p = some_from (P t) true session (λ _. is_session t p) x (rw p at e)
      go false p = path_from_lem t x (rw p at e)
