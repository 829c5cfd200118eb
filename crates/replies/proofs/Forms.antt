-- The forms of lines exactly: each text of a form has that form, and each line is such a text of its form, or of none. Assumes nothing.
use Prim.Native.Nat.{ℕ, suc, ◌+◌}
use mathlib.Core.Path.{◌≡◌, refl, sym, ap, ◌∙◌, subst}
use mathlib.Core.List.{List, [], ◌∷◌, ◌++◌, append-nil}
use mathlib.Core.Bool.{Bool, true, false, cond, ◌||◌}
use mathlib.Core.Option.{Option, none, some, some-injective}
use native.Mathlib.Omega.{arith}
use lib.ListN.{length, take, drop, take-append-drop}
use lib.Seq.{drop-append_seam}
use lib.Dec.{eqb}
use borrow.Author.Tests.{eqb-true, not-true}
use Rattle.text.specs.Bytes.{bytes, same_bytes, is_letter, is_word}
use Rattle.text.specs.Lists.{all_of, any_of, up_to, run_len, is_nil}
use Rattle.text.proofs.Tests.{and_l, and_r, and_in, or_l, no_case}
use Rattle.text.proofs.AllAny.{up_over, all_none}
use Rattle.text.proofs.Classes.{letter_word, other_byte}
use Rattle.text.proofs.SameTexts.{same_eq}
use Rattle.text.proofs.Scans.{take_run}
use Rattle.text.proofs.Options.{none_some}
use Rattle.terms.specs.declared.Mode.{Mode}
use Rattle.terms.specs.declared.Mode.TheVariants.{In}
use Rattle.terms.specs.Signs.{after}
use Rattle.forms.specs.Forms.{is_name}
use Rattle.replies.specs.declared.Form.{Form}
use Rattle.replies.specs.declared.Form.TheVariants.{Nothing, Item, Group, Close, End, Wrong, Open}
use Rattle.replies.specs.Lines.{begins, is_end, is_equals, is_quote, is_out, line_ends, quote_len, begin_word, close_word, end_word, is_keyword, group_form, item_form, quoted_form, form_of}
use Rattle.replies.specs.Steps.{whole_form, keyed_form}
use Rattle.replies.proofs.FormLaws.{word_no_end, up_ended, keyed_form_lem, whole_form_lem, odd_form}

-- ---- names and keywords

-- a name is all letters, digits and underscores
pub name_word : (n : List ℕ) → is_name n ≡ true → all_of is_word n ≡ true
unfolding is_name all_of
name_word [] e = no_case (sym e)
name_word (b ∷ s) e =
    and_in (is_word b) (all_of is_word s) (letter_word b (and_l (is_letter b) _ e)) (and_l (all_of is_word s) _ (and_r (is_letter b) _ e))

-- a keyword is a name, and not the word that opens a group
pub keyword_name : (k : List ℕ) → is_keyword k ≡ true → is_name k ≡ true
unfolding is_keyword
keyword_name k e = and_l (is_name k) _ e

pub keyword_other : (k : List ℕ) → is_keyword k ≡ true → same_bytes k begin_word ≡ false
unfolding is_keyword
keyword_other k e = or_l (same_bytes k begin_word) _ (not-true (same_bytes k begin_word || (same_bytes k close_word || same_bytes k end_word)) (and_r (is_name k) _ e))

-- ---- values

-- a text without an end of line, and then one
pub up_to_end : (t r : List ℕ) → any_of is_end t ≡ false → line_ends r ≡ true → up_to is_end (t ++ r) ≡ t
up_to_end t r n e = up_over is_end t r n ∙ ap (λ (l : List ℕ). t ++ l) (up_ended r e) ∙ append-nil t

-- where a quote closes, what follows does not matter
pub quote_over : (m : Mode) (q r : List ℕ) (n : ℕ) → quote_len m q ≡ some n → quote_len m (q ++ r) ≡ some n
unfolding quote_len
quote_over m [] r n e = none_some n e
quote_over m (b ∷ q) r n e = go (is_out (after m b)) refl (quote_len (after m b) q) refl (quote_over (after m b) q r)
  where
    go : (t : Bool) → is_out (after m b) ≡ t → (o : Option ℕ) → quote_len (after m b) q ≡ o
        → ((k : ℕ) → quote_len (after m b) q ≡ some k → quote_len (after m b) (q ++ r) ≡ some k) → quote_len m (b ∷ (q ++ r)) ≡ some n
    go true p o h ih = rw p (rw p at e)
    go false p none h ih = none_some n (rw (p, h) at e)
    go false p (some k) h ih = rw (p, ih k h) (rw (p, h) at e)

-- a value as it stands in a line: one without an end of line that begins with no `"`, or a quoted one
pub data Raw : List ℕ → Type 0 where
  plain : (v : List ℕ) → any_of is_end v ≡ false → begins is_quote v ≡ false → Raw v
  quoted : (q : List ℕ) → quote_len In q ≡ some (length q) → Raw (34 ∷ q)

-- ---- each text of a form has that form

pub remark_form : (t r : List ℕ) → any_of is_end t ≡ false → line_ends r ≡ true → form_of (35 ∷ (t ++ r)) ≡ Nothing (length (35 ∷ t))
unfolding form_of up_to
remark_form t r n e = rw (up_to_end t r n e)

pub blank_form : (r : List ℕ) → line_ends r ≡ true → form_of r ≡ Nothing 0
unfolding all_of
blank_form r e = whole_form_lem [] r refl e

pub end_form : (r : List ℕ) → line_ends r ≡ true → form_of (end_word ++ r) ≡ End
unfolding all_of is_word bytes same_bytes
end_form r e = whole_form_lem end_word r refl e

pub close_form : (r : List ℕ) → line_ends r ≡ true → form_of (close_word ++ r) ≡ Close
unfolding all_of is_word bytes same_bytes
close_form r e = whole_form_lem close_word r refl e

pub group_form_lem : (n r : List ℕ) → is_name n ≡ true → line_ends r ≡ true → form_of (begin_word ++ (61 ∷ (n ++ r))) ≡ Group (length n)
unfolding all_of is_word bytes same_bytes
group_form_lem n r h e =
    keyed_form_lem begin_word (n ++ r) refl
    ∙ ap group_form (up_to_end n r (all_none is_word is_end word_no_end n (name_word n h)) e)
    ∙ rw h

-- a quote that closes after n bytes
closed : (k : ℕ) (v : List ℕ) (n : ℕ) → quoted_form k v (some n) ≡ cond (line_ends (drop (suc n) v)) (Item k (suc n)) Wrong
closed k v n = let z : 1 + n ≡ suc n = omega arith in ap (λ (j : ℕ). cond (line_ends (drop j v)) (Item k j) Wrong) z

pub value_form : (k : ℕ) (v r : List ℕ) → Raw v → line_ends r ≡ true → item_form k (v ++ r) ≡ Item k (length v)
unfolding item_form
value_form k v r (plain _ n q) e = rw (front v r q e, up_to_end v r n e)
  where
    front : (v r : List ℕ) → begins is_quote v ≡ false → line_ends r ≡ true → begins is_quote (v ++ r) ≡ false
    front [] [] q e = refl
    front [] (b ∷ r) q e = other_byte is_end 34 b true refl e
    front (b ∷ v) r q e = q
value_form k _ r (quoted q h) e =
    rw (quote_over In q r (length q) h) (closed k (34 ∷ (q ++ r)) (length q) ∙ rw (ap line_ends (drop-append_seam q r) ∙ e))

pub item_form_lem : (k v r : List ℕ) → is_keyword k ≡ true → Raw v → line_ends r ≡ true → form_of (k ++ (61 ∷ (v ++ r))) ≡ Item (length k) (length v)
item_form_lem k v r h w e =
    keyed_form_lem k (v ++ r) (name_word k (keyword_name k h))
    ∙ rw (keyword_other k h, h) (value_form (length k) v r w e)

-- ---- each line is a text of its form

pub data Row : List ℕ → Form → Type 0 where
  nothing : (t r : List ℕ) → is_nil t || begins (λ b. eqb b 35) t ≡ true → any_of is_end t ≡ false → line_ends r ≡ true → Row (t ++ r) (Nothing (length t))
  item : (k v r : List ℕ) → is_keyword k ≡ true → Raw v → line_ends r ≡ true → Row (k ++ (61 ∷ (v ++ r))) (Item (length k) (length v))
  group : (n r : List ℕ) → is_name n ≡ true → line_ends r ≡ true → Row (begin_word ++ (61 ∷ (n ++ r))) (Group (length n))
  close : (r : List ℕ) → line_ends r ≡ true → Row (close_word ++ r) Close
  end : (r : List ℕ) → line_ends r ≡ true → Row (end_word ++ r) End
  wrong : (s : List ℕ) → Row s Wrong
  open' : (s : List ℕ) → Row s Open

-- a text up to its first end of line, and what follows
pub to_end_lem : (s : List ℕ) → (r : List ℕ) × (s ≡ up_to is_end s ++ r) × (line_ends r ≡ true) × (any_of is_end (up_to is_end s) ≡ false)
unfolding up_to any_of
to_end_lem [] = ([], refl, refl, refl)
to_end_lem (b ∷ s) = go (is_end b) refl (to_end_lem s)
  where
    go : (t : Bool) → is_end b ≡ t → ((r : List ℕ) × (s ≡ up_to is_end s ++ r) × (line_ends r ≡ true) × (any_of is_end (up_to is_end s) ≡ false))
        → (r : List ℕ) × (b ∷ s ≡ up_to is_end (b ∷ s) ++ r) × (line_ends r ≡ true) × (any_of is_end (up_to is_end (b ∷ s)) ≡ false)
    go true p ih = (b ∷ s, rw p refl, p, rw p refl)
    go false p ih = (ih.0, rw p (ap (λ (l : List ℕ). b ∷ l) ih.1), ih.2, rw p (rw p ih.3))

-- a quote that closes, and what follows it
pub to_quote : (m : Mode) (s : List ℕ) (n : ℕ) → quote_len m s ≡ some n → (q : List ℕ) × (s ≡ q ++ drop n s) × (quote_len m q ≡ some (length q)) × (length q ≡ n)
unfolding quote_len
to_quote m [] n e = none_some n e
to_quote m (b ∷ s) n e = go (is_out (after m b)) refl (quote_len (after m b) s) refl (to_quote (after m b) s)
  where
    go : (t : Bool) → is_out (after m b) ≡ t → (o : Option ℕ) → quote_len (after m b) s ≡ o
        → ((k : ℕ) → quote_len (after m b) s ≡ some k → (q : List ℕ) × (s ≡ q ++ drop k s) × (quote_len (after m b) q ≡ some (length q)) × (length q ≡ k))
        → (q : List ℕ) × (b ∷ s ≡ q ++ drop n (b ∷ s)) × (quote_len m q ≡ some (length q)) × (length q ≡ n)
    go true p o h ih =
        let z : n ≡ 1 = sym (some-injective 1 n (rw p at e)) in
        rw z (b ∷ [], refl, rw p refl, refl)
    go false p none h ih = none_some n (rw (p, h) at e)
    go false p (some k) h ih =
        let z : n ≡ suc k = sym (some-injective (1 + k) n (rw (p, h) at e)) ∙ omega arith in
        let i = ih k h in
        let l : 1 + length i.0 ≡ suc (length i.0) = omega arith in
        rw z (b ∷ i.0, ap (λ (l : List ℕ). b ∷ l) i.1, rw (p, i.2, l), ap suc i.3)

-- what a line is by what follows the `=` after its keyword
module _ (k : List ℕ) (h : is_keyword k ≡ true) where
  up_front : (s : List ℕ) → begins is_quote s ≡ false → begins is_quote (up_to is_end s) ≡ false
  unfolding up_to
  up_front [] e = refl
  up_front (b ∷ s) e = go (is_end b) refl
    where
      go : (t : Bool) → is_end b ≡ t → begins is_quote (up_to is_end (b ∷ s)) ≡ false
      go true p = rw p refl
      go false p = rw p e

  plain_row : (s : List ℕ) → begins is_quote s ≡ false → Row (k ++ (61 ∷ s)) (Item (length k) (length (up_to is_end s)))
  plain_row s b =
      let t = to_end_lem s in
      subst (λ (x : List ℕ). Row (k ++ (61 ∷ x)) (Item (length k) (length (up_to is_end s)))) (sym t.1)
      (item k (up_to is_end s) t.0 h (plain (up_to is_end s) t.3 (up_front s b)) t.2)

  quoted_row : (s : List ℕ) (o : Option ℕ) → quote_len In s ≡ o → Row (k ++ (61 ∷ 34 ∷ s)) (quoted_form (length k) (34 ∷ s) o)
  quoted_row s none e = open' (k ++ (61 ∷ 34 ∷ s))
  quoted_row s (some n) e = rw (closed (length k) (34 ∷ s) n) (go (line_ends (drop n s)) refl)
    where
      go : (t : Bool) → line_ends (drop n s) ≡ t → Row (k ++ (61 ∷ 34 ∷ s)) (cond t (Item (length k) (suc n)) Wrong)
      go true p =
          let q = to_quote In s n e in
          let i : Row (k ++ (61 ∷ 34 ∷ (q.0 ++ drop n s))) (Item (length k) (suc (length q.0))) = item k (34 ∷ q.0) (drop n s) h (quoted q.0 q.2) p in
          let j : Row (k ++ (61 ∷ 34 ∷ (q.0 ++ drop n s))) (Item (length k) (suc n)) = subst (λ (x : ℕ). Row (k ++ (61 ∷ 34 ∷ (q.0 ++ drop n s))) (Item (length k) (suc x))) q.3 i in
          subst (λ (x : List ℕ). Row (k ++ (61 ∷ 34 ∷ x)) (Item (length k) (suc n))) (sym q.1) j
      go false p = wrong (k ++ (61 ∷ 34 ∷ s))

  value_row : (s : List ℕ) → Row (k ++ (61 ∷ s)) (item_form (length k) s)
  unfolding item_form
  value_row [] = plain_row [] refl
  value_row (b ∷ s) = go (is_quote b) refl
    where
      go : (t : Bool) → is_quote b ≡ t → Row (k ++ (61 ∷ b ∷ s)) (item_form (length k) (b ∷ s))
      go true p = let z = eqb-true b 34 p in rw z (quoted_row s (quote_len In s) refl)
      go false p = rw p (plain_row (b ∷ s) p)

-- a word and `=`, and what follows
keyed_row : (w v : List ℕ) → Row (w ++ (61 ∷ v)) (keyed_form (length w) w v)
keyed_row w v = go (same_bytes w begin_word) refl (is_keyword w) refl (is_name (up_to is_end v)) refl
  where
    go : (x : Bool) → same_bytes w begin_word ≡ x → (y : Bool) → is_keyword w ≡ y → (z : Bool) → is_name (up_to is_end v) ≡ z → Row (w ++ (61 ∷ v)) (keyed_form (length w) w v)
    go true p y q true n =
        let t = to_end_lem v in
        let e = same_eq w begin_word p in
        rw (p, n) (rw e (subst (λ (x : List ℕ). Row (begin_word ++ (61 ∷ x)) (Group (length (up_to is_end v)))) (sym t.1) (group (up_to is_end v) t.0 n t.2)))
    go true p y q false n = rw (p, n) (wrong (w ++ (61 ∷ v)))
    go false p true q z n = rw (p, q) (value_row w q v)
    go false p false q z n = rw (p, q) (wrong (w ++ (61 ∷ v)))

-- a line that is one word
whole_row : (w r : List ℕ) → line_ends r ≡ true → Row (w ++ r) (cond (is_nil w) (Nothing 0) (whole_form w))
unfolding any_of
whole_row [] r e = nothing [] r refl refl e
whole_row (b ∷ w) r e = go (same_bytes (b ∷ w) end_word) refl (same_bytes (b ∷ w) close_word) refl
  where
    go : (x : Bool) → same_bytes (b ∷ w) end_word ≡ x → (y : Bool) → same_bytes (b ∷ w) close_word ≡ y → Row ((b ∷ w) ++ r) (whole_form (b ∷ w))
    go true p y q = rw p (subst (λ (x : List ℕ). Row (x ++ r) End) (sym (same_eq (b ∷ w) end_word p)) (end r e))
    go false p true q = rw (p, q) (subst (λ (x : List ℕ). Row (x ++ r) Close) (sym (same_eq (b ∷ w) close_word q)) (close r e))
    go false p false q = rw (p, q) (wrong ((b ∷ w) ++ r))

-- a word, and what follows it
word_row : (w r : List ℕ) → all_of is_word w ≡ true → begins is_word r ≡ false → Row (w ++ r) (form_of (w ++ r))
unfolding any_of
word_row w [] a o = rw (whole_form_lem w [] a refl) (whole_row w [] refl)
word_row w (x ∷ r) a o = go (is_end x) refl (is_equals x) refl
  where
    hash : (w : List ℕ) → all_of is_word w ≡ true → is_end x ≡ false → is_equals x ≡ false → (t : Bool) → eqb x 35 ≡ t → Row (w ++ (x ∷ r)) (form_of (w ++ (x ∷ r)))
    hash [] a p q true h =
        let z = eqb-true x 35 h in
        let t = to_end_lem r in
        subst (λ (y : ℕ). Row (y ∷ r) (form_of (y ∷ r))) (sym z)
        (subst (λ (y : List ℕ). Row (35 ∷ y) (form_of (35 ∷ y))) (sym t.1)
        (rw (remark_form (up_to is_end r) t.0 t.3 t.2) (nothing (35 ∷ up_to is_end r) t.0 refl t.3 t.2)))
    hash [] a p q false h = rw (odd_form [] x r a o p q (λ _. h)) (wrong (x ∷ r))
    hash (b ∷ w) a p q t h = rw (odd_form (b ∷ w) x r a o p q (λ z. no_case (sym z))) (wrong ((b ∷ w) ++ (x ∷ r)))

    go : (s : Bool) → is_end x ≡ s → (t : Bool) → is_equals x ≡ t → Row (w ++ (x ∷ r)) (form_of (w ++ (x ∷ r)))
    go true p t q = rw (whole_form_lem w (x ∷ r) a p) (whole_row w (x ∷ r) p)
    go false p true q = let z = eqb-true x 61 q in rw z (rw (keyed_form_lem w r a) (keyed_row w r))
    go false p false q = hash w a p q (eqb x 35) refl

-- what follows a run of letters, digits and underscores is none
run_stops : (s : List ℕ) → begins is_word (drop (run_len is_word s) s) ≡ false
unfolding run_len
run_stops [] = refl
run_stops (b ∷ s) = go (is_word b) refl (run_stops s)
  where
    go : (t : Bool) → is_word b ≡ t → begins is_word (drop (run_len is_word s) s) ≡ false → begins is_word (drop (cond t (suc (run_len is_word s)) 0) (b ∷ s)) ≡ false
    go true p ih = ih
    go false p ih = p

pub row_of : (s : List ℕ) → Row s (form_of s)
row_of s =
    let n = run_len is_word s in
    subst (λ (x : List ℕ). Row x (form_of x)) (take-append-drop n s) (word_row (take n s) (drop n s) (take_run is_word s) (run_stops s))
