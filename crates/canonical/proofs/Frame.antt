-- The read-back theorem from what is said of one term: the walkTerms over the written terms follows the walkTerms over the line's. Assumes nothing.
use Prim.Native.Nat.{ℕ, suc, ◌+◌, ◌≤◌}
use mathlib.Core.Path.{◌≡◌, refl, sym, ap, ◌∙◌}
use mathlib.Core.List.{List, [], ◌∷◌, ◌++◌, map, append-nil, tail-eq_of_cons-eq}
use mathlib.Core.Bool.{Bool, true, false, cond, not, ◌&&◌}
use mathlib.Core.Option.{Option, none, some}
use native.Mathlib.Omega.{arith}
use lib.ListN.{length, length-map}
use Rattle.canonical.specs.Canonical.{write_item, writing}
use Rattle.reading.specs.Command.{Item}
use Rattle.reading.specs.Reading.{Decision, Reading, adding, begin, command_in, command_of, decide, ended, going, next, part_of, place_of, read, reading_of, refusal, refuses, takes, walk_terms}
use Rattle.reading.specs.declared.Phase.{Phase}
use Rattle.reading.specs.declared.Phase.TheVariants.{First, Options, Rest, Waits}
use Rattle.reading.specs.declared.State.{State}
use Rattle.terms.specs.Rows.{end_mode}
use Rattle.terms.specs.Signs.{Sign, after, at_end, bare, gives, raw, raws, signs, stands_for}
use Rattle.terms.specs.Terms.{Term, is_gap, terms_from, terms_of}
use Rattle.terms.specs.declared.Mode.{Mode}
use Rattle.terms.specs.declared.Mode.TheVariants.{Out}
use Rattle.text.specs.Bytes.{printable}
use Rattle.text.specs.Lists.{all_of, any_of, between, each, given, is_nil, up_to, walk}
use Rattle.text.proofs.Tests.{and_l, and_r, and_in, or_l, or_r}
use Rattle.text.proofs.AllAny.{all_append, all_up, up_at, up_all}
use Rattle.canonical.proofs.Lexing.{good, good_read, good_end, good_clean, good_solid}
use Rattle.terms.proofs.SignBytes.{raws_append}
use Rattle.terms.proofs.Bares.{bare_signs}
use Rattle.terms.proofs.ByteCases.{gives_case, end_case}
use Rattle.reading.proofs.PartOrder.{read_walk}
use Rattle.terms.proofs.RowLaws.{no_row, lone_is, open_is, is_grave, is_in}

-- ---- the texts of terms, without their places

texts_of : Bool → List Sign → List (List Sign)
texts_of g [] = []
texts_of g (x ∷ xs) = cond (g && not (is_gap x)) (up_to is_gap (x ∷ xs) ∷ texts_of (is_gap x) xs) (texts_of (is_gap x) xs)

unfoldable pub texts : List Term → List (List Sign)
texts [] = []
texts (t ∷ ts) = t.text ∷ texts ts

texts_of_lem : (i : ℕ) (g : Bool) (xs : List Sign) → texts (terms_from i g xs) ≡ texts_of g xs
unfolding terms_from texts_of texts
texts_of_lem i g [] = refl
texts_of_lem i g (x ∷ xs) = go (g && not (is_gap x)) refl (texts_of_lem (i + length (raw x)) (is_gap x) xs)
  where
    go : (t : Bool) → (g && not (is_gap x)) ≡ t → texts (terms_from (i + length (raw x)) (is_gap x) xs) ≡ texts_of (is_gap x) xs
        → texts (terms_from i g (x ∷ xs)) ≡ texts_of g (x ∷ xs)
    go true e ih = rw (e, ih)
    go false e ih = rw (e, ih)

-- ---- words with single gaps between them

inside : (w r : List Sign) → any_of is_gap w ≡ false → texts_of false (w ++ (bare 32 ∷ r)) ≡ texts_of true r
unfolding texts_of any_of
inside [] r n = refl
inside (x ∷ w) r n = simp (or_l (is_gap x) (any_of is_gap w) n, inside w r (or_r (is_gap x) (any_of is_gap w) n))

inside_last : (w : List Sign) → any_of is_gap w ≡ false → texts_of false w ≡ []
unfolding texts_of any_of
inside_last [] n = refl
inside_last (x ∷ w) n = simp (or_l (is_gap x) (any_of is_gap w) n, inside_last w (or_r (is_gap x) (any_of is_gap w) n))

-- a text that a term can be
abbrev pub word : List Sign → Bool
word w = not (is_nil w) && good false w

word_then : (w r : List Sign) → word w ≡ true → texts_of true (w ++ (bare 32 ∷ r)) ≡ w ∷ texts_of true r
unfolding texts_of any_of up_to
word_then [] r h = cc
word_then (x ∷ w) r h =
    let n = good_solid false (x ∷ w) h in
    let a = or_l (is_gap x) (any_of is_gap w) n in
    let b = or_r (is_gap x) (any_of is_gap w) n in
    simp (a, inside w r b, up_at is_gap w (bare 32) r b refl)

word_last : (w : List Sign) → word w ≡ true → texts_of true w ≡ w ∷ []
unfolding texts_of any_of up_to
word_last [] h = cc
word_last (x ∷ w) h =
    let n = good_solid false (x ∷ w) h in
    let a = or_l (is_gap x) (any_of is_gap w) n in
    let b = or_r (is_gap x) (any_of is_gap w) n in
    simp (a, inside_last w b, up_all is_gap w b)

words_each : (w : List Sign) (ws : List (List Sign)) → word w ≡ true → all_of word ws ≡ true → texts_of true (w ++ each (bare 32) ws) ≡ w ∷ ws
unfolding each all_of
words_each w [] h k = ap (texts_of true) (append-nil w) ∙ word_last w h
words_each w (v ∷ ws) h k =
    word_then w (v ++ each (bare 32) ws) h ∙ ap (λ z. w ∷ z) (words_each v ws (and_l (word v) (all_of word ws) k) (and_r (word v) (all_of word ws) k))

words_texts : (ws : List (List Sign)) → all_of word ws ≡ true → texts_of true (between (bare 32) ws) ≡ ws
unfolding between all_of texts_of
words_texts [] k = refl
words_texts (w ∷ ws) k = words_each w ws (and_l (word w) (all_of word ws) k) (and_r (word w) (all_of word ws) k)

-- ---- such a line is read sign by sign, ends outside quotes, and is printable

word_good : (w : List Sign) → word w ≡ true → good false w ≡ true
word_good w h = and_r (not (is_nil w)) (good false w) h

each_read : (ws : List (List Sign)) → all_of word ws ≡ true → signs Out (raws (each (bare 32) ws)) ≡ each (bare 32) ws
unfolding each all_of raws signs
each_read [] k = refl
each_read (w ∷ ws) k =
    bare_signs 32 (raws (w ++ each (bare 32) ws)) refl refl
    ∙ ap (λ z. bare 32 ∷ z)
    (ap (signs Out) (raws_append w (each (bare 32) ws))
    ∙ good_read false w (word_good w (and_l (word w) (all_of word ws) k)) (raws (each (bare 32) ws))
    ∙ ap (λ z. w ++ z) (each_read ws (and_r (word w) (all_of word ws) k)))

words_read : (ws : List (List Sign)) → all_of word ws ≡ true → signs Out (raws (between (bare 32) ws)) ≡ between (bare 32) ws
unfolding between each raws signs
words_read [] k = refl
words_read (w ∷ ws) k = tail-eq_of_cons-eq (sym (bare_signs 32 (raws (w ++ each (bare 32) ws)) refl refl) ∙ each_read (w ∷ ws) k)

each_end : (ws : List (List Sign)) → all_of word ws ≡ true → end_mode Out (raws (each (bare 32) ws)) ≡ Out
unfolding each all_of raws end_mode walk after
each_end [] k = refl
each_end (w ∷ ws) k =
    ap (end_mode Out) (raws_append w (each (bare 32) ws))
    ∙ good_end false w (word_good w (and_l (word w) (all_of word ws) k)) (raws (each (bare 32) ws))
    ∙ each_end ws (and_r (word w) (all_of word ws) k)

words_end : (ws : List (List Sign)) → all_of word ws ≡ true → end_mode Out (raws (between (bare 32) ws)) ≡ Out
unfolding between each raws end_mode walk after
words_end [] k = refl
words_end (w ∷ ws) k = each_end (w ∷ ws) k

each_clean : (ws : List (List Sign)) → all_of word ws ≡ true → all_of printable (raws (each (bare 32) ws)) ≡ true
unfolding each all_of raws
each_clean [] k = refl
each_clean (w ∷ ws) k =
    ap (all_of printable) (raws_append w (each (bare 32) ws))
    ∙ all_append printable (raws w) (raws (each (bare 32) ws)) (good_clean false w (word_good w (and_l (word w) (all_of word ws) k)))
    (each_clean ws (and_r (word w) (all_of word ws) k))

words_clean : (ws : List (List Sign)) → all_of word ws ≡ true → all_of printable (raws (between (bare 32) ws)) ≡ true
unfolding between each all_of raws
words_clean [] k = refl
words_clean (w ∷ ws) k = each_clean (w ∷ ws) k

length_texts : (ts : List Term) → length (texts ts) ≡ length ts
unfolding texts
length_texts [] = refl
length_texts (t ∷ ts) = ap suc (length_texts ts)

-- ---- the bytes that the signs of a line stand for are bytes of the line

abbrev pub clean_sign : Sign → Bool
clean_sign x = all_of printable (stands_for x)

gives_clean : (m : Mode) (b : ℕ) → printable b ≡ true → all_of clean_sign (gives m b) ≡ true
unfolding all_of
gives_clean m b e =
    gives_case (λ k g n. all_of clean_sign g ≡ true) b (λ _. refl) (λ _ _. refl) (λ _ _. simp e) (λ _. simp e) (λ _. simp e) (λ _. refl) (λ _ _. refl) (λ _ _. simp e) (λ _. simp e)
    (λ _. simp e) m

end_clean : (m : Mode) → all_of clean_sign (at_end m) ≡ true
unfolding all_of
end_clean = end_case (λ m z. all_of clean_sign z ≡ true) refl refl refl refl

signs_clean : (m : Mode) (s : List ℕ) → all_of printable s ≡ true → all_of clean_sign (signs m s) ≡ true
unfolding all_of signs
signs_clean m [] e = end_clean m
signs_clean m (b ∷ s) e =
    all_append clean_sign (gives m b) (signs (after m b) s) (gives_clean m b (and_l (printable b) (all_of printable s) e))
    (signs_clean (after m b) s (and_r (printable b) (all_of printable s) e))

-- what is known of a term's text: it is not empty, and stands for printable bytes
abbrev pub clean_text : List Sign → Bool
clean_text t = not (is_nil t) && all_of clean_sign t

texts_clean : (g : Bool) (xs : List Sign) → all_of clean_sign xs ≡ true → all_of clean_text (texts_of g xs) ≡ true
unfolding all_of texts_of up_to
texts_clean g [] e = refl
texts_clean g (x ∷ xs) e = go (is_gap x) refl g (texts_clean (is_gap x) xs (and_r (clean_sign x) (all_of clean_sign xs) e))
  where
    go : (t : Bool) → is_gap x ≡ t → (g : Bool) → all_of clean_text (texts_of (is_gap x) xs) ≡ true → all_of clean_text (texts_of g (x ∷ xs)) ≡ true
    go true p true ih = simp p (rw p at ih)
    go true p false ih = ih
    go false p true ih = simp (p, and_l (clean_sign x) (all_of clean_sign xs) e, all_up clean_sign is_gap xs (and_r (clean_sign x) (all_of clean_sign xs) e)) (rw p at ih)
    go false p false ih = ih

-- ---- the walkTerms, without places

end_in : Phase → Option (List Item)
end_in First = some []
end_in Options = some []
end_in (Waits n) = none
end_in Rest = some []

go_on : Decision → (Item → Option (List Item)) → Option (List Item)
go_on (refuses n) f = none
go_on (takes i) f = given (f i) (λ c. some (i ∷ c))

follow : State → List (List Sign) → Option (List Item)
follow s [] = end_in s.phase
follow s (t ∷ ts) = go_on (decide s t) (λ i. follow (next s i) ts)

end_follow : (p : Phase) (n : ℕ) → command_in (ended p n) ≡ end_in p
unfolding end_in
end_follow First n = refl
end_follow Options n = refl
end_follow (Waits k) n = refl
end_follow Rest n = refl

walk_follow : (n : ℕ) (s : State) (ts : List Term) → command_in (walk_terms n s ts) ≡ follow s (texts ts)
unfolding walk_terms follow texts go_on
walk_follow n s [] = end_follow s.phase n
walk_follow n s (t ∷ ts) = go (decide s t.text) (λ i. walk_follow n (next s i) ts)
  where
    add : (i : Item) (r : Reading) (o : Option (List Item)) → command_in r ≡ o → command_in (adding (part_of t i) r) ≡ given o (λ c. some (i ∷ c))
    add i (refusal k p) o e = rw (← e)
    add i (read ps) o e = rw (← e)

    go : (d : Decision) → ((i : Item) → command_in (walk_terms n (next s i) ts) ≡ follow (next s i) (texts ts))
        → command_in (going d (place_of s t) (λ i. adding (part_of t i) (walk_terms n (next s i) ts))) ≡ go_on d (λ i. follow (next s i) (texts ts))
    go (refuses k) ih = refl
    go (takes i) ih = add i (walk_terms n (next s i) ts) (follow (next s i) (texts ts)) (ih i)

-- what is said of one term: its part, written, is a term that gives the same part in the same state
pub record Back (s : State) (i : Item) : Type 0 where
  pub again : decide s (write_item i) ≡ takes i
  pub is_word : word (write_item i) ≡ true

pub clean_texts : (line : List ℕ) → all_of printable line ≡ true → all_of clean_text (texts (terms_of line)) ≡ true
unfolding terms_of
clean_texts line k = ap (all_of clean_text) (texts_of_lem 0 true (signs Out line)) ∙ texts_clean true (signs Out line) (signs_clean Out line k)

texts_back : (ws : List (List Sign)) → all_of word ws ≡ true → texts (terms_of (raws (between (bare 32) ws))) ≡ ws
unfolding terms_of
texts_back ws k = texts_of_lem 0 true (signs Out (raws (between (bare 32) ws))) ∙ ap (texts_of true) (words_read ws k) ∙ words_texts ws k

few_back : (c : List Item) (line : List ℕ) → length (terms_of line) ≤ 64 → length c ≡ length (texts (terms_of line))
    → texts (terms_of (raws (between (bare 32) (map write_item c)))) ≡ map write_item c → length (terms_of (raws (between (bare 32) (map write_item c)))) ≤ 64
few_back c line h e t =
    let ts = terms_of (raws (between (bare 32) (map write_item c))) in
    let a = length_texts (terms_of line) in
    let b : length (texts ts) ≡ length ts = length_texts ts in
    let d : length (texts ts) ≡ length (map write_item c) = ap length t in
    let f : length (map write_item c) ≡ length c = length-map c write_item in
    omega arith

module _ (back : (s : State) (t : List Sign) (i : Item) → decide s t ≡ takes i → clean_text t ≡ true → Back s i) where
  record Follows (s : State) (c : List Item) (n : ℕ) : Type 0 where
    same : follow s (map write_item c) ≡ some c
    words : all_of word (map write_item c) ≡ true
    many : length c ≡ n

  ends : (s : State) (c : List Item) (p : Phase) → s.phase ≡ p → end_in p ≡ some c → Follows s c 0
  unfolding follow end_in all_of
  ends s c First e h = let z : c ≡ [] = cc in rw z (record { same = rw e; words = refl; many = refl })
  ends s c Options e h = let z : c ≡ [] = cc in rw z (record { same = rw e; words = refl; many = refl })
  ends s c (Waits k) e h = let z : ◌≡◌ {A = ℕ} 0 1 = cc in absurd (omega arith)
  ends s c Rest e h = let z : c ≡ [] = cc in rw z (record { same = rw e; words = refl; many = refl })

  follow_back : (s : State) (ts : List (List Sign)) (c : List Item) → all_of clean_text ts ≡ true → follow s ts ≡ some c → Follows s c (length ts)
  unfolding follow go_on all_of
  follow_back s [] c k h = ends s c s.phase refl h
  follow_back s (t ∷ ts) c k h =
      go (decide s t) refl (λ i c'. follow_back (next s i) ts c' (and_r (clean_text t) (all_of clean_text ts) k))
    where
      put : (i : Item) (o : Option (List Item)) → decide s t ≡ takes i → follow (next s i) ts ≡ o
          → ((c' : List Item) → follow (next s i) ts ≡ some c' → Follows (next s i) c' (length ts)) → Follows s c (suc (length ts))
      put i none d e ih = let z : ◌≡◌ {A = ℕ} 0 1 = cc (rw (d, e) at h) in absurd (omega arith)
      put i (some c') d e ih =
          let z : c ≡ i ∷ c' = cc (rw (d, e) at h) in
          let b = back s t i d (and_l (clean_text t) (all_of clean_text ts) k) in
          let f = ih c' e in
          rw z (record {
            same = rw (b.again, f.same);
            words = and_in (word (write_item i)) (all_of word (map write_item c')) b.is_word f.words;
            many = ap suc f.many;
          })

      go : (d : Decision) → decide s t ≡ d
          → ((i : Item) (c' : List Item) → follow (next s i) ts ≡ some c' → Follows (next s i) c' (length ts)) → Follows s c (suc (length ts))
      go (refuses n) d ih = let z : ◌≡◌ {A = ℕ} 0 1 = cc (rw d at h) in absurd (omega arith)
      go (takes i) d ih = put i (follow (next s i) ts) d refl (ih i)

  -- ---- what is known of a line that is read as a command

  record Sound (line : List ℕ) (c : List Item) : Type 0 where
    clean : all_of printable line ≡ true
    few : length (terms_of line) ≤ 64
    walked : command_in (walk_terms (length line) begin (terms_of line)) ≡ some c

  sound : (line : List ℕ) (c : List Item) → command_of line ≡ some c → Sound line c
  unfolding command_of
  sound line c h = go (reading_of line) refl h
    where
      go : (r : Reading) → reading_of line ≡ r → command_in r ≡ some c → Sound line c
      go (refusal n p) e k = let z : ◌≡◌ {A = ℕ} 0 1 = cc in absurd (omega arith)
      go (read ps) e k =
          let w = read_walk line ps e in
          let n = (no_row line).1 w.0 in
          record { clean = n.clean; few = n.few; walked = ap command_in w.1 ∙ k }

  -- ---- THE READ-BACK THEOREM, from what is said of one term

  pub read_back : (line : List ℕ) (c : List Item) → command_of line ≡ some c → length (writing c) ≤ 1024 → command_of (writing c) ≡ some c
  unfolding command_of reading_of writing
  read_back line c h short =
      let o = sound line c h in
      let ts = texts (terms_of line) in
      let e : follow begin ts ≡ some c = sym (walk_follow (length line) begin (terms_of line)) ∙ o.walked in
      let k : all_of clean_text ts ≡ true = clean_texts line o.clean in
      let f = follow_back begin ts c k e in
      let ws = map write_item c in
      let w = raws (between (bare 32) ws) in
      let t : texts (terms_of w) ≡ ws = texts_back ws f.words in
      let m : end_mode Out w ≡ Out = words_end ws f.words in
      let fine = (no_row w).0 (record {
        short = short;
        clean = words_clean ws f.words;
        paired = lone_is w ∙ ap is_grave m;
        closed = open_is w ∙ ap is_in m;
        few = few_back c line o.few f.many t;
      }) in
      rw fine (walk_follow (length w) begin (terms_of w) ∙ ap (follow begin) t ∙ f.same)
