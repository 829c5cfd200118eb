-- What the writers write, one step at a time, by bytes. Assumes nothing.
use Prim.Native.Nat.{ℕ, zero, suc, ◌+◌, ◌*◌, ◌<◌, ◌≤◌}
use mathlib.Core.Path.{◌≡◌, refl, sym, ap, ◌∙◌}
use mathlib.Core.List.{List, [], ◌∷◌, ◌++◌, append_assoc, append-nil}
use mathlib.Core.Bool.{Bool, true, false, cond, ◌||◌, and-false, or-false}
use native.Mathlib.Omega.{arith}
use Rattle.std.specs.Cmp.Lexicographic.{pointwise}
use Rattle.std.proofs.lemmas.Bool.Decides.{nat_tests}
use lib.ListN.{length, take, drop, get_or, drop_of_length-le, length-append, length-take, length-drop, length-map}
use lib.Dec.{eqb}
use borrow.Author.Tests.{ne_eqb}
use Rattle.text.specs.Bytes.{bytes, one_of, same_bytes, is_word}
use Rattle.text.specs.Lists.{all_of, any_of}
use Rattle.text.proofs.Tests.{either, no_case}
use Rattle.text.proofs.Scans.{drop_step, scan_within}
use Rattle.terms.specs.declared.Mode.{Mode}
use Rattle.terms.specs.declared.Mode.TheVariants.{Out, OutGrave, In, InGrave}
use Rattle.terms.specs.Signs.{Sign, bare, twelve, two, after, gives, at_end, signs, raw, raws, stands, meant}
use Rattle.terms.proofs.SignBytes.{raws_signs, raws_append, meant_length}
use Rattle.terms.proofs.Bares.{raws_bares}
use Rattle.canonical.specs.Canonical.{in_quotes, closing, quotes, is_plain, write_text}
use Rattle.canonical.specs.Written.{graves, graved, graved_all, parting, text_signs, rewrite_from, rewritten, text_written, texts_in, is_parting, text_len, leads_dash, dash_grave, place_in, slash, slashed, level_in, argument_in, written}
use Rattle.canonical.proofs.TextWriting.{rewrite_over}
use Rattle.terms.proofs.ByteCases.{gives_case, end_case}
use Rattle.forms.proofs.TextLaws.{no_comma, no_open, no_close, no_equal}
use Rattle.words.specs.declared.Kind.{Kind}
use Rattle.words.specs.declared.Kind.TheVariants.{Mere, Keep, Level, Place, Entries}
use Rattle.words.specs.Words.{names, all_name, kind_of}
use Rattle.words.proofs.WordLaws.{verb_short, option_short}
use Rattle.reading.specs.declared.Shown.{Shown}
use Rattle.reading.specs.declared.Shown.TheVariants as shown
use Rattle.canonical.proofs.Places.{all_length}
use Rattle.canonical.proofs.Values.{quotes_case}

-- ---- bytes with GRAVEs

pub graved_two : (q : Bool) (b : ℕ) → graves q b ≡ true → graved q b ≡ 96 ∷ b ∷ []
unfolding graved
graved_two q b e = rw e

pub graved_one : (q : Bool) (b : ℕ) → graves q b ≡ false → graved q b ≡ b ∷ []
unfolding graved
graved_one q b e = rw e

pub graved_short : (q : Bool) (b : ℕ) → length (graved q b) ≤ 2
unfolding graved
graved_short q b = go (graves q b)
  where
    go : (x : Bool) → length (cond x (96 ∷ b ∷ []) (b ∷ [])) ≤ 2
    go true = omega arith
    go false = omega arith

pub graved_on : (q : Bool) (l : List ℕ) (i : ℕ) → i < length l → graved_all q (drop i l) ≡ graved q (get_or l i 0) ++ graved_all q (drop (i + 1) l)
unfolding graved_all
graved_on q l i h = rw (drop_step l i h)

pub graved_past : (q : Bool) (l : List ℕ) (i : ℕ) → length l ≤ i → graved_all q (drop i l) ≡ []
unfolding graved_all
graved_past q l i h = rw (drop_of_length-le l h)

quoted_byte : (b : ℕ) → raw (in_quotes b) ≡ graved true b
unfolding graved
quoted_byte b = quotes_case (λ x. raw x ≡ cond (one_of two b) (96 ∷ b ∷ []) (b ∷ [])) b (λ p. rw p) (λ p. rw p)

closing_bytes : (s : List ℕ) → raws (closing s) ≡ graved_all true s ++ (34 ∷ [])
unfolding raws closing graved_all
closing_bytes [] = refl
closing_bytes (b ∷ s) =
    ap (λ (z : List ℕ). z ++ raws (closing s)) (quoted_byte b)
    ∙ ap (λ (z : List ℕ). graved true b ++ z) (closing_bytes s)
    ∙ sym (append_assoc (graved true b) (graved_all true s) (34 ∷ []))

pub quotes_bytes : (s : List ℕ) → raws (quotes s) ≡ 34 ∷ (graved_all true s ++ (34 ∷ []))
unfolding raws
quotes_bytes s = ap (λ (z : List ℕ). 34 ∷ z) (closing_bytes s)

pub quotes_length : (s : List ℕ) → length (raws (quotes s)) ≡ length (graved_all true s) + 2
quotes_length s = ap length (quotes_bytes s) ∙ omega (arith, length-append (graved_all true s) (34 ∷ []))

-- ---- plain or quoted

pub plain_none : (s : List ℕ) → length s ≡ 0 → is_plain s ≡ false
unfolding is_plain
plain_none [] h = refl
plain_none (b ∷ s) h = absurd (omega arith)

pub plain_all : (s : List ℕ) → (length s ≡ 0 → ⊥) → all_of is_word s ≡ is_plain s
unfolding is_plain
plain_all [] h = absurd (h refl)
plain_all (b ∷ s) h = refl

pub text_plain : (s : List ℕ) → is_plain s ≡ true → raws (write_text s) ≡ s
unfolding write_text
text_plain s e = rw e (raws_bares s)

pub text_quoted : (s : List ℕ) → is_plain s ≡ false → raws (write_text s) ≡ raws (quotes s)
unfolding write_text
text_quoted s e = rw e

-- ---- a term text by text

pub text_in_none : (s : List ℕ) → length s ≡ 0 → text_written s ≡ []
unfolding text_written
text_in_none [] h = refl
text_in_none (b ∷ s) h = absurd (omega arith)

pub text_in_some : (s : List ℕ) → (length s ≡ 0 → ⊥) → text_written s ≡ raws (write_text (meant s))
unfolding text_written
text_in_some [] h = absurd (h refl)
text_in_some (b ∷ s) h = refl

pub text_ends : (m : Mode) (l : List ℕ) (i : ℕ) → i < length l → is_parting m (get_or l i 0) ≡ true → text_len m (drop i l) ≡ 0
unfolding text_len
text_ends m l i h e = rw (drop_step l i h, e)

pub text_on_lem : (m m' : Mode) (l : List ℕ) (i : ℕ) → i < length l → m' ≡ after m (get_or l i 0) → is_parting m (get_or l i 0) ≡ false
    → text_len m (drop i l) ≡ suc (text_len m' (drop (i + 1) l))
unfolding text_len
text_on_lem m m' l i h s e = rw (s, drop_step l i h, e)

pub text_past : (m : Mode) (l : List ℕ) (i : ℕ) → length l ≤ i → text_len m (drop i l) ≡ 0
unfolding text_len
text_past m l i h = rw (drop_of_length-le l h)

pub text_within : (m : Mode) (s : List ℕ) → text_len m s ≤ length s
unfolding text_len
text_within = scan_within is_parting after text_len (λ m. refl) (λ m b s. refl)

-- what stands from a text's end on: nothing, or what parts it from the next
abbrev after_text : List ℕ → List Sign
after_text [] = []
after_text (c ∷ r) = bare c ∷ rewritten (signs Out r)

end_solid : (m : Mode) → any_of parting (at_end m) ≡ false
unfolding any_of parting
end_solid = end_case (λ m z. any_of parting z ≡ false) refl refl refl refl

-- GRAVE escapes each byte that parts
grave_solid : (b : ℕ) → one_of twelve b ≡ false → parting (bare b) ≡ false
unfolding parting
grave_solid b e = simp (no_open b e, no_close b e, no_comma b e, no_equal b e)

grave_bare : parting (bare 96) ≡ false
unfolding parting
grave_bare = refl

bare_parting : (b : ℕ) → parting (bare b) ≡ is_parting Out b
unfolding parting one_of bytes
bare_parting b = ap (λ (x : Bool). eqb b 40 || (eqb b 41 || (eqb b 44 || x))) (sym (or-false (eqb b 61)))

byte_solid : (m : Mode) (b : ℕ) → is_parting m b ≡ false → any_of parting (gives m b) ≡ false
unfolding any_of
byte_solid m b =
    gives_case (λ k g n. is_parting k b ≡ false → any_of parting g ≡ false) b (λ _ e. refl) (λ _ _ e. unfold parting in refl) (λ _ _ e. simp (bare_parting b, e)) (λ _ e. unfold parting in refl)
    (λ p e. simp (grave_solid b p, grave_bare)) (λ _ e. refl) (λ _ _ e. unfold parting in refl) (λ _ _ e. unfold parting in refl) (λ _ e. unfold parting in refl)
    (λ _ e. unfold parting in refl) m

parting_text : (m : Mode) (b : ℕ) (s : List ℕ) → is_parting m b ≡ true
    → (m ≡ Out) × (signs m (b ∷ s) ≡ bare b ∷ signs Out s)
unfolding signs gives after one_of bytes
parting_text Out b s e = (refl, simp (ne_eqb b 96 (apart 96 refl), ne_eqb b 34 (apart 34 refl)))
  where
    apart : (k : ℕ) → is_parting Out k ≡ false → b ≡ k → ⊥
    apart k h z = no_case (sym e ∙ ap (is_parting Out) z ∙ h)
parting_text OutGrave b s e = no_case (sym e)
parting_text In b s e = no_case (sym e)
parting_text InGrave b s e = no_case (sym e)

text_by_lem : (m : Mode) (held : List Sign) (s : List ℕ)
    → rewrite_from held (signs m s) ≡ text_signs (held ++ signs m (take (text_len m s) s)) ++ after_text (drop (text_len m s) s)
unfolding signs text_len rewrite_from rewritten
text_by_lem m held [] =
    ap (λ (z : List Sign). rewrite_from held z) (sym (append-nil (at_end m)))
    ∙ rewrite_over held (at_end m) [] (end_solid m)
    ∙ sym (append-nil (text_signs (held ++ at_end m)))
text_by_lem m held (b ∷ s) = go (is_parting m b) refl (text_by_lem (after m b) (held ++ gives m b) s)
  where
    ends_here : is_parting m b ≡ true → rewrite_from held (signs m (b ∷ s)) ≡ text_signs (held ++ at_end m) ++ (bare b ∷ rewritten (signs Out s))
    ends_here e =
        let k = parting_text m b s e in
        let p : parting (bare b) ≡ true = bare_parting b ∙ ap (λ (z : Mode). is_parting z b) (sym k.0) ∙ e in
        ap (rewrite_from held) k.1
        ∙ (rw p (ap (λ (z : List Sign). text_signs z ++ (bare b ∷ rewritten (signs Out s))) (sym (append-nil held))))
        ∙ ap (λ (z : Mode). text_signs (held ++ at_end z) ++ (bare b ∷ rewritten (signs Out s))) (sym k.0)

    go : (x : Bool) → is_parting m b ≡ x
        → rewrite_from (held ++ gives m b) (signs (after m b) s)
        ≡ text_signs ((held ++ gives m b) ++ signs (after m b) (take (text_len (after m b) s) s)) ++ after_text (drop (text_len (after m b) s) s)
        → rewrite_from held (signs m (b ∷ s)) ≡ text_signs (held ++ signs m (take (text_len m (b ∷ s)) (b ∷ s))) ++ after_text (drop (text_len m (b ∷ s)) (b ∷ s))
    go true e ih = rw e (ends_here e)
    go false e ih =
        rw e
        (rewrite_over held (gives m b) (signs (after m b) s) (byte_solid m b e) ∙ ih
        ∙ ap (λ (z : List Sign). text_signs z ++ after_text (drop (text_len (after m b) s) s)) (append_assoc held (gives m b) (signs (after m b) (take (text_len (after m b) s) s))))

text_signs_in : (s : List ℕ) → raws (text_signs (signs Out s)) ≡ text_written s
unfolding text_written signs text_signs raws meant
text_signs_in [] = refl
text_signs_in (b ∷ s) = go (signs Out (b ∷ s)) refl
  where
    go : (t : List Sign) → signs Out (b ∷ s) ≡ t → raws (text_signs (signs Out (b ∷ s))) ≡ raws (write_text (meant (b ∷ s)))
    go [] e = let k : [] ≡ b ∷ s = ap raws (sym e) ∙ raws_signs (b ∷ s) in absurd (let z : ◌≡◌ {A = ℕ} 0 1 = cc in omega arith)
    go (x ∷ t) e = ap (λ (z : List Sign). raws (text_signs z)) e ∙ sym (ap (λ (z : List Sign). raws (write_text (stands z))) e)

texts_by : (s : List ℕ) → texts_in s ≡ text_written (take (text_len Out s) s) ++ raws (after_text (drop (text_len Out s) s))
unfolding texts_in rewritten
texts_by s =
    ap raws (text_by_lem Out [] s)
    ∙ raws_append (text_signs (signs Out (take (text_len Out s) s))) (after_text (drop (text_len Out s) s))
    ∙ ap (λ (z : List ℕ). z ++ raws (after_text (drop (text_len Out s) s))) (text_signs_in (take (text_len Out s) s))

after_bytes : (c : ℕ) (r : List ℕ) → raws (after_text (c ∷ r)) ≡ c ∷ texts_in r
unfolding raws texts_in
after_bytes c r = refl

-- a text, and what stands from its end on: nothing, or a byte that parts it from the rest
module _ (s t r : List ℕ) (n : ℕ) (is : n ≡ text_len Out s) (text : t ≡ take n s) (from : r ≡ drop n s) where
  parts : texts_in s ≡ text_written t ++ raws (after_text r)
  parts = rw (text, from, is) (texts_by s)

  pub texts_last : length r ≡ 0 → texts_in s ≡ text_written t
  unfolding raws
  texts_last e = parts ∙ ap (λ (z : List ℕ). text_written t ++ z) (ends r e) ∙ append-nil (text_written t)
    where
      ends : (z : List ℕ) → length z ≡ 0 → raws (after_text z) ≡ []
      ends [] h = refl
      ends (c ∷ z) h = absurd (omega arith)

  pub texts_more : (c : ℕ) (z : List ℕ) → r ≡ c ∷ z → texts_in s ≡ text_written t ++ (c ∷ texts_in z)
  texts_more c z e = parts ∙ ap (λ (x : List ℕ). text_written t ++ raws (after_text x)) e ∙ ap (λ (x : List ℕ). text_written t ++ x) (after_bytes c z)

-- ---- a source or destination, a target, names

pub dash_starts : (s : List ℕ) → pointwise eqb (bytes "`-") (take 2 s) ≡ leads_dash s
unfolding leads_dash same_bytes bytes
dash_starts [] = refl
dash_starts (b ∷ []) = and-false (eqb 96 b) ∙ sym (and-false (eqb b 96))
dash_starts (b ∷ c ∷ s) = grind (arith, nat_tests)

pub slashed_on : (l : List ℕ) (i : ℕ) → i < length l → slashed (drop i l) ≡ slash (get_or l i 0) ∷ slashed (drop (i + 1) l)
unfolding slashed
slashed_on l i h = rw (drop_step l i h)

pub slashed_past : (l : List ℕ) (i : ℕ) → length l ≤ i → slashed (drop i l) ≡ []
unfolding slashed
slashed_past l i h = rw (drop_of_length-le l h)

-- ---- how long a writing is at most

graved_all_short : (q : Bool) (s : List ℕ) → length (graved_all q s) ≤ 2 * length s
unfolding graved_all
graved_all_short q [] = omega arith
graved_all_short q (b ∷ s) = omega (arith, graved_short q b, graved_all_short q s, length-append (graved q b) (graved_all q s))

value_short : (s : List ℕ) → length (raws (write_text s)) ≤ 2 * length s + 2
value_short s =
    either (is_plain s) (λ e. omega (arith, ap length (text_plain s e)))
    (λ e. omega (arith, ap length (text_quoted s e), quotes_length s, graved_all_short true s))

text_short : (s : List ℕ) → length (text_written s) ≤ 4 * length s
text_short [] = omega (arith, ap length (text_in_none [] refl))
text_short (b ∷ s) =
    omega (
      arith,
      ap length (text_in_some (b ∷ s) (λ e. let z : suc (length s) ≡ 0 = e in omega arith)),
      value_short (meant (b ∷ s)),
      meant_length (b ∷ s),
    )

texts_short : (most : ℕ) (s : List ℕ) → length s ≤ most → length (texts_in s) ≤ 4 * length s
texts_short most s h = go most s h (drop (text_len Out s) s) refl
  where
    go : (most : ℕ) (s : List ℕ) → length s ≤ most → (r : List ℕ) → r ≡ drop (text_len Out s) s → length (texts_in s) ≤ 4 * length s
    go most s h [] e =
        let t = take (text_len Out s) s in
        omega (arith, ap length (texts_last s t [] (text_len Out s) refl refl e refl), text_short t, length-take (text_len Out s) s)
    go zero s h (c ∷ r) e = omega (arith, ap length e, length-drop (text_len Out s) s)
    go (suc most) s h (c ∷ r) e =
        let t = take (text_len Out s) s in
        let n = ap length e in
        let l = length-drop (text_len Out s) s in
        omega (
          arith,
          ap length (texts_more s t (c ∷ r) (text_len Out s) refl refl e c r refl),
          length-append (text_written t) (c ∷ texts_in r),
          text_short t,
          length-take (text_len Out s) s,
          go most r (omega arith) (drop (text_len Out r) r) refl,
        )

dash_short : (x : Bool) → length (dash_grave x) ≤ 1
dash_short true = omega arith
dash_short false = omega arith

place_short : (s : List ℕ) → length (place_in s) ≤ 2 * length s + 1
unfolding place_in
place_short s =
    omega (arith, dash_short (leads_dash s), graved_all_short false (meant s), meant_length s, length-append (dash_grave (leads_dash s)) (graved_all false (meant s)))

level_short : (s : List ℕ) → length (level_in s) ≤ length s
unfolding level_in
level_short s = go (names all_name s) refl
  where
    go : (x : Bool) → names all_name s ≡ x → length (cond x all_name s) ≤ length s
    go true e = let l = all_length s e in unfold all_name bytes in omega arith
    go false e = omega arith

argument_short : (k : Kind) (s : List ℕ) → length (argument_in k s) ≤ 4 * length s + 1
argument_short Mere s = omega arith
argument_short Keep s = omega arith
argument_short Level s = omega (arith, level_short s)
argument_short Place s = omega (arith, place_short s)
argument_short Entries s = omega (arith, texts_short (length s) s (omega arith))

pub written_short : (x : Shown) (s : List ℕ) → length (written x s) ≤ 4 * length s + 12
unfolding slashed
written_short (shown.Verb n) s = omega (arith, verb_short n)
written_short (shown.Option n) s = omega (arith, option_short n)
written_short (shown.Argument n) s = omega (arith, argument_short (kind_of n) s)
written_short shown.Target s = omega (arith, length-map s slash)
written_short (shown.Property m o) s = omega (arith, texts_short (length s) s (omega arith))
