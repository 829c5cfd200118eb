-- Written targets, numbers and places. Assumes nothing.
use Prim.Native.Nat.{ℕ}
use mathlib.Core.Path.{◌≡◌, refl, sym, ap, ◌∙◌}
use mathlib.Core.List.{List, [], ◌∷◌, ◌++◌}
use mathlib.Core.Bool.{Bool, true, false, not, ◌&&◌, ◌||◌}
use mathlib.Core.Option.{none, some}
use native.Mathlib.Omega.{arith}
use lib.ListN.{length}
use lib.Dec.{eqb, leb}
use borrow.Author.Tests.{eqb-true, ne_eqb, not-true}
use Rattle.canonical.specs.Canonical.{lead, write_target}
use Rattle.forms.specs.Targets.{Target, are_segments, is_numbered, is_segment, is_separator, is_starred, path, path_of, segments_of, session, tag_len, target_of}
use Rattle.text.specs.Bytes.{bytes, is_digit, is_letter, same_bytes}
use Rattle.text.specs.Decimal.{is_decimal}
use Rattle.text.specs.Lists.{all_of, any_of, between, each, is_nil, parts, run_len}
use Rattle.canonical.proofs.Lexing.{ok_bare}
use Rattle.canonical.proofs.Values.{WordByte, letter_byte, digit_byte, byte_ok}
use Rattle.text.proofs.Tests.{and_l, and_r, and_in, no_case, or_case, or_in_l}
use Rattle.text.proofs.SameTexts.{same_eq}
use Rattle.text.proofs.AllAny.{all_mono, all_none}
use Rattle.text.proofs.Parts.{parts_between, all_between}
use Rattle.words.specs.Words.{session_name}
use Rattle.forms.proofs.SegmentBytes.{is_segment_byte, segment_bytes, starred_bytes, nil_segment, nil_starred}
use Rattle.forms.proofs.FormCases.{target_from}

-- ---- bytes of segments: bare, no `=`, no `-`; and no separator

abbrev pub ok_written : ℕ → Bool
ok_written b = ok_bare b && (not (eqb b 61) && not (eqb b 45))

abbrev pub ok_segment : ℕ → Bool
ok_segment b = ok_written b && not (is_separator b)

pub byte_segment : (b : ℕ) → WordByte b → ok_segment b ≡ true
byte_segment b w =
    let l = w.low in
    simp (byte_ok b w, ne_eqb b 61 w.no_eq, ne_eqb b 45 (λ z. omega arith), ne_eqb b 47 (λ z. omega arith), ne_eqb b 92 w.no_back)

pub digit_segment : (b : ℕ) → is_digit b ≡ true → ok_segment b ≡ true
digit_segment b e = byte_segment b (digit_byte b e)

segment_ok : (b : ℕ) → is_segment_byte b ≡ true → ok_segment b ≡ true
segment_ok b e =
    or_case (is_letter b) (is_digit b || (eqb b 46 || eqb b 42)) e (λ p. byte_segment b (letter_byte b p))
    (λ q. or_case (is_digit b) (eqb b 46 || eqb b 42) q (digit_segment b)
    (λ r. or_case (eqb b 46) (eqb b 42) r (λ p. ap ok_segment (eqb-true b 46 p)) (λ p. ap ok_segment (eqb-true b 42 p))))

segment_some : (s : List ℕ) → (is_segment s || is_starred s) ≡ true → is_nil s ≡ false
segment_some [] e = no_case (sym (sym (simp (nil_segment, nil_starred)) ∙ e))
segment_some (b ∷ s) e = refl

-- what is known of each segment
abbrev ok_part : List ℕ → Bool
ok_part s = not (is_nil s) && all_of ok_segment s

part_ok : (s : List ℕ) → (is_segment s || is_starred s) ≡ true → ok_part s ≡ true
part_ok s e =
    simp (segment_some s e) (all_mono is_segment_byte ok_segment segment_ok s (or_case (is_segment s) (is_starred s) e (segment_bytes s) (starred_bytes s)))

segments_ok : (ss : List (List ℕ)) → are_segments ss ≡ true → all_of ok_part ss ≡ true
unfolding are_segments all_of
segments_ok [] e = refl
segments_ok (s ∷ []) e = simp (part_ok s e)
segments_ok (s ∷ r ∷ rs) e =
    and_in (ok_part s) (all_of ok_part (r ∷ rs)) (part_ok s (or_in_l (is_segment s) (is_starred s) (and_l (is_segment s) (are_segments (r ∷ rs)) e)))
    (segments_ok (r ∷ rs) (and_r (is_segment s) (are_segments (r ∷ rs)) e))

parts_solid : (ss : List (List ℕ)) → all_of ok_part ss ≡ true → all_of (λ w. not (any_of is_separator w)) ss ≡ true
parts_solid = all_mono ok_part (λ w. not (any_of is_separator w))
    (λ s e. simp (all_none ok_segment is_separator (λ b h. not-true (is_separator b) (and_r (ok_written b) (not (is_separator b)) h)) s (and_r (not (is_nil s)) (all_of ok_segment s) e)))

segments_again : (r : Bool) (s : List ℕ) (ss : List (List ℕ)) → are_segments (s ∷ ss) ≡ true → leb (length (s ∷ ss)) 16 ≡ true
    → segments_of r (between 47 (s ∷ ss)) ≡ some (path r (s ∷ ss))
unfolding segments_of
segments_again r s ss e h =
    let p : parts is_separator (between 47 (s ∷ ss)) ≡ s ∷ ss = parts_between is_separator 47 s ss refl (parts_solid (s ∷ ss) (segments_ok (s ∷ ss) e)) in
    simp (p, e, h)

-- the target as it was read
pub record PathOk (r : Bool) (ss : List (List ℕ)) : Type 0 where
  pub again : path_of (lead r ++ between 47 ss) ≡ some (path r ss)
  pub bytes_ok : all_of ok_written (lead r ++ between 47 ss) ≡ true
  pub is_some : is_nil (lead r ++ between 47 ss) ≡ false

between_written : (ss : List (List ℕ)) → all_of ok_part ss ≡ true → all_of ok_written (between 47 ss) ≡ true
between_written ss e =
    all_between ok_written 47 ss refl
    (all_mono ok_part (all_of ok_written)
    (λ s h. all_mono ok_segment ok_written (λ b k. and_l (ok_written b) (not (is_separator b)) k) s (and_r (not (is_nil s)) (all_of ok_segment s) h)) ss e)

path_made : (r : Bool) (ss : List (List ℕ)) → are_segments ss ≡ true → leb (length ss) 16 ≡ true → PathOk r ss
unfolding path_of between all_of each
path_made r [] e h = no_case (sym (unfold are_segments in e))
path_made r ([] ∷ ss) e h = no_case (sym (and_l false (all_of ok_part ss) (segments_ok ([] ∷ ss) e)))
path_made true ((b ∷ s) ∷ ss) e h =
    record {
      again = segments_again true (b ∷ s) ss e h;
      bytes_ok = between_written ((b ∷ s) ∷ ss) (segments_ok ((b ∷ s) ∷ ss) e);
      is_some = refl;
    }
path_made false ((b ∷ s) ∷ ss) e h =
    let o = and_l (ok_segment b) (all_of ok_segment s) (and_l (ok_part (b ∷ s)) (all_of ok_part ss) (segments_ok ((b ∷ s) ∷ ss) e)) in
    let n = not-true (is_separator b) (and_r (ok_written b) (not (is_separator b)) o) in
    record {
      again = rw n (segments_again false (b ∷ s) ss e h);
      bytes_ok = between_written ((b ∷ s) ∷ ss) (segments_ok ((b ∷ s) ∷ ss) e);
      is_some = refl;
    }

-- what is known of a target that was read
pub record TargetOk (g : Target) : Type 0 where
  pub again : target_of (write_target g) ≡ some g
  pub bytes_ok : all_of ok_written (write_target g) ≡ true
  pub is_some : is_nil (write_target g) ≡ false

session_path : path_of session_name ≡ none
unfolding path_of bytes session_name segments_of are_segments is_segment is_starred is_numbered is_decimal tag_len run_len same_bytes parts all_of
session_path = refl

path_target : (r : Bool) (ss : List (List ℕ)) → PathOk r ss → TargetOk (path r ss)
unfolding target_of
path_target r ss o = record { again = go (same_bytes (lead r ++ between 47 ss) session_name) refl; bytes_ok = o.bytes_ok; is_some = o.is_some }
  where
    go : (x : Bool) → same_bytes (lead r ++ between 47 ss) session_name ≡ x → target_of (lead r ++ between 47 ss) ≡ some (path r ss)
    go true p =
        let e = same_eq (lead r ++ between 47 ss) session_name p in
        let z : none ≡ some (path r ss) = sym session_path ∙ ap path_of (sym e) ∙ o.again in
        let y : ◌≡◌ {A = ℕ} 0 1 = cc in absurd (omega arith)
    go false p = rw p o.again

root_ok : PathOk true []
unfolding path_of between all_of
root_ok = record { again = refl; bytes_ok = refl; is_some = refl }

session_ok : TargetOk session
unfolding target_of same_bytes bytes session_name all_of
session_ok = record { again = refl; bytes_ok = refl; is_some = refl }

pub target_ok : (t : List ℕ) (g : Target) → target_of t ≡ some g → TargetOk g
target_ok =
    target_from (λ t g. TargetOk g) (λ t e. session_ok) (λ b e. path_target true [] root_ok)
    (λ b s e h l. path_target true (parts is_separator s) (path_made true (parts is_separator s) h l)) (λ s h l. path_target false (parts is_separator s) (path_made false (parts is_separator s) h l))
