-- From segment to segment: what each piece of a path leads to. Assumes nothing.
use mathlib.Core.Path.{◌≡◌, refl, ap, sym, ◌∙◌, subst}
use Prim.Native.Nat.{ℕ, ◌+◌, ◌-◌, ◌<◌, ◌≤◌}
use native.Mathlib.Omega.{arith}
use mathlib.Core.List.{List, [], ◌∷◌}
use mathlib.Core.Bool.{Bool, true, false, cond}
use mathlib.Core.Option.{Option, none, some}
use borrow.Author.Tests.{le-leb, lt-leb, leb-true, leb-false, eq-eqb, ne_eqb}
use lib.Dec.{leb}
use lib.ListN.{length, take, drop}
use lib.Seq.{take-take, length-take-le}
use Rattle.text.specs.Bytes.{is_letter}
use Rattle.text.specs.Lists.{parts, run_len}
use Rattle.text.proofs.Scans.{run_within}
use Rattle.text.proofs.Slices.{part_between}
use Rattle.forms.specs.declared.Piece.{Piece}
use Rattle.forms.specs.declared.Piece.TheVariants as piece
use Rattle.forms.specs.Targets.{Segment, here, above, child, children, segment_of, is_separator, tag_len}
use Rattle.forms.specs.Answers.{piece_of, segment_text, segment_at}
use Rattle.forms.proofs.SegmentLaws.{segment_text_lem, segment_within, parts_last, parts_more}
use Rattle.tree.specs.Tree.{parent}
use Rattle.tree.specs.Resolve.{named_under, Instances, nodes, unresolved, or_none, starred, segment_step, along}
use Rattle.tree.specs.Steps.{segments_from, along_from}
use Rattle.forms.proofs.FormCases.{segment_from}
use Rattle.std.proofs.Common.{Some, None}
use Rattle.std.proofs.Common as std

-- ---- a segment, and those after it

segments_at : (text : List ℕ) (at n : ℕ) → n ≡ length (segment_text text at) → at ≤ length text → (b : Bool) → leb (at + n + 1) (length text) ≡ b
    → parts is_separator (drop at text) ≡ segment_text text at ∷ cond b (parts is_separator (drop (at + n + 1) text)) []
segments_at text at n z h true e =
    parts_more text at n z (omega (arith, leb-true (at + n + 1) (length text) e))
    ∙ ap (λ (s : List ℕ). s ∷ parts is_separator (drop (at + n + 1) text)) (segment_text_lem text at n z)
segments_at text at n z h false e =
    parts_last text at n z (omega (arith, leb-false (at + n + 1) (length text) e, segment_within text at n z h)) ∙ ap (λ (s : List ℕ). s ∷ []) (segment_text_lem text at n z)

segments_step : (text : List ℕ) (at : ℕ) → at ≤ length text
    → segments_from text at ≡ segment_text text at ∷ segments_from text (at + length (segment_text text at) + 1)
unfolding segments_from
segments_step text at h =
    rw (le-leb at (length text) h) (segments_at text at (length (segment_text text at)) refl h (leb (at + length (segment_text text at) + 1) (length text)) refl)

module _ (text t : List ℕ) (n at : ℕ) where
  pub follow_past : length text < at → nodes (n ∷ []) ≡ along_from text t n at
  unfolding along_from segments_from along
  follow_past h = sym (rw (lt-leb at (length text) h))

  along_step : at ≤ length text → along_from text t n at ≡ segment_step t n at (segment_of (segment_text text at)) (λ m. along_from text t m (at + length (segment_text text at) + 1))
  unfolding along_from along
  along_step h = ap (along t n at) (segments_step text at h)

-- ---- what a piece says of its segment

Says : ℕ → Option Segment → std.Option Piece → Type 0
Says l o (Some (piece.Here len)) = (o ≡ some here) × (len ≡ l)
Says l o (Some (piece.Above len)) = (o ≡ some above) × (len ≡ l)
Says l o (Some (piece.Child len tag i)) = (a : List ℕ) × (o ≡ some (child a i)) × (len ≡ l) × (tag ≡ length a)
Says l o (Some (piece.Children len tag)) = (a : List ℕ) × (o ≡ some (children a)) × (len ≡ l) × (tag ≡ length a)
Says l o None = o ≡ none

piece_says : (l : ℕ) (o : Option Segment) → Says l o (piece_of l o)
unfolding Says
piece_says l none = refl
piece_says l (some here) = (refl, refl)
piece_says l (some above) = (refl, refl)
piece_says l (some (child a i)) = (a, refl, refl, refl)
piece_says l (some (children a)) = (a, refl, refl, refl)

-- the tag of a segment is its letters
Tagged : Segment → List ℕ → Type 0
Tagged here t = t ≡ t
Tagged above t = t ≡ t
Tagged (child a i) t = a ≡ t
Tagged (children a) t = a ≡ t

tag_of : (s : List ℕ) (g : Segment) → segment_of s ≡ some g → Tagged g (take (tag_len s) s)
unfolding Tagged
tag_of s = segment_from (λ g. Tagged g (take (tag_len s) s)) s (λ _. refl) (λ _. refl) (λ _. refl) (λ _. refl)

-- it stands in the text at the segment's place
tag_in_lem : (text a : List ℕ) (at tag : ℕ) → a ≡ take (tag_len (segment_text text at)) (segment_text text at) → tag ≡ length a
    → (take tag (drop at text) ≡ a) × (tag ≤ length (segment_text text at))
unfolding tag_len
tag_in_lem text a at tag e l =
    let s = segment_text text at in
    let w = run_within is_letter s in
    let m : tag ≡ run_len is_letter s = l ∙ ap length e ∙ length-take-le (run_len is_letter s) s w in (
      sym
          (e ∙ ap (λ (i : ℕ). take i s) (sym m) ∙ ap (take tag) (sym (segment_text_lem text at (length s) refl)) ∙ take-take tag (length s) (drop at text) (omega arith)),
      omega arith,
    )

-- ---- each piece

module _ (text : List ℕ) (at : ℕ) (p : std.Option Piece) (h : at ≤ length text) (r : p ≡ segment_at text at) where
  said : Says (length (segment_text text at)) (segment_of (segment_text text at)) p
  unfolding segment_at
  said = subst (Says (length (segment_text text at)) (segment_of (segment_text text at))) (sym r) (piece_says (length (segment_text text at)) (segment_of (segment_text text at)))

  said_as : (q : std.Option Piece) → p ≡ q → Says (length (segment_text text at)) (segment_of (segment_text text at)) q
  said_as q e = subst (Says (length (segment_text text at)) (segment_of (segment_text text at))) e said

  is_here_at : (len : ℕ) → p ≡ Some (piece.Here len) → (segment_of (segment_text text at) ≡ some here) × (len ≡ length (segment_text text at))
  unfolding Says
  is_here_at len q = said_as (Some (piece.Here len)) q

  is_above_at : (len : ℕ) → p ≡ Some (piece.Above len) → (segment_of (segment_text text at) ≡ some above) × (len ≡ length (segment_text text at))
  unfolding Says
  is_above_at len q = said_as (Some (piece.Above len)) q

  -- a child's tag stands at the segment's place
  is_child_at : (len tag i : ℕ) → p ≡ Some (piece.Child len tag i)
      → (segment_of (segment_text text at) ≡ some (child (take tag (drop at text)) i)) × (len ≡ length (segment_text text at)) × (tag ≤ len)
  unfolding Says Tagged
  is_child_at len tag i q =
      let c = said_as (Some (piece.Child len tag i)) q in
      let g = tag_in_lem text c.0 at tag (tag_of (segment_text text at) (child c.0 i) c.1) c.3 in
      let l = g.1 in
      let e = c.2 in
      (c.1 ∙ ap (λ (a : List ℕ). some (child a i)) (sym g.0), e, omega arith)

  is_star_at : (len tag : ℕ) → p ≡ Some (piece.Children len tag)
      → (segment_of (segment_text text at) ≡ some (children (take tag (drop at text)))) × (len ≡ length (segment_text text at)) × (tag ≤ len)
  unfolding Says Tagged
  is_star_at len tag q =
      let c = said_as (Some (piece.Children len tag)) q in
      let g = tag_in_lem text c.0 at tag (tag_of (segment_text text at) (children c.0) c.1) c.3 in
      let l = g.1 in
      let e = c.2 in
      (c.1 ∙ ap (λ (a : List ℕ). some (children a)) (sym g.0), e, omega arith)

  pub here_within : (len : ℕ) → p ≡ Some (piece.Here len) → at + len ≤ length text
  here_within len q = segment_within text at len (is_here_at len q).1 h

  pub above_within : (len : ℕ) → p ≡ Some (piece.Above len) → at + len ≤ length text
  above_within len q = segment_within text at len (is_above_at len q).1 h

  pub child_within : (len tag i : ℕ) → p ≡ Some (piece.Child len tag i) → at + len ≤ length text
  child_within len tag i q = segment_within text at len (is_child_at len tag i q).1 h

  pub tag_within : (len tag i : ℕ) → p ≡ Some (piece.Child len tag i) → at + tag ≤ length text
  tag_within len tag i q =
      let w = child_within len tag i q in
      let l = (is_child_at len tag i q).2 in
      omega arith

  pub star_within : (len tag : ℕ) → p ≡ Some (piece.Children len tag) → at + tag ≤ length text
  star_within len tag q =
      let w = segment_within text at len (is_star_at len tag q).1 h in
      let l = (is_star_at len tag q).2 in
      omega arith

  module _ (t : List ℕ) (n : ℕ) where
    by : (o : Option Segment) (len : ℕ) → segment_of (segment_text text at) ≡ o → len ≡ length (segment_text text at)
        → along_from text t n at ≡ segment_step t n at o (λ m. along_from text t m (at + len + 1))
    by o len e l =
        along_step text t n at h ∙ ap (λ (q : Option Segment). segment_step t n at q (λ m. along_from text t m (at + length (segment_text text at) + 1))) e
        ∙ ap (λ (i : ℕ). segment_step t n at o (λ m. along_from text t m (at + i + 1))) (sym l)

    pub follow_here : (len : ℕ) (f : Instances) → p ≡ Some (piece.Here len) → f ≡ along_from text t n (at + len + 1) → f ≡ along_from text t n at
    follow_here len f q v = let w = is_here_at len q in v ∙ sym (by (some here) len w.0 w.1)

    pub follow_root : (len : ℕ) → p ≡ Some (piece.Above len) → n ≡ 0 → unresolved 17 at ≡ along_from text t n at
    follow_root len q z = let w = is_above_at len q in sym (by (some above) len w.0 w.1 ∙ simp (eq-eqb n 0 z))

    pub follow_above : (len m : ℕ) (f : Instances) → p ≡ Some (piece.Above len) → (n ≡ 0 → ⊥) → m ≡ parent t n → f ≡ along_from text t m (at + len + 1) → f ≡ along_from text t n at
    follow_above len m f q z e v =
        let w = is_above_at len q in
        v ∙ ap (λ (k : ℕ). along_from text t k (at + len + 1)) e ∙ sym (by (some above) len w.0 w.1 ∙ simp (ne_eqb n 0 z))

    module _ (len tag i : ℕ) (q : p ≡ Some (piece.Child len tag i)) where
      step : along_from text t n at ≡ or_none at (named_under t n (take (at + tag - at) (drop at text)) i) (λ m ms. along_from text t m (at + len + 1))
      step =
          let w = is_child_at len tag i q in
          by (some (child (take tag (drop at text)) i)) len w.0 w.1
          ∙ ap (λ (a : List ℕ). or_none at (named_under t n a i) (λ m ms. along_from text t m (at + len + 1))) (sym (part_between text at tag))

      pub follow_none : named_under t n (take (at + tag - at) (drop at text)) i ≡ [] → unresolved 18 at ≡ along_from text t n at
      follow_none e = sym (step ∙ ap (λ (l : List ℕ). or_none at l (λ m ms. along_from text t m (at + len + 1))) e)

      pub follow_child : (m : ℕ) (f : Instances) → (more : List ℕ) × (named_under t n (take (at + tag - at) (drop at text)) i ≡ m ∷ more)
          → f ≡ along_from text t m (at + len + 1) → f ≡ along_from text t n at
      follow_child m f e v = v ∙ sym (step ∙ ap (λ (l : List ℕ). or_none at l (λ k ks. along_from text t k (at + len + 1))) e.1)

    pub follow_star : (len tag : ℕ) → p ≡ Some (piece.Children len tag) → starred t n at (take tag (drop at text)) ≡ along_from text t n at
    follow_star len tag q = let w = is_star_at len tag q in sym (by (some (children (take tag (drop at text)))) len w.0 w.1)

    pub follow_no : p ≡ None → unresolved 12 0 ≡ along_from text t n at
    unfolding Says
    follow_no q = sym (by none (length (segment_text text at)) (said_as None q) refl)
