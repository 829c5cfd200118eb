-- The answers of resolving, case by case, and what the list then holds. Assumes nothing.
use mathlib.Core.Path.{◌≡◌, refl, ap, sym, ◌∙◌, subst}
use Prim.Native.Nat.{ℕ, suc, ◌+◌, ◌-◌, ◌/◌, ◌<◌, ◌≤◌}
use mir.Val.{bool_byte}
use native.Mathlib.Numerals.{add-one}
use native.Mathlib.Omega.{arith}
use mathlib.Core.List.{List, [], ◌∷◌, ◌++◌}
use mathlib.Core.Bool.{Bool, true, false, cond, ◌&&◌}
use mathlib.Core.Option.{Option, none, some}
use borrow.Author.Tests.{le-leb, lt-leb, lt-ltb, le-ltb, ltb-false}
use lib.Dec.{leb, ltb}
use lib.ListN.{length, take, drop, set, length-append}
use lib.Seq.{sets}
use Rattle.text.specs.Bytes.{same_bytes}
use Rattle.text.specs.Lists.{parts, is_nil}
use Rattle.text.proofs.Tests.{no_case}
use Rattle.text.proofs.Parts.{parts_some}
use Rattle.text.proofs.Slices.{part_between}
use Rattle.text.proofs.Writes.{sets_append, filled_none, filled_sets}
use Rattle.words.specs.Words.{session_name}
use Rattle.forms.specs.declared.Where.{Where}
use Rattle.forms.specs.declared.Where.TheVariants as where'
use Rattle.forms.specs.Targets.{is_separator, are_segments, Target, session, path, segments_of, path_of, target_of}
use Rattle.forms.specs.Answers.{where_of, where_in}
use Rattle.reach.specs.declared.Form.TheVariants as form
use Rattle.reach.specs.Reach.{reach_of}
use Rattle.tree.specs.declared.Resolved.{Resolved}
use Rattle.tree.specs.declared.Resolved.TheVariants as resolved
use Rattle.tree.specs.declared.Spot.{Spot}
use Rattle.tree.specs.declared.Spot.TheVariants.{Node, Tagged}
use Rattle.tree.specs.Tree.{records, check_tree, record_at}
use Rattle.tree.specs.Resolve.{tagged_in, nodes_from, is_tagged, tagged_under, Instances, session', nodes, unresolved, or_none, starred, along, in_tree, from, or_form, instances_of, resolved_by, list_by, resolve_of, resolve_list}
use Rattle.tree.specs.Steps.{kept, verdict_by, verdict_of, segments_from, along_from, instances_at, Within}
use Rattle.tree.proofs.GoodLaws.{good_whole, good_few}
use Rattle.tree.proofs.StepLaws.{nodes_step, nodes_none, all_nodes, tagged_at}
use Rattle.std.proofs.Common.{Result, Ok, Err, Some, None}
use Rattle.std.proofs.Common as std
use Rattle.text.proofs.Refusals.{same_number, same_place}
use Rattle.text.specs.Room.{refusal_at}
use Rattle.text.specs.declared.Refusal.{Refusal}

-- ---- the children with a tag, one record at a time

kept_one : (b : Bool) (k : ℕ) → length (kept b k) ≡ cond b 1 0
kept_one true k = refl
kept_one false k = refl

pub kept_most : (b : Bool) (k a r : ℕ) → r ≡ a + length (kept b k) → r ≤ a + 1
kept_most true k a r e = omega arith
kept_most false k a r e = omega arith

module _ (b : Bool) (k at : ℕ) where
  pub kept_place : b ≡ true → at + 1 ≡ at + length (kept b k)
  kept_place e = rw e

  pub kept_put : (d y : List ℕ) → b ≡ true → y ≡ set d at k → y ≡ sets d at (kept b k)
  kept_put d y e v = rw e v

  pub left_place : b ≡ false → at ≡ at + length (kept b k)
  left_place e = rw e (omega arith)

  pub left_put : (d : List ℕ) → b ≡ false → d ≡ sets d at (kept b k)
  left_put d e = rw e

pub counted : (b : Bool) → bool_byte b ≡ cond b 1 0
counted true = refl
counted false = refl

pub count_few : (b : Bool) (f k c : ℕ) → f ≤ k → c ≡ cond b 1 0 → f + c ≤ k + 1
count_few true f k c h e = omega arith
count_few false f k c h e = omega arith

pub place_few : (t : List ℕ) (n : ℕ) → check_tree t ≡ Ok tt → n ≡ length t / 22 → n ≤ 512
place_few t n good e = omega (arith, good_whole t good, good_few t good)

pub place_again : (b : Bool) (j k at r : ℕ) → at ≤ k → r ≡ at + length (kept b j) → r ≤ k + 1
place_again b j k at r h e = omega (arith, kept_most b j at r e)

module _ (t : List ℕ) (n : ℕ) (good : check_tree t ≡ Ok tt) (e : n ≡ length t / 22) (m : ℕ) (a : List ℕ) where
  pub count_start : 0 + length (nodes_from (is_tagged t m a) 1 (n - 0)) ≡ length (tagged_under t m a)
  unfolding tagged_under
  count_start = omega (arith, ap length (all_nodes t n good e (is_tagged t m a)))

  pub put_start : (d : List ℕ) → sets d 0 (nodes_from (is_tagged t m a) 1 (n - 0)) ≡ sets d 0 (tagged_under t m a)
  unfolding tagged_under
  put_start d = ap (sets d 0) (all_nodes t n good e (is_tagged t m a))

  module _ (k : ℕ) (r : List ℕ) (x : Bool) (h : k < n) (q : r ≡ take 22 (record_at t (suc k))) (v : x ≡ tagged_in r m a) where
    step : nodes_from (is_tagged t m a) (suc k) (n - k) ≡ kept x (suc k) ++ nodes_from (is_tagged t m a) (suc (k + 1)) (n - (k + 1))
    step =
        nodes_step (is_tagged t m a) n k h
        ∙ ap (λ (b : Bool). kept b (suc k) ++ nodes_from (is_tagged t m a) (suc (k + 1)) (n - (k + 1))) (sym (v ∙ tagged_at t k n r good e h q m a))

    pub count_again : (f c : ℕ) → c ≡ cond x 1 0 → f + length (nodes_from (is_tagged t m a) (suc k) (n - k)) ≡ length (tagged_under t m a)
        → f + c + length (nodes_from (is_tagged t m a) (suc (k + 1)) (n - (k + 1))) ≡ length (tagged_under t m a)
    count_again f c z inv =
        omega (arith, ap length step, length-append (kept x (suc k)) (nodes_from (is_tagged t m a) (suc (k + 1)) (n - (k + 1))), kept_one x (suc k))

    pub put_again : (d y l : List ℕ) (at w : ℕ) → sets l at (nodes_from (is_tagged t m a) (suc k) (n - k)) ≡ sets d 0 (tagged_under t m a)
        → w ≡ at + length (kept x (k + 1)) → y ≡ sets l at (kept x (k + 1))
        → sets y w (nodes_from (is_tagged t m a) (suc (k + 1)) (n - (k + 1))) ≡ sets d 0 (tagged_under t m a)
    put_again d y l at w inv z u =
        let rest = nodes_from (is_tagged t m a) (suc (k + 1)) (n - (k + 1)) in
        ap (λ (i : ℕ). sets y i rest) z ∙ ap (λ (s : List ℕ). sets s (at + length (kept x (k + 1))) rest) u
        ∙ sets_append (kept x (k + 1)) rest l at
        ∙ ap (λ (i : ℕ). sets l at (kept x i ++ rest)) (add-one k)
        ∙ ap (sets l at) (sym step)
        ∙ inv

  pub count_end : (k f : ℕ) → n ≤ k → f + length (nodes_from (is_tagged t m a) (suc k) (n - k)) ≡ length (tagged_under t m a) → f ≡ length (tagged_under t m a)
  count_end k f h inv = omega (arith, ap length (nodes_none (is_tagged t m a) n k h))

  pub put_end : (d l : List ℕ) (k at : ℕ) → n ≤ k → sets l at (nodes_from (is_tagged t m a) (suc k) (n - k)) ≡ sets d 0 (tagged_under t m a) → l ≡ sets d 0 (tagged_under t m a)
  put_end d l k at h inv = ap (sets l at) (sym (nodes_none (is_tagged t m a) n k h)) ∙ inv

-- ---- some nodes into the list

one_small : (room : ℕ) (n : ℕ) → room < 1 → Err (refusal_at 19 0) ≡ resolved_by room (nodes (n ∷ []))
one_small room n h = sym (rw (lt-leb 1 room h))

module _ (n : ℕ) where
  pub one_refused : (room : ℕ) → room < 1 → Err (refusal_at 19 0) ≡ resolved_by room (nodes (n ∷ []))
  one_refused room h = one_small room n h

  pub one_unchanged : (room : List ℕ) → length room < 1 → room ≡ list_by room (nodes (n ∷ []))
  one_unchanged room h = sym (filled_none room (n ∷ []) h)

  pub one_given : (room : ℕ) → 1 ≤ room → Ok (resolved.Nodes 1) ≡ resolved_by room (nodes (n ∷ []))
  one_given room h = sym (rw (le-leb 1 room h))

  pub one_put : (room y : List ℕ) → 1 ≤ length room → y ≡ set room 0 n → y ≡ list_by room (nodes (n ∷ []))
  one_put room y h v = v ∙ filled_sets room (n ∷ []) h

star_none : (at : ℕ) (l : List ℕ) → length l ≡ 0 → or_none at l (λ m ms. nodes (m ∷ ms)) ≡ unresolved 18 at
star_none at [] e = refl
star_none at (m ∷ l) e = absurd (omega arith)

star_some : (at : ℕ) (l : List ℕ) → (length l ≡ 0 → ⊥) → or_none at l (λ m ms. nodes (m ∷ ms)) ≡ nodes l
star_some at [] e = absurd (e refl)
star_some at (m ∷ l) e = refl

module _ (t : List ℕ) (n at : ℕ) (a : List ℕ) (c : ℕ) (e : c ≡ length (tagged_under t n a)) where
  is_none : c ≡ 0 → starred t n at a ≡ unresolved 18 at
  is_none z = star_none at (tagged_under t n a) (sym e ∙ z)

  is_some : (c ≡ 0 → ⊥) → starred t n at a ≡ nodes (tagged_under t n a)
  is_some z = star_some at (tagged_under t n a) (λ w. z (e ∙ w))

  pub none_given : (room : ℕ) → c ≡ 0 → Err (refusal_at 18 at) ≡ resolved_by room (starred t n at a)
  none_given room z = sym (ap (resolved_by room) (is_none z))

  pub none_put : (room : List ℕ) → c ≡ 0 → room ≡ list_by room (starred t n at a)
  none_put room z = sym (ap (list_by room) (is_none z))

  module _ (z : c ≡ 0 → ⊥) where
    pub star_refused : (room : ℕ) → room < c → Err (refusal_at 19 0) ≡ resolved_by room (starred t n at a)
    star_refused room h = sym (ap (resolved_by room) (is_some z) ∙ rw (lt-leb (length (tagged_under t n a)) room (omega arith)))

    pub star_unchanged : (room : List ℕ) → length room < c → room ≡ list_by room (starred t n at a)
    star_unchanged room h = sym (ap (list_by room) (is_some z) ∙ filled_none room (tagged_under t n a) (omega arith))

    pub star_given : (room : ℕ) → c ≤ room → Ok (resolved.Nodes c) ≡ resolved_by room (starred t n at a)
    star_given room h = ap (λ (k : ℕ). Ok (resolved.Nodes k)) e ∙ sym (ap (resolved_by room) (is_some z) ∙ rw (le-leb (length (tagged_under t n a)) room (omega arith)))

    pub star_put : (room y : List ℕ) → c ≤ length room → y ≡ sets room 0 (tagged_under t n a) → y ≡ list_by room (starred t n at a)
    star_put room y h v = v ∙ filled_sets room (tagged_under t n a) (omega arith) ∙ sym (ap (list_by room) (is_some z))

-- ---- where a path leads

module _ (text t : List ℕ) (f : Instances) (r : Result Spot Refusal) (e : instances_at text t r ≡ f) where
  pub node_given : (n room : ℕ) (x : Result Resolved Refusal) → r ≡ Ok (Node n) → x ≡ resolved_by room (nodes (n ∷ [])) → x ≡ resolved_by room f
  node_given n room x q v = v ∙ ap (resolved_by room) (ap (instances_at text t) (sym q) ∙ e)

  pub node_put : (n : ℕ) (room y : List ℕ) → r ≡ Ok (Node n) → y ≡ list_by room (nodes (n ∷ [])) → y ≡ list_by room f
  node_put n room y q v = v ∙ ap (list_by room) (ap (instances_at text t) (sym q) ∙ e)

  tagged_is : (n p g : ℕ) → r ≡ Ok (Tagged n p g) → starred t n p (take (p + g - p) (drop p text)) ≡ f
  tagged_is n p g q = ap (starred t n p) (part_between text p g) ∙ ap (instances_at text t) (sym q) ∙ e

  pub tagged_given : (n p g room : ℕ) (x : Result Resolved Refusal) → r ≡ Ok (Tagged n p g) → x ≡ resolved_by room (starred t n p (take (p + g - p) (drop p text))) → x ≡ resolved_by room f
  tagged_given n p g room x q v = v ∙ ap (resolved_by room) (tagged_is n p g q)

  pub tagged_put : (n p g : ℕ) (room y : List ℕ) → r ≡ Ok (Tagged n p g) → y ≡ list_by room (starred t n p (take (p + g - p) (drop p text))) → y ≡ list_by room f
  tagged_put n p g room y q v = v ∙ ap (list_by room) (tagged_is n p g q)

  pub lost_given : (number place room : ℕ) → r ≡ Err (refusal_at number place) → Err (refusal_at number place) ≡ resolved_by room f
  lost_given number place room q = ap (resolved_by room) (ap (instances_at text t) (sym q) ∙ e)

  pub lost_put : (number place : ℕ) (room : List ℕ) → r ≡ Err (refusal_at number place) → room ≡ list_by room f
  lost_put number place room q = ap (list_by room) (ap (instances_at text t) (sym q) ∙ e)

module _ (text t : List ℕ) (r : Result Spot Refusal) (w : Within text t r) where
  pub node_few : (n : ℕ) → check_tree t ≡ Ok tt → r ≡ Ok (Node n) → n ≤ 512
  node_few n good q = let l : n ≤ records t = subst (Within text t) q w in omega (arith, good_few t good)

  pub tag_inside : (n p g : ℕ) → r ≡ Ok (Tagged n p g) → p + g ≤ length text
  tag_inside n p g q = subst (Within text t) q w

-- ---- 15 and 16

module _ (t : List ℕ) (d : ℕ) where
  pub flawed_tree : (c : Result Unit ℕ) (p : ℕ) → c ≡ check_tree t → c ≡ Err p → Err (refusal_at 15 p) ≡ verdict_of t d
  unfolding verdict_of
  flawed_tree c p e b = sym (ap (λ (x : Result Unit ℕ). verdict_by x t d) (sym e ∙ b))

  pub flawed_node : (c : Result Unit ℕ) → c ≡ check_tree t → c ≡ Ok tt → length t / 22 < d → Err (refusal_at 16 0) ≡ verdict_of t d
  unfolding verdict_of
  flawed_node c e g h =
      let good = sym e ∙ g in
      sym (ap (λ (x : Result Unit ℕ). verdict_by x t d) good ∙ simp (lt-ltb (records t) d (omega (arith, good_whole t good))))

  pub fine_tree : (c : Result Unit ℕ) → c ≡ check_tree t → c ≡ Ok tt → d ≤ length t / 22 → Ok tt ≡ verdict_of t d
  unfolding verdict_of
  fine_tree c e g h =
      let good = sym e ∙ g in
      sym (ap (λ (x : Result Unit ℕ). verdict_by x t d) good ∙ simp (le-ltb (records t) d (omega (arith, good_whole t good))))

  -- what a verdict says of the tree
  flawed_by : (c : Result Unit ℕ) (number place : ℕ) (f : Instances) → verdict_by c t d ≡ Err (refusal_at number place) → in_tree c t d f ≡ unresolved number place
  flawed_by (Err p) number place f e = let x : 15 ≡ number = same_number e in let y : p ≡ place = same_place e in ap (λ (i : ℕ). unresolved i p) x ∙ ap (unresolved number) y
  flawed_by (Ok u) number place f e = go (ltb (records t) d) e
    where
      go : (b : Bool) → ◌≡◌ {A = Result Unit Refusal} (cond b (Err (refusal_at 16 0)) (Ok tt)) (Err (refusal_at number place)) → cond b (unresolved 16 0) f ≡ unresolved number place
      go true q = let x : 16 ≡ number = same_number q in let y : 0 ≡ place = same_place q in ap (λ (i : ℕ). unresolved i 0) x ∙ ap (unresolved number) y
      go false q = absurd (let z : ◌≡◌ {A = ℕ} 0 1 = cc in omega arith)

  fine_by : (c : Result Unit ℕ) (f : Instances) → verdict_by c t d ≡ Ok tt → (c ≡ Ok tt) × (d ≤ records t) × (in_tree c t d f ≡ f)
  fine_by (Err p) f e = absurd (let z : ◌≡◌ {A = ℕ} 0 1 = cc in omega arith)
  fine_by (Ok u) f e = go (ltb (records t) d) refl e
    where
      go : (b : Bool) → ltb (records t) d ≡ b → ◌≡◌ {A = Result Unit Refusal} (cond b (Err (refusal_at 16 0)) (Ok tt)) (Ok tt) → (◌≡◌ {A = Result Unit ℕ} (Ok tt) (Ok tt)) × (d ≤ records t) × (cond (ltb (records t) d) (unresolved 16 0) f ≡ f)
      go true q x = absurd (let z : ◌≡◌ {A = ℕ} 0 1 = cc in omega arith)
      go false q x = (refl, ltb-false (records t) d q, rw q)

  module _ (v : Result Unit Refusal) (e : v ≡ verdict_of t d) where
    said : verdict_by (check_tree t) t d ≡ v
    unfolding verdict_of
    said = sym e

    module _ (f : Instances) (number place : ℕ) (q : v ≡ Err (refusal_at number place)) where
      pub flawed_given : (room : ℕ) → Err (refusal_at number place) ≡ resolved_by room (in_tree (check_tree t) t d f)
      flawed_given room = sym (ap (resolved_by room) (flawed_by (check_tree t) number place f (said ∙ q)))

      pub flawed_put : (room : List ℕ) → room ≡ list_by room (in_tree (check_tree t) t d f)
      flawed_put room = sym (ap (list_by room) (flawed_by (check_tree t) number place f (said ∙ q)))

    module _ (q : v ≡ Ok tt) where
      pub fine_good : check_tree t ≡ Ok tt
      fine_good = (fine_by (check_tree t) session' (said ∙ q)).0

      pub fine_node : (n : ℕ) → n ≤ d → n ≤ records t
      fine_node n h = let w = (fine_by (check_tree t) session' (said ∙ q)).1 in omega arith

      pub fine_given : (f : Instances) (room : ℕ) (x : Result Resolved Refusal) → x ≡ resolved_by room f → x ≡ resolved_by room (in_tree (check_tree t) t d f)
      fine_given f room x u = u ∙ sym (ap (resolved_by room) (fine_by (check_tree t) f (said ∙ q)).2)

      pub fine_put : (f : Instances) (room y : List ℕ) → y ≡ list_by room f → y ≡ list_by room (in_tree (check_tree t) t d f)
      fine_put f room y u = u ∙ sym (ap (list_by room) (fine_by (check_tree t) f (said ∙ q)).2)

      pub session_given : Ok resolved.Session ≡ resolved_by 0 (in_tree (check_tree t) t d session')
      session_given = sym (ap (resolved_by 0) (fine_by (check_tree t) session' (said ∙ q)).2)

-- ---- the text's form

-- a path starts at its separator alone, after it, or with its first segment
data Start (b : ℕ) (s : List ℕ) (rooted : Bool) (ss : List (List ℕ)) : Type 0 where
  root : s ≡ [] → rooted ≡ true → ss ≡ [] → Start b s rooted ss
  under : rooted ≡ true → ss ≡ parts is_separator s → Start b s rooted ss
  beside : rooted ≡ false → ss ≡ parts is_separator (b ∷ s) → Start b s rooted ss

starts : (b : ℕ) (s : List ℕ) (rooted : Bool) (ss : List (List ℕ)) → target_of (b ∷ s) ≡ some (path rooted ss) → Start b s rooted ss
unfolding target_of path_of segments_of
starts b s rooted ss e = go (same_bytes (b ∷ s) session_name) (is_separator b) s refl (are_segments (parts is_separator s) && leb (length (parts is_separator s)) 16)
    (are_segments (parts is_separator (b ∷ s)) && leb (length (parts is_separator (b ∷ s))) 16) e
  where
    go : (x y : Bool) (r : List ℕ) → s ≡ r → (u v : Bool)
        → cond x (some session) (cond y (cond (is_nil r) (some (path true [])) (cond u (some (path true (parts is_separator s))) none)) (cond v (some (path false (parts is_separator (b ∷ s)))) none))
        ≡ some (path rooted ss)
        → Start b s rooted ss
    go true y r z u v q = absurd (let c : ◌≡◌ {A = ℕ} 0 1 = cc in omega arith)
    go false true [] z u v q = root z (cc) (cc)
    go false true (c ∷ r) z true v q = under (cc) (cc)
    go false true (c ∷ r) z false v q = absurd (let w : ◌≡◌ {A = ℕ} 0 1 = cc in omega arith)
    go false false r z u true q = beside (cc) (cc)
    go false false r z u false q = absurd (let w : ◌≡◌ {A = ℕ} 0 1 = cc in omega arith)

is_path : (o : Option Target) (rooted : Bool) (n : ℕ) → where_of o ≡ Some (where'.Path rooted n) → (ss : List (List ℕ)) × (o ≡ some (path rooted ss)) × (n ≡ length ss)
is_path none rooted n e = absurd (let z : ◌≡◌ {A = ℕ} 0 1 = cc in omega arith)
is_path (some session) rooted n e = absurd (let z : ◌≡◌ {A = ℕ} 0 1 = cc in omega arith)
is_path (some (path r ss)) rooted n e = let z : r ≡ rooted = cc in (ss, ap (λ (x : Bool). some (path x ss)) z, cc)

is_session : (o : Option Target) → where_of o ≡ Some where'.Session → o ≡ some session
is_session none e = absurd (let z : ◌≡◌ {A = ℕ} 0 1 = cc in omega arith)
is_session (some session) e = refl
is_session (some (path r ss)) e = absurd (let z : ◌≡◌ {A = ℕ} 0 1 = cc in omega arith)

is_no : (o : Option Target) → where_of o ≡ None → o ≡ none
is_no none e = refl
is_no (some session) e = absurd (let z : ◌≡◌ {A = ℕ} 0 1 = cc in omega arith)
is_no (some (path r ss)) e = absurd (let z : ◌≡◌ {A = ℕ} 0 1 = cc in omega arith)

some_parts : (s : List ℕ) (ss : List (List ℕ)) (n : ℕ) → ss ≡ parts is_separator s → n ≡ length ss → n ≡ 0 → ⊥
some_parts s ss n e l z = go (parts is_separator s) (parts_some is_separator s) (sym (sym z ∙ l ∙ ap length e))
  where
    go : (p : List (List ℕ)) → is_nil p ≡ false → length p ≡ 0 → ⊥
    go [] h k = no_case h
    go (x ∷ p) h k = omega arith

module _ (t : List ℕ) (d : ℕ) where
  pub found_empty : (text : List ℕ) → length text ≡ 0 → instances_of text t d ≡ in_tree (check_tree t) t d (along_from text t d 1)
  unfolding instances_of along_from segments_from along
  found_empty [] e = refl
  found_empty (b ∷ s) e = absurd (omega arith)

  module _ (text : List ℕ) (some' : length text ≡ 0 → ⊥) (w : std.Option Where) (r : w ≡ where_in text) where
    found_by : (text : List ℕ) → (length text ≡ 0 → ⊥) → instances_of text t d ≡ or_form text (target_of text) t d
    unfolding instances_of
    found_by [] h = absurd (h refl)
    found_by (b ∷ s) h = refl

    said_form : where_of (target_of text) ≡ w
    unfolding where_in
    said_form = sym r

    pub found_no : w ≡ None → instances_of text t d ≡ unresolved 12 (reach_of form.Target text)
    found_no q = found_by text some' ∙ ap (λ (o : Option Target). or_form text o t d) (is_no (target_of text) (said_form ∙ q))

    pub found_session : w ≡ Some where'.Session → instances_of text t d ≡ in_tree (check_tree t) t d session'
    found_session q = found_by text some' ∙ ap (λ (o : Option Target). or_form text o t d) (is_session (target_of text) (said_form ∙ q))

    module _ (rooted : Bool) (n : ℕ) (q : w ≡ Some (where'.Path rooted n)) where
      its : (ss : List (List ℕ)) × (target_of text ≡ some (path rooted ss)) × (n ≡ length ss)
      its = is_path (target_of text) rooted n (said_form ∙ q)

      found_path : instances_of text t d ≡ in_tree (check_tree t) t d (from t d (path rooted its.0))
      found_path = found_by text some' ∙ ap (λ (o : Option Target). or_form text o t d) its.1

      pub found_root : n ≡ 0 → instances_of text t d ≡ in_tree (check_tree t) t d (along_from text t 0 2)
      unfolding along_from segments_from along
      found_root z = go text refl
        where
          go : (s : List ℕ) → text ≡ s → instances_of text t d ≡ in_tree (check_tree t) t d (along_from text t 0 2)
          go [] e = absurd (some' (ap length e))
          go (b ∷ s) e = by (starts b s rooted its.0 (ap target_of (sym e) ∙ its.1))
            where
              by : Start b s rooted its.0 → instances_of text t d ≡ in_tree (check_tree t) t d (along_from text t 0 2)
              by (root x y k) =
                  let a : from t d (path rooted its.0) ≡ nodes (0 ∷ []) = ap (λ (c : Bool). from t d (path c its.0)) y ∙ ap (λ (l : List (List ℕ)). along t 0 1 l) k in
                  let c : along_from text t 0 2 ≡ nodes (0 ∷ []) = ap (λ (l : List ℕ). along_from l t 0 2) (e ∙ ap (λ (l : List ℕ). b ∷ l) x) in
                  found_path ∙ ap (in_tree (check_tree t) t d) (a ∙ sym c)
              by (under y k) = absurd (some_parts s its.0 n k its.2 z)
              by (beside y k) = absurd (some_parts (b ∷ s) its.0 n k its.2 z)

      pub found_under : (n ≡ 0 → ⊥) → rooted ≡ true → instances_of text t d ≡ in_tree (check_tree t) t d (along_from text t 0 1)
      unfolding along_from segments_from
      found_under z u = go text refl
        where
          go : (s : List ℕ) → text ≡ s → instances_of text t d ≡ in_tree (check_tree t) t d (along_from text t 0 1)
          go [] e = absurd (some' (ap length e))
          go (b ∷ s) e = by (starts b s rooted its.0 (ap target_of (sym e) ∙ its.1))
            where
              by : Start b s rooted its.0 → instances_of text t d ≡ in_tree (check_tree t) t d (along_from text t 0 1)
              by (root x y k) = absurd (z (its.2 ∙ ap length k))
              by (under y k) =
                  let a : from t d (path rooted its.0) ≡ along t 0 1 (parts is_separator s) = ap (λ (c : Bool). from t d (path c its.0)) y ∙ ap (along t 0 1) k in
                  let c : along_from text t 0 1 ≡ along t 0 1 (parts is_separator s) = ap (λ (l : List ℕ). along_from l t 0 1) e ∙ rw (le-leb 1 (suc (length s)) (omega arith)) in
                  found_path ∙ ap (in_tree (check_tree t) t d) (a ∙ sym c)
              by (beside y k) = no_case (sym u ∙ y)

      pub found_beside : (n ≡ 0 → ⊥) → rooted ≡ false → instances_of text t d ≡ in_tree (check_tree t) t d (along_from text t d 0)
      unfolding along_from segments_from
      found_beside z u = go text refl
        where
          go : (s : List ℕ) → text ≡ s → instances_of text t d ≡ in_tree (check_tree t) t d (along_from text t d 0)
          go [] e = absurd (some' (ap length e))
          go (b ∷ s) e = by (starts b s rooted its.0 (ap target_of (sym e) ∙ its.1))
            where
              by : Start b s rooted its.0 → instances_of text t d ≡ in_tree (check_tree t) t d (along_from text t d 0)
              by (root x y k) = no_case (sym y ∙ u)
              by (under y k) = no_case (sym y ∙ u)
              by (beside y k) =
                  let a : from t d (path rooted its.0) ≡ along t d 0 (parts is_separator (b ∷ s)) = ap (λ (c : Bool). from t d (path c its.0)) y ∙ ap (along t d 0) k in
                  let c : along_from text t d 0 ≡ along t d 0 (parts is_separator (b ∷ s)) = ap (λ (l : List ℕ). along_from l t d 0) e ∙ rw (le-leb 0 (suc (length s)) (omega arith)) in
                  found_path ∙ ap (in_tree (check_tree t) t d) (a ∙ sym c)

-- ---- the answer and the list, by what was found

module _ (text t : List ℕ) (d : ℕ) where
  answer_as : (room : ℕ) (f : Instances) → instances_of text t d ≡ f → resolved_by room f ≡ resolve_of room text t d
  unfolding resolve_of
  answer_as room f e = ap (resolved_by room) (sym e)

  list_as : (room : List ℕ) (f : Instances) → instances_of text t d ≡ f → list_by room f ≡ resolve_list room text t d
  unfolding resolve_list
  list_as room f e = ap (list_by room) (sym e)

  pub empty_answer : (room : ℕ) (x : Result Resolved Refusal) → length text ≡ 0 → x ≡ resolved_by room (in_tree (check_tree t) t d (along_from text t d 1)) → x ≡ resolve_of room text t d
  empty_answer room x e v = v ∙ answer_as room (in_tree (check_tree t) t d (along_from text t d 1)) (found_empty t d text e)

  pub empty_list : (room y : List ℕ) → length text ≡ 0 → y ≡ list_by room (in_tree (check_tree t) t d (along_from text t d 1)) → y ≡ resolve_list room text t d
  empty_list room y e v = v ∙ list_as room (in_tree (check_tree t) t d (along_from text t d 1)) (found_empty t d text e)

  -- a session needs no room and changes none
  session_room : (c : Result Unit ℕ) (room : ℕ) → resolved_by 0 (in_tree c t d session') ≡ resolved_by room (in_tree c t d session')
  session_room (Err p) room = refl
  session_room (Ok u) room = go (ltb (records t) d)
    where
      go : (b : Bool) → resolved_by 0 (cond b (unresolved 16 0) session') ≡ resolved_by room (cond b (unresolved 16 0) session')
      go true = refl
      go false = refl

  session_same : (c : Result Unit ℕ) (room : List ℕ) → room ≡ list_by room (in_tree c t d session')
  session_same (Err p) room = refl
  session_same (Ok u) room = go (ltb (records t) d)
    where
      go : (b : Bool) → room ≡ list_by room (cond b (unresolved 16 0) session')
      go true = refl
      go false = refl

  module _ (some' : length text ≡ 0 → ⊥) (w : std.Option Where) (r : w ≡ where_in text) where
    pub no_answer : (room p : ℕ) → w ≡ None → p ≡ reach_of form.Target text → Err (refusal_at 12 p) ≡ resolve_of room text t d
    no_answer room p q z = ap (λ (p : ℕ). Err (refusal_at 12 p)) z ∙ answer_as room (unresolved 12 (reach_of form.Target text)) (found_no t d text some' w r q)

    pub no_list : (room : List ℕ) → w ≡ None → room ≡ resolve_list room text t d
    no_list room q = list_as room (unresolved 12 (reach_of form.Target text)) (found_no t d text some' w r q)

    pub session_answer : (room : ℕ) (x : Result Resolved Refusal) → w ≡ Some where'.Session → x ≡ resolved_by 0 (in_tree (check_tree t) t d session') → x ≡ resolve_of room text t d
    session_answer room x q v = v ∙ session_room (check_tree t) room ∙ answer_as room (in_tree (check_tree t) t d session') (found_session t d text some' w r q)

    pub session_list : (room : List ℕ) → w ≡ Some where'.Session → room ≡ resolve_list room text t d
    session_list room q = session_same (check_tree t) room ∙ list_as room (in_tree (check_tree t) t d session') (found_session t d text some' w r q)

    module _ (rooted : Bool) (n : ℕ) (q : w ≡ Some (where'.Path rooted n)) where
      pub root_answer : (room : ℕ) (x : Result Resolved Refusal) → n ≡ 0 → x ≡ resolved_by room (in_tree (check_tree t) t d (along_from text t 0 2)) → x ≡ resolve_of room text t d
      root_answer room x z v = v ∙ answer_as room (in_tree (check_tree t) t d (along_from text t 0 2)) (found_root t d text some' w r rooted n q z)

      pub root_list : (room y : List ℕ) → n ≡ 0 → y ≡ list_by room (in_tree (check_tree t) t d (along_from text t 0 2)) → y ≡ resolve_list room text t d
      root_list room y z v = v ∙ list_as room (in_tree (check_tree t) t d (along_from text t 0 2)) (found_root t d text some' w r rooted n q z)

      module _ (z : n ≡ 0 → ⊥) where
        pub under_answer : (room : ℕ) (x : Result Resolved Refusal) → rooted ≡ true → x ≡ resolved_by room (in_tree (check_tree t) t d (along_from text t 0 1)) → x ≡ resolve_of room text t d
        under_answer room x u v = v ∙ answer_as room (in_tree (check_tree t) t d (along_from text t 0 1)) (found_under t d text some' w r rooted n q z u)

        pub under_list : (room y : List ℕ) → rooted ≡ true → y ≡ list_by room (in_tree (check_tree t) t d (along_from text t 0 1)) → y ≡ resolve_list room text t d
        under_list room y u v = v ∙ list_as room (in_tree (check_tree t) t d (along_from text t 0 1)) (found_under t d text some' w r rooted n q z u)

        pub beside_answer : (room : ℕ) (x : Result Resolved Refusal) → rooted ≡ false → x ≡ resolved_by room (in_tree (check_tree t) t d (along_from text t d 0)) → x ≡ resolve_of room text t d
        beside_answer room x u v = v ∙ answer_as room (in_tree (check_tree t) t d (along_from text t d 0)) (found_beside t d text some' w r rooted n q z u)

        pub beside_list : (room y : List ℕ) → rooted ≡ false → y ≡ list_by room (in_tree (check_tree t) t d (along_from text t d 0)) → y ≡ resolve_list room text t d
        beside_list room y u v = v ∙ list_as room (in_tree (check_tree t) t d (along_from text t d 0)) (found_beside t d text some' w r rooted n q z u)
