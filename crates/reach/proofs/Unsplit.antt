-- How far a text goes towards a form: never to a place between a GRAVE and the byte that it escapes, since any byte may follow a GRAVE that may stand. Assumes nothing.
use Prim.Native.Nat.{ℕ, zero, suc, ◌<◌}
use mathlib.Core.Path.{◌≡◌, refl, sym, ap, ◌∙◌}
use mathlib.Core.List.{List, [], ◌∷◌}
use mathlib.Core.Bool.{Bool, true, false, cond, not, ◌&&◌}
use native.Mathlib.Omega.{arith}
use lib.ListN.{length, take}
use lib.Dec.{eqb}
use borrow.Author.Tests.{eqb-true, le-ltb}
use Rattle.text.specs.Bytes.{bytes, one_of}
use Rattle.text.specs.Lists.{walk}
use Rattle.text.proofs.Tests.{no_case}
use Rattle.text.proofs.Classes.{other_byte}
use Rattle.terms.specs.declared.Mode.{Mode}
use Rattle.terms.specs.declared.Mode.TheVariants.{Out, OutGrave, In, InGrave}
use Rattle.terms.specs.Signs.{Sign, bare, escaped, quoted, quoted_escaped, twelve, after, gives}
use Rattle.terms.specs.Rows.{end_mode}
use Rattle.terms.proofs.ByteCases.{gives_case}
use Rattle.forms.specs.declared.At.{At}
use Rattle.forms.specs.declared.At.TheVariants.{Start, Plain, Inside, Ended, Dead}
use Rattle.forms.specs.Forms.{is_plain_sign}
use Rattle.forms.specs.Automata.{text_over}
use Rattle.forms.proofs.TextLaws.{no_comma, no_open, no_close, no_equal}
use Rattle.reach.specs.declared.Form.{Form}
use Rattle.reach.specs.declared.Form.TheVariants.{Keep, Level, Place, Entries, Target, Property, Topic}
use Rattle.reach.specs.declared.Tally.{Tally}
use Rattle.reach.specs.declared.Tally.TheVariants as tally
use Rattle.reach.specs.declared.Road.{Road}
use Rattle.reach.specs.declared.Road.TheVariants as road
use Rattle.reach.specs.declared.Stage.{Stage}
use Rattle.reach.specs.declared.Stage.TheVariants as stage
use Rattle.reach.specs.Machine.{reach_by}
use Rattle.reach.specs.Numbers.{digit_more, is_all_letter, all_step, first_step, tally_step, is_off_tally}
use Rattle.reach.specs.Roads.{start_step, part_step, tag_end, tag_step, number_step, road_step, is_off_road}
use Rattle.reach.specs.Stages.{is_alive, free_step, in_text, text_on, in_items, items_on, stage_step, is_off_stage, stage_reach}
use Rattle.reach.specs.Reach.{reach_of}
use Rattle.reach.specs.Pairs.{grave_waits}
use Rattle.reach.proofs.Accepts.{fits, is_live, live_step}
use Rattle.words.specs.Words.{lower, all_name}

-- ---- machines that take neither GRAVE nor `"`: all that they take stands outside quotes

module _ {S : Type 0} (step : S → ℕ → S) (off : S → Bool) (grave : (q : S) → off (step q 96) ≡ true) (mark : (q : S) → off (step q 34) ≡ true) where
  taken_out : (q : S) (b : ℕ) → off (step q b) ≡ false → after Out b ≡ Out
  unfolding after
  taken_out q b e = go (eqb b 96) (eqb b 34) refl refl
    where
      go : (x y : Bool) → eqb b 96 ≡ x → eqb b 34 ≡ y → cond (eqb b 96) OutGrave (cond (eqb b 34) In Out) ≡ Out
      go true y p z = no_case (sym (grave q) ∙ ap (λ (c : ℕ). off (step q c)) (sym (eqb-true b 96 p)) ∙ e)
      go false true p z = no_case (sym (mark q) ∙ ap (λ (c : ℕ). off (step q c)) (sym (eqb-true b 34 z)) ∙ e)
      go false false p z = rw (p, z) refl

  stays_out : (s : List ℕ) (q : S) → end_mode Out (take (reach_by step off q s) s) ≡ Out
  unfolding reach_by end_mode walk
  stays_out [] q = refl
  stays_out (b ∷ s) q = go (off (step q b)) refl (stays_out s (step q b))
    where
      go : (x : Bool) → off (step q b) ≡ x → walk after Out (take (reach_by step off (step q b) s) s) ≡ Out
          → walk after Out (take (cond (off (step q b)) 0 (suc (reach_by step off (step q b) s))) (b ∷ s)) ≡ Out
      go true e ih = rw e refl
      go false e ih = rw e (ap (λ (m : Mode). walk after m (take (reach_by step off (step q b) s) s)) (taken_out q b e) ∙ ih)

-- neither is a letter of `all`
all_not : (n b : ℕ) → eqb (lower b) 97 ≡ false → eqb (lower b) 108 ≡ false → is_off_tally (all_step n b) ≡ true
unfolding all_step is_all_letter all_name bytes
all_not zero b e d = rw e refl
all_not (suc zero) b e d = rw d refl
all_not (suc (suc zero)) b e d = rw d refl
all_not (suc (suc (suc n))) b e d = rw (le-ltb (suc (suc (suc n))) 3 (omega arith)) refl

tally_grave : (level : Bool) (q : Tally) → is_off_tally (tally_step level q 96) ≡ true
unfolding first_step digit_more all_step is_all_letter lower all_name bytes
tally_grave true tally.First = refl
tally_grave false tally.First = refl
tally_grave level tally.Zero = refl
tally_grave level (tally.Number v) = refl
tally_grave level (tally.All n) = all_not n 96 refl refl
tally_grave level tally.Off = refl

tally_mark : (level : Bool) (q : Tally) → is_off_tally (tally_step level q 34) ≡ true
unfolding first_step digit_more all_step is_all_letter lower all_name bytes
tally_mark true tally.First = refl
tally_mark false tally.First = refl
tally_mark level tally.Zero = refl
tally_mark level (tally.Number v) = refl
tally_mark level (tally.All n) = all_not n 34 refl refl
tally_mark level tally.Off = refl

road_grave : (q : Road) → is_off_road (road_step q 96) ≡ true
unfolding start_step part_step tag_end tag_step number_step digit_more
road_grave road.Lead = refl
road_grave (road.Start k) = refl
road_grave (road.Dot k) = refl
road_grave (road.Dots k) = refl
road_grave (road.Tag k n) = refl
road_grave (road.Number k v) = refl
road_grave road.Star = refl
road_grave road.Off = refl

road_mark : (q : Road) → is_off_road (road_step q 34) ≡ true
unfolding start_step part_step tag_end tag_step number_step digit_more
road_mark road.Lead = refl
road_mark (road.Start k) = refl
road_mark (road.Dot k) = refl
road_mark (road.Dots k) = refl
road_mark (road.Tag k n) = refl
road_mark (road.Number k v) = refl
road_mark road.Star = refl
road_mark road.Off = refl

-- ---- the machine for names and values: where a GRAVE waits, it takes any byte

-- outside quotes a byte that GRAVE does not escape may stand in a plain text
plain_other : (b : ℕ) → one_of twelve b ≡ false → is_plain_sign (bare b) ≡ true
unfolding is_plain_sign one_of bytes
plain_other b e = simp (no_mark, no_comma b e, no_open b e, no_close b e, no_equal b e)
  where
    no_mark : eqb b 34 ≡ false
    no_mark = other_byte (one_of twelve) 34 b false (unfold one_of twelve bytes in refl) e

plain_grave : is_plain_sign (bare 96) ≡ true
unfolding is_plain_sign one_of bytes
plain_grave = refl

-- a text in which a GRAVE waits goes on with any byte
text_takes : (q : At) (m : Mode) (b : ℕ) → grave_waits m ≡ true → fits q m && is_alive q m ≡ true → is_alive (text_over q (gives m b)) (after m b) ≡ true
unfolding text_over is_plain_sign
text_takes q m b =
    gives_case (λ k g n. grave_waits k ≡ true → fits q k && is_alive q k ≡ true → is_alive (text_over q g) n ≡ true) b
    (λ _ w h. no_case (sym w)) (λ _ _ w h. no_case (sym w)) (λ _ _ w h. no_case (sym w)) (λ _ w h. pair q h) (λ e w h. other q e h)
    (λ _ w h. no_case (sym w)) (λ _ _ w h. no_case (sym w)) (λ _ _ w h. no_case (sym w)) (λ _ w h. inside q h (quoted_escaped b ∷ []) refl) (λ _ w h. inside q h (quoted 96 ∷ quoted b ∷ []) refl) m
  where
    pair : (p : At) → fits p OutGrave && is_alive p OutGrave ≡ true → is_alive (text_over p (escaped b ∷ [])) Out ≡ true
    pair Start h = refl
    pair Plain h = refl
    pair Inside h = no_case (sym h)
    pair Ended h = no_case (sym h)
    pair Dead h = no_case (sym h)

    other : (p : At) → one_of twelve b ≡ false → fits p OutGrave && is_alive p OutGrave ≡ true → is_alive (text_over p (bare 96 ∷ bare b ∷ [])) Out ≡ true
    other Start e h = rw (plain_grave, plain_other b e) refl
    other Plain e h = rw (plain_grave, plain_other b e) refl
    other Inside e h = no_case (sym h)
    other Ended e h = no_case (sym h)
    other Dead e h = no_case (sym h)

    inside : (p : At) → fits p InGrave && is_alive p InGrave ≡ true → (r : List Sign) → text_over Inside r ≡ Inside → is_alive (text_over p r) In ≡ true
    inside Start h r z = no_case (sym h)
    inside Plain h r z = no_case (sym h)
    inside Inside h r z = rw z refl
    inside Ended h r z = no_case (sym h)
    inside Dead h r z = no_case (sym h)

-- where a GRAVE waits, no byte is refused
grave_takes : (equal comma q : Stage) (m : Mode) (b : ℕ) → is_live q m ≡ true → grave_waits m ≡ true → is_off_stage (stage_step equal comma q m b) ≡ false
unfolding free_step in_text text_on in_items items_on
grave_takes equal comma q Out b h w = no_case (sym w)
grave_takes equal comma q In b h w = no_case (sym w)
grave_takes equal comma stage.Free OutGrave b h w = refl
grave_takes equal comma (stage.Name k) OutGrave b h w = no_case (sym h)
grave_takes equal comma stage.Said OutGrave b h w = no_case (sym h)
grave_takes equal comma stage.Value OutGrave b h w = no_case (sym h)
grave_takes equal comma (stage.Text q) OutGrave b h w = rw (text_takes q OutGrave b w h) refl
grave_takes equal comma (stage.Items q k) OutGrave b h w = rw (text_takes q OutGrave b w h) refl
grave_takes equal comma stage.Closed OutGrave b h w = no_case (sym h)
grave_takes equal comma stage.Off OutGrave b h w = no_case (sym h)
grave_takes equal comma stage.Free InGrave b h w = refl
grave_takes equal comma (stage.Name k) InGrave b h w = no_case (sym h)
grave_takes equal comma stage.Said InGrave b h w = no_case (sym h)
grave_takes equal comma stage.Value InGrave b h w = no_case (sym h)
grave_takes equal comma (stage.Text q) InGrave b h w = rw (text_takes q InGrave b w h) refl
grave_takes equal comma (stage.Items q k) InGrave b h w = rw (text_takes q InGrave b w h) refl
grave_takes equal comma stage.Closed InGrave b h w = no_case (sym h)
grave_takes equal comma stage.Off InGrave b h w = no_case (sym h)

module _ (equal comma : Stage) (e : is_live equal Out ≡ not (is_off_stage equal)) (c : is_live comma Out ≡ not (is_off_stage comma)) where
  stage_unsplit : (s : List ℕ) (q : Stage) (m : Mode) → is_live q m ≡ true → stage_reach equal comma q m s < length s → grave_waits (end_mode m (take (stage_reach equal comma q m s) s)) ≡ false
  unfolding reach_by end_mode walk
  stage_unsplit [] q m l h = absurd (omega arith)
  stage_unsplit (b ∷ s) q m l h =
      go (is_off_stage (stage_step equal comma q m b)) (grave_waits m) refl refl
      (λ o i. stage_unsplit s (stage_step equal comma q m b) (after m b) ((live_step equal comma e c q m b l).is ∙ ap not o) i)
    where
      n : ℕ
      n = stage_reach equal comma (stage_step equal comma q m b) (after m b) s

      go : (x y : Bool) → is_off_stage (stage_step equal comma q m b) ≡ x → grave_waits m ≡ y
          → (is_off_stage (stage_step equal comma q m b) ≡ false → n < length s → grave_waits (walk after (after m b) (take n s)) ≡ false)
          → grave_waits (walk after m (take (cond (is_off_stage (stage_step equal comma q m b)) 0 (suc n)) (b ∷ s))) ≡ false
      go true true o w ih = no_case (sym o ∙ grave_takes equal comma q m b l w)
      go true false o w ih = rw o w
      go false y o w ih = rw o (ih o (omega (arith, rw o at h)))

-- ---- every form

-- OF EVERY FORM AND TEXT: unless the text ends there, no GRAVE waits
pub unsplit : (f : Form) (t : List ℕ) → reach_of f t < length t → grave_waits (end_mode Out (take (reach_of f t) t)) ≡ false
unfolding reach_of
unsplit Keep t h = ap grave_waits (stays_out (tally_step false) is_off_tally (tally_grave false) (tally_mark false) t tally.First)
unsplit Level t h = ap grave_waits (stays_out (tally_step true) is_off_tally (tally_grave true) (tally_mark true) t tally.First)
unsplit Place t h = stage_unsplit stage.Off stage.Off refl refl t stage.Free Out refl h
unsplit Entries t h = stage_unsplit stage.Value (stage.Name 0) refl refl t (stage.Name 0) Out refl h
unsplit Target t h = ap grave_waits (stays_out road_step is_off_road road_grave road_mark t road.Lead)
unsplit Property t h = stage_unsplit stage.Said stage.Off refl refl t (stage.Name 0) Out refl h
unsplit Topic t h = stage_unsplit stage.Off stage.Off refl refl t (stage.Name 0) Out refl h
