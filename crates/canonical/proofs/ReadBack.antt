-- THE READ-BACK THEOREM: the canonical writing of a line that is read as a command, if it has at most 1,024 bytes, is read as the same command. Assumes nothing.
use Prim.Native.Nat.{ℕ, ◌<◌, ◌≤◌}
use mathlib.Core.Path.{◌≡◌, refl, sym, ap, ◌∙◌}
use mathlib.Core.List.{List, [], ◌∷◌, ◌++◌, map, append_assoc}
use mathlib.Core.Bool.{Bool, true, false, cond, not, ◌&&◌}
use mathlib.Core.Option.{some}
use native.Mathlib.Omega.{arith}
use lib.ListN.{length, drop, get_or}
use lib.Dec.{leb}
use borrow.Author.Tests.{ne_eqb, not-true, not-false, lt-leb}
use Rattle.canonical.proofs.Frame as frame
use Rattle.canonical.specs.Canonical.{write_argument, write_entry, write_item, write_optional, write_place, write_property, write_said, write_target, writing}
use Rattle.forms.specs.Forms.{Entry, Property, has_eq, is_name, property_of, starts, topic_of}
use Rattle.forms.specs.Targets.{Target, target_of}
use Rattle.reading.specs.Command.{Argument, Item, argument, argument_by, items, numeral, option, prop, target, text, verb}
use Rattle.reading.specs.Reading.{is_help, command_of, decide, decide_after, decide_argument, decide_in, decide_option, decide_property, decide_target, decide_verb, takes}
use Rattle.reading.specs.declared.Phase.{Phase}
use Rattle.reading.specs.declared.Phase.TheVariants.{First, Options, Rest, Waits}
use Rattle.reading.specs.declared.State.{State}
use Rattle.support.specs.Table15.{allowed}
use Rattle.terms.specs.Signs.{Sign, bare, raws, stands, bares}
use Rattle.text.specs.Bytes.{is_letter, is_word, printable}
use Rattle.text.specs.Lists.{all_of, between, each, is_nil}
use Rattle.words.specs.Words.{lowered, kind_of, option_name, option_of, verb_name, verb_of}
use Rattle.words.specs.declared.Kind.{Kind}
use Rattle.words.specs.declared.Kind.TheVariants.{Entries, Keep, Level, Place}
use Rattle.canonical.proofs.Lexing.{good}
use Rattle.canonical.proofs.Frame.{clean_sign, clean_text, word, Back}
use Rattle.canonical.proofs.Values.{letter_byte, stands_clean}
use Rattle.canonical.proofs.Names.{ok_said, ok_property, ok_entry, ok_optional, property_again, property_good, property_some, property_ok, topic_again}
use Rattle.canonical.proofs.Entries.{entries_again, entries_good, entries_some, entries_ok}
use Rattle.canonical.proofs.Targets.{ok_written, target_ok}
use Rattle.words.proofs.Folding.{lowered_again}
use Rattle.reading.proofs.CaseDecisions.{level_lowered}
use Rattle.canonical.proofs.Places.{written_good, written_eq, written_dash, keep_ok, level_ok, place_ok, stands_some, verb_ok, option_ok, NumberOk}
use Rattle.text.proofs.Tests.{and_l, and_r, no_case}
use Rattle.text.proofs.AllAny.{map_some}
use Rattle.terms.proofs.Bares.{raws_bares}
use Rattle.reading.proofs.TakenCases.{taken_case, argument_from}

pub record Again (p : Phase) (v : ℕ) (seen : List Bool) (count : ℕ) (i : Item) : Type 0 where
  pub again : decide_in p v seen count (write_item i) ≡ takes i
  pub is_word : word (write_item i) ≡ true

word_in : (w : List Sign) → is_nil w ≡ false → good false w ≡ true → word w ≡ true
word_in w n g = simp (n, g)

-- a text that is written bare
bare_word : (s : List ℕ) → is_nil s ≡ false → all_of ok_written s ≡ true → word (bares s) ≡ true
bare_word s n e = word_in (bares s) (map_some bare s n) (written_good s e)

-- ---- the verb

verb_back : (v : ℕ) (seen : List Bool) (count n : ℕ) (s : List ℕ) → verb_of s ≡ some n → Again First v seen count (verb n)
unfolding decide_verb
verb_back v seen count n s p =
    let o = verb_ok s n p in
    record {
      again = simp (raws_bares (verb_name n), o.again);
      is_word = bare_word (verb_name n) o.is_some o.bytes_ok;
    }

-- ---- options

dash_good : (s : List ℕ) → all_of ok_written s ≡ true → word (bare 45 ∷ bares s) ≡ true
unfolding good
dash_good s e = written_good s e

option_back : (v : ℕ) (seen : List Bool) (count n : ℕ) (s : List ℕ) → option_of s ≡ some n → allowed v n ≡ true → get_or seen n false ≡ false → Again Options v seen count (option n)
unfolding decide_option raws
option_back v seen count n s p a q =
    let o = option_ok s n p in
    record {
      again = simp (raws_bares (option_name n), o.again, a, q);
      is_word = dash_good (option_name n) o.bytes_ok;
    }

-- ---- arguments

name_dash : (n : List ℕ) (w : List Sign) → is_name n ≡ true → starts 45 (bares n ++ w) ≡ false
unfolding is_name
name_dash [] w e = no_case (sym e)
name_dash (b ∷ s) w e =
    let l = letter_byte b (and_l (is_letter b) (all_of is_word s && leb (length s) 63) e) in
    let x = l.low in
    ne_eqb b 45 (λ z. omega arith)

entries_dash : (es : List Entry) → all_of ok_entry es ≡ true → starts 45 (between (bare 44) (map write_entry es)) ≡ false
unfolding between write_entry ok_entry all_of
entries_dash [] k = refl
entries_dash (e ∷ es) k =
    ap (starts 45) (append_assoc (bares e.name) (write_optional e.value) (each (bare 44) (map write_entry es)))
    ∙ name_dash e.name (write_optional e.value ++ each (bare 44) (map write_entry es)) (and_l (is_name e.name) (ok_optional e.value) (and_l (ok_entry e) (all_of ok_entry es) k))

record ArgumentOk (k : Kind) (a : Argument) : Type 0 where
  again : argument_by k (write_argument a) ≡ some a
  dash : starts 45 (write_argument a) ≡ false
  is_word : word (write_argument a) ≡ true

number_back : (k : Kind) (s : List ℕ) → NumberOk s → argument_by k (bares s) ≡ some (numeral s) → ArgumentOk k (numeral s)
number_back k s o a = record { again = a; dash = written_dash s o.bytes_ok; is_word = bare_word s o.is_some o.bytes_ok }

place_back : (s : List ℕ) → is_nil s ≡ false → all_of printable s ≡ true → ArgumentOk Place (text s)
place_back s n e =
    let o = place_ok s n e in
    record { again = simp (o.is_one, o.means); dash = o.dash; is_word = word_in (write_place s) o.is_some o.is_good }

entries_back : (es : List Entry) → is_nil es ≡ false → all_of ok_entry es ≡ true → ArgumentOk Entries (items es)
entries_back es n e =
    record {
      again = simp (entries_again es n e);
      dash = entries_dash es e;
      is_word = word_in (between (bare 44) (map write_entry es)) (entries_some es n e) (entries_good es e);
    }

argument_ok : (k : Kind) (t : List Sign) (a : Argument) → argument_by k t ≡ some a → clean_text t ≡ true → ArgumentOk k a
argument_ok k t a h c =
    let some' = not-true (is_nil t) (and_l (not (is_nil t)) (all_of clean_sign t) c) in
    let clean = and_r (not (is_nil t)) (all_of clean_sign t) c in
    argument_from ArgumentOk t (λ e. number_back Keep (raws t) (keep_ok (raws t) e) (simp (raws_bares (raws t), e)))
    (λ e.
    let s = lowered (raws t) in
    number_back Level s (level_ok (raws t) e) (simp (raws_bares s, level_lowered (raws t) ∙ e, lowered_again (raws t)))) (λ e. place_back (stands t) (stands_some t some' e) (stands_clean t clean))
    (λ es e. let o = entries_ok t es e clean in entries_back es o.0 o.1) k a h

argument_back : (v : ℕ) (seen : List Bool) (count n : ℕ) (t : List Sign) (a : Argument) → argument_by (kind_of n) t ≡ some a → clean_text t ≡ true
    → Again (Waits n) v seen count (argument n a)
unfolding decide_argument
argument_back v seen count n t a h k = let o = argument_ok (kind_of n) t a h k in record { again = rw (o.dash, o.again); is_word = o.is_word }

-- ---- properties

property_dash : (p : Property) → ok_property p ≡ true → starts 45 (write_property p) ≡ false
unfolding ok_property write_property
property_dash p k = name_dash p.name (write_said p.said) (and_l (is_name p.name) (ok_said p.said) k)

record PropertyBack (help : Bool) (count : ℕ) (t : List Sign) (p : Property) : Type 0 where
  ok : ok_property p ≡ true
  again : decide_property help count (write_property p) ≡ takes (prop p)
  has : help ≡ false → has_eq t ≡ true → has_eq (write_property p) ≡ true

property_back : (help : Bool) (count : ℕ) (t : List Sign) (p : Property) → all_of clean_sign t ≡ true → count < 32 → cond help (topic_of t) (property_of t) ≡ some p
    → PropertyBack help count t p
unfolding decide_property
property_back true count t p k c h = let o = topic_again p t h in record { ok = o.1; again = rw (lt-leb 32 count c, o.0); has = λ f _. no_case f }
property_back false count t p k c h = let o = property_ok t p h k in record { ok = o.ok; again = rw (lt-leb 32 count c, property_again p o.ok); has = λ _ e. o.has e }

property_word : (p : Property) → ok_property p ≡ true → word (write_property p) ≡ true
property_word p k = word_in (write_property p) (property_some p k) (property_good p k)

rest_back : (v : ℕ) (seen : List Bool) (count : ℕ) (t : List Sign) (p : Property) → PropertyBack (is_help v) count t p → Again Rest v seen count (prop p)
rest_back v seen count t p b = record { again = rw (property_dash p b.ok) b.again; is_word = property_word p b.ok }

-- ---- the target, or the first property

target_back : (v : ℕ) (seen : List Bool) (count : ℕ) (s : List ℕ) (g : Target) → is_help v ≡ false → target_of s ≡ some g → Again Options v seen count (target g)
unfolding decide_target decide_after
target_back v seen count s g f h =
    let o = target_ok s g h in
    let w = write_target g in
    record {
      again = simp (f, written_dash w o.bytes_ok, written_eq w o.bytes_ok, raws_bares w, o.again);
      is_word = bare_word w o.is_some o.bytes_ok;
    }

first_back : (v : ℕ) (seen : List Bool) (count : ℕ) (t : List Sign) (p : Property) → (not (is_help v) && not (has_eq t)) ≡ false → PropertyBack (is_help v) count t p → Again Options v seen count (prop p)
unfolding decide_after
first_back v seen count t p n b = record { again = rw (property_dash p b.ok) (go (is_help v) n b); is_word = property_word p b.ok }
  where
    go : (help : Bool) → (not help && not (has_eq t)) ≡ false → PropertyBack help count t p
        → cond (not help && not (has_eq (write_property p))) (decide_target (write_property p)) (decide_property help count (write_property p)) ≡ takes (prop p)
    go true n b = b.again
    go false n b = rw (b.has refl (not-false (has_eq t) n)) b.again

-- ---- one term

again_in : (p : Phase) (v : ℕ) (seen : List Bool) (count : ℕ) (t : List Sign) (i : Item) → decide_in p v seen count t ≡ takes i → clean_text t ≡ true
    → Again p v seen count i
again_in p v seen count t i h k =
    let c = and_r (not (is_nil t)) (all_of clean_sign t) k in
    taken_case (λ ph j. Again ph v seen count j) v seen count t (λ n e. verb_back v seen count n (raws t) e) (λ n e a f. option_back v seen count n (drop 1 (raws t)) e a f)
    (λ n a d e. argument_back v seen count n t a e k) (λ g f n e. target_back v seen count (raws t) g f e)
    (λ q n m e. first_back v seen count t q n (property_back (is_help v) count t q c m e)) (λ q m e. rest_back v seen count t q (property_back (is_help v) count t q c m e)) p i h

pub one_term : (s : State) (t : List Sign) (i : Item) → decide s t ≡ takes i → clean_text t ≡ true → Back s i
unfolding decide
one_term s t i h k =
    let b = again_in s.phase s.verb s.seen s.count t i h k in
    record { again = b.again; is_word = b.is_word }

pub read_back : (line : List ℕ) (c : List Item) → command_of line ≡ some c → length (writing c) ≤ 1024 → command_of (writing c) ≡ some c
read_back = frame.read_back one_term
