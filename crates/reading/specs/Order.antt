-- Numbers a refused caller gets, rows 6 to 14 and 20: the condition of each row by itself, the order of the rows, and what a refused line is.
use Rattle.std.specs.Prelude.{ℕ, ◌+◌, ◌≡◌, List, [], ◌∷◌, ◌++◌, Bool, true, false, cond, not, ◌&&◌, ◌||◌, length, drop, get_or, eqb, leb, Ok, Err}
use Rattle.std.proofs.Math.Option.{Option, none, some}
use Rattle.terms.specs.Signs.{Sign, raws}
use Rattle.terms.specs.Terms.{Term, terms_of}
use Rattle.terms.specs.Rows.{lexical_of}
use Rattle.words.specs.Words.{verb_of, option_of, kind_of}
use Rattle.support.specs.Table15.{allowed}
use Rattle.forms.specs.Forms.{starts, has_eq, property_of, topic_of}
use Rattle.forms.specs.Targets.{target_of}
use Rattle.forms.specs.Answers.{is_some}
use Rattle.reach.specs.declared.Form.{Form}
use Rattle.reach.specs.Beginnings.{Longest}
use Rattle.reach.specs.Forms.{is_of}
use Rattle.reading.specs.declared.Phase.{Phase}
use Rattle.reading.specs.declared.Phase.TheVariants.{First, Options, Waits, Rest}
use Rattle.reading.specs.declared.State.{State}
use Rattle.reading.specs.Command.{Item, argument_by}
use Rattle.reading.specs.Reading.{begin, is_help, Decision, refuses, takes, decide, next, form_asked}
use Rattle.text.specs.Room.{refusal_at}

-- ---- the places of a command: the verb's; the options'; the place after an option that takes an argument; after the options' end

abbrev pub is_first : Phase → Bool
is_first First = true
is_first Options = false
is_first (Waits n) = false
is_first Rest = false

abbrev pub is_options : Phase → Bool
is_options First = false
is_options Options = true
is_options (Waits n) = false
is_options Rest = false

abbrev pub is_waits : Phase → Bool
is_waits First = false
is_waits Options = false
is_waits (Waits n) = true
is_waits Rest = false

abbrev pub is_rest : Phase → Bool
is_rest First = false
is_rest Options = false
is_rest (Waits n) = false
is_rest Rest = true

-- the option that waits for its argument
abbrev pub waiting : Phase → ℕ
waiting First = 0
waiting Options = 0
waiting (Waits n) = n
waiting Rest = 0

-- an option: where options may stand, a term that starts with a bare `-`
abbrev pub is_option_here : Phase → List Sign → Bool
is_option_here p t = is_options p && starts 45 t

-- the target: the next term, if it has no bare `=` and the verb isn't help
abbrev pub is_target_here : Phase → Bool → List Sign → Bool
is_target_here p help t = (is_options p && not (starts 45 t)) && (not help && not (has_eq t))

-- properties: all other terms
abbrev pub is_property_here : Phase → Bool → List Sign → Bool
is_property_here p help t = is_rest p || ((is_options p && not (starts 45 t)) && not (not help && not (has_eq t)))

-- was the option of this number given before?
abbrev pub is_seen : List Bool → Option ℕ → Bool
is_seen seen none = false
is_seen seen (some n) = get_or seen n false

-- is the option of this number one that the verb can't have?
abbrev pub is_excluded : ℕ → Option ℕ → Bool
is_excluded v none = false
is_excluded v (some n) = not (allowed v n)

-- ---- the rows, each by itself; p says what may come next, v is the verb's number

module _ (p : Phase) (v : ℕ) (seen : List Bool) (count : ℕ) (t : List Sign) where
  -- 6: no such verb
  abbrev pub row6 : Bool
  row6 = is_first p && not (is_some (verb_of (raws t)))

  -- 7: no such option
  abbrev pub row7 : Bool
  row7 = is_option_here p t && not (is_some (option_of (drop 1 (raws t))))

  -- 20: an option known, but not for this verb
  abbrev pub row20 : Bool
  row20 = is_option_here p t && is_excluded v (option_of (drop 1 (raws t)))

  -- 8: option already given, by either name
  abbrev pub row8 : Bool
  row8 = is_option_here p t && is_seen seen (option_of (drop 1 (raws t)))

  -- 9: the argument's term starts with a bare `-`
  abbrev pub row9 : Bool
  row9 = is_waits p && starts 45 t

  -- 10: argument not of its form
  abbrev pub row10 : Bool
  row10 = is_waits p && not (is_some (argument_by (kind_of (waiting p)) t))

  -- 11: bare `-` starts a term after the options' end
  abbrev pub row11 : Bool
  row11 = is_rest p && starts 45 t

  -- 12: target not of its form
  abbrev pub row12 : Bool
  row12 = is_target_here p (is_help v) t && not (is_some (target_of (raws t)))

  -- 13: property not of its form; with help, a topic
  abbrev pub row13 : Bool
  row13 = is_property_here p (is_help v) t && not (is_some (cond (is_help v) (topic_of t) (property_of t)))

  -- 14: over 32 properties
  abbrev pub row14 : Bool
  row14 = is_property_here p (is_help v) t && leb 32 count

-- does this row hold of a term?
abbrev pub holds_in : Phase → ℕ → List Bool → ℕ → List Sign → ℕ → Bool
holds_in p v seen count t k =
    cond (eqb k 6) (row6 p v seen count t)
    (cond (eqb k 7) (row7 p v seen count t)
    (cond (eqb k 20) (row20 p v seen count t)
    (cond (eqb k 8) (row8 p v seen count t)
    (cond (eqb k 9) (row9 p v seen count t)
    (cond (eqb k 10) (row10 p v seen count t)
    (cond (eqb k 11) (row11 p v seen count t)
    (cond (eqb k 12) (row12 p v seen count t)
    (cond (eqb k 13) (row13 p v seen count t)
    (cond (eqb k 14) (row14 p v seen count t) false)))))))))

unfoldable pub holds : State → List Sign → ℕ → Bool
holds s t k = holds_in s.phase s.verb s.seen s.count t k

-- ---- the order: by number, but 20 stands after 7 and before 8, and within one term 11 precedes 14, which precedes 13

unfoldable pub order : List ℕ
order = 6 ∷ 7 ∷ 20 ∷ 8 ∷ 9 ∷ 10 ∷ 11 ∷ 12 ∷ 14 ∷ 13 ∷ []

-- k is among these rows, its own row holds, and none of those before it does
unfoldable pub is_first_of : (ℕ → Bool) → List ℕ → ℕ → Bool
is_first_of f [] k = false
is_first_of f (j ∷ js) k = let more = is_first_of f js k in cond (eqb j k) (f j) (not (f j) && more)

-- ---- a refused line

-- the state after terms that are all taken, if they are
abbrev pub state_on : Decision → (Item → Option State) → Option State
state_on (refuses k) f = none
state_on (takes i) f = f i

unfoldable pub state_past : State → List Term → Option State
state_past s [] = some s
state_past s (t ∷ ts) = state_on (decide s t.text) (λ i. state_past (next s i) ts)

-- the place of a term that is refused: its start; where it is not of its form, the end of its longest beginning that is also a beginning of some acceptable text of
-- that form
pub record EndsIn (f : Form) (t : Term) (p : ℕ) : Type 0 where
  pub len : ℕ
  pub longest : Longest (is_of f) (raws t.text) len
  pub place : t.start + len ≡ p

abbrev pub Placed : Option Form → Term → ℕ → Type 0
Placed none t p = t.start ≡ p
Placed (some f) t p = EndsIn f t p

-- rows 1 to 5 give it; or none of them holds, all terms before one of them are taken, k is the first row that holds of that one, and p is its place; or all terms
-- are taken, an option still waits for its argument, and it is 9 at the line's length
pub data Refused (line : List ℕ) (k p : ℕ) : Type 0 where
  by_line : lexical_of line ≡ Err (refusal_at k p) → Refused line k p
  by_term : (before : List Term) (t : Term) (after : List Term) (s : State) → lexical_of line ≡ Ok tt → terms_of line ≡ before ++ (t ∷ after)
      → state_past begin before ≡ some s → Placed (form_asked s.phase s.verb k) t p → is_first_of (holds s t.text) order k ≡ true → Refused line k p
  by_end : (s : State) → lexical_of line ≡ Ok tt → state_past begin (terms_of line) ≡ some s → is_waits s.phase ≡ true → k ≡ 9 → p ≡ length line → Refused line k p
