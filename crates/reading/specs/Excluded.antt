-- Request b: of a command, that its verb has every option given; of a line, that it is refused for an option that its verb can't have, and what it would be
-- read as otherwise.
use Rattle.std.specs.Prelude.{ℕ, ◌≡◌, List, [], ◌∷◌, ◌++◌, Bool, true, false, cond, length, drop, get_or, eqb, Ok}
use Rattle.std.proofs.Math.Option.{Option, none, some}
use Rattle.text.specs.Lists.{all_of}
use Rattle.terms.specs.Signs.{Sign, raws}
use Rattle.terms.specs.Terms.{Term, terms_of}
use Rattle.terms.specs.Rows.{lexical_of}
use Rattle.words.specs.Words.{verb_of, option_of}
use Rattle.support.specs.Table15.{allowed}
use Rattle.reading.specs.declared.State.{State}
use Rattle.reading.specs.Command.{Item, verb, option, argument, target, prop}
use Rattle.reading.specs.Reading.{begin, Decision, refuses, takes, decide, next, Reading, refusal, read, adding, ended, part_of, place_of, going, unless}
use Rattle.reading.specs.Order.{is_option_here, state_past}

-- can this verb have this part? The table speaks of an option, and so of its argument; any other part it can have.
abbrev pub is_had_by : ℕ → Item → Bool
is_had_by v (verb n) = true
is_had_by v (option n) = allowed v n
is_had_by v (argument n a) = allowed v n
is_had_by v (target t) = true
is_had_by v (prop p) = true

-- the number of a command's verb, its first part
abbrev pub verb_number : Item → ℕ
verb_number (verb n) = n
verb_number (option n) = 0
verb_number (argument n a) = 0
verb_number (target t) = 0
verb_number (prop p) = 0

-- does a command's verb have every option that is given with it?
unfoldable pub options_had : List Item → Bool
options_had [] = true
options_had (i ∷ is) = all_of (is_had_by (verb_number i)) is

-- At p a term stands where options may stand, starts with a bare `-` and names an option that the verb, the line's first term, can't have; none of rows 1 to 5
-- holds, and every term before it is taken. What stands after it says nothing.
pub record Excluded (line : List ℕ) (p : ℕ) : Type 0 where
  pub first : Term
  pub between : List Term
  pub here : Term
  pub after : List Term
  pub state : State
  pub verb_no : ℕ
  pub option_no : ℕ
  pub fine : lexical_of line ≡ Ok tt
  pub terms : terms_of line ≡ (first ∷ between) ++ (here ∷ after)
  pub taken : state_past begin (first ∷ between) ≡ some state
  pub is_verb : verb_of (raws first.text) ≡ some verb_no
  pub is_option : is_option_here state.phase here.text ≡ true
  pub named : option_of (drop 1 (raws here.text)) ≡ some option_no
  pub excluded : allowed verb_no option_no ≡ false
  pub place : here.start ≡ p

-- ---- the reading of a line free of the table, as if every verb could have every option: rows 7 and 8 as they are, and no 20

abbrev pub option_free : List Bool → Option ℕ → Decision
option_free seen none = refuses 7
option_free seen (some n) = cond (get_or seen n false) (refuses 8) (takes (option n))

unfoldable pub decide_free : State → List Sign → Decision
decide_free s t = cond (is_option_here s.phase t) (option_free s.seen (option_of (drop 1 (raws t)))) (decide s t)

unfoldable pub walk_free : ℕ → State → List Term → Reading
walk_free n s [] = ended s.phase n
walk_free n s (t ∷ ts) = going (decide_free s t.text) (place_of s t) (λ i. adding (part_of t i) (walk_free n (next s i) ts))

unfoldable pub reading_free : List ℕ → Reading
reading_free line = let r = walk_free (length line) begin (terms_of line) in unless (lexical_of line) r

-- is a reading refusal 20?
abbrev pub is_twenty : Reading → Bool
is_twenty (refusal k p) = eqb k 20
is_twenty (read ps) = false
