-- A board's reply, line by line: lines `keyword=value`, groups opened by `begingroup=` and closed by `endgroup`, ended by `endoutput`.
use Rattle.std.specs.Prelude.{ℕ, zero, suc, ◌+◌, ◌-◌, List, [], ◌∷◌, Bool, true, false, cond, not, ◌&&◌, ◌||◌, length, take, drop, eqb}
use Rattle.std.proofs.Math.Option.{Option, none, some}
use Rattle.text.specs.Bytes.{bytes, same_bytes}
use Rattle.text.specs.Lists.{any_of, up_to, past, is_nil}
use Rattle.terms.specs.declared.Mode.{Mode}
use Rattle.terms.specs.declared.Mode.TheVariants.{Out, OutGrave, In, InGrave}
use Rattle.terms.specs.Signs.{after}
use Rattle.forms.specs.Forms.{is_name}
use Rattle.replies.specs.declared.Form.{Form}
use Rattle.replies.specs.declared.Form.TheVariants.{Nothing, Item, Group, Close, End, Wrong, Open}

-- does a text begin with a byte that passes the test?
abbrev pub begins : (ℕ → Bool) → List ℕ → Bool
begins f [] = false
begins f (b ∷ s) = f b

-- ---- ends of line: CR, LF or CR LF, without joining; the input's end serves as one

abbrev pub is_end : ℕ → Bool
is_end b = eqb b 13 || eqb b 10

abbrev pub line_ends : List ℕ → Bool
line_ends [] = true
line_ends (b ∷ s) = is_end b

-- how many bytes of an end of line a text begins with
abbrev pub end_len : List ℕ → ℕ
end_len [] = 0
end_len (b ∷ s) = cond (eqb b 13) (cond (begins (λ c. eqb c 10) s) 2 1) (cond (eqb b 10) 1 0)

-- ---- names

abbrev pub begin_word : List ℕ
begin_word = bytes "begingroup"

abbrev pub close_word : List ℕ
close_word = bytes "endgroup"

abbrev pub end_word : List ℕ
end_word = bytes "endoutput"

-- A keyword is a name; the three words are no item's keyword. A group's type is a name.
unfoldable pub is_keyword : List ℕ → Bool
is_keyword k = is_name k && not (same_bytes k begin_word || (same_bytes k close_word || same_bytes k end_word))

-- ---- a value: one that begins with `"` is quoted

abbrev pub is_equals : ℕ → Bool
is_equals b = eqb b 61

abbrev pub is_quote : ℕ → Bool
is_quote b = eqb b 34

abbrev pub is_out : Mode → Bool
is_out Out = true
is_out OutGrave = false
is_out In = false
is_out InGrave = false

abbrev pub more : ℕ → Option ℕ → Option ℕ
more n none = none
more n (some k) = some (n + k)

-- how many bytes of a quoted value follow its opening quote, up to and with the one that closes it: GRAVE stands before `"` and GRAVE as in a quoted string
-- of a command; none where it is never closed
unfoldable pub quote_len : Mode → List ℕ → Option ℕ
quote_len m [] = none
quote_len m (b ∷ s) = let rest = more 1 (quote_len (after m b) s) in cond (is_out (after m b)) (some 1) rest

-- ---- what a line is, by what stands from its start on: k bytes are its keyword, v follows the `=`

abbrev pub group_form : List ℕ → Form
group_form t = cond (is_name t) (Group (length t)) Wrong

-- after the closing quote only the end of line may follow
abbrev pub quoted_form : ℕ → List ℕ → Option ℕ → Form
quoted_form k v none = Open
quoted_form k v (some n) = cond (line_ends (drop (1 + n) v)) (Item k (1 + n)) Wrong

unfoldable pub item_form : ℕ → List ℕ → Form
item_form k v = cond (begins is_quote v) (quoted_form k v (quote_len In (drop 1 v))) (Item k (length (up_to is_end v)))

-- Empty lines and lines starting with `#` mean nothing. A line with `begingroup` before its first `=` opens a group, any other with a keyword there is an item.
unfoldable pub form_of : List ℕ → Form
form_of s =
    let row = up_to is_end s in
    let k = up_to is_equals row in
    cond (is_nil row || begins (λ b. eqb b 35) row) (Nothing (length row))
    (cond (same_bytes row end_word) End
    (cond (same_bytes row close_word) Close
    (cond (not (any_of is_equals row)) Wrong
    (cond (same_bytes k begin_word) (group_form (past is_equals row))
    (cond (is_keyword k) (item_form (length k) (past is_equals s)) Wrong)))))

-- ---- the lines of a text, each with its place and its text, which is without its end

-- how many bytes a line's text has; of a line of no such form and of an open quote none, for nothing is read after them
abbrev pub text_len : Form → ℕ
text_len (Nothing n) = n
text_len (Item k v) = k + 1 + v
text_len (Group n) = 11 + n
text_len Close = 8
text_len End = 9
text_len Wrong = 0
text_len Open = 0

unfoldable pub line_len : List ℕ → ℕ
line_len s = let n = text_len (form_of s) in n + end_len (drop n s)

pub record Line : Type 0 where
  pub place : ℕ
  pub text : List ℕ
  pub form : Form

abbrev pub line_at : ℕ → List ℕ → Line
line_at p s = record { place = p; text = take (text_len (form_of s)) s; form = form_of s }

-- What follows `endoutput` isn't read, nor what follows a line that is refused.
abbrev pub is_last : Form → Bool
is_last (Nothing n) = false
is_last (Item k v) = false
is_last (Group n) = false
is_last Close = false
is_last End = true
is_last Wrong = true
is_last Open = true

-- from place p on, where so many bytes still belong to the line before
unfoldable pub lines_from : ℕ → ℕ → List ℕ → List Line
lines_from skip p [] = []
lines_from (suc skip) p (b ∷ s) = lines_from skip (suc p) s
lines_from zero p (b ∷ s) =
    let rest = lines_from (line_len (b ∷ s) - 1) (suc p) s in
    line_at p (b ∷ s) ∷ cond (is_last (form_of (b ∷ s))) [] rest

unfoldable pub lines_of : List ℕ → List Line
lines_of s = lines_from 0 0 s
