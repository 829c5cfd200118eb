-- Values as the code reads them, sign by sign in one pass. proofs/TextLaws has it that these are the forms of specs/Forms.
use Rattle.std.specs.Prelude.{ℕ, suc, List, [], ◌∷◌, Bool, true, false, cond, not, ◌&&◌, eqb, leb}
use Rattle.text.specs.Lists.{is_nil}
use Rattle.terms.specs.declared.Mode.{Mode}
use Rattle.terms.specs.declared.Mode.TheVariants.{Out, OutGrave, In, InGrave}
use Rattle.terms.specs.Signs.{Sign, bare, escaped, quote, quoted, quoted_escaped, is_bare, after, at_end}
use Rattle.forms.specs.declared.At.{At}
use Rattle.forms.specs.declared.At.TheVariants.{Start, Plain, Inside, Ended, Dead}
use Rattle.forms.specs.Forms.{is_plain_sign}

-- ---- a quoted string or plain: before it, in a plain one, in a quoted one, after its closing quote, in none

abbrev pub text_step : At → Sign → At
text_step Start (bare b) = cond (is_plain_sign (bare b)) Plain Dead
text_step Start (escaped b) = Plain
text_step Start quote = Inside
text_step Start (quoted b) = Dead
text_step Start (quoted_escaped b) = Dead
text_step Plain x = cond (is_plain_sign x) Plain Dead
text_step Inside (bare b) = Dead
text_step Inside (escaped b) = Dead
text_step Inside quote = Ended
text_step Inside (quoted b) = Inside
text_step Inside (quoted_escaped b) = Inside
text_step Ended x = Dead
text_step Dead x = Dead

abbrev pub whole : At → Bool
whole Start = false
whole Plain = true
whole Inside = false
whole Ended = true
whole Dead = false

-- some signs more; all of them; and the end of a text, where a GRAVE may wait
unfoldable pub text_over : At → List Sign → At
text_over q [] = q
text_over q (x ∷ xs) = text_over (text_step q x) xs

abbrev pub text_from : At → List Sign → Bool
text_from q t = whole (text_over q t)

unfoldable pub text_end : At → Mode → Bool
text_end q m = text_from q (at_end m)

-- ---- the rest of a list; k items came before this one

unfoldable pub list_from : At → ℕ → List Sign → Bool
list_from q k [] = false
list_from q k (x ∷ xs) =
    let comma = list_from Start (suc k) xs in
    let other = list_from (text_step q x) k xs in
    cond (is_bare 41 x) (whole q && (leb (suc k) 16 && is_nil xs)) (cond (is_bare 44 x) (whole q && comma) other)

-- ---- the items of display and output: how many bytes stand before a bare comma that stands in no list

abbrev pub is_comma : Mode → Bool → ℕ → Bool
is_comma Out l b = not l && eqb b 44
is_comma OutGrave l b = false
is_comma In l b = false
is_comma InGrave l b = false

-- whether a parenthesis is open after a byte
abbrev pub opened : Mode → Bool → ℕ → Bool
opened Out l b = cond (eqb b 40) true (cond (eqb b 41) false l)
opened OutGrave l b = l
opened In l b = l
opened InGrave l b = l

unfoldable pub entry_len : Mode → Bool → List ℕ → ℕ
entry_len m l [] = 0
entry_len m l (b ∷ s) = let more = suc (entry_len (after m b) (opened m l b) s) in cond (is_comma m l b) 0 more
