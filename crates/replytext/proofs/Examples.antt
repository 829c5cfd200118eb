-- A record of each kind with its text; one that is cut, and one of a reading, have none. Assumes nothing.
use Prim.Native.Nat.{ℕ}
use mathlib.Core.Path.{◌≡◌, refl}
use mathlib.Core.List.{List, [], ◌∷◌, map}
use Rattle.text.specs.Bytes.{bytes}
use Rattle.text.specs.Decimal.{width, digits}
use Rattle.wording.specs.Words.{fields_text}
use Rattle.replytext.specs.Text.{reply_forms, reply_form, reply_text}

abbrev records : List (List ℕ)
records =
    (64 ∷ 0 ∷ 24 ∷ 0 ∷ 4 ∷ 1 ∷ 29 ∷ 255 ∷ 255 ∷ [])
    ∷ (65 ∷ 0 ∷ 20 ∷ 0 ∷ 3 ∷ [])
    ∷ (66 ∷ [])
    ∷ (67 ∷ 64 ∷ [])
    ∷ (64 ∷ 0 ∷ 24 ∷ 0 ∷ 4 ∷ 0 ∷ 29 ∷ 0 ∷ [])
    ∷ (7 ∷ [])
    ∷ []

pub texts : map reply_text records ≡ bytes "item 24 4 285 65535\n" ∷ bytes "group 20 3\n" ∷ bytes "endgroup\n" ∷ bytes "endoutput\n" ∷ [] ∷ [] ∷ []
unfolding bytes width digits fields_text reply_forms reply_form reply_text
texts = refl
